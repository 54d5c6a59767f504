use Rattle.std.proofs.Common.{◌≡◌, map}
use Rattle.res_printer.specs.Statements.{block, statement}
use Rattle.res_printer.proofs.statement.+write.Given as goal

abbrev pub invariant-write_statements-loop-statement : goal.invariant-write_statements-loop-statement
invariant-write_statements-loop-statement l =
    block (map statement l.list) l.initial.out ≡ block (map statement l.statement-iterator.iter.rest.now) l.out
