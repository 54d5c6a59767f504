use Rattle.std.proofs.Common.{◌≡◌, map}
use Rattle.res_printer.specs.Expressions.{listed, written}
use Rattle.res_printer.specs.Pieces.{comma}
use Rattle.res_printer.specs.working.Joined.{joined}
use Rattle.res_printer.proofs.expression.+write.Given as goal

abbrev pub invariant-write_list-loop-e : goal.invariant-write_list-loop-e
invariant-write_list-loop-e l =
    listed (map written l.args) l.initial.out ≡ joined l.later comma (λ e. e.text) (map written l.e-iterator.iter.rest.now) l.out
