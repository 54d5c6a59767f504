use Rattle.std.proofs.Common.{List, Some, ℕ}
use Rattle.ll_grammar.specs.Predictive.{cost}
use Rattle.ll_grammar.specs.Reader.{Stands, table_of}
use Rattle.ll_grammar.proofs.reader.settle.Given as goal

abbrev pub invariant-loop-symbol : goal.invariant-loop-symbol
invariant-loop-symbol v l =
    (done : List ℕ) → Stands l.grammar v.certificate done l.initial.moves.items l.initial.stack (Some l.class) → Stands l.grammar v.certificate done l.moves.items l.stack (Some l.class)

abbrev pub decreases-loop-symbol : goal.decreases-loop-symbol
decreases-loop-symbol v l = cost (table_of l.grammar v.certificate) l.stack

abbrev pub ghost-expand : goal.ghost-expand
ghost-expand v a = v.certificate
