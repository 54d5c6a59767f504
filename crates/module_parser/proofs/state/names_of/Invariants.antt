use Rattle.std.proofs.Common.{◌≡◌, ◌++◌, map, length}
use Rattle.module_parser.proofs.state.names_of.Given as goal

abbrev pub invariant-loop-word : goal.invariant-loop-word
invariant-loop-word l = l.out ++ map (λ w. w.name) l.left ≡ map (λ w. w.name) l.fn.words

abbrev pub decreases-loop-word : goal.decreases-loop-word
decreases-loop-word l = length l.left
