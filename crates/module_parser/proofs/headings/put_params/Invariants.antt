use Rattle.std.proofs.Common.{◌≡◌, ◌++◌, length}
use Rattle.module_parser.specs.Headings.{params_of}
use Rattle.module_parser.proofs.headings.put_params.Given as goal

abbrev pub invariant-loop-at : goal.invariant-loop-at
invariant-loop-at l = l.out ++ params_of l.mode l.ptype l.left ≡ l.initial.out ++ params_of l.mode l.ptype l.fn.words

abbrev pub decreases-loop-at : goal.decreases-loop-at
decreases-loop-at l = length l.left
