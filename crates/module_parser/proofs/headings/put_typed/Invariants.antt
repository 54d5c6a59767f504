use Rattle.std.proofs.Common.{◌≡◌, ◌++◌, length}
use Rattle.module_parser.specs.Headings.{typed}
use Rattle.module_parser.proofs.headings.put_typed.Given as goal

abbrev pub invariant-loop-name : goal.invariant-loop-name
invariant-loop-name l = l.out ++ typed l.ptype l.left ≡ l.initial.out ++ typed l.ptype l.fn.words

abbrev pub decreases-loop-name : goal.decreases-loop-name
decreases-loop-name l = length l.left
