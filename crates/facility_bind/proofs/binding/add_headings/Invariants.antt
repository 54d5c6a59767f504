use Rattle.std.proofs.Common.{◌≡◌, ◌++◌, map, take}
use Rattle.facility_bind.specs.Bounds.{heading}
use Rattle.facility_bind.proofs.binding.add_headings.Given as goal

abbrev pub invariant-loop-heading : goal.invariant-loop-heading
invariant-loop-heading l = l.out ≡ l.initial.out ++ map (heading l.binding.scope.now l.binding.inner.now l.binding.family.now) (take l.heading-index l.headings)
