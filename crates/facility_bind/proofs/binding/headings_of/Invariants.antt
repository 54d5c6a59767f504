use Rattle.std.proofs.Common.{◌≡◌, ◌++◌, map, drop}
use Rattle.std.specs.List.{flat_map}
use Rattle.facility_bind.specs.Bounds.{enhanced, heading, headings}
use Rattle.facility_bind.proofs.binding.headings_of.Given as goal

abbrev pub invariant-loop-pair : goal.invariant-loop-pair
invariant-loop-pair l =
    map (heading l.binding.scope.now l.binding.inner.now l.binding.family.now) (headings l.table l.concept l.declaration)
    ≡ l.out ++ map (heading l.binding.scope.now l.binding.inner.now l.binding.family.now) (flat_map (enhanced l.table) (drop l.pair-index l.declaration.enhanced))
