use Rattle.std.proofs.Common.{◌≡◌, ◌++◌, drop, map}
use Rattle.type_inst.specs.Descriptors.{among, desc_with, given_types}
use Rattle.type_inst.proofs.family.given_descs.Given as goal

abbrev pub invariant-loop-formal : goal.invariant-loop-formal
invariant-loop-formal l =
    map (desc_with (among l.families l.known)) (given_types l.formals) ≡ l.out ++ map (desc_with (among l.families l.known)) (given_types (drop l.formal-index l.formals))
