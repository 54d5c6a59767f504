use Rattle.std.proofs.Common.{◌≡◌, drop}
use Rattle.std.specs.List.{flat_map}
use Rattle.type_rules.specs.Concepts.{enhancement_headings}
use Rattle.type_modes.specs.working.Found.{given_heading, heading_named}
use Rattle.type_modes.proofs.callee.given_heading.Given as goal

abbrev pub invariant-loop-enhancement : goal.invariant-loop-enhancement
invariant-loop-enhancement l =
    given_heading l.table l.declaration l.concept l.name ≡ heading_named (flat_map (λ p. enhancement_headings l.table p.0) (drop l.enhancement-index l.enhancement-items)) l.name
