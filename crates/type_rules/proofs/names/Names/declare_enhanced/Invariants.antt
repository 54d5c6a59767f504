use Rattle.std.proofs.Common.{◌≡◌, drop}
use Rattle.std.specs.List.{flat_map}
use Rattle.type_rules.specs.Breaches.{least_of}
use Rattle.type_rules.specs.Concepts.{enhancement_headings}
use Rattle.type_rules.specs.Names.{repeated}
use Rattle.type_rules.specs.working.Placed.{placed}
use Rattle.type_rules.proofs.names.Names.declare_enhanced.Given as goal

abbrev pub invariant-loop-enhancement : goal.invariant-loop-enhancement
invariant-loop-enhancement l =
    least_of l.least (repeated l.self (placed l.at (flat_map (λ p. enhancement_headings l.table p.0) (drop l.enhancement-index l.pairs))))
    ≡ least_of l.initial.least (repeated l.initial.self (placed l.at (flat_map (λ p. enhancement_headings l.table p.0) l.pairs)))
