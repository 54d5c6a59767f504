use Rattle.std.proofs.Common.{◌≡◌, drop, map}
use Rattle.type_rules.specs.Breaches.{least_of}
use Rattle.type_rules.specs.Names.{repeated}
use Rattle.type_rules.proofs.names.Names.declare_parts.Given as goal

abbrev pub invariant-loop-part : goal.invariant-loop-part
invariant-loop-part l =
    least_of l.least (repeated l.self (map (λ n. (n, l.at)) (drop l.part-index l.parts))) ≡ least_of l.initial.least (repeated l.initial.self (map (λ n. (n, l.at)) l.parts))
