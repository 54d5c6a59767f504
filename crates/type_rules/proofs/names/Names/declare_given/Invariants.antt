use Rattle.std.proofs.Common.{◌≡◌, ◌++◌, drop}
use Rattle.type_rules.specs.Breaches.{least_of}
use Rattle.type_rules.specs.Names.{repeated}
use Rattle.type_rules.specs.working.Placed.{names_of, placed}
use Rattle.type_rules.proofs.names.Names.declare_given.Given as goal

abbrev pub invariant-loop-heading : goal.invariant-loop-heading
invariant-loop-heading l =
    (l.self ++ names_of (placed l.at (drop l.heading-index l.headings)) ≡ l.initial.self ++ names_of (placed l.at l.headings))
    × (least_of l.least (repeated l.self (placed l.at (drop l.heading-index l.headings))) ≡ least_of l.initial.least (repeated l.initial.self (placed l.at l.headings)))
