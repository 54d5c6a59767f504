use Rattle.std.proofs.Common.{◌≡◌, ◌++◌, drop, map}
use Rattle.type_rules.specs.Breaches.{least_of}
use Rattle.type_rules.specs.Names.{repeated}
use Rattle.type_rules.specs.working.Placed.{names_of}
use Rattle.type_rules.proofs.names.Names.declare_all.Given as goal

abbrev pub invariant-loop-item : goal.invariant-loop-item
invariant-loop-item g l =
    (l.self ++ names_of (map g.T.Named.named (drop l.item-index l.items)) ≡ l.initial.self ++ names_of (map g.T.Named.named l.items))
    × (least_of l.least (repeated l.self (map g.T.Named.named (drop l.item-index l.items))) ≡ least_of l.initial.least (repeated l.initial.self (map g.T.Named.named l.items)))
