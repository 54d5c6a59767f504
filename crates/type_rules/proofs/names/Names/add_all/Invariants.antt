use Rattle.std.proofs.Common.{◌≡◌, ◌++◌, map, take}
use Rattle.type_rules.proofs.names.Names.add_all.Given as goal

abbrev pub invariant-loop-item : goal.invariant-loop-item
invariant-loop-item g l = l.self ≡ l.initial.self ++ map (λ x. (g.T.Named.named x).0) (take l.item-index l.items)
