use Rattle.std.proofs.Common.{◌≡◌, drop, map}
use Rattle.type_rules.specs.Names.{is_among}
use Rattle.type_rules.proofs.names.Names.has.Given as goal

abbrev pub invariant-loop-own : goal.invariant-loop-own
invariant-loop-own l = is_among l.name l.self ≡ is_among l.name (map (λ n. n.now) (drop l.own-index l.own-items))
