use Rattle.std.proofs.Common.{◌≡◌, drop, map}
use Rattle.std.specs.Option.{option_map}
use Rattle.type_rules.specs.Breaches.{least_of}
use Rattle.type_modes.specs.Calls.{each}
use Rattle.type_modes.specs.Expressions.{look}
use Rattle.type_modes.specs.working.Found.{params_of}
use Rattle.type_modes.specs.working.Seen.{seen_body, seen_callee}
use Rattle.type_modes.proofs.Looks.{breaches_of}
use Rattle.type_modes.proofs.body.Body.+expression.Given as goal

abbrev pub invariant-look_all-loop-part : goal.invariant-look_all-loop-part
invariant-look_all-loop-part l =
    let seen = look (seen_body l.self) in
    least_of l.least (breaches_of (map seen (drop l.part-index l.parts))) ≡ least_of l.initial.least (breaches_of (map seen l.parts))

abbrev pub invariant-look_each-loop-k : goal.invariant-look_each-loop-k
invariant-look_each-loop-k l =
    let b = seen_body l.self in
    let params = params_of (option_map seen_callee l.callee) in
    let looks = map (look b) l.args in
    least_of l.least (each b (drop l.k params) (drop l.k looks)) ≡ least_of l.initial.least (each b params looks)
