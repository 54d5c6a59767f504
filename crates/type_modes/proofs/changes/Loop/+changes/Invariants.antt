use Rattle.std.proofs.Common.{◌≡◌, drop, map}
use Rattle.std.specs.List.{flat_map}
use Rattle.std.specs.Option.{option_map}
use Rattle.type_modes.specs.Calls.{Look, changes}
use Rattle.type_modes.specs.Expressions.{look}
use Rattle.type_modes.specs.working.Found.{noted, params_of}
use Rattle.type_modes.specs.working.Seen.{seen_body, seen_callee, seen_loop}
use Rattle.type_modes.proofs.changes.Loop.+changes.Given as goal

abbrev pub invariant-note_each-loop-k : goal.invariant-note_each-loop-k
invariant-note_each-loop-k l =
    let own = seen_loop l.self in
    let see = look (seen_body l.self.body) in
    let params = params_of (option_map seen_callee l.callee) in
    noted own l.least (changes own.body (drop l.k params) (map see (drop l.k l.args))) ≡ noted own l.initial.least (changes own.body params (map see l.args))

abbrev pub invariant-note_exprs-loop-part : goal.invariant-note_exprs-loop-part
invariant-note_exprs-loop-part l =
    let own = seen_loop l.self in
    let see = look (seen_body l.self.body) in
    let rule = λ (a : Look). a.changes in
    noted own l.least (flat_map rule (map see (drop l.part-index l.parts))) ≡ noted own l.initial.least (flat_map rule (map see l.parts))
