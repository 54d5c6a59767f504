use Rattle.std.proofs.Common.{◌∙◌, ◌+◌, ◌<◌, drop, length, map, slice_get, ap, sym, arith}
use Rattle.std.proofs.lemmas.List.{length-map}
use Rattle.std.specs.Option.{option_map}
use Rattle.type_rules.specs.Breaches.{least_of}
use Rattle.type_modes.specs.Calls.{call, each}
use Rattle.type_modes.specs.Expressions.{look}
use Rattle.type_modes.specs.working.Found.{argument_of, each_at, params_of}
use Rattle.type_modes.specs.working.Seen.{seen_body, seen_callee}
use Rattle.type_modes.proofs.Looks.{call_noted}
use Rattle.type_modes.proofs.Moved.{each_more, least_of_append, one_noted, seen_at}
use Rattle.type_modes.proofs.body.Body.+expression.Goals as goal

pub look_each-loop-k-preserved : goal.look_each-loop-k-preserved
look_each-loop-k-preserved t c =
    let b = seen_body c.args.self.now in
    let params = params_of (option_map seen_callee c.args.callee) in
    let args = c.args.args.now in
    let looks = map (look b) args in
    let k = c.loop-k.k in
    let arg = c.index-args-k.result in
    let seen = look b arg in
    let own = argument_of b (slice_get params k) seen in
    let below : k < length args = omega (arith, c.loop-k-test.true) in
    let noted = c.argument_at.ensures ∙ ap (λ o. least_of o own) c.look-origin.ensures.noted ∙ sym (least_of_append c.loop-k.least seen.breaches own) in
    one_noted (least_of c.args.least.now (each b params looks)) c.loop-k.least c.argument_at.new.least
    (each b (drop k params) (drop k looks)) (each_at b (slice_get params k) seen) (each b (drop (k + 1) params) (drop (k + 1) looks))
    noted (each_more b params looks k seen (seen_at (look b) args k arg below c.index-args-k.is)) c.loop-k.invariant

pub look_call-returns-in-Some-clause-noted : goal.look_call-returns-in-Some-clause-noted
look_call-returns-in-Some-clause-noted t c =
    let b = seen_body c.args.self.now in
    let args = c.args.args.now in
    let looks = map (look b) args in
    let operation = option_map seen_callee c.called-callee.result in
    call_noted b c.args.wants_value (seen_callee c.in-Some.callee) operation looks c.args.at c.fits-fits.result
    c.args.least.now c.look_each.new.least c.overlapping.new.least c.note_if.new.self c.note_if-in-Some.new.self
    (ap (option_map seen_callee) c.in-Some.is) (c.fits-fits.ensures looks (length-map args (look b))) c.look_each.ensures (c.overlapping.ensures b) c.note_if.ensures c.note_if-in-Some.ensures
    ∙ ap (λ o. least_of c.args.least.now (call b c.args.wants_value o looks c.args.at)) c.called-callee.ensures
