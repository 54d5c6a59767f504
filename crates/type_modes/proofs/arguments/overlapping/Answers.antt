use Rattle.std.proofs.Common.{◌∙◌, ◌+◌, ◌<◌, ◌≤◌, [], ◌++◌, length, map, ap, sym, arith}
use Rattle.std.proofs.lemmas.List.{length-map}
use Rattle.std.specs.List.{flat_map, zip}
use Rattle.std.specs.Option.{option_map}
use Rattle.res_ast.specs.declared.expression.Expr.{Expr}
use Rattle.type_rules.specs.Breaches.{least_of}
use Rattle.type_modes.specs.Calls.{moved, overlapping}
use Rattle.type_modes.specs.Expressions.{look}
use Rattle.type_modes.specs.working.Found.{overlap_at, params_of}
use Rattle.type_modes.specs.working.Seen.{seen_callee}
use Rattle.type_modes.proofs.Looks.{look_at}
use Rattle.type_modes.proofs.Moved.{one_noted, overlapping_ended, overlapping_from, overlapping_more, seen_at}
use Rattle.type_modes.proofs.arguments.overlapping.Goals as goal

pub loop-k-preserved : goal.loop-k-preserved
loop-k-preserved c b =
    let params = (seen_callee c.in-Some.called).signature.params in
    let looks = map (look b) c.args.args.now in
    let arg = c.index-args-k.result in
    let k = c.loop-k.k in
    let below : k < length c.args.args.now = omega (arith, c.loop-k-test.true) in
    let rest = overlapping_from params looks (k + 1) in
    let is =
    overlapping_more params looks k (look b arg) (seen_at (look b) c.args.args.now k arg below c.index-args-k.is)
    ∙ ap (λ n. overlap_at params looks k n ++ rest) (look_at b arg) in
    one_noted (least_of c.args.least.now (overlapping_from params looks 0)) c.loop-k.least c.overlap_at.new.least (overlapping_from params looks k) (overlap_at params looks k arg.at) rest
    (c.overlap_at.ensures b ∙ ap (λ (x : Expr). least_of c.loop-k.least (overlap_at params looks k x.at)) (sym c.index-args-k.is)) is (c.loop-k.invariant b)

pub returns : goal.returns
returns c b =
    let params = (seen_callee c.in-Some.called).signature.params in
    let looks = map (look b) c.args.args.now in
    let many = length-map c.args.args.now (look b) in
    let past : length looks ≤ c.loop-k.k = omega (arith, c.loop-k-test.false, many) in
    sym (ap (least_of c.loop-k.least) (overlapping_ended params looks c.loop-k.k past))
    ∙ c.loop-k.invariant b
    ∙ ap (λ o. least_of c.args.least.now (overlapping [] (flat_map moved (zip (params_of (option_map seen_callee o)) looks)))) (sym c.in-Some.is)
