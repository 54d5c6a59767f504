use Rattle.std.proofs.Common.{◌∙◌, ◌+◌, ◌≤◌, false, map, ap, sym, arith}
use Rattle.std.specs.Option.{option_map, option_map_or}
use Rattle.type_modes.specs.Expressions.{look}
use Rattle.type_modes.specs.Places.{overlap}
use Rattle.type_modes.specs.working.Seen.{seen_callee, seen_spot}
use Rattle.type_modes.proofs.Moved.{overlaps_by, still_apart}
use Rattle.type_modes.proofs.arguments.overlaps_earlier.Goals as goal
use Rattle.type_modes.proofs.arguments.overlaps_earlier.Goals.{in-Some+else-overlaps, in_default}

pub returns-then-overlaps : goal.returns-then-overlaps
returns-then-overlaps c b =
    let below : c.loop-k.k + 1 ≤ c.args.index = omega (arith, c.loop-k-test.true) in
    let is = sym (c.moved_at.ensures b) ∙ ap (option_map seen_spot) c.in-Some.is in
    sym (overlaps_by (seen_callee c.args.callee).signature.params (map (look b) c.args.args.now) c.loop-k.k c.args.index (seen_spot c.args.spot) (seen_spot c.in-Some.own)
    below is (sym c.overlaps.ensures ∙ c.if-overlaps.true))

pub loop-k-preserved : goal.loop-k-preserved
loop-k-preserved c b =
    let s = seen_spot c.args.spot in
    still_apart (seen_callee c.args.callee).signature.params (map (look b) c.args.args.now) c.loop-k.k s (c.loop-k.invariant b)
    (elim c.match-moved_at.branch [
      | in-Some+else-overlaps w ↦
          ap (λ o. option_map_or (overlap s) o false) (sym (c.moved_at.ensures b) ∙ ap (option_map seen_spot) w.in-Some.is)
          ∙ sym w.overlaps.ensures ∙ w.if-overlaps.false
      | in_default w ↦ ap (λ o. option_map_or (overlap s) o false) (sym (c.moved_at.ensures b) ∙ ap (option_map seen_spot) w.in_default.is)
    ])
