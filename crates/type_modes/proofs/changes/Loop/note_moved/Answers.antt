use Rattle.std.proofs.Common.{◌≡◌, ◌∙◌, ap, sym, true, Some, None}
use Rattle.std.specs.Option.{option_map}
use Rattle.type_modes.specs.Calls.{is_changing}
use Rattle.type_modes.specs.Expressions.{look}
use Rattle.type_modes.specs.working.Seen.{seen_loop, seen_param, seen_spot}
use Rattle.type_modes.proofs.Noting.{moved_noted, moved_nowhere}
use Rattle.type_modes.proofs.changes.Loop.note_moved.Goals as goal

pub returns-in-Some-spot_of : goal.returns-in-Some-spot_of
returns-in-Some-spot_of c =
    let l = seen_loop c.args.self.now in
    let changing : is_changing c.in-Some.wanted.mode ≡ true = sym c.is_changing.ensures ∙ c.if-not-is_changing.false in
    let place : (look l.body c.args.arg.now).spot ≡ Some (seen_spot c.in-Some-spot_of.spot) = sym (c.spot_of.ensures l.body) ∙ ap (option_map seen_spot) c.in-Some-spot_of.is in
    moved_noted l c.args.least.now c.note_changed.new.least (option_map seen_param c.args.wanted) (seen_param c.in-Some.wanted) (look l.body c.args.arg.now) (seen_spot c.in-Some-spot_of.spot)
    (ap (option_map seen_param) c.in-Some.is) changing place c.note_changed.ensures

pub returns-in_default-spot_of : goal.returns-in_default-spot_of
returns-in_default-spot_of c =
    let l = seen_loop c.args.self.now in
    let place : (look l.body c.args.arg.now).spot ≡ None = sym (c.spot_of.ensures l.body) ∙ ap (option_map seen_spot) c.in_default-spot_of.is in
    moved_nowhere l c.args.least.now (option_map seen_param c.args.wanted) (look l.body c.args.arg.now) place
