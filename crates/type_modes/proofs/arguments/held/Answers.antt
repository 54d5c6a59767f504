use Rattle.std.proofs.Common.{◌∙◌, ap, sym}
use Rattle.std.specs.Option.{option_map}
use Rattle.type_modes.specs.Expressions.{look}
use Rattle.type_modes.specs.working.Seen.{seen_body, seen_holder, seen_spot}
use Rattle.type_modes.proofs.Moved.{held_none, held_some}
use Rattle.type_modes.proofs.arguments.held.Goals as goal

pub returns-in_err-spot_of : goal.returns-in_err-spot_of
returns-in_err-spot_of c =
    let b = seen_body c.args.body.now in
    ap (option_map seen_holder) c.from_residual.ensures ∙ sym (held_none b (look b c.args.arg.now) (sym (c.in_err-spot_of.ensures b)))

pub returns : goal.returns
returns c =
    let b = seen_body c.args.body.now in
    c.at.ensures ∙ sym (held_some b (look b c.args.arg.now) (seen_spot c.in_ok-spot_of.field-0) (sym (c.in_ok-spot_of.ensures b)))
