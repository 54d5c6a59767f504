use Rattle.std.proofs.Common.{◌∙◌, map, sym}
use Rattle.type_modes.specs.Expressions.{look}
use Rattle.type_modes.specs.working.Seen.{seen_callee, seen_param}
use Rattle.type_modes.proofs.Moved.{moved_spot, seen_at}
use Rattle.type_modes.proofs.arguments.moved_at.Goals as goal

pub returns : goal.returns
returns c b =
    let params = (seen_callee c.args.callee).signature.params in
    let args = c.args.args.now in
    let arg = c.index-args-index.result in
    let given = seen_at (look b) args c.args.index arg c.requires c.index-args-index.is in
    c.spot_of.ensures b
    ∙ sym (moved_spot params (map (look b) args) c.args.index (seen_param c.in_ok-wanted.wanted) (look b arg) (sym c.in_ok-wanted.ensures) given (sym c.is_evaluates.ensures ∙ c.if-is_evaluates.false))
