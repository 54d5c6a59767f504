use Rattle.std.proofs.Common.{◌∙◌, ap, map, Some}
use Rattle.main_form.specs.Places.{all_first, call_fits, earlier, look, stands}
use Rattle.main_form.proofs.Opened.{call_opened, tuple_opened}
use Rattle.main_form.proofs.expressions.+expression.Goals as goal

pub form_first-returns-in-Call : goal.form_first-returns-in-Call
form_first-returns-in-Call t c =
    let main = c.args.main.now in
    let at = c.args.at in
    let w = c.args.wanted in
    let facility = c.in-Call.facility in
    let name = c.in-Call.name in
    let args = c.in-Call.args in
    c.stands-in-Call.ensures
    ∙ ap (λ b. stands b at c.all_first-parts.result) c.call_fits.ensures
    ∙ ap (stands (call_fits facility name w) at) (c.all_first-parts.ensures ∙ ap (λ ps. all_first (map (look main) ps)) c.as_slice.ensures)
    ∙ call_opened main c.args.form.now facility name args at w c.in-Call.is

pub form_first-returns-in-Tuple : goal.form_first-returns-in-Tuple
form_first-returns-in-Tuple t c =
    let main = c.args.main.now in
    c.earlier-in-Tuple.ensures
    ∙ ap (earlier (Some c.args.at)) (c.all_first.ensures ∙ ap (λ ps. all_first (map (look main) ps)) c.as_slice-in-Tuple.ensures)
    ∙ tuple_opened main c.args.form.now c.in-Tuple.parts c.args.at c.args.wanted c.in-Tuple.is
