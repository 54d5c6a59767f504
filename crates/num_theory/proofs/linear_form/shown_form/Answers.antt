use Rattle.std.proofs.lemmas.Bool.{not-false}
use Rattle.num_theory.proofs.linear_form.shown_form.Goals as goal

pub in_text_order-requires : goal.in_text_order-requires
in_text_order-requires c = (c.requires (not-false c.args.form.is_narrow c.if-not-form.false)).0
