use Rattle.std.proofs.Common.{sym}
use Rattle.num_theory.specs.Linear.{text_before}
use Rattle.num_theory.proofs.Placing.{position-None_place}
use Rattle.num_theory.proofs.linear_form.place_of.Goals as goal

pub returns-in-None : goal.returns-in-None
returns-in-None c = position-None_place (text_before c.args.text.now) c.args.texts.now (sym c.in-None.ensures)
