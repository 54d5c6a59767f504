use Rattle.std.proofs.Common.{refl}
use Rattle.cell_rows.proofs.Marks.{made_stands}
use Rattle.cell_rows.proofs.forms.made.Goals as goal

pub returns-clause-made : goal.returns-clause-made
returns-clause-made c = λ cells ps most h few.
    made_stands cells c.args.parts ps c.args.constant most (record { count = c.args.count; constant = c.args.constant; is_narrow = c.all_narrow-is_narrow.result }) c.args.marks.now h few refl c.all_narrow-is_narrow.ensures
