use Rattle.cell_rows.proofs.Flags.{row_used}
use Rattle.cell_rows.proofs.columns.use_found.Goals as goal

pub returns-in-Some : goal.returns-in-Some
returns-in-Some c = λ ts r before h s e.
    row_used c.args.cells.now.0 r c.in-Some.row c.args.row c.args.marks.now ts before c.use_row.new.used c.in-Some.is s (λ ps g. c.use_row.ensures ts ps before h g e)
