use Rattle.std.proofs.Common.{sym, SFits, w64, rules}
use Rattle.std.proofs.lemmas.Bool.{eqb-true}
use Rattle.std.proofs.lemmas.Int.{to_z-of_z}
use Rattle.term_cells.proofs.Openings.{not_there}
use Rattle.cell_rows.proofs.Quotients.{literal_is, number_is}
use Rattle.cell_rows.proofs.fact.literal.Goals as goal

pub returns-in_default : goal.returns-in_default
returns-in_default c = λ t h. absurd (not_there c.args.cells.now.0 t c.args.p (sym c.in_default.ensures) h)

pub returns-then-is : goal.returns-then-is
returns-then-is c = λ t h.
    let fits : SFits w64 c.in-Some.cell.own = search rules in
    simp to_z-of_z (sym (number_is c.args.cells.now.0 t c.args.p c.in-Some.cell (sym c.in-Some.ensures) h (eqb-true c.in-Some.cell.form 0 (sym c.if-is.ensures))))

pub returns-else-is : goal.returns-else-is
returns-else-is c = λ t h. sym (literal_is c.args.cells.now.0 t c.args.p c.in-Some.cell (sym c.in-Some.ensures) h (sym c.if-is.ensures))
