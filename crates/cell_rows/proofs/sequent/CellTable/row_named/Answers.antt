use Rattle.std.proofs.Common.{◌∙◌, sym, ap, subst, length, take}
use Rattle.math_terms.specs.Terms.{nodes}
use Rattle.num_theory.specs.Naming.{most_atoms, rows_at_hand}
use Rattle.term_cells.specs.KindShown.{sorts_of_vars}
use Rattle.term_cells.specs.Placed.{AllStand}
use Rattle.cell_rows.specs.working.Finding.{RowFound, row_by_name}
use Rattle.cell_rows.specs.RowsStand.{goal_row}
use Rattle.cell_rows.proofs.Named.{of_atom, of_goal, of_hyp, of_second}
use Rattle.cell_rows.proofs.Numbered.{atoms_taken, stands_found}
use Rattle.cell_rows.proofs.Tamed.{row_short, small_taken, tame_at_hand}
use Rattle.cell_rows.proofs.sequent.CellTable.row_named.Goals as goal

pub returns-in-Hyp-clause-row : goal.returns-in-Hyp-clause-row
returns-in-Hyp-clause-row c = λ hs g h.
    let vars = sorts_of_vars c.args.self.now.sequent.vars.now in
    subst (λ x. RowFound c.args.self.now.sequent.cells.now.0 x c.hypothesis_row.result c.hypothesis_row.new.sheet.marks.items)
    (sym (ap (row_by_name vars hs g) c.in-Hyp.is ∙ of_hyp vars hs g c.in-Hyp.k)) (c.hypothesis_row.ensures.row hs h.sequent_stands.hyps_stand)

pub returns-in-Second-clause-row : goal.returns-in-Second-clause-row
returns-in-Second-clause-row c = λ hs g h.
    let vars = sorts_of_vars c.args.self.now.sequent.vars.now in
    subst (λ x. RowFound c.args.self.now.sequent.cells.now.0 x c.hypothesis_row-in-Second.result c.hypothesis_row-in-Second.new.sheet.marks.items)
    (sym (ap (row_by_name vars hs g) c.in-Second.is ∙ of_second vars hs g c.in-Second.k)) (c.hypothesis_row-in-Second.ensures.row hs h.sequent_stands.hyps_stand)

pub returns-in-Atom-clause-row : goal.returns-in-Atom-clause-row
unfolding most_atoms
returns-in-Atom-clause-row c = λ hs g h.
    let vars = sorts_of_vars c.args.self.now.sequent.vars.now in
    let cells = c.args.self.now.sequent.cells.now.0 in
    let ts = (rows_at_hand vars hs g).atoms in
    let first = subst (AllStand cells (take most_atoms ts)) (sym c.among_first.ensures) (atoms_taken cells most_atoms ts c.args.self.now.atoms.now h.atoms_stand) in
    subst (λ x. RowFound cells x c.fact_numbered.result c.fact_numbered.new.sheet.marks.items)
    (sym (ap (row_by_name vars hs g) c.in-Atom.is ∙ of_atom vars hs g c.in-Atom.k)) (c.fact_numbered.ensures.row (take most_atoms ts) first)

pub returns-in-Goal-clause-row : goal.returns-in-Goal-clause-row
returns-in-Goal-clause-row c = λ hs g h.
    let vars = sorts_of_vars c.args.self.now.sequent.vars.now in
    subst (λ x. RowFound c.args.self.now.sequent.cells.now.0 x c.goal_row.result c.goal_row.new.sheet.marks.items)
    (sym (ap (row_by_name vars hs g) c.in-Goal.is ∙ of_goal vars hs g))
    (stands_found c.args.self.now.sequent.cells.now.0 (goal_row g) (nodes g) c.goal_row.result c.goal_row.new.sheet.marks.items (c.goal_row.ensures.row g h.sequent_stands.goal_stands))

pub returns-in-Hyp-clause-short : goal.returns-in-Hyp-clause-short
returns-in-Hyp-clause-short c = λ hs g most h small. c.hypothesis_row.ensures.short hs most h.sequent_stands.hyps_stand small.1

pub returns-in-Second-clause-short : goal.returns-in-Second-clause-short
returns-in-Second-clause-short c = λ hs g most h small. c.hypothesis_row-in-Second.ensures.short hs most h.sequent_stands.hyps_stand small.1

pub returns-in-Atom-clause-short : goal.returns-in-Atom-clause-short
unfolding most_atoms
returns-in-Atom-clause-short c = λ hs g most h small.
    let vars = sorts_of_vars c.args.self.now.sequent.vars.now in
    let cells = c.args.self.now.sequent.cells.now.0 in
    let ts = (rows_at_hand vars hs g).atoms in
    let first = subst (AllStand cells (take most_atoms ts)) (sym c.among_first.ensures) (atoms_taken cells most_atoms ts c.args.self.now.atoms.now h.atoms_stand) in
    c.fact_numbered.ensures.short (take most_atoms ts) most first (small_taken most most_atoms ts (tame_at_hand most vars hs g small).small)

pub returns-in-Goal-clause-short : goal.returns-in-Goal-clause-short
returns-in-Goal-clause-short c = λ hs g most h small.
    row_short c.args.self.now.sequent.cells.now.0 (goal_row g) (nodes g) most c.goal_row.result c.goal_row.new.sheet.marks.items (length c.args.sheet.now.marks.items) c.goal_row.ensures.room.1 small.0 (c.goal_row.ensures.row g h.sequent_stands.goal_stands)
