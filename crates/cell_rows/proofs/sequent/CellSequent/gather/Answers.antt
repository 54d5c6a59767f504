use Rattle.std.proofs.Common.{◌∙◌, sym, subst, None, [], length, take, arith}
use Rattle.num_theory.specs.Naming.{most_atoms}
use Rattle.num_theory.specs.Table.{Gathered, atoms_of, sums_from}
use Rattle.term_cells.specs.KindShown.{sorts_of_vars}
use Rattle.term_cells.specs.Placed.{AllStand}
use Rattle.cell_rows.specs.working.Atoms.{AtomsFound, with_row}
use Rattle.cell_rows.specs.RowsStand.{goal_row}
use Rattle.cell_rows.proofs.Crowded.{tame_none}
use Rattle.cell_rows.proofs.Gathered.{at_hand}
use Rattle.cell_rows.proofs.Tamed.{as_short, tame_formulas, tame_goal}
use Rattle.cell_rows.proofs.sequent.CellSequent.gather.Goals as goal

pub returns-clause-atoms : goal.returns-clause-atoms
unfolding most_atoms
returns-clause-atoms c = λ hs g h.
    let cells = c.args.self.now.cells.now.0 in
    let vars = sorts_of_vars c.args.self.now.vars.now in
    let b = at_hand vars hs g in
    let first = c.in_ok-count.ensures.added hs h.hyps_stand in
    let second = c.in_ok-count-2.ensures.added g (atoms_of [] (sums_from vars 1 hs)) h.goal_stands first in
    let all = c.add_facts_from.ensures.added b.0 (subst (λ x. AllStand cells x (take c.in_ok-count-2.count c.add_goal.new.places)) (sym b.1) second) in
    subst (λ (x : Gathered). AtomsFound cells x.atoms c.add_facts_from.result c.add_facts_from.new.places) (sym b.2) all

pub returns-in_err-count-clause-short : goal.returns-in_err-count-clause-short
returns-in_err-count-clause-short c = λ hs g most h small room.
    rw c.from_residual.ensures (c.in_err-count.ensures.short hs most h.hyps_stand small.1 room)

pub returns-in_err-count-2-clause-short : goal.returns-in_err-count-2-clause-short
returns-in_err-count-2-clause-short c = λ hs g most h small room.
    let vars = sorts_of_vars c.args.self.now.vars.now in
    let tame = tame_formulas most vars 1 hs [] small.1 (tame_none most) in
    let first = c.in_ok-count.ensures.added hs h.hyps_stand in
    rw c.from_residual-in_err-count-2.ensures
    (as_short None (length c.add_formulas.new.sheet.marks.items) (length c.args.sheet.now.marks.items) most c.in_ok-count.ensures.room.1
    (c.in_err-count-2.ensures.short g (atoms_of [] (sums_from vars 1 hs)) most h.goal_stands first tame small.0 (omega arith)))

pub returns-clause-short : goal.returns-clause-short
returns-clause-short c = λ hs g most h small room.
    let vars = sorts_of_vars c.args.self.now.vars.now in
    let formulas = atoms_of [] (sums_from vars 1 hs) in
    let tame = tame_formulas most vars 1 hs [] small.1 (tame_none most) in
    let first = c.in_ok-count.ensures.added hs h.hyps_stand in
    let second = c.in_ok-count-2.ensures.added g formulas h.goal_stands first in
    as_short c.add_facts_from.result (length c.add_goal.new.sheet.marks.items) (length c.args.sheet.now.marks.items) most (c.in_ok-count-2.ensures.room.1 ∙ c.in_ok-count.ensures.room.1)
    (c.add_facts_from.ensures.short (with_row formulas (goal_row g)) most second (tame_goal most formulas g small.0 tame) (omega arith))
