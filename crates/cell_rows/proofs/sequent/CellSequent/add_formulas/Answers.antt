use Rattle.std.proofs.Common.{◌∙◌, ◌+◌, sym, subst, refl, None, [], length, take, arith}
use Rattle.std.proofs.lemmas.List.{take_all}
use Rattle.num_theory.specs.Table.{atoms_of, sums_from}
use Rattle.term_cells.specs.KindShown.{sorts_of_vars}
use Rattle.term_cells.specs.Placed.{AllStand}
use Rattle.cell_rows.proofs.Crowded.{tame_none}
use Rattle.cell_rows.proofs.Gathered.{atom_at}
use Rattle.cell_rows.proofs.Looking.{sums_more}
use Rattle.cell_rows.proofs.Places.{atoms_counted}
use Rattle.cell_rows.proofs.Tamed.{as_short, small_at, small_taken, tame_formulas}
use Rattle.cell_rows.proofs.sequent.CellSequent.add_formulas.Goals as goal

pub loop-p-init : goal.loop-p-init
loop-p-init c = record { room = (refl, refl); within = omega arith; added = λ hs h. tt }

pub loop-p-preserved : goal.loop-p-preserved
loop-p-preserved c =
    let cells = c.args.self.now.cells.now.0 in
    let vars = sorts_of_vars c.args.self.now.vars.now in
    let hyps = c.args.self.now.hyps.now in
    let i = c.loop-p.p-index in
    let inv = c.loop-p.invariant in
    record {
      room = (c.in_ok-count.ensures.room.0 ∙ inv.room.0, c.in_ok-count.ensures.room.1 ∙ inv.room.1);
      within = c.in_ok-count.ensures.within;
      added = λ hs h.
          let a = atom_at cells hs hyps i 0 h (omega arith) in
          let k = 1 + length (take i hs) in
          subst (λ ts. AllStand cells ts (take c.in_ok-count.count c.add_formula.new.places)) (sym (sums_more vars hs i a.0 a.1))
          (c.in_ok-count.ensures.added k a.0 (atoms_of [] (sums_from vars 1 (take i hs))) a.2 (inv.added hs h));
    }

pub returns-in_err-count-clause-short : goal.returns-in_err-count-clause-short
returns-in_err-count-clause-short c = λ hs size h small room.
    let cells = c.args.self.now.cells.now.0 in
    let vars = sorts_of_vars c.args.self.now.vars.now in
    let i = c.loop-p.p-index in
    let a = atom_at cells hs c.args.self.now.hyps.now i 0 h (omega arith) in
    let tame = tame_formulas size vars 1 (take i hs) [] (small_taken size i hs small) (tame_none size) in
    rw c.from_residual.ensures
    (as_short None (length c.loop-p.sheet.marks.items) (length c.args.sheet.now.marks.items) size c.loop-p.invariant.room.1
    (c.in_err-count.ensures.short a.0 (atoms_of [] (sums_from vars 1 (take i hs))) size a.2 (c.loop-p.invariant.added hs h) tame (small_at size hs i a.0 small a.1) (omega arith)))

pub returns-clause-added : goal.returns-clause-added
returns-clause-added c = λ hs h.
    let cells = c.args.self.now.cells.now.0 in
    let vars = sorts_of_vars c.args.self.now.vars.now in
    let all = take_all c.loop-p.p-index hs (omega (arith, atoms_counted cells hs c.args.self.now.hyps.now h)) in
    subst (λ fs. AllStand cells (atoms_of [] (sums_from vars 1 fs)) (take c.loop-p.count c.loop-p.places)) all (c.loop-p.invariant.added hs h)
