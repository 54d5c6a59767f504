use Rattle.std.proofs.Common.{◌∙◌, ◌+◌, ◌-◌, ◌<◌, ◌≤◌, sym, ap, refl, subst, None, length, drop, slice_get, arith}
use Rattle.std.specs.List.{flat_map}
use Rattle.std.proofs.lemmas.List.{drop_all}
use Rattle.math_terms.specs.Terms.{nodes}
use Rattle.num_theory.specs.Table.{facts_of}
use Rattle.cell_rows.specs.working.Finding.{RowFound, numbered, row_of_some}
use Rattle.cell_rows.specs.RowsStand.{RowStands, fact_row}
use Rattle.cell_rows.proofs.Gathered.{atom_at}
use Rattle.cell_rows.proofs.Looking.{next_at, numbered_before}
use Rattle.cell_rows.proofs.Numbered.{got_first, got_second, is_got, stands_found}
use Rattle.cell_rows.proofs.Places.{atoms_counted}
use Rattle.cell_rows.proofs.Tamed.{row_short, small_at}
use Rattle.cell_rows.proofs.naming.fact_numbered.Goals as goal

pub loop-atom-init : goal.loop-atom-init
loop-atom-init c = record { room = (refl, refl); left = λ ts h. refl }

pub loop-atom-preserved : goal.loop-atom-preserved
loop-atom-preserved c = record {
  room = c.loop-atom.invariant.room;
  left = λ ts h.
      let i = c.loop-atom.atom-index in
      let left = c.loop-atom.left in
      let a = atom_at c.args.cells.now.0 ts c.args.atoms.now i 0 h (omega arith) in
      let count = c.count_facts-facts.ensures.count a.0 a.2 in
      let past : length (facts_of a.0) ≤ left = omega (arith, count, c.if-left-facts.false) in
      let rest = flat_map facts_of (drop (i + 1) ts) in
      c.loop-atom.invariant.left ts h ∙ ap (λ us. slice_get (flat_map facts_of us) left) (next_at ts i a.0 a.1) ∙ got_second (facts_of a.0) rest left past ∙ ap (λ n. slice_get rest (left - n)) (sym count);
}

pub returns-then-k-eq0-clause-row : goal.returns-then-k-eq0-clause-row
returns-then-k-eq0-clause-row c = λ ts h. subst (λ n. RowStands c.args.cells.now.0 (row_of_some (numbered (flat_map facts_of ts) n)) None c.args.sheet.now.marks.items) (sym c.if-k-eq0.true) tt

pub returns-then-left-facts-clause-row : goal.returns-then-left-facts-clause-row
returns-then-left-facts-clause-row c = λ ts h.
    let cells = c.args.cells.now.0 in
    let i = c.loop-atom.atom-index in
    let left = c.loop-atom.left in
    let a = atom_at cells ts c.args.atoms.now i 0 h (omega arith) in
    let count = c.count_facts-facts.ensures.count a.0 a.2 in
    let inside : left < length (facts_of a.0) = omega (arith, count, c.if-left-facts.true) in
    let fact = is_got (facts_of a.0) left inside in
    let same = numbered_before (flat_map facts_of ts) c.args.k (omega (arith, c.if-k-eq0.false)) ∙ c.loop-atom.invariant.left ts h ∙ ap (λ us. slice_get (flat_map facts_of us) left) (next_at ts i a.0 a.1)
    ∙ got_first (facts_of a.0) (flat_map facts_of (drop (i + 1) ts)) left inside ∙ fact.1 in
    subst (λ x. RowFound cells (row_of_some x) c.row_of_fact.result c.row_of_fact.new.self.marks.items) (sym same)
    (stands_found cells (fact_row fact.0) (nodes a.0) c.row_of_fact.result c.row_of_fact.new.self.marks.items (c.row_of_fact.ensures.row a.0 fact.0 a.2 fact.1))

pub returns-then-left-facts-clause-short : goal.returns-then-left-facts-clause-short
returns-then-left-facts-clause-short c = λ ts size h small.
    let cells = c.args.cells.now.0 in
    let i = c.loop-atom.atom-index in
    let left = c.loop-atom.left in
    let a = atom_at cells ts c.args.atoms.now i 0 h (omega arith) in
    let count = c.count_facts-facts.ensures.count a.0 a.2 in
    let fact = is_got (facts_of a.0) left (omega (arith, count, c.if-left-facts.true)) in
    row_short cells (fact_row fact.0) (nodes a.0) size c.row_of_fact.result c.row_of_fact.new.self.marks.items (length c.args.sheet.now.marks.items) (c.row_of_fact.ensures.room.1 ∙ c.loop-atom.invariant.room.1) (small_at size ts i a.0 small a.1)
    (c.row_of_fact.ensures.row a.0 fact.0 a.2 fact.1)

pub returns-clause-row : goal.returns-clause-row
returns-clause-row c = λ ts h.
    let cells = c.args.cells.now.0 in
    let all = drop_all c.loop-atom.atom-index ts (omega (arith, atoms_counted cells ts c.args.atoms.now h)) in
    let same = numbered_before (flat_map facts_of ts) c.args.k (omega (arith, c.if-k-eq0.false)) ∙ c.loop-atom.invariant.left ts h ∙ ap (λ us. slice_get (flat_map facts_of us) c.loop-atom.left) all in
    subst (λ x. RowStands cells (row_of_some x) None c.loop-atom.sheet.marks.items) (sym same) tt
