use Rattle.std.proofs.Common.{◌∙◌, ◌<◌, sym, ap, subst, length, take, arith}
use Rattle.std.proofs.lemmas.List.{get_or-take, length-take-le}
use Rattle.num_theory.specs.Table.{Gathered, facts_of, with_all_facts, with_facts}
use Rattle.term_cells.specs.Standing.{stands}
use Rattle.term_cells.specs.Placed.{AllStand}
use Rattle.cell_rows.specs.working.Atoms.{AtomsFound, with_fact_rows}
use Rattle.cell_rows.proofs.Gathered.{atom_at, facts_added, next_atom, no_atom_at, none_left, past_atoms}
use Rattle.cell_rows.proofs.Tamed.{as_short, small_at, tame_facts_of}
use Rattle.cell_rows.proofs.gathering.+add_facts_from.Goals as goal

pub returns-then-most-eq0-clause-added : goal.returns-then-most-eq0-clause-added
returns-then-most-eq0-clause-added m c = λ g h.
    subst (λ (x : Gathered). AllStand c.args.cells.now.0 x.atoms (take c.args.count c.args.places.now))
    (sym (ap (λ n. with_all_facts n c.args.i g) c.if-most-eq0.true ∙ none_left c.args.i g)) h

pub returns-then-i-count-clause-added : goal.returns-then-i-count-clause-added
returns-then-i-count-clause-added m c = λ g h.
    let all = length-take-le c.args.count c.args.places.now c.requires.counted in
    subst (λ (x : Gathered). AllStand c.args.cells.now.0 x.atoms (take c.args.count c.args.places.now))
    (sym (past_atoms c.args.most c.args.i g (no_atom_at c.args.cells.now.0 g.atoms (take c.args.count c.args.places.now) c.args.i h (omega (arith, all, c.if-i-count.true))))) h

pub returns-clause-added : goal.returns-clause-added
returns-clause-added m c = λ g h.
    let cells = c.args.cells.now.0 in
    let i = c.args.i in
    let places = c.args.places.now in
    let all = length-take-le c.args.count places c.requires.counted in
    let inside : i < length (take c.args.count places) = omega (arith, all, c.if-i-count.false) in
    let some : 0 < c.args.most = omega (arith, c.if-most-eq0.false) in
    let a = atom_at cells g.atoms (take c.args.count places) i 0 h inside in
    let there = ap (stands cells a.0) (sym (get_or-take c.args.count places i 0 c.if-i-count.false)) ∙ a.2 in
    let added = c.in_ok-count.ensures.added a.0 g.atoms there h in
    let others = c.add_facts_from.ensures.added (with_facts g a.0) (subst (λ x. AllStand cells x (take c.in_ok-count.count c.add_facts.new.places)) (facts_added g a.0) added) in
    subst (λ (x : Gathered). AtomsFound cells x.atoms c.add_facts_from.result c.add_facts_from.new.places) (sym (next_atom c.args.most i g a.0 some a.1)) others

pub returns-in_err-count-clause-short : goal.returns-in_err-count-clause-short
returns-in_err-count-clause-short m c = λ ts size s tame room.
    let cells = c.args.cells.now.0 in
    let i = c.args.i in
    let places = c.args.places.now in
    let all = length-take-le c.args.count places c.requires.counted in
    let inside : i < length (take c.args.count places) = omega (arith, all, c.if-i-count.false) in
    let a = atom_at cells ts (take c.args.count places) i 0 s inside in
    let there = ap (stands cells a.0) (sym (get_or-take c.args.count places i 0 c.if-i-count.false)) ∙ a.2 in
    rw c.from_residual.ensures (c.in_err-count.ensures.short a.0 ts size there s tame (small_at size ts i a.0 tame.small a.1) room)

pub returns-clause-short : goal.returns-clause-short
returns-clause-short m c = λ ts size s tame room.
    let cells = c.args.cells.now.0 in
    let i = c.args.i in
    let places = c.args.places.now in
    let all = length-take-le c.args.count places c.requires.counted in
    let inside : i < length (take c.args.count places) = omega (arith, all, c.if-i-count.false) in
    let a = atom_at cells ts (take c.args.count places) i 0 s inside in
    let there = ap (stands cells a.0) (sym (get_or-take c.args.count places i 0 c.if-i-count.false)) ∙ a.2 in
    as_short c.add_facts_from.result (length c.add_facts.new.sheet.marks.items) (length c.args.sheet.now.marks.items) size c.in_ok-count.ensures.room.1
    (c.add_facts_from.ensures.short (with_fact_rows ts (facts_of a.0)) size (c.in_ok-count.ensures.added a.0 ts there s) (tame_facts_of size ts a.0 (small_at size ts i a.0 tame.small a.1) tame) (omega arith))
