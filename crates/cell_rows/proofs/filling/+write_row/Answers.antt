use Rattle.std.proofs.Common.{◌≡◌, ◌∙◌, ◌-◌, ◌<◌, ◌∷◌, ◌++◌, [], ℤ, List, sym, ap, refl, length, map, arith}
use Rattle.std.proofs.lemmas.Bool.{eqb-true}
use Rattle.std.proofs.lemmas.List.{nil_from_length}
use borrow.Rule.Slice.PartMut.{put_mid}
use Rattle.math_terms.specs.declared.term.Term.{Term}
use Rattle.num_theory.specs.Number.{exact, is_narrow}
use Rattle.num_theory.specs.Table.{coefficient}
use Rattle.cell_rows.proofs.Flags.{one_then}
use Rattle.cell_rows.proofs.Matrix.{narrow_coefficient, one_number}
use Rattle.cell_rows.proofs.Ordering.{some_from}
use Rattle.cell_rows.proofs.Places.{first_atom, no_atoms}
use Rattle.cell_rows.proofs.filling.+write_row.Goals as goal

pub returns-then-is_empty-clause-written : goal.returns-then-is_empty-clause-written
returns-then-is_empty-clause-written m c = λ cols ps h s e.
    let none : c.args.columns.now ≡ [] = nil_from_length c.args.columns.now (eqb-true (length c.args.columns.now) 0 (sym c.is_empty.ensures ∙ c.if-is_empty.true)) in
    let one : length c.args.out.now ≡ 1 = omega (arith, c.requires, ap length none) in
    c.write_first.ensures.written e ∙ one_number c.args.out.now (exact c.args.constant) one
    ∙ sym (ap (λ (ts : List Term). map (λ t. coefficient t ps) ts ++ exact c.args.constant ∷ []) (no_atoms c.args.cells.now.0 cols c.args.columns.now none h))

pub returns-then-not-write_first-clause-writes : goal.returns-then-not-write_first-clause-writes
returns-then-not-write_first-clause-writes m c = λ cols ps h s n k.
    let f = first_atom c.args.cells.now.0 cols c.args.columns.now 0 (some_from (length c.args.columns.now) (sym c.is_empty.ensures ∙ c.if-is_empty.false)) h in
    let room : 0 < length c.args.out.now = omega (arith, c.requires) in
    c.if-not-write_first.ensures.writes room (ap is_narrow (c.coefficient.ensures f.first ps f.first_stands s) ∙ narrow_coefficient f.first ps n)

pub returns-clause-writes : goal.returns-clause-writes
returns-clause-writes m c = λ cols ps h s n k.
    let f = first_atom c.args.cells.now.0 cols c.args.columns.now 0 (some_from (length c.args.columns.now) (sym c.is_empty.ensures ∙ c.if-is_empty.false)) h in
    c.write_row.ensures.writes f.rest ps f.rest_stands s n k

pub returns-clause-written : goal.returns-clause-written
returns-clause-written m c = λ cols ps h s e.
    let f = first_atom c.args.cells.now.0 cols c.args.columns.now 0 (some_from (length c.args.columns.now) (sym c.is_empty.ensures ∙ c.if-is_empty.false)) h in
    let room : 0 < length c.args.out.now = omega (arith, c.requires) in
    let number = exact c.coefficient.result in
    let first = c.if-not-write_first.ensures.written refl in
    let rest = c.write_row.ensures.written f.rest ps f.rest_stands s e in
    ap (λ (w : List ℤ). put_mid 1 (length w - 1) w c.write_row.new.out) first ∙ one_then c.args.out.now number c.write_row.new.out room
    ∙ (λ i. exact (c.coefficient.ensures f.first ps f.first_stands s i) ∷ rest i)
    ∙ sym (ap (λ (ts : List Term). map (λ t. coefficient t ps) ts ++ exact c.args.constant ∷ []) f.same)
