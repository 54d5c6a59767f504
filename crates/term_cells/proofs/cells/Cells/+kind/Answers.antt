use Rattle.std.proofs.Common.{◌≡◌, ◌∙◌, ap, sym, subst, map, Some, slice_get, w64, arith, rules}
use Rattle.std.proofs.lemmas.Int.{to_z-of_z}
use Rattle.math_terms.specs.declared.term.Term.TheViews.{out-Term}
use Rattle.math_terms.specs.Heads.{children}
use Rattle.math_terms.specs.Kinds.{kind, or_any}
use Rattle.term_cells.specs.KindShown.{Shows, ShowsIn, is_number_form, is_truth_form, kind_of_desc, sorts_of_vars}
use Rattle.term_cells.specs.Standing.{stands}
use Rattle.term_cells.proofs.Apart.{below_parts, holds, fails}
use Rattle.term_cells.proofs.Comparing.{tuple_below}
use Rattle.term_cells.proofs.PieceOf.{no_term}
use Rattle.term_cells.proofs.Kinded.{tuple_kind, tuple_parts, string_kind, variable_kind, projection_kind, shows_in, part_shows, no_part, descs_show, plain_part}
use Rattle.term_cells.proofs.cells.Cells.+kind.Goals as goal

pub kind_of-returns-in_default-node_form-clause-shown : goal.kind_of-returns-in_default-node_form-clause-shown
kind_of-returns-in_default-node_form-clause-shown m c = λ t h.
    absurd (no_term c.args.self.now.0 t c.args.p c.in-Some.cell (sym c.in-Some.ensures) (λ f e. let none = c.in_default-node_form.ensures.each f e in cc) h)

pub kind_of-returns-then-cell-p-clause-shown : goal.kind_of-returns-then-cell-p-clause-shown
kind_of-returns-then-cell-p-clause-shown m c = λ t h.
    let cells = c.args.self.now.0 in
    let at = sym c.in-Some.ensures in (
      children (out-Term t),
      tuple_kind cells (sorts_of_vars c.args.vars.now) t c.args.p c.in-Some.cell at h (holds c.in-Some.cell.form 16 c.if-is.ensures),
      (c.args.p, tuple_parts cells (sorts_of_vars c.args.vars.now) t c.args.p c.in-Some.cell at h (holds c.in-Some.cell.form 16 c.if-is.ensures)),
    )

pub kind_of-returns-else-cell-p-clause-shown : goal.kind_of-returns-else-cell-p-clause-shown
kind_of-returns-else-cell-p-clause-shown m c = λ t h.
    let below = tuple_below c.args.self.now.0 t c.args.p c.in-Some.cell (sym c.in-Some.ensures) (holds c.in-Some.cell.form 16 c.if-is.ensures) h in
    absurd (omega arith)

pub kind_of-returns-then-is-2-clause-below : goal.kind_of-returns-then-is-2-clause-below
kind_of-returns-then-is-2-clause-below m c = c.kind_of_var.ensures.below c.args.p

pub kind_of-returns-then-is-2-clause-shown : goal.kind_of-returns-then-is-2-clause-shown
kind_of-returns-then-is-2-clause-shown m c = λ t h.
    let cells = c.args.self.now.0 in
    let sorts = sorts_of_vars c.args.vars.now in
    let v = variable_kind cells sorts t c.args.p c.in-Some.cell (sym c.in-Some.ensures) h (holds c.in-Some.cell.form 4 c.if-is-2.ensures) in
    subst (λ s. Shows cells sorts c.kind_of_var.result s) (sym v.kind_is) (shows_in cells sorts c.kind_of_var.result _ (c.kind_of_var.ensures.shown v.number (to_z-of_z w64 c.in-Some.cell.own (search rules) ∙ v.own_is)))

pub kind_of-returns-then-is-3-clause-shown : goal.kind_of-returns-then-is-3-clause-shown
kind_of-returns-then-is-3-clause-shown m c = λ t h.
    let cells = c.args.self.now.0 in
    let sorts = sorts_of_vars c.args.vars.now in
    let v = projection_kind cells sorts t c.args.p c.in-Some.cell (sym c.in-Some.ensures) h (holds c.in-Some.cell.form 17 c.if-is-3.ensures) in
    subst (λ s. Shows cells sorts c.kind_of_part.result s) (sym v.kind_is) (c.kind_of_part.ensures.shown v.number v.of_term (to_z-of_z w64 c.in-Some.cell.own (search rules) ∙ v.own_is) v.stands_is)

pub kind_of-returns-clause-shown : goal.kind_of-returns-clause-shown
kind_of-returns-clause-shown m c = λ t h.
    string_kind c.args.self.now.0 (sorts_of_vars c.args.vars.now) t c.args.p c.in-Some.cell (sym c.in-Some.ensures) h
    (ap is_number_form c.in-Some-node_form.ensures.numbered ∙ sym c.if-is_number_form.ensures) (ap is_truth_form c.in-Some-node_form.ensures.numbered ∙ sym c.if-is_truth_form.ensures) (fails c.in-Some.cell.form 16 c.if-is.ensures) (fails c.in-Some.cell.form 4 c.if-is-2.ensures) (fails c.in-Some.cell.form 17 c.if-is-3.ensures)

pub kind_of_part-returns-in-Some-part-clause-shown : goal.kind_of_part-returns-in-Some-part-clause-shown
kind_of_part-returns-in-Some-part-clause-shown m c = λ n t e h.
    let cells = c.args.self.now.0 in
    let sorts = sorts_of_vars c.args.vars.now in
    let k : Some c.in-Some.k ≡ Some n = c.in-Some.ensures n (to_z-of_z w64 c.args.k (search rules) ∙ e) in
    let same : c.in-Some.k ≡ n = cc in
    let tuple = c.in-Parts.ensures.shown t (below_parts (stands cells t) c.args.p c.args.limit h).1 in
    let part = c.in-Some-part.ensures.part tuple.2.0 tuple.0 tuple.2.1 in
    part_shows cells sorts (kind sorts t) tuple.0 n part.0 c.kind_of-in-Some-part.result tuple.1 (ap (slice_get tuple.0) (sym same) ∙ part.1) (c.kind_of-in-Some-part.ensures.shown part.0 part.2)

pub kind_of_part-returns-in-None-clause-shown : goal.kind_of_part-returns-in-None-clause-shown
kind_of_part-returns-in-None-clause-shown m c = λ n t e h.
    let cells = c.args.self.now.0 in
    let sorts = sorts_of_vars c.args.vars.now in
    let k : Some c.in-Some.k ≡ Some n = c.in-Some.ensures n (to_z-of_z w64 c.args.k (search rules) ∙ e) in
    let same : c.in-Some.k ≡ n = cc in
    let tuple = c.in-Parts.ensures.shown t (below_parts (stands cells t) c.args.p c.args.limit h).1 in
    no_part sorts (kind sorts t) tuple.0 n tuple.1 (ap (slice_get tuple.0) (sym same) ∙ c.in-None.ensures.part tuple.2.0 tuple.0 tuple.2.1)

pub kind_of_part-returns-in-Descs-clause-shown : goal.kind_of_part-returns-in-Descs-clause-shown
kind_of_part-returns-in-Descs-clause-shown m c = λ n t e h.
    let cells = c.args.self.now.0 in
    let sorts = sorts_of_vars c.args.vars.now in
    let k : Some c.in-Some.k ≡ Some n = c.in-Some.ensures n (to_z-of_z w64 c.args.k (search rules) ∙ e) in
    let same : c.in-Some.k ≡ n = cc in
    let descs = c.in-Descs.descs.now in
    descs_show cells sorts (kind sorts t) descs n c.kind_among.result (c.in-Descs.ensures.shown t (below_parts (stands cells t) c.args.p c.args.limit h).1)
    (subst (λ j. ShowsIn c.kind_among.result (or_any (slice_get (map kind_of_desc descs) j))) same c.kind_among.ensures)

pub kind_of_part-returns-in_default-kind_of : goal.kind_of_part-returns-in_default-kind_of
kind_of_part-returns-in_default-kind_of m c = record {
  below = tt;
  shown = λ n t e h.
      let cells = c.args.self.now.0 in
      let sorts = sorts_of_vars c.args.vars.now in
      plain_part cells sorts c.kind_of.result (kind sorts t) n c.in_default-kind_of.not-Parts c.in_default-kind_of.not-Descs
      (c.kind_of.ensures.shown t (below_parts (stands cells t) c.args.p c.args.limit h).1);
}
