use Rattle.std.proofs.Common.{◌≡◌, ◌∙◌, sym, ap, subst, arith, true, false, Some, length}
use Rattle.math_terms.specs.declared.form.Form.{Form}
use Rattle.math_terms.specs.declared.term.Term.TheViews.{out-Term}
use Rattle.math_terms.specs.Forms.{arity, form as form_of}
use Rattle.math_terms.specs.Heads.{children}
use Rattle.term_cells.specs.KindShown.{PartAt}
use Rattle.cell_rules.proofs.Exchanged.{child_at, counted, few_children, tuple_parts}
use Rattle.cell_rules.proofs.Looked.{its_test, node_at}
use Rattle.cell_rules.proofs.children.child.Goals as goal

pub returns-then-is : goal.returns-then-is
returns-then-is c = λ t h.
    let cells = c.args.cells.now.0 in
    let cell = c.in_ok-cell.cell in
    let n = node_at c.standing_opens.ensures cells t c.args.p cell (sym c.in_ok-cell.ensures) h in
    subst (λ k. PartAt cells (children (out-Term t)) k c.part.result) c.from.ensures
    (c.part.ensures c.args.p (children (out-Term t)) (tuple_parts cells (out-Term t) cell c.args.p (its_test cells t c.args.p cell 16 true n (sym c.if-is.ensures)) n.children_are))

same_form : (f g : Form) → Some f ≡ Some g → f ≡ g
same_form f g e = cc

pub returns-then-k-from : goal.returns-then-k-from
returns-then-k-from c = λ t h.
    let cells = c.args.cells.now.0 in
    let cell = c.in_ok-cell.cell in
    let x = out-Term t in
    let n = node_at c.standing_opens.ensures cells t c.args.p cell (sym c.in_ok-cell.ensures) h in
    let form_is : c.in_ok-node_form.field-0 ≡ form_of x = same_form _ _ (c.in_ok-node_form.ensures.each (form_of x) (sym n.form_is)) in
    let count : length (children x) ≡ c.in_ok-arity.arity = counted x c.in_ok-arity.arity (ap arity (sym form_is) ∙ sym c.in_ok-arity.ensures) in
    subst (λ p. PartAt cells (children x) c.args.k (Some p)) (sym c.place.ensures)
    (child_at cells (children x) cell c.args.p c.args.k (few_children cells x cell c.args.p (its_test cells t c.args.p cell 16 false n (sym c.if-is.ensures)) n.children_are) (omega (arith, count, c.if-k-from.true)))
