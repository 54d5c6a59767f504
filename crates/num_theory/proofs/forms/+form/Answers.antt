use Rattle.std.proofs.Common.{◌≡◌, ◌∙◌, sym, ap, pos, ◌<ℤ◌, ◌≤ℤ◌, SFits, w64, false, arith}
use Rattle.std.proofs.lemmas.Int.{to_z-of_z, ints}
use Rattle.std.proofs.lemmas.Result.{IfOk-weaker}
use Rattle.math_terms.specs.declared.term.Term.TheOpen.{Term-F}
use Rattle.math_terms.specs.declared.term.Term.TheViews.{roll-Term}
use Rattle.math_terms.specs.Views.{binary_node, node_of}
use Rattle.num_theory.specs.Linear.{Form, are_zero, atom_form, constant_form, formed, is_constant, minus_one, multiple, plus, times}
use Rattle.num_theory.specs.working.Making.{form_of}
use Rattle.num_theory.proofs.Forming.{form_other, other_view, other_two, product_atom, remainder_low, remainder_high, remainder_other}
use Rattle.num_theory.proofs.forms.+form.Goals as goal

pub raw_form-returns-in_default : goal.raw_form-returns-in_default
raw_form-returns-in_default t c =
    let v = c.view.result in
    let e = form_other (node_of v) c.args.t.now c.view.ensures (other_view v c.in_default.not-Num c.in_default.not-Two) in
    IfOk-weaker c.atom_form.result _ _ (λ f h. h ∙ sym e) c.atom_form.ensures

pub form_of_two-returns-in_default : goal.form_of_two-returns-in_default
form_of_two-returns-in_default t c = λ is.
    let a = c.args.a.now in
    let b = c.args.b.now in
    let d = c.in_default in
    let e = form_other (binary_node c.args.op a b) c.args.t.now is (other_two c.args.op a b d.not-Add d.not-Sub d.not-Mul d.not-Mod) in
    IfOk-weaker c.atom_form.result _ _ (λ f h. h ∙ sym e) c.atom_form.ensures

pub product_form-returns-else-are_zero-2 : goal.product_form-returns-else-are_zero-2
product_form-returns-else-are_zero-2 t c = λ is.
    let a = c.args.a.now in
    let b = c.args.b.now in
    let first : is_constant (formed a).1 ≡ false =
    ap is_constant (sym c.in_ok-f.ensures) ∙ sym (c.if-are_zero-2.ensures ∙ ap are_zero c.deref-else-are_zero.ensures.value) in
    let second : is_constant (formed b).1 ≡ false =
    ap is_constant (sym c.in_ok-g.ensures) ∙ sym (c.if-are_zero.ensures ∙ ap are_zero c.deref.ensures.value) in
    IfOk-weaker c.atom_form.result _ _ (λ f h. h ∙ sym (product_atom a b c.args.t.now is first second)) c.atom_form.ensures

pub remainder_by-returns-then-number-le0 : goal.remainder_by-returns-then-number-le0
remainder_by-returns-then-number-le0 t c = λ is number.
    let low : c.args.number ≤ℤ pos 0 = omega (arith, ints) in
    IfOk-weaker c.atom_form.result _ _ (λ f h. h ∙ sym (remainder_low c.args.a.now c.args.b.now c.args.t.now c.args.number is low)) c.atom_form.ensures

pub remainder_by-returns : goal.remainder_by-returns
remainder_by-returns t c = λ is number.
    let a = c.args.a.now in
    let b = c.args.b.now in
    let n = c.args.number in
    let fits : SFits w64 n = c.ranges.number in
    let high : pos 0 <ℤ n = omega (arith, ints) in
    let number_form : form_of c.constant_form.result ≡ constant_form n = simp to_z-of_z at c.constant_form.ensures in
    let quotient : Form = atom_form (roll-Term (Term-F.Div a b)) in
    let rounded : form_of c.multiple-rounded.result ≡ multiple (times minus_one (constant_form n)) quotient =
    c.multiple-rounded.ensures ∙ (λ i. multiple ((c.times.ensures ∙ ap (times minus_one) number_form) i) (c.in_ok-quotient.ensures i)) in
    IfOk-weaker c.plus.result _ _ (λ f h. h ∙ (λ i. plus (c.in_ok-raw_form.ensures i) (rounded i)) ∙ sym (remainder_high a b n number high)) c.plus.ensures

pub remainder_form-returns-in_default : goal.remainder_form-returns-in_default
remainder_form-returns-in_default t c = λ is.
    let e = remainder_other c.args.a.now c.args.b.now c.args.t.now c.view.result is c.view.ensures c.in_default.not-Num in
    IfOk-weaker c.atom_form.result _ _ (λ f h. h ∙ sym e) c.atom_form.ensures
