-- The tests of kinds.
use Rattle.std.proofs.Common.{◌≡◌, ◌∙◌, sym, ap, refl, ◌↔◌, Bool, true, false, IsTrue}
use Rattle.std.proofs.lemmas.Bool.{false≢true}
use Rattle.math_terms.specs.declared.descriptor.Sort.{Sort}
use Rattle.math_terms.specs.declared.descriptor.Sort.TheOpen.{Sort-F}
use Rattle.math_terms.specs.declared.descriptor.Sort.TheViews.{out-Sort, roll-Sort, out-roll-Sort, roll-out-Sort}
use Rattle.math_terms.specs.Sorts.{z, b, is_z, is_b, z_form, b_form}

z_is : (x : Sort-F Sort) → z_form x ≡ true → x ≡ Sort-F.Z
z_is Sort-F.Z h = refl
z_is x h = cc

b_is : (x : Sort-F Sort) → b_form x ≡ true → x ≡ Sort-F.B
b_is Sort-F.B h = refl
b_is x h = cc

-- an answer that says whether a sort has a form is that of the test of the form
tested : (test : Sort-F Sort → Bool) (x : Sort-F Sort) → test x ≡ true → ((y : Sort-F Sort) → test y ≡ true → y ≡ x) → (r : Bool) (s : Sort) → IsTrue r ↔ (s ≡ roll-Sort x) → r ≡ test (out-Sort s)
tested test x passes only true s h = sym (ap test (out-roll-Sort x) ∙ passes) ∙ ap (λ t. test (out-Sort t)) (sym (h.0 refl))
tested test x passes only false s h = by_answer (test (out-Sort s)) refl
  where
    by_answer : (a : Bool) → test (out-Sort s) ≡ a → false ≡ test (out-Sort s)
    by_answer false e = sym e
    by_answer true e = absurd (false≢true (h.1 (sym (roll-out-Sort s) ∙ ap roll-Sort (only (out-Sort s) e))))

pub number_told : (r : Bool) (s : Sort) → IsTrue r ↔ (s ≡ z) → r ≡ is_z s
number_told r s h = tested z_form Sort-F.Z refl z_is r s h

pub truth_told : (r : Bool) (s : Sort) → IsTrue r ↔ (s ≡ b) → r ≡ is_b s
truth_told r s h = tested b_form Sort-F.B refl b_is r s h
