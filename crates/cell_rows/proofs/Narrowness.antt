-- Sums of rows.
use Rattle.std.proofs.Common.{◌≡◌, ◌∙◌, sym, ap, refl, ℕ, Bool, true, false, List, ℤ, Option, Some, None, if◌then◌else◌}
use Rattle.num_theory.specs.Rows.{all_narrow, combined, reduced}
use Rattle.num_theory.specs.Lines.{sum_of}

module _ (p : ℕ) (a : List ℤ) (q : ℕ) (b : List ℤ) where
  sum_if : Bool → Option (List ℤ)
  sum_if t = if t then Some (reduced (combined p a q b)) else None

  pub sum_of-fits : {W : Type 0} (out row : List ℤ) → (all_narrow (combined p a q b) ≡ true → W × (out ≡ combined p a q b)) → (all_narrow (combined p a q b) ≡ false → ⊥) → row ≡ reduced out → sum_of p a q b ≡ Some row
  unfolding sum_if
  sum_of-fits {W} out row fits wide is = by_test (all_narrow (combined p a q b)) refl
    where
      by_test : (t : Bool) → all_narrow (combined p a q b) ≡ t → sum_of p a q b ≡ Some row
      by_test true e = ap sum_if e ∙ ap (λ o. Some (reduced o)) (sym (fits e).1) ∙ ap Some (sym is)
      by_test false e = absurd (wide e)

  pub sum_of-wide : (all_narrow (combined p a q b) ≡ true → ⊥) → sum_of p a q b ≡ None
  unfolding sum_if
  sum_of-wide wide = by_test (all_narrow (combined p a q b)) refl
    where
      by_test : (t : Bool) → all_narrow (combined p a q b) ≡ t → sum_of p a q b ≡ None
      by_test true e = absurd (wide e)
      by_test false e = ap sum_if e
