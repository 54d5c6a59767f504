-- Numbers and sums that are not wide.
use Rattle.std.proofs.Common.{◌≡◌, ◌∙◌, sym, ap, ℕ, zero, suc, ◌<◌, ◌^◌, true, false, List, [], ◌∷◌, get_or, ℤ, pos, negsuc, unsigned_abs, Some, None, arith, lit<}
use Rattle.std.proofs.lemmas.Bool.{and_parts, cond-false, cond-true, false_from_ne_true, true_from_ne_false, ltb-true, lt-ltb}
use Rattle.num_theory.specs.Rows.{all_narrow, combined, narrow, reduced}
use Rattle.num_theory.specs.Lines.{sum_of}

pub narrow_magnitude : (z : ℤ) → narrow z ≡ true → unsigned_abs z < 2 ^ 31
narrow_magnitude (pos n) h = grind (arith, ltb-true)
narrow_magnitude (negsuc n) h = grind (arith, ltb-true)

pub narrow_below : (z : ℤ) → unsigned_abs z < 2 ^ 31 → narrow z ≡ true
narrow_below (pos n) h = grind (arith, lt-ltb)
narrow_below (negsuc n) h = grind (arith, lt-ltb)

pub column_narrow : (k : ℕ) (zs : List ℤ) → all_narrow zs ≡ true → unsigned_abs (get_or zs k (pos 0)) < 2 ^ 31
column_narrow k [] h = lit< tt
column_narrow zero (z ∷ zs) h = narrow_magnitude z (and_parts (narrow z) (all_narrow zs) h).0
column_narrow (suc k) (z ∷ zs) h = column_narrow k zs (and_parts (narrow z) (all_narrow zs) h).1

pub sum_of-fits : {W : Type 0} (p : ℕ) (a : List ℤ) (q : ℕ) (b out row : List ℤ) → (all_narrow (combined p a q b) ≡ true → W × (out ≡ combined p a q b)) →
    (all_narrow (combined p a q b) ≡ false → ⊥) → row ≡ reduced out → sum_of p a q b ≡ Some row
sum_of-fits p a q b out row fits wide is =
    let sum : List ℤ = combined p a q b in
    let narrow_sum : all_narrow sum ≡ true = true_from_ne_false (all_narrow sum) wide in
    cond-true (all_narrow sum) (Some (reduced sum)) None narrow_sum ∙ ap (λ r. Some r) (ap reduced (sym (fits narrow_sum).1) ∙ sym is)

pub sum_of-wide : (p : ℕ) (a : List ℤ) (q : ℕ) (b : List ℤ) → (all_narrow (combined p a q b) ≡ true → ⊥) → sum_of p a q b ≡ None
sum_of-wide p a q b wide =
    cond-false (all_narrow (combined p a q b)) (Some (reduced (combined p a q b))) None (false_from_ne_true (all_narrow (combined p a q b)) wide)
