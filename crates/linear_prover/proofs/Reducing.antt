-- Sums of rows of one width are rows of that width.
use Rattle.std.proofs.Common.{◌≡◌, ◌∙◌, sym, subst, refl, ℕ, ◌≤◌, true, ◌==◌, List, [], ◌∷◌, length, map, ℤ, pos, negsuc, unsigned_abs, Some, arith}
use Rattle.std.specs.Int.{int_div_euclid}
use Rattle.std.proofs.Math.Nat.{div-le_self}
use Rattle.std.proofs.lemmas.Bool.{and_parts, and_from, cond_both}
use Rattle.std.proofs.lemmas.List.{length-map}
use Rattle.std.proofs.lemmas.Option.{cond_some}
use Rattle.num_theory.specs.Rows.{all_narrow, combined, divisor, narrow, reduced}
use Rattle.num_theory.specs.Lines.{sum_of}
use Rattle.linear_prover.specs.working.Eliminating.{IsRow}
use Rattle.linear_prover.proofs.Narrowness.{narrow_below, narrow_magnitude}

quotient_bound : (z : ℤ) (d : ℕ) → unsigned_abs (int_div_euclid z (pos d)) ≤ unsigned_abs z
quotient_bound (pos a) d = div-le_self a d
quotient_bound (negsuc a) d = omega (arith, div-le_self a d)

quotients_narrow : (d : ℕ) (zs : List ℤ) → all_narrow zs ≡ true → all_narrow (map (λ z. int_div_euclid z (pos d)) zs) ≡ true
quotients_narrow d [] h = refl
quotients_narrow d (z ∷ zs) h =
    let parts = and_parts (narrow z) (all_narrow zs) h in
    let small = narrow_magnitude z parts.0 in
    and_from (narrow (int_div_euclid z (pos d))) (all_narrow (map (λ z. int_div_euclid z (pos d)) zs))
    (narrow_below (int_div_euclid z (pos d)) (omega (arith, quotient_bound z d, small))) (quotients_narrow d zs parts.1)

length-combined : (p : ℕ) (xs : List ℤ) (q : ℕ) (ys : List ℤ) → length xs ≡ length ys → length (combined p xs q ys) ≡ length xs
length-combined p [] q ys same = refl
length-combined p (x ∷ xs) q [] same = absurd (omega arith)
length-combined p (x ∷ xs) q (y ∷ ys) same = omega (arith, length-combined p xs q ys (omega arith))

IsRow-reduced : (width : ℕ) (zs : List ℤ) → IsRow width zs → IsRow width (reduced zs)
IsRow-reduced width zs is =
    cond_both (divisor zs == 0) zs (map (λ z. int_div_euclid z (pos (divisor zs))) zs) (IsRow width)
    (λ none. is)
    (λ some. record { wide = length-map zs (λ z. int_div_euclid z (pos (divisor zs))) ∙ is.wide; narrow = quotients_narrow (divisor zs) zs is.narrow })

pub IsRow-sum_of : (width p : ℕ) (a : List ℤ) (q : ℕ) (b row : List ℤ) → IsRow width a → IsRow width b → sum_of p a q b ≡ Some row → IsRow width row
IsRow-sum_of width p a q b row first second is =
    let parts = cond_some (all_narrow (combined p a q b)) (reduced (combined p a q b)) row is in
    let whole : IsRow width (combined p a q b) = record {
      wide = length-combined p a q b (first.wide ∙ sym second.wide) ∙ first.wide;
      narrow = parts.0;
    } in
    subst (IsRow width) parts.1 (IsRow-reduced width (combined p a q b) whole)
