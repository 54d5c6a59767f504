-- A row whose sum with itself is a contradiction is one.
use Rattle.std.proofs.Common.{◌≡◌, ◌∙◌, sym, ap, refl, ℕ, zero, suc, ◌+◌, ◌*◌, ◌<◌, ◌≤◌, ◌==◌, ◌/◌, ◌%◌, ℤ, pos, negsuc, int_lt, unsigned_abs, Bool, true, false, List, [], ◌∷◌, ◌++◌, map, Some, ⊎_elim, arith}
use Rattle.std.specs.Int.{int_div_euclid, IsGcd, ◌∣◌}
use Rattle.std.specs.Ordering.{int_eq}
use Rattle.std.proofs.lemmas.Bool.{and_parts, and_from, cases_Bool, cond-false, eqb-true, ltb-true}
use Rattle.std.proofs.lemmas.Bool.Decides.{Decides-int_eq}
use Rattle.std.proofs.lemmas.Int.{ints}
use Rattle.std.proofs.lemmas.List.{map-append}
use Rattle.std.proofs.lemmas.Nat.Gcd.{IsGcd-from_mod, IsGcd-from_zero, dvd_refl, dvd_trans, mod-eq-zero_of_dvd}
use Rattle.std.proofs.lemmas.Option.{cond_some}
use Rattle.std.specs.List.{list_all}
use Rattle.num_theory.specs.Rows.{DividesAll, coefficients, combined, combined_number, divisor, gcd, gcd_within, reduced}
use Rattle.num_theory.specs.Lines.{all_narrow, constant, is_contradiction, sum_of}
use Rattle.vc_prover.proofs.Columns.{coefficients_are, combined_push, constant_is, divisor_from, reduced_is, shared}

gcd_within-is : (steps a b : ℕ) → b ≤ steps → IsGcd a b (gcd_within steps a b)
gcd_within-is zero a b few = IsGcd-from_zero a b (omega arith)
gcd_within-is (suc steps) a zero few = IsGcd-from_zero a zero refl
gcd_within-is (suc steps) a (suc b) few = IsGcd-from_mod a (suc b) _ (gcd_within-is steps (suc b) (a % suc b) (omega arith))

gcd-is : (a b : ℕ) → IsGcd a b (gcd a b)
unfolding gcd
gcd-is a b = gcd_within-is b a b (omega arith)

running_divisor : (g : ℕ) (zs : List ℤ) → (divisor_from g zs ∣ g) × DividesAll (divisor_from g zs) zs
running_divisor g [] = (dvd_refl g, tt)
running_divisor g (z ∷ zs) =
    let here = gcd-is g (unsigned_abs z) in
    let rest = running_divisor (gcd g (unsigned_abs z)) zs in
    (dvd_trans _ rest.0 here.0, (dvd_trans _ rest.0 here.1, rest.1))

abbrev are_zeros : List ℤ → Bool
are_zeros zs = list_all (λ z. int_eq z (pos 0)) zs

-- a multiple of the divisor that is 0 when divided
none_shared : (d a : ℕ) → 0 < d → d ∣ a → a / d ≡ 0 → a ≡ 0
none_shared d a some divides e = let m = mod-eq-zero_of_dvd d divides in omega (arith, m, ap (λ n. d * n) e)

quotient_back : (d : ℕ) (z : ℤ) → 0 < d → d ∣ unsigned_abs z → int_div_euclid z (pos d) ≡ pos 0 → z ≡ pos 0
quotient_back d (pos a) some divides e = let f : a / d ≡ 0 = cc in ap pos (none_shared d a some divides f)
quotient_back d (negsuc a) some divides e = cc

shared_is : (d : ℕ) (z : ℤ) → shared (suc d) z ≡ int_div_euclid z (pos (suc d))
shared_is d z =
    ⊎_elim (λ (e : (suc d == 0) ≡ true). absurd (omega (arith, eqb-true (suc d) 0 e))) (λ (e : (suc d == 0) ≡ false). cond-false (suc d == 0) z (int_div_euclid z (pos (suc d))) e)
    (cases_Bool (suc d == 0))

shared_back : (d : ℕ) (z : ℤ) → d ∣ unsigned_abs z → shared d z ≡ pos 0 → z ≡ pos 0
shared_back zero z divides e = e
shared_back (suc d) z divides e = quotient_back (suc d) z (omega arith) divides (sym (shared_is d z) ∙ e)

zeros_back : (d : ℕ) (zs : List ℤ) → DividesAll d zs → are_zeros (map (shared d) zs) ≡ true → are_zeros zs ≡ true
zeros_back d [] divides h = refl
zeros_back d (z ∷ zs) divides h =
    let parts = and_parts (int_eq (shared d z) (pos 0)) (are_zeros (map (shared d) zs)) h in
    let is : z ≡ pos 0 = shared_back d z divides.0 ((Decides-int_eq (shared d z) (pos 0)).0 parts.0) in
    and_from (int_eq z (pos 0)) (are_zeros zs) ((Decides-int_eq z (pos 0)).1 is) (zeros_back d zs divides.1 parts.1)

not_below : (n : ℕ) → int_lt (pos n) (pos 0) ≡ true → ⊥
not_below n h = omega (arith, ltb-true n 0 h)

below_back : (d : ℕ) (z : ℤ) → int_lt (shared d z) (pos 0) ≡ true → int_lt z (pos 0) ≡ true
below_back zero z h = h
below_back (suc d) (pos a) h = absurd (not_below (a / suc d) (ap (λ z. int_lt z (pos 0)) (sym (shared_is d (pos a))) ∙ h))
below_back (suc d) (negsuc a) h = refl

-- a number that is 0 or below 0 when it is added to itself so many times
never : (x : ℤ) → combined_number 0 x 0 x ≡ pos 0
never x = omega (arith, ints)

sum_below : (p q : ℕ) (c : ℤ) → int_lt (combined_number p c q c) (pos 0) ≡ true → int_lt c (pos 0) ≡ true
sum_below p q (pos m) h = absurd (not_below (p * m + q * m) h)
sum_below p q (negsuc m) h = refl

some_times : (p q : ℕ) (c : ℤ) → int_lt (combined_number p c q c) (pos 0) ≡ true → 0 < p + q
some_times zero zero c h = absurd (not_below 0 (ap (λ z. int_lt z (pos 0)) (sym (never c)) ∙ h))
some_times zero (suc q) c h = omega arith
some_times (suc p) q c h = omega arith

times_zero : (p q : ℕ) (x : ℤ) → 0 < p + q → combined_number p x q x ≡ pos 0 → x ≡ pos 0
times_zero p q (pos zero) some e = refl
times_zero p q (pos (suc m)) some e = let f : p * suc m + q * suc m ≡ 0 = cc in absurd (omega (arith, f, some))
times_zero p q (negsuc m) some e = absurd (omega (arith, ints, e, some))

times_zeros : (p q : ℕ) (xs : List ℤ) → 0 < p + q → are_zeros (combined p xs q xs) ≡ true → are_zeros xs ≡ true
times_zeros p q [] some h = refl
times_zeros p q (x ∷ xs) some h =
    let parts = and_parts (int_eq (combined_number p x q x) (pos 0)) (are_zeros (combined p xs q xs)) h in
    let is : x ≡ pos 0 = times_zero p q x some ((Decides-int_eq (combined_number p x q x) (pos 0)).0 parts.0) in
    and_from (int_eq x (pos 0)) (are_zeros xs) ((Decides-int_eq x (pos 0)).1 is) (times_zeros p q xs some parts.1)

pub alone_contradicts : (p q : ℕ) (xs : List ℤ) (c : ℤ) (r : List ℤ) → sum_of p (xs ++ c ∷ []) q (xs ++ c ∷ []) ≡ Some r → is_contradiction r ≡ true → is_contradiction (xs ++ c ∷ []) ≡ true
alone_contradicts p q xs c r made ends =
    let row : List ℤ = xs ++ c ∷ [] in
    let cs : List ℤ = combined p xs q xs in
    let v : ℤ = combined_number p c q c in
    let whole : combined p row q row ≡ cs ++ v ∷ [] = combined_push p q xs xs c c refl in
    let d : ℕ = divisor_from 0 cs in
    let of_row : divisor (cs ++ v ∷ []) ≡ d = ap (divisor_from 0) (coefficients_are cs v) in
    let is : reduced (combined p row q row) ≡ r = (cond_some (all_narrow (combined p row q row)) (reduced (combined p row q row)) r made).1 in
    let shown : reduced (combined p row q row) ≡ map (shared d) cs ++ shared d v ∷ [] =
    ap reduced whole ∙ (reduced_is (cs ++ v ∷ []) ∙ (ap (λ n. map (shared n) (cs ++ v ∷ [])) of_row ∙ map-append (shared d) cs (v ∷ []))) in
    let parts = and_parts (are_zeros (coefficients (map (shared d) cs ++ shared d v ∷ []))) (int_lt (constant (map (shared d) cs ++ shared d v ∷ [])) (pos 0)) (ap is_contradiction (sym shown ∙ is) ∙ ends) in
    let none : are_zeros cs ≡ true = zeros_back d cs (running_divisor 0 cs).1 (ap are_zeros (sym (coefficients_are (map (shared d) cs) (shared d v))) ∙ parts.0) in
    let below : int_lt v (pos 0) ≡ true = below_back d v (ap (λ z. int_lt z (pos 0)) (sym (constant_is (map (shared d) cs) (shared d v))) ∙ parts.1) in
    and_from (are_zeros (coefficients row)) (int_lt (constant row) (pos 0))
    (ap are_zeros (coefficients_are xs c) ∙ times_zeros p q xs (some_times p q c below) none)
    (ap (λ z. int_lt z (pos 0)) (constant_is xs c) ∙ sum_below p q c below)
