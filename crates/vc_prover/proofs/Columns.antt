-- Rows without columns of zeros: their sums, and whether they are contradictions, stay the same.
use Rattle.std.proofs.Common.{◌≡◌, ◌∙◌, sym, ap, refl, subst, ℕ, suc, ◌-◌, ◌≤◌, ◌==◌, ◌&&◌, cond, ℤ, pos, int_lt, unsigned_abs, Bool, true, false, List, [], ◌∷◌, ◌++◌, length, map, take, fold, Some, None, arith}
use Rattle.std.specs.Prelude.{slice_index_or}
use Rattle.std.specs.Int.{int_div_euclid}
use Rattle.std.specs.Ordering.{int_eq}
use Rattle.std.proofs.Math.Nat.{zero-div}
use Rattle.std.proofs.lemmas.Bool.{and_parts, and_from, or_parts, cond_both, cond-true, cond-false}
use Rattle.std.proofs.lemmas.Int.{ints}
use Rattle.std.proofs.lemmas.List.{get_or_push, length-append, map-append}
use Rattle.std.proofs.lemmas.List.Folds.{list_all-append}
use Rattle.std.proofs.lemmas.Option.{cond_some}
use Rattle.std.specs.List.{AllByRecursion, filter, list_all, list_any}
use Rattle.math_terms.specs.declared.term.Term.{Term}
use Rattle.math_terms.specs.Heads.{same_term}
use Rattle.num_theory.specs.Rows.{coefficients, combined, combined_number, divisor, gcd, reduced}
use Rattle.num_theory.specs.Lines.{all_narrow, constant, is_contradiction, narrow, sum_of}
use Rattle.num_theory.specs.Linear.{Product}
use Rattle.num_theory.specs.Naming.{columns, occurs}
use Rattle.num_theory.specs.Table.{Sum, coefficient, row_of}

-- the numbers in the columns that stay
abbrev pub thin : List Bool → List ℤ → List ℤ
thin [] xs = []
thin (b ∷ bs) [] = []
thin (true ∷ bs) (x ∷ xs) = x ∷ thin bs xs
thin (false ∷ bs) (x ∷ xs) = thin bs xs

-- the others are 0
abbrev pub Clear : List Bool → List ℤ → Type 0
Clear [] [] = Unit {0}
Clear [] (x ∷ xs) = ⊥
Clear (b ∷ bs) [] = ⊥
Clear (b ∷ bs) (x ∷ xs) = (b ≡ false → x ≡ pos 0) × Clear bs xs

-- a row, with its constant, and the same without columns
pub record Thins (bs : List Bool) (r t : List ℤ) : Type 0 where
  pub numbers : List ℤ
  pub last : ℤ
  pub is : r ≡ numbers ++ last ∷ []
  pub clear : Clear bs numbers
  pub thinned : t ≡ thin bs numbers ++ last ∷ []

combined_zero : (p q : ℕ) → combined_number p (pos 0) q (pos 0) ≡ pos 0
combined_zero p q = omega (arith, ints)

same_length : (bs : List Bool) (xs : List ℤ) → Clear bs xs → length xs ≡ length bs
same_length [] [] h = refl
same_length [] (x ∷ xs) h = absurd h
same_length (b ∷ bs) [] h = absurd h
same_length (b ∷ bs) (x ∷ xs) h = ap suc (same_length bs xs h.1)

module _ (p q : ℕ) where
  combined_clear : (bs : List Bool) (xs ys : List ℤ) → Clear bs xs → Clear bs ys → Clear bs (combined p xs q ys)
  combined_clear [] [] [] h k = tt
  combined_clear [] [] (y ∷ ys) h k = absurd k
  combined_clear [] (x ∷ xs) ys h k = absurd h
  combined_clear (b ∷ bs) [] ys h k = absurd h
  combined_clear (b ∷ bs) (x ∷ xs) [] h k = absurd k
  combined_clear (b ∷ bs) (x ∷ xs) (y ∷ ys) h k = (λ e. (λ i. combined_number p (h.0 e i) q (k.0 e i)) ∙ combined_zero p q, combined_clear bs xs ys h.1 k.1)

  combined_thin : (bs : List Bool) (xs ys : List ℤ) → Clear bs xs → Clear bs ys → thin bs (combined p xs q ys) ≡ combined p (thin bs xs) q (thin bs ys)
  combined_thin [] xs ys h k = refl
  combined_thin (b ∷ bs) [] ys h k = absurd h
  combined_thin (b ∷ bs) (x ∷ xs) [] h k = absurd k
  combined_thin (true ∷ bs) (x ∷ xs) (y ∷ ys) h k = ap (λ zs. combined_number p x q y ∷ zs) (combined_thin bs xs ys h.1 k.1)
  combined_thin (false ∷ bs) (x ∷ xs) (y ∷ ys) h k = combined_thin bs xs ys h.1 k.1

  pub combined_push : (xs ys : List ℤ) (c d : ℤ) → length xs ≡ length ys → combined p (xs ++ c ∷ []) q (ys ++ d ∷ []) ≡ combined p xs q ys ++ combined_number p c q d ∷ []
  combined_push [] [] c d e = refl
  combined_push [] (y ∷ ys) c d e = absurd (omega arith)
  combined_push (x ∷ xs) [] c d e = absurd (omega arith)
  combined_push (x ∷ xs) (y ∷ ys) c d e = ap (λ zs. combined_number p x q y ∷ zs) (combined_push xs ys c d (omega arith))

  combined_length : (xs ys : List ℤ) → length xs ≡ length ys → length (combined p xs q ys) ≡ length xs
  combined_length [] ys e = refl
  combined_length (x ∷ xs) [] e = absurd (omega arith)
  combined_length (x ∷ xs) (y ∷ ys) e = ap suc (combined_length xs ys (omega arith))

narrow_thin : (bs : List Bool) (xs : List ℤ) → all_narrow xs ≡ true → all_narrow (thin bs xs) ≡ true
narrow_thin [] xs h = refl
narrow_thin (b ∷ bs) [] h = refl
narrow_thin (true ∷ bs) (x ∷ xs) h = let parts = and_parts (narrow x) (all_narrow xs) h in and_from (narrow x) (all_narrow (thin bs xs)) parts.0 (narrow_thin bs xs parts.1)
narrow_thin (false ∷ bs) (x ∷ xs) h = narrow_thin bs xs (and_parts (narrow x) (all_narrow xs) h).1

zeros_thin : (bs : List Bool) (xs : List ℤ) → list_all (λ z. int_eq z (pos 0)) xs ≡ true → list_all (λ z. int_eq z (pos 0)) (thin bs xs) ≡ true
zeros_thin [] xs h = refl
zeros_thin (b ∷ bs) [] h = refl
zeros_thin (true ∷ bs) (x ∷ xs) h =
    let parts = and_parts (int_eq x (pos 0)) (list_all (λ z. int_eq z (pos 0)) xs) h in
    and_from (int_eq x (pos 0)) (list_all (λ z. int_eq z (pos 0)) (thin bs xs)) parts.0 (zeros_thin bs xs parts.1)
zeros_thin (false ∷ bs) (x ∷ xs) h = zeros_thin bs xs (and_parts (int_eq x (pos 0)) (list_all (λ z. int_eq z (pos 0)) xs) h).1

abbrev pub divisor_from : ℕ → List ℤ → ℕ
divisor_from g xs = fold (λ g z. gcd g (unsigned_abs z)) g xs

divisor_thin : (bs : List Bool) (xs : List ℤ) (g : ℕ) → Clear bs xs → divisor_from g (thin bs xs) ≡ divisor_from g xs
unfolding gcd
divisor_thin [] [] g h = refl
divisor_thin [] (x ∷ xs) g h = absurd h
divisor_thin (b ∷ bs) [] g h = absurd h
divisor_thin (true ∷ bs) (x ∷ xs) g h = divisor_thin bs xs (gcd g (unsigned_abs x)) h.1
divisor_thin (false ∷ bs) (x ∷ xs) g h = divisor_thin bs xs g h.1 ∙ ap (λ z. divisor_from (gcd g (unsigned_abs z)) xs) (sym (h.0 refl))

map_thin : (f : ℤ → ℤ) (bs : List Bool) (xs : List ℤ) → thin bs (map f xs) ≡ map f (thin bs xs)
map_thin f [] xs = refl
map_thin f (b ∷ bs) [] = refl
map_thin f (true ∷ bs) (x ∷ xs) = ap (λ ys. f x ∷ ys) (map_thin f bs xs)
map_thin f (false ∷ bs) (x ∷ xs) = map_thin f bs xs

map_clear : (f : ℤ → ℤ) → f (pos 0) ≡ pos 0 → (bs : List Bool) (xs : List ℤ) → Clear bs xs → Clear bs (map f xs)
map_clear f zeros [] [] h = tt
map_clear f zeros [] (x ∷ xs) h = absurd h
map_clear f zeros (b ∷ bs) [] h = absurd h
map_clear f zeros (b ∷ bs) (x ∷ xs) h = (λ e. ap f (h.0 e) ∙ zeros, map_clear f zeros bs xs h.1)

take_front : (xs : List ℤ) (c : ℤ) → take (length xs) (xs ++ c ∷ []) ≡ xs
take_front [] c = refl
take_front (x ∷ xs) c = ap (λ ys. x ∷ ys) (take_front xs c)

pub coefficients_are : (xs : List ℤ) (c : ℤ) → coefficients (xs ++ c ∷ []) ≡ xs
coefficients_are xs c = let e : length (xs ++ c ∷ []) - 1 ≡ length xs = omega (arith, length-append xs (c ∷ [])) in ap (λ n. take n (xs ++ c ∷ [])) e ∙ take_front xs c

pub constant_is : (xs : List ℤ) (c : ℤ) → constant (xs ++ c ∷ []) ≡ c
constant_is xs c = let e : length (xs ++ c ∷ []) - 1 ≡ length xs = omega (arith, length-append xs (c ∷ [])) in ap (λ n. slice_index_or (xs ++ c ∷ []) n (pos 0)) e ∙ get_or_push xs c (pos 0) (length xs) refl

-- each number, divided by the divisor of the coefficients
abbrev pub shared : ℕ → ℤ → ℤ
shared d z = cond (d == 0) z (int_div_euclid z (pos d))

pub reduced_is : (row : List ℤ) → reduced row ≡ map (shared (divisor row)) row
reduced_is row = at (divisor row == 0)
  where
    map_same : (xs : List ℤ) → xs ≡ map (λ z. z) xs
    map_same [] = refl
    map_same (x ∷ xs) = ap (λ ys. x ∷ ys) (map_same xs)

    at : (b : Bool) → cond b row (map (λ z. int_div_euclid z (pos (divisor row))) row) ≡ map (λ z. cond b z (int_div_euclid z (pos (divisor row)))) row
    at true = map_same row
    at false = refl

shared_zero : (d : ℕ) → shared d (pos 0) ≡ pos 0
shared_zero d = cond_both (d == 0) (pos 0) (int_div_euclid (pos 0) (pos d)) (λ z. z ≡ pos 0) (λ _. refl) (λ _. ap pos (zero-div d))

module _ (bs : List Bool) where
  pub reduced_thins : (r t : List ℤ) → Thins bs r t → Thins bs (reduced r) (reduced t)
  reduced_thins r t h =
      let xs : List ℤ = h.numbers in
      let d : ℕ = divisor_from 0 xs in
      let of_row : divisor r ≡ d = ap (λ row. divisor_from 0 (coefficients row)) h.is ∙ ap (divisor_from 0) (coefficients_are xs h.last) in
      let of_thin : divisor t ≡ d = ap (λ row. divisor_from 0 (coefficients row)) h.thinned ∙ (ap (divisor_from 0) (coefficients_are (thin bs xs) h.last) ∙ divisor_thin bs xs 0 h.clear) in
      record {
        numbers = map (shared d) xs;
        last = shared d h.last;
        is = reduced_is r ∙ ((λ i. map (shared (of_row i)) (h.is i)) ∙ map-append (shared d) xs (h.last ∷ []));
        clear = map_clear (shared d) (shared_zero d) bs xs h.clear;
        thinned = reduced_is t ∙ ((λ i. map (shared (of_thin i)) (h.thinned i)) ∙ (map-append (shared d) (thin bs xs) (h.last ∷ []) ∙ ap (λ ys. ys ++ shared d h.last ∷ []) (sym (map_thin (shared d) bs xs))));
      }

  combined_thins : (p q : ℕ) (a b a' b' : List ℤ) → Thins bs a a' → Thins bs b b' → Thins bs (combined p a q b) (combined p a' q b')
  combined_thins p q a b a' b' h k =
      let xs : List ℤ = h.numbers in
      let ys : List ℤ = k.numbers in
      let long : length xs ≡ length ys = same_length bs xs h.clear ∙ sym (same_length bs ys k.clear) in
      let short : length (thin bs xs) ≡ length (thin bs ys) = thin_length bs xs ys h.clear k.clear in
      record {
        numbers = combined p xs q ys;
        last = combined_number p h.last q k.last;
        is = (λ i. combined p (h.is i) q (k.is i)) ∙ combined_push p q xs ys h.last k.last long;
        clear = combined_clear p q bs xs ys h.clear k.clear;
        thinned = (λ i. combined p (h.thinned i) q (k.thinned i)) ∙ (combined_push p q (thin bs xs) (thin bs ys) h.last k.last short ∙ ap (λ zs. zs ++ combined_number p h.last q k.last ∷ []) (sym (combined_thin p q bs xs ys h.clear k.clear)));
      }
    where
      thin_length : (bs : List Bool) (xs ys : List ℤ) → Clear bs xs → Clear bs ys → length (thin bs xs) ≡ length (thin bs ys)
      thin_length [] xs ys h k = refl
      thin_length (b ∷ bs) [] ys h k = absurd h
      thin_length (b ∷ bs) (x ∷ xs) [] h k = absurd k
      thin_length (true ∷ bs) (x ∷ xs) (y ∷ ys) h k = ap suc (thin_length bs xs ys h.1 k.1)
      thin_length (false ∷ bs) (x ∷ xs) (y ∷ ys) h k = thin_length bs xs ys h.1 k.1

  narrow_thins : (r t : List ℤ) → Thins bs r t → all_narrow r ≡ true → all_narrow t ≡ true
  narrow_thins r t h small =
      let parts = and_parts (all_narrow h.numbers) (narrow h.last && true) (sym (ap all_narrow h.is ∙ list_all-append narrow h.numbers (h.last ∷ [])) ∙ small) in
      ap all_narrow h.thinned ∙ (list_all-append narrow (thin bs h.numbers) (h.last ∷ []) ∙ and_from (all_narrow (thin bs h.numbers)) (narrow h.last && true) (narrow_thin bs h.numbers parts.0) parts.1)

  -- a sum without the columns
  pub record Summed (p q : ℕ) (a' b' r : List ℤ) : Type 0 where
    pub sum : List ℤ
    pub is : sum_of p a' q b' ≡ Some sum
    pub thins : Thins bs r sum

  pub sum_thins : (p q : ℕ) (a b a' b' r : List ℤ) → Thins bs a a' → Thins bs b b' → sum_of p a q b ≡ Some r → Summed p q a' b' r
  sum_thins p q a b a' b' r h k e =
      let made = cond_some (all_narrow (combined p a q b)) (reduced (combined p a q b)) r e in
      let both = combined_thins p q a b a' b' h k in
      record {
        sum = reduced (combined p a' q b');
        is = cond-true (all_narrow (combined p a' q b')) (Some (reduced (combined p a' q b'))) None (narrow_thins (combined p a q b) (combined p a' q b') both made.0);
        thins = subst (λ s. Thins bs s (reduced (combined p a' q b'))) made.1 (reduced_thins (combined p a q b) (combined p a' q b') both);
      }

  pub contradiction_thins : (r t : List ℤ) → Thins bs r t → is_contradiction r ≡ true → is_contradiction t ≡ true
  contradiction_thins r t h ends =
      let zeros : List ℤ → Bool = λ zs. list_all (λ z. int_eq z (pos 0)) zs in
      let parts = and_parts (zeros (coefficients (h.numbers ++ h.last ∷ []))) (int_lt (constant (h.numbers ++ h.last ∷ [])) (pos 0)) (ap is_contradiction (sym h.is) ∙ ends) in
      let none : zeros h.numbers ≡ true = ap zeros (sym (coefficients_are h.numbers h.last)) ∙ parts.0 in
      let below : int_lt h.last (pos 0) ≡ true = ap (λ z. int_lt z (pos 0)) (sym (constant_is h.numbers h.last)) ∙ parts.1 in
      ap is_contradiction h.thinned
      ∙ and_from (zeros (coefficients (thin bs h.numbers ++ h.last ∷ []))) (int_lt (constant (thin bs h.numbers ++ h.last ∷ [])) (pos 0))
      (ap zeros (coefficients_are (thin bs h.numbers) h.last) ∙ zeros_thin bs h.numbers none)
      (ap (λ z. int_lt z (pos 0)) (constant_is (thin bs h.numbers) h.last) ∙ below)

-- the columns of the atoms that occur in the named rows
thin_one : (b : Bool) (bs : List Bool) (f : Term → ℤ) (t : Term) (xs : List ℤ) (ts : List Term) → thin bs xs ≡ map f ts → thin (b ∷ bs) (f t ∷ xs) ≡ map f (cond b (t ∷ ts) ts)
thin_one true bs f t xs ts e = ap (λ ys. f t ∷ ys) e
thin_one false bs f t xs ts e = e

thin_map : (keep : Term → Bool) (f : Term → ℤ) (atoms : List Term) → thin (map keep atoms) (map f atoms) ≡ map f (filter keep atoms)
thin_map keep f [] = refl
thin_map keep f (t ∷ ts) = thin_one (keep t) (map keep ts) f t (map f ts) (filter keep ts) (thin_map keep f ts)

clear_map : (keep : Term → Bool) (f : Term → ℤ) → ((t : Term) → keep t ≡ false → f t ≡ pos 0) → (atoms : List Term) → Clear (map keep atoms) (map f atoms)
clear_map keep f zeros [] = tt
clear_map keep f zeros (t ∷ ts) = (zeros t, clear_map keep f zeros ts)

absent_zero : (t : Term) (ps : List Product) → list_any (λ p. same_term t p.1) ps ≡ false → coefficient t ps ≡ pos 0
absent_zero t [] h = refl
absent_zero t (p ∷ ps) h =
    let parts = or_parts (same_term t p.1) (list_any (λ p. same_term t p.1) ps) h in
    cond-false (same_term t p.1) p.0 (coefficient t ps) parts.0 ∙ absent_zero t ps parts.1

-- what a row mentions occurs in each list with the row
abbrev Mentions : List Sum → Sum → Type 0
Mentions named s = (t : Term) → occurs named t ≡ false → list_any (λ p. same_term t p.1) s.products ≡ false

mentions_more : (r : Sum) (named ss : List Sum) → AllByRecursion (Mentions named) ss → AllByRecursion (Mentions (r ∷ named)) ss
mentions_more r named [] h = tt
mentions_more r named (s ∷ ss) h =
    ((λ t e. h.0 t (or_parts (list_any (λ p. same_term t p.1) r.products) (occurs named t) e).1), mentions_more r named ss h.1)

all_mention : (named : List Sum) → AllByRecursion (Mentions named) named
all_mention [] = tt
all_mention (r ∷ rs) = ((λ t e. (or_parts (list_any (λ p. same_term t p.1) r.products) (occurs rs t) e).0), mentions_more r rs rs (all_mention rs))

row_thins : (atoms : List Term) (named : List Sum) (s : Sum) → Mentions named s → Thins (map (occurs named) atoms) (row_of atoms s) (row_of (columns atoms named) s)
row_thins atoms named s mentions =
    let f : Term → ℤ = λ t. coefficient t s.products in
    reduced_thins (map (occurs named) atoms) (map f atoms ++ s.constant ∷ []) (map f (columns atoms named) ++ s.constant ∷ [])
    (record {
      numbers = map f atoms;
      last = s.constant;
      is = refl;
      clear = clear_map (occurs named) f (λ t e. absent_zero t s.products (mentions t e)) atoms;
      thinned = ap (λ ys. ys ++ s.constant ∷ []) (sym (thin_map (occurs named) f atoms));
    })

each_thins : (atoms : List Term) (named ss : List Sum) → AllByRecursion (Mentions named) ss → AllByRecursion (λ s. Thins (map (occurs named) atoms) (row_of atoms s) (row_of (columns atoms named) s)) ss
each_thins atoms named [] h = tt
each_thins atoms named (s ∷ ss) h = (row_thins atoms named s h.0, each_thins atoms named ss h.1)

-- The named rows stand without the columns of the atoms that do not occur in them.
pub named_thin : (atoms : List Term) (named : List Sum) → AllByRecursion (λ s. Thins (map (occurs named) atoms) (row_of atoms s) (row_of (columns atoms named) s)) named
named_thin atoms named = each_thins atoms named named (all_mention named)

pub columns_few : (keep : Term → Bool) (atoms : List Term) → length (filter keep atoms) ≤ length atoms
columns_few keep [] = omega arith
columns_few keep (t ∷ ts) =
    cond_both (keep t) (t ∷ filter keep ts) (filter keep ts) (λ xs. length xs ≤ suc (length ts)) (λ _. omega (arith, columns_few keep ts)) (λ _. omega (arith, columns_few keep ts))
