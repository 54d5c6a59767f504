-- How many combinations there are at most, and what each of them is.
use Rattle.std.proofs.Common.{◌≡◌, ◌∙◌, sym, subst, ℕ, zero, suc, ◌+◌, ◌*◌, ◌<◌, ◌≤◌, true, List, [], ◌∷◌, ◌++◌, length, reverse, get_or, ℤ, Some, ⊎_elim, arith}
use Rattle.std.proofs.lemmas.Bool.{cases_lt}
use Rattle.std.proofs.lemmas.List.{get_or_append_left, get_or_push, length-reverse, length_push, reverse-append, reverse-reverse}
use Rattle.std.proofs.lemmas.List.Sums.{count_by-le-length, length-filter}
use Rattle.num_theory.specs.Lines.{is_contradiction}
use Rattle.linear_prover.specs.declared.rows_in_hand.Combination.{Combination}
use Rattle.linear_prover.specs.Elimination.{Numbered, Search, Going, Refuted, Over, combination, eliminate, eliminate_from, going, is_without}
use Rattle.linear_prover.specs.working.Eliminating.{AreUsable, IsUsable}
use Rattle.linear_prover.proofs.Going.{Keeps, keeps_eliminate, row_of}
use Rattle.linear_prover.proofs.Making.{AreMade}

-- one list has at most 4,096 rows, and each combination has made one of them
pub record IsCounted (limit : ℕ) (rows : List Numbered) (made : List Combination) : Type 0 where
  pub few : length rows ≤ 4096
  pub bound : length made + 4096 ≤ limit + length rows

pub record IsWithin (limit : ℕ) (made : List Combination) : Type 0 where
  pub within : length made ≤ limit

abbrev pub Any : List Combination → Numbered → Type 0
Any made r = Unit {0}

module _ (n limit : ℕ) where
  counted_more : (k : ℕ) (a b : Numbered) (rows : List Numbered) (made : List Combination) (row : List ℤ) → Any made a → Any made b → IsCounted limit rows made → row_of k a b ≡ Some row →
      length rows < 4096 → IsCounted limit (rows ++ (n + length made, row) ∷ []) (made ++ combination k a b ∷ [])
  counted_more k a b rows made row first second h is room = record {
    few = omega (arith, length_push rows (n + length made, row));
    bound = omega (arith, h.bound, length_push rows (n + length made, row), length_push made (combination k a b));
  }

  counted_last : (k : ℕ) (a b : Numbered) (rows : List Numbered) (made : List Combination) (row : List ℤ) → Any made a → Any made b → IsCounted limit rows made → row_of k a b ≡ Some row →
      length rows < 4096 → is_contradiction row ≡ true → IsWithin limit (made ++ combination k a b ∷ [])
  counted_last k a b rows made row first second h is room ends = record { within = omega (arith, h.bound, length_push made (combination k a b)) }

  counted_eliminate : (k : ℕ) (rows : List Numbered) (made : List Combination) → length rows ≤ 4096 → length made + 4096 ≤ limit →
      Keeps (IsCounted limit) Any (IsWithin limit) made (eliminate n k rows made)
  counted_eliminate k rows made few bound =
      keeps_eliminate n (IsCounted limit) Any (IsWithin limit) counted_more counted_last (λ c made r h. tt) k rows made (λ k d within. tt)
      record {
        few = omega (arith, length-filter (is_without k) rows, count_by-le-length (is_without k) rows);
        bound = omega arith;
      }

-- a search that refutes has so many combinations at most
abbrev pub IsBounded : ℕ → Search → Type 0
IsBounded limit (Going rows made) = Unit {0}
IsBounded limit (Refuted made) = length made ≤ limit
IsBounded limit Over = Unit {0}

bounded_going : (less limit : ℕ) (before : List Combination) (s : Search) (next : List Numbered → List Combination → Search) → less ≤ limit → Keeps (IsCounted less) Any (IsWithin less) before s →
    ((rows : List Numbered) (made : List Combination) → IsCounted less rows made → IsBounded limit (next rows made)) → IsBounded limit (going s next)
bounded_going less limit before (Going rows made) next below h step = step rows made h.0
bounded_going less limit before (Refuted made) next below h step = omega (arith, h.within)
bounded_going less limit before Over next below h step = tt

pub bounded_from : (n atoms k limit : ℕ) (rows : List Numbered) (made : List Combination) → length rows ≤ 4096 → length made + atoms * 4096 ≤ limit →
    IsBounded limit (eliminate_from n atoms k rows made)
bounded_from n zero k limit rows made few bound = tt
bounded_from n (suc atoms) k limit rows made few bound =
    bounded_going (length made + 4096) limit made (eliminate n k rows made) (eliminate_from n atoms (k + 1)) (omega arith)
    (counted_eliminate n (length made + 4096) k rows made few (omega arith))
    (λ rows' made' h. bounded_from n atoms (k + 1) limit rows' made' h.few (omega (arith, h.few, h.bound)))

usable_at : (all : List (List ℤ)) (n : ℕ) (cs : List Combination) → AreMade all n cs → (k : ℕ) (d : Combination) → k < length cs → IsUsable n k (get_or (reverse cs) k d)
usable_at all n [] h k d within = absurd (omega arith)
usable_at all n (c ∷ cs) h k d within =
    let turned : reverse (c ∷ cs) ≡ reverse cs ++ c ∷ [] = reverse-append (c ∷ []) cs in
    subst (λ rs. IsUsable n k (get_or rs k d)) (sym turned)
    (⊎_elim
    (λ before. subst (IsUsable n k) (sym (get_or_append_left (reverse cs) (c ∷ []) d k (omega (arith, length-reverse cs)))) (usable_at all n cs h.1 k d before))
    (λ here.
    let same : length cs ≡ k = omega arith in
    subst (IsUsable n k) (sym (get_or_push (reverse cs) c d k (length-reverse cs ∙ same)))
    (subst (λ m. IsUsable n m c) same
    record { first_factor = h.0.first_factor; second_factor = h.0.second_factor; first_row = h.0.first_row; second_row = h.0.second_row }))
    (cases_lt k (length cs)))

pub usable_from : (all : List (List ℤ)) (n : ℕ) (made : List Combination) → AreMade all n (reverse made) → AreUsable n made
usable_from all n made h = λ k d within.
    subst (λ cs. IsUsable n k (get_or cs k d)) (reverse-reverse made) (usable_at all n (reverse made) h k d (omega (arith, length-reverse made)))
