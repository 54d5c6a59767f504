-- Room for sequents of so many nodes.
use Rattle.std.proofs.Common.{◌≡◌, ℕ, ◌+◌, ◌*◌, ◌<◌, ◌≤◌, ◌⊎◌, List, [], ◌∷◌, ◌++◌, length, map, drop, take, sum, ⊎_elim, length-append, arith}
use Rattle.std.proofs.lemmas.List.{length-take-le}
use Rattle.std.proofs.lemmas.List.Sums.{sum_by-cons}
use Rattle.math_terms.specs.declared.term.Term.{Term}
use Rattle.math_terms.specs.Terms.{nodes}
use Rattle.cell_rows.specs.working.Small.{Small}

-- each term of a list has at most as many nodes as all of them
pub small_by_sum : (most : ℕ) (ts : List Term) → sum (map nodes ts) ≤ most → Small most ts
small_by_sum most [] h = tt
small_by_sum most (t ∷ ts) h =
    let all : sum (map nodes (t ∷ ts)) ≡ nodes t + sum (map nodes ts) = sum_by-cons (λ n. n) (nodes t) (map nodes ts) in
    (omega (arith, h, all), small_by_sum most ts (omega (arith, h, all)))

pub small_sequent : (hs : List Term) (g : Term) → Small (sum (map nodes hs) + nodes g) (g ∷ hs)
small_sequent hs g = (omega arith, small_by_sum (sum (map nodes hs) + nodes g) hs (omega arith))

-- a vector that is written over in place keeps its length
pub written_over : {A : Type 0} (n : ℕ) (old new : List A) → n ≡ length old → length new ≡ length old → length (take n (new ++ drop (length new) old)) ≡ length old
written_over n old new e same =
    let room : n ≤ length (new ++ drop (length new) old) = omega (arith, e, same, length-append new (drop (length new) old)) in
    omega (arith, e, length-take-le n (new ++ drop (length new) old) room)

-- room for so many nodes is short only where there are more
pub too_small : (n marks rows most k : ℕ) → marks ≡ n → n < 64 * rows + 64 → (marks < most) ⊎ (rows < k) → n < most + 64 * k
too_small n marks rows most k e l = ⊎_elim (λ h. omega arith) (λ h. omega arith)
