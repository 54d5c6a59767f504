-- Each sequent has leaves, and the work to find them comes to an end.
use Rattle.std.proofs.Common.{◌≡◌, refl, ℕ, zero, suc, ◌*◌, ◌<◌, ◌≤◌, List, [], ◌∷◌, ◌++◌, length, Option, Some, None, sum_by, arith}
use Rattle.std.specs.List.{AllByRecursion}
use Rattle.vc_sequents.specs.declared.sequent.Sequent.{Sequent}
use Rattle.vc_sequents.specs.Ending.{SplitsEnd, size, tripled, work}
use Rattle.vc_sequents.specs.Splitting.{Leaves, LeavesOfAll, branch, leaf, more, none, split_of}
use Rattle.vc_sequents.proofs.Weights.{split_at_smaller, split_smaller}

abbrev HasLeaves : Sequent → Type 0
HasLeaves s = (ls : List Sequent) × Leaves s ls

abbrev HaveLeaves : List Sequent → Type 0
HaveLeaves ss = (ls : List Sequent) × LeavesOfAll ss ls

have_leaves_below : (n : ℕ) → ((s : Sequent) → size s < n → HasLeaves s) → (ss : List Sequent) → AllByRecursion (λ t. size t < n) ss → HaveLeaves ss
have_leaves_below n has [] h = ([], none)
have_leaves_below n has (t ∷ ts) h =
    let first = has t h.0 in
    let others = have_leaves_below n has ts h.1 in
    (first.0 ++ others.0, more t ts first.0 others.0 first.1 others.1)

all_below : (m n : ℕ) (ss : List Sequent) → m ≤ n → AllByRecursion (λ t. size t < m) ss → AllByRecursion (λ t. size t < n) ss
all_below m n [] le h = tt
all_below m n (t ∷ ts) le h = (omega (arith, h.0), all_below m n ts le h.1)

from_split : (s : Sequent) (n : ℕ) → ((ss : List Sequent) → AllByRecursion (λ t. size t < n) ss → HaveLeaves ss) → size s ≤ n → (o : Option (List Sequent)) → split_of s ≡ o → HasLeaves s
from_split s n have le None e = (s ∷ [], leaf s e)
from_split s n have le (Some ss) e =
    let parts = have ss (all_below (size s) n ss le (split_smaller s ss e).smaller) in
    (parts.0, branch s ss parts.0 e parts.1)

has_leaves_below : (n : ℕ) (s : Sequent) → size s < n → HasLeaves s
has_leaves_below zero s h = absurd (omega arith)
has_leaves_below (suc n) s h = from_split s n (have_leaves_below n (has_leaves_below n)) (omega arith) (split_of s) refl

pub has_leaves : (s : Sequent) → HasLeaves s
has_leaves s = has_leaves_below (suc (size s)) s (omega arith)

pub have_leaves : (ss : List Sequent) → HaveLeaves ss
have_leaves [] = ([], none)
have_leaves (t ∷ ts) =
    let first = has_leaves t in
    let others = have_leaves ts in
    (first.0 ++ others.0, more t ts first.0 others.0 first.1 others.1)

one_le : (n : ℕ) → 1 ≤ tripled n
unfolding tripled
one_le zero = omega arith
one_le (suc n) = omega (arith, one_le n)

tripled_le : (m n : ℕ) → m ≤ n → tripled m ≤ tripled n
unfolding tripled
tripled_le zero n h = one_le n
tripled_le (suc m) zero h = absurd (omega arith)
tripled_le (suc m) (suc n) h = omega (arith, tripled_le m n (omega arith))

three_below : (m n : ℕ) → m < n → 3 * tripled m ≤ tripled n
unfolding tripled
three_below m zero h = absurd (omega arith)
three_below m (suc n) h = omega (arith, tripled_le m n (omega arith))

few_less_work : (n : ℕ) (ss : List Sequent) → AllByRecursion (λ t. size t < n) ss → length ss ≤ 2 → sum_by work ss < tripled n
unfolding work
few_less_work n [] h few = omega (arith, one_le n)
few_less_work n (t ∷ []) h few = omega (arith, one_le n, three_below (size t) n h.0)
few_less_work n (t ∷ u ∷ []) h few = omega (arith, one_le n, three_below (size t) n h.0, three_below (size u) n h.1.0)
few_less_work n (t ∷ u ∷ v ∷ ss) h few = absurd (omega arith)

pub some_work : (s : Sequent) → 1 ≤ work s
unfolding work
some_work s = one_le (size s)

pub split_less_work : (s : Sequent) (ss : List Sequent) → split_of s ≡ Some ss → sum_by work ss < work s
unfolding work
split_less_work s ss e = let small = split_smaller s ss e in few_less_work (size s) ss small.smaller small.few

pub splits_end : SplitsEnd
unfolding work
splits_end = record {
  some = some_work;
  few = λ s k ss e. (split_at_smaller s k ss e).few;
  less = λ s k ss e. let small = split_at_smaller s k ss e in few_less_work (size s) ss small.smaller small.few;
}
