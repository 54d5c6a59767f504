-- Counting that stops at a bound.
use Rattle.std.proofs.Common.{◌≡◌, ◌∙◌, sym, ap, refl, ℕ, ◌+◌, ◌==◌, min, Bool, true, false, List, [], ◌∷◌, map, sum, sum_by, if◌then◌else◌, arith}
use Rattle.std.proofs.lemmas.List.Sums.{sum_by-cons, sum-map}
use Rattle.math_terms.specs.declared.term.Term.{Term}
use Rattle.math_terms.specs.declared.term.Term.TheOpen.{Term-F}
use Rattle.math_terms.specs.declared.term.Term.TheVariants.{Tuple, rolls-Tuple}
use Rattle.math_terms.specs.declared.term.Term.TheFolds.{map-Term, fold-Term, fold-roll-Term}
use Rattle.math_terms.specs.Terms.{nodes, nodes_step, put, nodes_with, nodes_with_step, count_step, count_up_to}
use Rattle.math_terms.specs.Heads.{children}
use Rattle.math_terms.proofs.Folds.{fold_fusion}
use Rattle.math_terms.proofs.Heads.{nodes_of_node}
use Rattle.math_terms.proofs.SameTerms.{mapped_heads}
use Rattle.math_terms.proofs.Putting.{nodes_put}

capped_sum : (m : ℕ) (xs : List ℕ) → min (sum xs) (m + 1) ≡ min (sum (map (λ x. min x (m + 1)) xs)) (m + 1)
capped_sum m [] = refl
capped_sum m (x ∷ xs) =
    omega (arith, capped_sum m xs, sum_by-cons (λ k. k) x xs, sum_by-cons (λ k. k) (min x (m + 1)) (map (λ k. min k (m + 1)) xs))

capped_var : (m n : ℕ) (b : Bool) → min (if b then n else 1) (m + 1) ≡ min (if b then min n (m + 1) else 1) (m + 1)
capped_var m n true = omega arith
capped_var m n false = refl

pub capped : (m : ℕ) (x : Term-F ℕ) → min (nodes_step x) (m + 1) ≡ min (nodes_step (map-Term ℕ ℕ (λ k. min k (m + 1)) x)) (m + 1)
capped m x =
    let kids = ap sum (mapped_heads (λ k. min k (m + 1)) x).2 in
    omega (arith, nodes_of_node x, nodes_of_node (map-Term ℕ ℕ (λ k. min k (m + 1)) x), kids, capped_sum m (children x))

capped_step : (v m n : ℕ) (x : Term-F ℕ) → min (nodes_with_step v n x) (m + 1) ≡ count_step v (min n (m + 1)) m (map-Term ℕ ℕ (λ k. min k (m + 1)) x)
capped_step v m n (Term-F.Var k) = capped_var m n (k == v)
capped_step v m n x = capped m x

pub count_up_to_is : (v n m : ℕ) (t : Term) → count_up_to v (min n (m + 1)) m t ≡ min (nodes_with v n t) (m + 1)
count_up_to_is v n m t = sym (fold_fusion (nodes_with_step v n) (count_step v (min n (m + 1)) m) (λ k. min k (m + 1)) (capped_step v m n) t)

either : (b : Bool) (n : ℕ) → (if b then n else n) ≡ n
either true n = refl
either false n = refl

nodes_with_one_step : (v : ℕ) (x : Term-F ℕ) → nodes_with_step v 1 x ≡ nodes_step x
nodes_with_one_step v (Term-F.Var k) = either (k == v) 1
nodes_with_one_step v x = refl

nodes_with_one : (v : ℕ) (t : Term) → nodes_with v 1 t ≡ nodes t
nodes_with_one v t = λ i. fold-Term ℕ (λ x. nodes_with_one_step v x i) t

-- the count of a term's nodes
pub count_up_to_nodes : (v m : ℕ) (t : Term) → count_up_to v 1 m t ≡ min (nodes t) (m + 1)
count_up_to_nodes v m t =
    let e : min 1 (m + 1) ≡ 1 = omega arith in
    ap (λ n. count_up_to v n m t) (sym e) ∙ count_up_to_is v 1 m t ∙ ap (λ n. min n (m + 1)) (nodes_with_one v t)

-- the count of the nodes that a substitution makes
pub count_up_to_put : (v m : ℕ) (by t : Term) → count_up_to v (min (nodes by) (m + 1)) m t ≡ min (nodes (put v by t)) (m + 1)
count_up_to_put v m by t = count_up_to_is v (nodes by) m t ∙ ap (λ n. min n (m + 1)) (sym (nodes_put v by t))

-- the count of a tuple
pub count_up_to_tuple : (v n m : ℕ) (parts : List Term) → count_up_to v n m (Tuple parts) ≡ min (1 + sum_by (count_up_to v n m) parts) (m + 1)
count_up_to_tuple v n m parts =
    ap (count_up_to v n m) (sym (rolls-Tuple parts))
    ∙ fold-roll-Term ℕ (count_step v n m) (Term-F.Tuple parts)
    ∙ ap (λ k. min (1 + k) (m + 1)) (sum-map (count_up_to v n m) parts)
