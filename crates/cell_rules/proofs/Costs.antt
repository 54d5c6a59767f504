-- A child has fewer nodes than its node.
use Rattle.std.proofs.Common.{◌≡◌, ◌∙◌, ap, refl, ℕ, zero, suc, ◌+◌, ◌<◌, ◌≤◌, length, List, [], ◌∷◌, map, sum, Some, slice_get, arith}
use Rattle.std.proofs.lemmas.List.Sums.{sum_by-cons}
use Rattle.math_terms.specs.declared.term.Term.{Term}
use Rattle.math_terms.specs.declared.term.Term.TheOpen.{Term-F}
use Rattle.math_terms.specs.declared.term.Term.TheViews.{out-Term}
use Rattle.math_terms.specs.declared.term.Term.TheFolds.{map-Term, fold_out-Term}
use Rattle.math_terms.specs.Heads.{children}
use Rattle.math_terms.specs.Terms.{nodes, nodes_step}

abbrev total : List ℕ → ℕ
total [] = 0
total (n ∷ ns) = n + total ns

sum_total : (ns : List ℕ) → sum ns ≡ total ns
sum_total [] = refl
sum_total (n ∷ ns) = omega (arith, sum_by-cons (λ k. k) n ns, sum_total ns)

step_total : (x : Term-F ℕ) → nodes_step x ≡ 1 + total (children x)
step_total (Term-F.Tuple ns) = omega (arith, sum_total ns)
step_total x = omega arith

mapped : (x : Term-F Term) → children (map-Term Term ℕ nodes x) ≡ map nodes (children x)
mapped (Term-F.Num n) = refl
mapped x = refl

nodes_total : (t : Term) → nodes t ≡ 1 + total (map nodes (children (out-Term t)))
nodes_total t = fold_out-Term ℕ nodes_step t ∙ step_total (map-Term Term ℕ nodes (out-Term t)) ∙ ap (λ ns. 1 + total ns) (mapped (out-Term t))

among : (ts : List Term) (k : ℕ) (u : Term) → slice_get ts k ≡ Some u → nodes u + k ≤ total (map nodes ts)
among [] k u e = cc
among (t ∷ ts) zero u e =
    let same : t ≡ u = cc in
    omega (arith, ap nodes same)
among (t ∷ ts) (suc k) u e = omega (arith, nodes_total t, among ts k u e)

pub child_cost : (t u : Term) (k : ℕ) → slice_get (children (out-Term t)) k ≡ Some u → nodes u + k + 1 ≤ nodes t
child_cost t u k e = omega (arith, nodes_total t, among (children (out-Term t)) k u e)

at_least : (ts : List Term) → length ts ≤ total (map nodes ts)
at_least [] = omega arith
at_least (t ∷ ts) = omega (arith, nodes_total t, at_least ts)

pub more_nodes : (t : Term) → length (children (out-Term t)) < nodes t
more_nodes t = omega (arith, nodes_total t, at_least (children (out-Term t)))

pub two_cost : (t a b : Term) → children (out-Term t) ≡ a ∷ b ∷ [] → nodes a + nodes b < nodes t
two_cost t a b e =
    let sum_is : total (map nodes (children (out-Term t))) ≡ nodes a + (nodes b + 0) = ap (λ ts. total (map nodes ts)) e in
    omega (arith, nodes_total t, sum_is)
