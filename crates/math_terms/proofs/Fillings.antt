-- Filling: what it makes weighs and counts.
use Rattle.std.proofs.Common.{◌≡◌, ◌∙◌, sym, ap, refl, ℕ, ◌+◌, ◌*◌, min, List, Option, Some, None, slice_get, sum_by, unwrap_or, arith}
use Rattle.std.proofs.lemmas.List.Sums.{sum-map}
use Rattle.math_terms.specs.declared.descriptor.Desc.{Desc}
use Rattle.math_terms.specs.declared.descriptor.Shape.TheViews.{out-Desc}
use Rattle.math_terms.specs.declared.insertion.Source.{Source}
use Rattle.math_terms.specs.declared.insertion.Source.TheVariants.{Given, Filled}
use Rattle.math_terms.specs.declared.term.Term.{Term}
use Rattle.math_terms.specs.declared.term.Term.TheOpen.{Term-F}
use Rattle.math_terms.specs.declared.term.Term.TheViews.{roll-Term}
use Rattle.math_terms.specs.declared.term.Term.TheVariants.{Tuple, rolls-Tuple}
use Rattle.math_terms.specs.declared.term.Term.TheFolds.{fold-Term, fold-roll-Term, map-Term}
use Rattle.math_terms.specs.Filling.{filled, filled_step, initial_about}
use Rattle.math_terms.specs.Positions.{numbered}
use Rattle.math_terms.specs.Terms.{nodes, nodes_step}
use Rattle.math_terms.specs.working.Sources.{filled_count, filled_count_step, initial_count, variable_count}
use Rattle.math_terms.proofs.Counting.{capped, count_up_to_put}
use Rattle.math_terms.proofs.Folds.{fold_fusion, map-map}

-- The nodes of a term, where each question whether something is initial weighs as much as all initial formulas.
abbrev pub initial_nodes : Desc → ℕ
initial_nodes d = nodes (out-Desc d).initial

abbrev pub weight_step : List Desc → Term-F ℕ → ℕ
weight_step descs (Term-F.Initial k a) = 2 + sum_by initial_nodes descs + a
weight_step descs x = nodes_step x

abbrev pub weight : List Desc → Term → ℕ
weight descs t = fold-Term ℕ (weight_step descs) t

abbrev pub source_weight : Source → ℕ
source_weight (Given t) = 0
source_weight (Filled t vars descs) = 2 * weight descs.now t.now + 1

-- how many nodes stand for a variable, and for a question whether something is initial
count_of_variable : (m k : ℕ) (o : Option Term) → min (nodes (unwrap_or o (roll-Term (Term-F.Var k)))) (m + 1) ≡ variable_count m o
count_of_variable m k None = ap (λ n. min n (m + 1)) (fold-roll-Term ℕ nodes_step (Term-F.Var k))
count_of_variable m k (Some t) = refl

count_of_initial : (m k : ℕ) (o : Option Desc) (x : Term) → min (nodes (initial_about o k x)) (m + 1) ≡ initial_count m o (min (nodes x) (m + 1))
count_of_initial m k None x = omega (arith, fold-roll-Term ℕ nodes_step (Term-F.Initial k x))
count_of_initial m k (Some d) x = sym (count_up_to_put 0 m x (out-Desc d).initial)

module _ (m : ℕ) (vars : List Term) (descs : List Desc) where
  count_step : (x : Term-F Term) → min (nodes (filled_step vars descs x)) (m + 1) ≡ filled_count_step m vars descs (map-Term Term ℕ (λ t. min (nodes t) (m + 1)) x)
  count_step (Term-F.Var k) = count_of_variable m k (numbered k vars)
  count_step (Term-F.Initial k x) = count_of_initial m k (slice_get descs k) x
  count_step x =
      ap (λ n. min n (m + 1)) (fold-roll-Term ℕ nodes_step x)
      ∙ capped m (map-Term Term ℕ nodes x)
      ∙ ap (λ y. min (nodes_step y) (m + 1)) (map-map nodes (λ k. min k (m + 1)) x)

  -- the count of the nodes that a filling makes
  pub filled_count_is : (t : Term) → filled_count m vars descs t ≡ min (nodes (filled vars descs t)) (m + 1)
  filled_count_is t = sym (fold_fusion (filled_step vars descs) (filled_count_step m vars descs) (λ t. min (nodes t) (m + 1)) count_step t)

  pub filled_count_tuple : (parts : List Term) → filled_count m vars descs (Tuple parts) ≡ min (1 + sum_by (filled_count m vars descs) parts) (m + 1)
  filled_count_tuple parts =
      ap (filled_count m vars descs) (sym (rolls-Tuple parts))
      ∙ fold-roll-Term ℕ (filled_count_step m vars descs) (Term-F.Tuple parts)
      ∙ ap (λ k. min (1 + k) (m + 1)) (sum-map (filled_count m vars descs) parts)
