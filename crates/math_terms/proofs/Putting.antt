-- Substitution: the value and the size of what it makes.
use Rattle.std.proofs.Common.{◌≡◌, refl, ℕ, ◌==◌, Bool, true, false, if◌then◌else◌}
use Rattle.math_terms.specs.declared.term.Term.{Term}
use Rattle.math_terms.specs.declared.term.Term.TheOpen.{Term-F}
use Rattle.math_terms.specs.declared.term.Term.TheViews.{roll-Term}
use Rattle.math_terms.specs.declared.term.Term.TheFolds.{map-Term, fold-roll-Term}
use Rattle.math_terms.specs.Values.{Val}
use Rattle.math_terms.specs.Terms.{nodes, nodes_step, nodes_with, nodes_with_step, put, put_step}
use Rattle.math_terms.specs.Meaning.{Valuation, set_to, value_step, value_where}
use Rattle.math_terms.specs.Descriptors.{Interpretation, starts_in, value}
use Rattle.math_terms.proofs.Folds.{fold_fusion}

-- a function of a choice
chosen : {A B : Type 0} (h : A → B) (b : Bool) (x y : A) (z : B) → h y ≡ z → h (if b then x else y) ≡ (if b then h x else z)
chosen h true x y z e = refl
chosen h false x y z e = e

module _ (starts : ℕ → Val → Bool) (w : Valuation) (v : ℕ) (by : Term) where
  value_put_step : (x : Term-F Term) →
      value_where starts w (put_step v by x)
      ≡ value_step starts (set_to v (value_where starts w by) w) (map-Term Term Val (value_where starts w) x)
  value_put_step (Term-F.Var k) =
      chosen (value_where starts w) (k == v) by (roll-Term (Term-F.Var k)) (w k) (fold-roll-Term Val (value_step starts w) (Term-F.Var k))
  value_put_step x = fold-roll-Term Val (value_step starts w) x

  pub value_put : (t : Term) → value_where starts w (put v by t) ≡ value_where starts (set_to v (value_where starts w by) w) t
  value_put = fold_fusion (put_step v by) (value_step starts (set_to v (value_where starts w by) w)) (value_where starts w) value_put_step

pub value_in_put : (v : ℕ) (by t : Term) (I : Interpretation) (w : Valuation) → value I w (put v by t) ≡ value I (set_to v (value I w by) w) t
value_in_put v by t I w = value_put (starts_in I) w v by t

module _ (v : ℕ) (by : Term) where
  nodes_put_step : (x : Term-F Term) → nodes (put_step v by x) ≡ nodes_with_step v (nodes by) (map-Term Term ℕ nodes x)
  nodes_put_step (Term-F.Var k) = chosen nodes (k == v) by (roll-Term (Term-F.Var k)) 1 (fold-roll-Term ℕ nodes_step (Term-F.Var k))
  nodes_put_step x = fold-roll-Term ℕ nodes_step x

  -- substitution makes as many nodes as there are where each variable counts as what is put for it
  pub nodes_put : (t : Term) → nodes (put v by t) ≡ nodes_with v (nodes by) t
  nodes_put = fold_fusion (put_step v by) (nodes_with_step v (nodes by)) nodes nodes_put_step
