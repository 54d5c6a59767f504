-- Filling: the value of what it makes.
use Rattle.std.proofs.Common.{◌≡◌, ◌∙◌, sym, ap, refl, ℕ, Bool, true, List, Option, Some, None, slice_get, unwrap_or}
use Rattle.std.specs.Option.{option_map_or}
use Rattle.math_terms.specs.declared.descriptor.Desc.{Desc}
use Rattle.math_terms.specs.declared.descriptor.Shape.TheViews.{out-Desc}
use Rattle.math_terms.specs.declared.term.Term.{Term}
use Rattle.math_terms.specs.declared.term.Term.TheOpen.{Term-F}
use Rattle.math_terms.specs.declared.term.Term.TheViews.{roll-Term}
use Rattle.math_terms.specs.declared.term.Term.TheFolds.{fold-roll-Term, map-Term}
use Rattle.math_terms.specs.Values.{Val, Truth, is_truth, truth}
use Rattle.math_terms.specs.Positions.{numbered}
use Rattle.math_terms.specs.Meaning.{Valuation, set_to, value_step, value_where}
use Rattle.math_terms.specs.Descriptors.{starts_in, starts_where}
use Rattle.math_terms.specs.Filling.{AreFormulas, filled, filled_starts, filled_step, filled_valuation, initial_about}
use Rattle.math_terms.specs.Laws.{FillingKeepsTruth, FillingKeepsValues}
use Rattle.math_terms.proofs.Folds.{fold_fusion}
use Rattle.math_terms.proofs.Putting.{value_put}

pub truth_itself : (v : Val) → is_truth v ≡ true → v ≡ Truth (truth v)
truth_itself (Truth b) h = refl
truth_itself v h = cc

module _ (starts : ℕ → Val → Bool) (w : Valuation) where
  pub value_of_variable : (k : ℕ) (o : Option Term) → value_where starts w (unwrap_or o (roll-Term (Term-F.Var k))) ≡ option_map_or (value_where starts w) o (w k)
  value_of_variable k None = fold-roll-Term Val (value_step starts w) (Term-F.Var k)
  value_of_variable k (Some t) = refl

  module _ (vars : List Term) (descs : List Desc) (formulas : AreFormulas starts w descs) where
    value_of_initial : (k : ℕ) (x : Term) (o : Option Desc) → slice_get descs k ≡ o →
        value_where starts w (initial_about o k x) ≡ Truth (option_map_or (λ d. starts_where starts d w (value_where starts w x)) o (starts k (value_where starts w x)))
    value_of_initial k x None e = fold-roll-Term Val (value_step starts w) (Term-F.Initial k x)
    value_of_initial k x (Some d) e =
        value_put starts w 0 x (out-Desc d).initial
        ∙ truth_itself (value_where starts (set_to 0 (value_where starts w x) w) (out-Desc d).initial) (formulas k d e (value_where starts w x))

    value_filled_step : (x : Term-F Term) →
        value_where starts w (filled_step vars descs x)
        ≡ value_step (filled_starts starts w descs) (filled_valuation starts w vars) (map-Term Term Val (value_where starts w) x)
    value_filled_step (Term-F.Var k) = value_of_variable k (numbered k vars)
    value_filled_step (Term-F.Initial k x) = value_of_initial k x (slice_get descs k) refl
    value_filled_step x = fold-roll-Term Val (value_step starts w) x

    pub value_filled : (t : Term) → value_where starts w (filled vars descs t) ≡ value_where (filled_starts starts w descs) (filled_valuation starts w vars) t
    value_filled =
        fold_fusion (filled_step vars descs) (value_step (filled_starts starts w descs) (filled_valuation starts w vars)) (value_where starts w) value_filled_step

pub filling_keeps_values : FillingKeepsValues
filling_keeps_values starts w vars descs formulas t = value_filled starts w vars descs formulas t

pub filling_keeps_truth : FillingKeepsTruth
filling_keeps_truth I J w vars descs formulas agree f =
    ap truth (value_filled (starts_in I) w vars descs formulas f)
    ∙ (λ i. truth (value_where (λ k v. sym (agree k v) i) (filled_valuation (starts_in I) w vars) f))
