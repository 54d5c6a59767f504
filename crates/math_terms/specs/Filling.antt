-- Filling: terms are put for the variables of a term and descriptors for its type parameters, all at once.
use Rattle.std.specs.Prelude.{◌≡◌, ℕ, Bool, true, List, Option, Some, None, slice_get, unwrap_or}
use Rattle.std.specs.Option.{option_map_or}
use Rattle.math_terms.specs.declared.descriptor.Desc.{Desc}
use Rattle.math_terms.specs.declared.descriptor.Shape.TheViews.{out-Desc}
use Rattle.math_terms.specs.declared.term.Term.{Term}
use Rattle.math_terms.specs.declared.term.Term.TheOpen.{Term-F}
use Rattle.math_terms.specs.declared.term.Term.TheViews.{roll-Term}
use Rattle.math_terms.specs.declared.term.Term.TheFolds.{fold-Term}
use Rattle.math_terms.specs.Positions.{numbered}
use Rattle.math_terms.specs.Terms.{put}
use Rattle.math_terms.specs.Values.{Val, is_truth}
use Rattle.math_terms.specs.Meaning.{Valuation, set_to, value_where}
use Rattle.math_terms.specs.Descriptors.{starts_where}

-- what is put for a variable: the term of its number, counted from 1; where there is none it stays
abbrev pub variable_in : List Term → ℕ → Term
variable_in vars k = unwrap_or (numbered k vars) (roll-Term (Term-F.Var k))

-- That a term is initial for a type parameter becomes the initial formula of the descriptor about this term; where there
-- is no descriptor it stays.
abbrev pub initial_about : Option Desc → ℕ → Term → Term
initial_about None k x = roll-Term (Term-F.Initial k x)
initial_about (Some d) k x = put 0 x (out-Desc d).initial

-- The terms are those of the variables from 1 on, the descriptors those of the type parameters from 0 on.
abbrev pub filled_step : List Term → List Desc → Term-F Term → Term
filled_step vars descs (Term-F.Var k) = variable_in vars k
filled_step vars descs (Term-F.Initial k x) = initial_about (slice_get descs k) k x
filled_step vars descs x = roll-Term x

abbrev pub filled : List Term → List Desc → Term → Term
filled vars descs t = fold-Term Term (filled_step vars descs) t

-- What the variables of the term stand for, and what is initial for its type parameters, where these are put for them.
abbrev pub filled_valuation : (ℕ → Val → Bool) → Valuation → List Term → Valuation
filled_valuation starts w vars k = option_map_or (value_where starts w) (numbered k vars) (w k)

abbrev pub filled_starts : (ℕ → Val → Bool) → Valuation → List Desc → ℕ → Val → Bool
filled_starts starts w descs k v = option_map_or (λ d. starts_where starts d w v) (slice_get descs k) (starts k v)

-- The initial formula of each descriptor is true or false, whatever value it is about.
abbrev pub AreFormulas : (ℕ → Val → Bool) → Valuation → List Desc → Type 0
AreFormulas starts w descs =
    (k : ℕ) (d : Desc) → slice_get descs k ≡ Some d → (v : Val) → is_truth (value_where starts (set_to 0 v w) (out-Desc d).initial) ≡ true
