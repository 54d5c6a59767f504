-- The law of the rules, and the parts of chains.
use Rattle.std.specs.Prelude.{◌≡◌, ℕ, true, false, List, [], ◌∷◌, map, Option, Some, None, IfSome, IsTrue, Bool}
use Rattle.std.specs.List.{list_all, AllByRecursion}
use Rattle.math_terms.specs.declared.term.Term.{Term}
use Rattle.math_terms.specs.declared.descriptor.Desc.{Desc}
use Rattle.math_terms.specs.Meaning.{Valuation}
use Rattle.math_terms.specs.Descriptors.{Interpretation, IsInterpretation, holds}
use Rattle.math_terms.specs.Validity.{lies_from}
use Rattle.math_terms.specs.Kinds.{sort_of_desc}
use Rattle.math_terms.specs.Kinding.{IsFormula}
use Rattle.str_theory.specs.Chains.{chain, is_cat}
use Rattle.str_theory.specs.Forms.{cat, empty, is_empty}
use Rattle.str_theory.specs.Rules.{rule}
use Rattle.str_theory.specs.Positions.{given_at}

abbrev pub used_holds : Interpretation → Valuation → Option Term → Bool
used_holds I w None = true
used_holds I w (Some f) = holds I w f

-- The side conditions are well-valued formulas, and where these and the used hypothesis are true, the result is one too and
-- has the truth of the formula.
pub record Keeps (I : Interpretation) (w : Valuation) (used : Option Term) (f new : Term) (conditions : List Term) : Type 0 where
  pub kind_stays : IsTrue (list_all (holds I w) conditions) → IsTrue (used_holds I w used) → IsFormula I w new
  pub conditions_are : AllByRecursion (IsFormula I w) conditions
  pub truth_stays : IsTrue (list_all (holds I w) conditions) → IsTrue (used_holds I w used) → holds I w new ≡ holds I w f

-- A rule, with a used fact that is a formula, at any position of a well-valued formula keeps its truth, under every interpretation and every
-- valuation that lies in the descriptors.
abbrev pub RulesKeepTruth : Type 0
RulesKeepTruth =
    (params : ℕ) (I : Interpretation) → IsInterpretation params I → (w : Valuation) (descs : List Desc) → IsTrue (lies_from I w 1 descs) →
    (used : Option Term) → IfSome used (IsFormula I w) → (r : ℕ) (position : List ℕ) (f new : Term) (conditions : List Term) → IsFormula I w f →
    given_at position (rule (map sort_of_desc descs) used r) f ≡ Some (new, conditions) → Keeps I w used f new conditions

-- The chain of a concatenation, of the empty string, and of any other term.
pub record ChainsOpen : Type 0 where
  pub of_cat : (a b : Term) → chain (cat a b) ≡ a ∷ chain b
  pub of_empty : chain empty ≡ []
  pub of_other : (t : Term) → is_cat t ≡ false → is_empty t ≡ false → chain t ≡ t ∷ []
