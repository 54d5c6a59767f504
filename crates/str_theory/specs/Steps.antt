-- Rewritings in sequents, at one interpretation and valuation.
use Rattle.std.specs.Prelude.{◌≡◌, ℕ, List, map, set, Option, Some, IfSome, IsTrue, slice_get}
use Rattle.std.specs.List.{list_all, AllByRecursion}
use Rattle.math_terms.specs.declared.term.Term.{Term}
use Rattle.math_terms.specs.declared.descriptor.Desc.{Desc}
use Rattle.math_terms.specs.Meaning.{Valuation}
use Rattle.math_terms.specs.Descriptors.{Interpretation, IsInterpretation, holds}
use Rattle.math_terms.specs.Validity.{lies_from}
use Rattle.math_terms.specs.Kinds.{sort_of_desc}
use Rattle.math_terms.specs.Kinding.{IsFormula}
use Rattle.str_theory.specs.Rules.{rule}
use Rattle.str_theory.specs.Positions.{given_at}

-- If the formulas are well-valued and the hypotheses are true, then the goal is true.
abbrev pub HoldsAt : Interpretation → Valuation → List Term → Term → Type 0
HoldsAt I w hyps goal =
    AllByRecursion (IsFormula I w) hyps → IsFormula I w goal → IsTrue (list_all (holds I w) hyps) → IsTrue (holds I w goal)

-- the used fact is a hypothesis
abbrev pub IsThere : List Term → Option Term → Type 0
IsThere hyps used = IfSome used (λ f. (j : ℕ) × (slice_get hyps j ≡ Some f))

-- A sequent holds where the sequents of the side conditions do, and the one with the rewritten goal or hypothesis.
pub record RewritingsHold : Type 0 where
  pub goal : (params : ℕ) (I : Interpretation) → IsInterpretation params I → (w : Valuation) (descs : List Desc) → IsTrue (lies_from I w 1 descs) →
      (hyps : List Term) (used : Option Term) → IsThere hyps used → (r : ℕ) (position : List ℕ) (f new : Term) (conditions : List Term) →
      given_at position (rule (map sort_of_desc descs) used r) f ≡ Some (new, conditions) → AllByRecursion (HoldsAt I w hyps) conditions → HoldsAt I w hyps new → HoldsAt I w hyps f
  pub hypothesis : (params : ℕ) (I : Interpretation) → IsInterpretation params I → (w : Valuation) (descs : List Desc) → IsTrue (lies_from I w 1 descs) →
      (hyps : List Term) (used : Option Term) → IsThere hyps used → (r : ℕ) (position : List ℕ) (f new : Term) (conditions : List Term) →
      given_at position (rule (map sort_of_desc descs) used r) f ≡ Some (new, conditions) → (k : ℕ) (g : Term) → slice_get hyps k ≡ Some f →
      AllByRecursion (HoldsAt I w hyps) conditions → HoldsAt I w (set hyps k new) g → HoldsAt I w hyps g
