-- What the sequents of a split are, told by formulas in cells.
use Rattle.std.specs.Prelude.{◌≡◌, ℕ, ◌+◌, pos, true, List, [], ◌∷◌, Option, Some, None}
use Rattle.math_terms.specs.declared.term.Term.{Term}
use Rattle.math_terms.specs.declared.term.Term.TheOpen.{Term-F}
use Rattle.math_terms.specs.declared.term.Term.TheViews.{roll-Term}
use Rattle.math_terms.specs.Forms.{form_number}
use Rattle.math_terms.specs.Terms.{nodes}
use Rattle.term_cells.specs.declared.cell.Cell.{Cell}
use Rattle.term_cells.specs.Growing.{HasHead, IsFewForm}
use Rattle.term_cells.specs.Standing.{stands}
use Rattle.vc_sequents.specs.Splitting.{GoalCase, and as and_of, not as not_of, truth as truth_of}
use Rattle.cert_check.specs.declared.cases.Part.{Part}
use Rattle.cert_check.specs.declared.cases.Part.TheVariants.{At, Truth, Not, Two, OfNegations, AndNot}
use Rattle.cert_check.specs.declared.cases.Case.{Case}
use Rattle.cert_check.specs.declared.cases.Case.TheVariants as case
use Rattle.cert_check.specs.declared.cases.Cases.{Cases}
use Rattle.cert_check.specs.declared.cases.Cases.TheVariants as split

-- a node of this form over two terms
abbrev pub IsOver : ℕ → Term → Term → Term → Type 0
IsOver k a b t =
    (x : Term-F Term) × HasHead x k (pos 0) (a ∷ b ∷ []) × IsFewForm k × (t ≡ roll-Term x) × (nodes t ≡ 1 + nodes a + nodes b)

-- terms at two places
abbrev pub OverTwo : List Cell → ℕ → ℕ → (Term → Term → Type 0) → Type 0
OverTwo cells p q says = (a : Term) × (b : Term) × (stands cells a p ≡ true) × (stands cells b q ≡ true) × says a b

-- the formula that a part says
abbrev pub PartIs : List Cell → Part → Term → Type 0
PartIs cells (At p) t = stands cells t p ≡ true
PartIs cells (Truth b) t = t ≡ truth_of b
PartIs cells (Not p) t = (a : Term) × (stands cells a p ≡ true) × (t ≡ not_of a)
PartIs cells (Two k p q) t = OverTwo cells p q (λ a b. IsOver (form_number k) a b t)
PartIs cells (OfNegations k p q) t = OverTwo cells p q (λ a b. IsOver (form_number k) (not_of a) (not_of b) t)
PartIs cells (AndNot p q) t = OverTwo cells p q (λ a b. t ≡ and_of a (not_of b))

-- how many cells are made for it, which are no more than its nodes
abbrev pub made : Part → ℕ
made (At p) = 0
made (Truth b) = 1
made (Not p) = 1
made (Two k p q) = 1
made (OfNegations k p q) = 3
made (AndNot p q) = 2

abbrev pub made_case : Case → ℕ
made_case case.Nothing = 0
made_case (case.Only x) = made x
made_case (case.Both x y) = made x + made y

-- the formulas in the place of a hypothesis
abbrev pub FormulasAre : List Cell → Case → List Term → Type 0
FormulasAre cells case.Nothing fs = fs ≡ []
FormulasAre cells (case.Only x) fs = (t : Term) × PartIs cells x t × (fs ≡ t ∷ [])
FormulasAre cells (case.Both x y) fs = (t : Term) × (u : Term) × PartIs cells x t × PartIs cells y u × (fs ≡ t ∷ u ∷ [])

-- the hypotheses that come last, and the goal
abbrev pub GoalIs : List Cell → Case → GoalCase → Type 0
GoalIs cells case.Nothing g = ⊥
GoalIs cells (case.Only x) g = (t : Term) × PartIs cells x t × (g ≡ ([], t))
GoalIs cells (case.Both x y) g = (t : Term) × (u : Term) × PartIs cells x t × PartIs cells y u × (g ≡ (t ∷ [], u))

abbrev pub CasesAre : List Cell → Option Cases → Option (List (List Term)) → Type 0
CasesAre cells None o = o ≡ None
CasesAre cells (Some (split.One c)) o = (fs : List Term) × FormulasAre cells c fs × (o ≡ Some (fs ∷ []))
CasesAre cells (Some (split.Two c d)) o = (fs : List Term) × (gs : List Term) × FormulasAre cells c fs × FormulasAre cells d gs × (o ≡ Some (fs ∷ gs ∷ []))

abbrev pub GoalCasesAre : List Cell → Option Cases → Option (List GoalCase) → Type 0
GoalCasesAre cells None o = o ≡ None
GoalCasesAre cells (Some (split.One c)) o = (g : GoalCase) × GoalIs cells c g × (o ≡ Some (g ∷ []))
GoalCasesAre cells (Some (split.Two c d)) o = (g : GoalCase) × (h : GoalCase) × GoalIs cells c g × GoalIs cells d h × (o ≡ Some (g ∷ h ∷ []))
