-- The sequents of a split, told by formulas in cells.
use Rattle.std.specs.Prelude.{◌≡◌, ℕ, suc, ◌<◌, ◌++◌, List, [], ◌∷◌, length, Option, Some, None, slice_get}
use Rattle.math_terms.specs.declared.descriptor.Sort.{Sort}
use Rattle.math_terms.specs.declared.term.Term.{Term}
use Rattle.term_cells.specs.declared.cell.Cell.{Cell}
use Rattle.vc_sequents.specs.declared.sequent.Sequent.{Sequent}
use Rattle.vc_sequents.specs.Splitting.{GoalCase, goal_cases, hypothesis_cases, sorts_of, with_case, with_goal_case}
use Rattle.cert_form.specs.declared.cert.Step.TheVariants as step
use Rattle.cert_check.specs.declared.cases.Case.{Case}
use Rattle.cert_check.specs.declared.cases.Cases.{Cases}
use Rattle.cert_check.specs.declared.cases.Cases.TheVariants as split
use Rattle.cert_check.specs.working.Cases.{CasesAre, FormulasAre, GoalCasesAre, GoalIs}
use Rattle.cert_check.specs.Legality.{gives}
use Rattle.cert_check.specs.working.Path.{StandsIn}

abbrev pub count_of : Cases → ℕ
count_of (split.One c) = 1
count_of (split.Two c d) = 2

-- what a hypothesis gives, if there is one
abbrev pub HypothesisCasesAre : List Cell → List Sort → Option Term → Option Cases → Type 0
HypothesisCasesAre cells sorts None r = r ≡ None
HypothesisCasesAre cells sorts (Some f) r = CasesAre cells r (hypothesis_cases sorts f)

-- what formula k gives: a hypothesis counted from 1, or with 0 the goal
abbrev pub CasesAt : List Cell → ℕ → Sequent → Option Cases → Type 0
CasesAt cells ℕ.zero s r = GoalCasesAre cells r (goal_cases (sorts_of s) s.goal)
CasesAt cells (suc k) s r = HypothesisCasesAre cells (sorts_of s) (slice_get s.hyps k) r

-- the sequent of one case
abbrev pub ChildIs : List Cell → ℕ → Sequent → Case → Sequent → Type 0
ChildIs cells ℕ.zero s c child = (g : GoalCase) × GoalIs cells c g × (child ≡ with_goal_case s g)
ChildIs cells (suc k) s c child = (ts : List Term) × FormulasAre cells c ts × (child ≡ with_case s k ts) × (k < length s.hyps)

-- the sequents of a split of formula k into n, or that it is not allowed
abbrev pub SplitIs : List Cell → ℕ → ℕ → Sequent → Option Cases → Type 0
SplitIs cells k n s None = gives (step.Split k n) s ≡ None
SplitIs cells k n s (Some (split.One c)) = (x : Sequent) × ChildIs cells k s c x × (gives (step.Split k n) s ≡ Some (x ∷ []))
SplitIs cells k n s (Some (split.Two c d)) =
    (x : Sequent) × (y : Sequent) × ChildIs cells k s c x × ChildIs cells k s d y × (gives (step.Split k n) s ≡ Some (x ∷ y ∷ []))

-- The sequent stands with its hypotheses at the places that come last, and its goal at a place.
abbrev pub Opens : List ℕ → List ℕ → List Cell → Sequent → ℕ → Type 0
Opens old new cells s goal = (ps : List ℕ) × (new ≡ old ++ ps) × StandsIn cells ps goal s
