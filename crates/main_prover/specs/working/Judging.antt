-- What a judge has done: it collects conditions, or proves them.
use Rattle.std.specs.Prelude.{◌≡◌, ℕ, ◌+◌, List, [], ◌∷◌, ◌++◌, length, Result, Ok, Err, MatchResult}
use Rattle.std.specs.List.{AllByRecursion}
use Rattle.math_terms.specs.declared.term.Term.{Term}
use Rattle.vc_sequents.specs.declared.sequent.Sequent.{Sequent}
use Rattle.vc_sequents.specs.declared.sequent.VcKind.{VcKind}
use Rattle.vc_sequents.specs.declared.sequent.VcKind.TheVariants as kind
use Rattle.main_form.specs.declared.module.Module.{Module}
use Rattle.main_vcs.specs.Terms.{in_bounds}
use Rattle.main_vcs.specs.Walk.{Path, Condition}
use Rattle.main_prover.specs.declared.proving.Unproved.{Unproved}
use Rattle.main_prover.specs.declared.judge.Judge.{Judge}
use Rattle.main_prover.specs.declared.judge.Purpose.{Purpose}
use Rattle.main_prover.specs.declared.judge.Purpose.TheVariants.{Collect, Prove}
use Rattle.main_prover.specs.declared.judge.Stop.{Stop}
use Rattle.main_prover.specs.declared.judge.Stop.TheVariants as stop
use Rattle.main_prover.specs.working.Making.{Made, condition_at}
use Rattle.main_prover.specs.Proving.{IsProved, sequent_of, vcs_from}

-- the first of some conditions that does not count as proved
pub record IsFirstAmong (m : Module) (cs : List Condition) (u : Unproved) : Type 0 where
  pub before : List Condition
  pub first : Condition
  pub later : List Condition
  pub all : cs ≡ before ++ first ∷ later
  pub proved : AllByRecursion (IsProved m) before
  pub unproved : IsProved m first → ⊥
  pub number : u.number ≡ length before + 1
  pub kind : u.kind ≡ first.kind
  pub at : u.at ≡ first.at

-- all of them are collected, or are proved
abbrev pub AreDone : Module → Purpose → List Condition → Judge → Type 0
AreDone m Collect cs j = j.collected ≡ vcs_from m 1 cs
AreDone m Prove cs j = AllByRecursion (IsProved m) cs

pub record HasJudged (m : Module) (aim : Purpose) (cs : List Condition) (j : Judge) : Type 0 where
  pub purpose : j.purpose ≡ aim
  pub count : j.count ≡ length cs
  pub done : AreDone m aim cs j

-- A judge goes on over these conditions.
unfoldable pub Goes : Module → List Condition → Judge → Judge → Type 0
Goes m cs j k = (purpose : Purpose) (before : List Condition) → HasJudged m purpose before j → HasJudged m purpose (before ++ cs) k

-- why the walk stops among these conditions
abbrev pub IsUnproved : Module → Purpose → List Condition → Unproved → Type 0
IsUnproved m Collect cs u = ⊥
IsUnproved m Prove cs u = IsFirstAmong m cs u

abbrev pub IsStop : Module → Purpose → List Condition → Stop → Type 0
IsStop m purpose cs (stop.Unproved u) = IsUnproved m purpose cs u
IsStop m purpose cs stop.NoMemory = Unit {0}

-- A judge stops among these conditions.
unfoldable pub Stops : Module → List Condition → Judge → Stop → Type 0
Stops m cs j s = (purpose : Purpose) (before : List Condition) → HasJudged m purpose before j → IsStop m purpose (before ++ cs) s

-- A judge goes over these conditions, or stops among them.
abbrev pub Judges : {A : Type 0} → Module → List Condition → Judge → Result A Stop → Judge → Type 0
Judges m cs j r k = MatchResult r (λ a. Goes m cs j k) (λ s. Stops m cs j s)

-- A judge goes over what is made, to its term and point, or stops there.
abbrev pub Makes : Module → Made → Judge → Result Term Stop → Path → Judge → Type 0
Makes m x j r p k = MatchResult r (λ t. (t ≡ x.term) × (p ≡ x.point) × Goes m x.conditions j k) (λ s. Stops m x.conditions j s)

-- one that does not count as proved, by its kind and its sequent
abbrev pub IsRefusal : Module → Unproved → Sequent → Stop → Type 0
IsRefusal m u s (stop.Unproved v) = (v ≡ u) × ((c : Condition) → c.kind ≡ u.kind → sequent_of c ≡ s → IsProved m c → ⊥)
IsRefusal m u s stop.NoMemory = Unit {0}

abbrev pub AllProved : Module → VcKind → Sequent → Type 0
AllProved m kind s = (c : Condition) → c.kind ≡ kind → sequent_of c ≡ s → IsProved m c

-- what is made of a part: where the part is not made, the walk has stopped
abbrev pub AfterPart : Result Term Stop → (Term → Type 0) → Result Term Stop → Type 0
AfterPart b P r = MatchResult b P (λ s. r ≡ Err s)

abbrev pub IsTerm : Term → Result Term Stop → Type 0
IsTerm t r = MatchResult r (λ u. u ≡ t) (λ s. s ≡ stop.NoMemory)

-- A judge goes over the condition of a sum, and gives the sum.
abbrev pub HasJudgedSum : Module → ℕ → Path → Term → Judge → Result Term Stop → Judge → Type 0
HasJudgedSum m at p t j r k =
    let cs = condition_at kind.Range at p (in_bounds t) ∷ [] in
    MatchResult r (λ u. (u ≡ t) × Goes m cs j k) (λ s. Stops m cs j s)
