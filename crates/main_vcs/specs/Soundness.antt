-- What the conditions of a module promise: where all are valid, no run goes wrong, and one that is done has written what Main claims.
use Rattle.std.specs.Prelude.{◌≡◌, ℕ, ◌≤◌, ℤ, List, [], ◌∷◌, length, map, IsTrue}
use Rattle.std.specs.List.{AllByRecursion}
use Rattle.math_terms.specs.Values.{Val, Num, string}
use Rattle.math_terms.specs.Meaning.{set_to}
use Rattle.math_terms.specs.Descriptors.{Interpretation, holds, zeros}
use Rattle.math_terms.specs.Validity.{IsValid}
use Rattle.source_meaning.specs.declared.linked.TypeForm.TheVariants as form
use Rattle.source_meaning.specs.declared.linked.Linked.{Linked}
use Rattle.source_meaning.specs.declared.trace.End.{End}
use Rattle.source_meaning.specs.declared.trace.End.TheVariants.{Done, Spent, Deep, Wrong}
use Rattle.source_meaning.specs.Meaning.{Store, is_word, run_of}
use Rattle.main_form.specs.declared.module.Claim.{Claim}
use Rattle.main_form.specs.declared.module.Module.{Module}
use Rattle.main_vcs.specs.Terms.{var}
use Rattle.main_vcs.specs.Walk.{Condition, claimed, conditions_of}
use Rattle.main_vcs.specs.Linking.{main_of}

abbrev pub IsValidCondition : Condition → Type 0
IsValidCondition c = IsValid 0 (map (λ v. v.1) c.vars) c.hyps c.goal

-- an input: at most 65,535 numbers of 64 bits
pub record IsInput (input : List ℤ) : Type 0 where
  pub few : length input ≤ 65535
  pub words : AllByRecursion (λ n. IsTrue (is_word n)) input

abbrev pub numbers : List ℤ → Val
numbers ns = string (map Num ns)

-- Main's claim of an output
abbrev pub Allows : Claim → List ℤ → Type 0
Allows c written = (I : Interpretation) → IsTrue (holds I (set_to 2 (numbers written) zeros) (claimed c (var 2)))

-- A run is right where it is not wrong, and where it is done has written what Main allows.
abbrev pub IsRightRun : Claim → End × Store → Type 0
IsRightRun c (Done, s) = Allows c s.output
IsRightRun c (Spent, s) = Unit {0}
IsRightRun c (Deep, s) = ⊥
IsRightRun c (Wrong w, s) = ⊥

-- The linked program has these types and this procedure.
pub record IsLinkOf (m : Module) (l : Linked) : Type 0 where
  pub types : l.types ≡ form.Int ∷ form.Bool ∷ []
  pub procs : l.procs ≡ main_of m ∷ []
  pub main : l.main ≡ 0

abbrev pub ConditionsAreSound : Type 0
ConditionsAreSound =
    (m : Module) (l : Linked) → IsLinkOf m l → AllByRecursion IsValidCondition (conditions_of m) → (input : List ℤ) → IsInput input → (fuel : ℕ) → IsRightRun m.claim (run_of l (main_of m) input fuel)
