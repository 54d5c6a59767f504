-- The conditions of a module by their names, and which of them count as proved.
use Rattle.std.specs.Prelude.{◌≡◌, ℕ, ◌+◌, ◌≤◌, ◌⊎◌, Bool, true, false, List, [], ◌∷◌, ◌++◌, length, codes, IsTrue}
use Rattle.std.specs.List.{AllByRecursion}
use Rattle.math_terms.specs.declared.term.Term.{Term}
use Rattle.math_terms.specs.Meaning.{Valuation}
use Rattle.math_terms.specs.Descriptors.{Interpretation, holds}
use Rattle.math_terms.specs.Terms.{nodes, put}
use Rattle.math_terms.specs.Plain.{is_plain}
use Rattle.vc_sequents.specs.declared.sequent.Sequent.{Sequent}
use Rattle.vc_sequents.specs.declared.sequent.Vc.{Vc}
use Rattle.vc_sequents.specs.declared.sequent.VcKind.{VcKind}
use Rattle.vc_sequents.specs.declared.sequent.VcKind.TheVariants as kind
use Rattle.cert_form.specs.declared.cert.Step.{Step}
use Rattle.vc_prover.specs.Search.{IsFound}
use Rattle.main_form.specs.declared.module.Claim.{Claim}
use Rattle.main_form.specs.declared.module.Claim.TheVariants as claim
use Rattle.main_form.specs.declared.module.Module.{Module}
use Rattle.main_vcs.specs.Terms.{empty_string}
use Rattle.main_vcs.specs.Walk.{Condition, conditions_of}
use Rattle.main_vcs.specs.Soundness.{IsValidCondition}
use Rattle.main_prover.specs.declared.proving.Unproved.{Unproved}

abbrev pub sequent_of : Condition → Sequent
sequent_of c = record { vars = c.vars; params = 0; hyps = c.hyps; goal = c.goal }

-- condition number k
abbrev pub vc_of : Module → ℕ → Condition → Vc
vc_of m k c = record {
  name = record { component = m.name; part = codes "Main"; number = k };
  kind = c.kind;
  at = c.at;
  sequent = sequent_of c;
}

-- conditions that are numbered from k on
abbrev pub vcs_from : Module → ℕ → List Condition → List Vc
vcs_from m k [] = []
vcs_from m k (c ∷ cs) = vc_of m k c ∷ vcs_from m (k + 1) cs

-- all conditions of a module, numbered from 1
abbrev pub vcs_of : Module → List Vc
vcs_of m = vcs_from m 1 (conditions_of m)

-- the search finds a certificate
abbrev pub IsInClass : Condition → Type 0
IsInClass c = (steps : List Step) × IsFound (sequent_of c) steps

abbrev pub IsChain : Claim → Type 0
IsChain claim.True = ⊥
IsChain (claim.Chain ls) = Unit {0}

-- A formula can be computed, and is true.
abbrev pub IsTrueFormula : Term → Type 0
IsTrueFormula f = (is_plain f ≡ true) × ((I : Interpretation) (w : Valuation) → IsTrue (holds I w f))

-- Main claims a chain of literals, and at its end the goal, which is not too large, can be computed with the empty string for the
-- output, and is true.
pub record IsComputed (m : Module) (c : Condition) : Type 0 where
  pub ends : c.kind ≡ kind.Ensures
  pub claims : IsChain m.claim
  pub small : nodes c.goal ≤ 10000
  pub computed : IsTrueFormula (put 2 empty_string c.goal)

-- when a condition counts as proved
abbrev pub IsProved : Module → Condition → Type 0
IsProved m c = IsInClass c ⊎ IsComputed m c

-- the first condition that does not count as proved, with its number, its kind and its place
pub record IsFirstUnproved (m : Module) (u : Unproved) : Type 0 where
  pub before : List Condition
  pub first : Condition
  pub later : List Condition
  pub all : conditions_of m ≡ before ++ first ∷ later
  pub proved : AllByRecursion (IsProved m) before
  pub unproved : IsProved m first → ⊥
  pub number : u.number ≡ length before + 1
  pub kind : u.kind ≡ first.kind
  pub at : u.at ≡ first.at

-- Where all conditions of a module count as proved, all are valid.
abbrev pub ProvedIsValid : Type 0
ProvedIsValid = (m : Module) → AllByRecursion (IsProved m) (conditions_of m) → AllByRecursion IsValidCondition (conditions_of m)

-- A module has at most one first unproved condition, and none where all count as proved.
abbrev pub OneFirst : Type 0
OneFirst = (m : Module) (u v : Unproved) → IsFirstUnproved m u → IsFirstUnproved m v → u ≡ v

abbrev pub NoneFirst : Type 0
NoneFirst = (m : Module) (u : Unproved) → IsFirstUnproved m u → AllByRecursion (IsProved m) (conditions_of m) → ⊥
