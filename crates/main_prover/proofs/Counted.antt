-- When a condition counts as proved, from what was found.
use Rattle.std.proofs.Common.{◌≡◌, ◌∙◌, sym, ap, refl, subst, ◌↔◌, ◌≤◌, Bool, true, false, List, Option, Some, None, MatchOption, Result, Ok, Err, inl, inr}
use Rattle.std.specs.Prelude.{IsTrue, IfOk, ◌⊎◌}
use Rattle.math_terms.specs.declared.term.Term.{Term}
use Rattle.math_terms.specs.Terms.{nodes, put}
use Rattle.math_terms.specs.Meaning.{Valuation}
use Rattle.math_terms.specs.Descriptors.{Interpretation, holds, zeros}
use Rattle.math_terms.specs.Plain.{is_plain}
use Rattle.vc_sequents.specs.declared.sequent.Sequent.{Sequent}
use Rattle.vc_sequents.specs.declared.sequent.VcKind.{VcKind}
use Rattle.cert_form.specs.declared.cert.Step.{Step}
use Rattle.vc_prover.specs.Search.{search, IsFound, IsOpen}
use Rattle.main_form.specs.declared.module.Module.{Module}
use Rattle.main_vcs.specs.Terms.{empty_string, integer}
use Rattle.main_vcs.specs.Walk.{Condition}
use Rattle.main_prover.specs.working.Deciding.{IsTrueAtEnd, IsComputedGoal}
use Rattle.main_prover.specs.Proving.{sequent_of, IsInClass, IsTrueFormula, IsComputed, IsProved}

pub truth_found : (t : Term) (o : Option Bool) (r : Bool) → MatchOption o (is_plain t ≡ false) (λ b. (is_plain t ≡ true) × ((I : Interpretation) (w : Valuation) → holds I w t ≡ b)) → (IsTrue r ↔ (o ≡ Some true)) → (IsTrue r ↔ IsTrueFormula t)
truth_found t None r found tells = (λ yes. absurd (cc (tells.0 yes)), λ p. absurd (cc (p.0, found)))
truth_found t (Some true) r found tells = (λ yes. found, λ p. tells.1 refl)
truth_found t (Some false) r found tells =
    (λ yes. absurd (cc (tells.0 yes)), λ p. absurd (cc (p.1 (λ k. integer) zeros, found.1 (λ k. integer) zeros)))

pub at_end_found : {E : Type 0} (goal closed : Term) (r : Result Bool E) → nodes goal ≤ 10000 → closed ≡ put 2 empty_string goal → IfOk r (λ b. IsTrue b ↔ IsTrueFormula closed) → IfOk r (λ b. IsTrue b ↔ IsTrueAtEnd goal)
at_end_found goal closed (Err e) small is h = tt
at_end_found goal closed (Ok b) small is h =
    let q = subst (λ t. IsTrue b ↔ IsTrueFormula t) is h in
    (λ yes. (small, q.0 yes), λ p. q.1 p.1)

computed_goal : (m : Module) (c : Condition) → (IsComputedGoal m c.kind c.goal → IsComputed m c) × (IsComputed m c → IsComputedGoal m c.kind c.goal)
computed_goal m c = (λ h. record { ends = h.0; claims = h.1; small = h.2.0; computed = h.2.1 }, λ h. (h.ends, h.claims, (h.small, h.computed)))

pub found_decides : (m : Module) (kind : VcKind) (s : Sequent) (steps : List Step) → IsFound s steps → (c : Condition) → c.kind ≡ kind → sequent_of c ≡ s → IsTrue true ↔ IsProved m c
found_decides m kind s steps found c k e = (λ yes. inl (steps, subst (λ t. IsFound t steps) (sym e) found), λ p. refl)

is_nothing : {A : Type 0} → Option A → Type 0
is_nothing None = Unit {0}
is_nothing (Some x) = ⊥

open_not_found : (s : Sequent) (steps : List Step) → IsOpen s → IsFound s steps → ⊥
unfolding is_nothing
open_not_found s steps opened found = subst is_nothing (sym (opened found.0) ∙ found.1) tt

pub open_decides : {E : Type 0} (m : Module) (kind : VcKind) (s : Sequent) (r : Result Bool E) → IsOpen s → IfOk r (λ b. IsTrue b ↔ IsComputedGoal m kind s.goal) → IfOk r (λ b. (c : Condition) → c.kind ≡ kind → sequent_of c ≡ s → IsTrue b ↔ IsProved m c)
open_decides m kind s (Err e) opened h = tt
open_decides m kind s (Ok b) opened h = λ c k e.
    let same : IsTrue b ↔ IsComputedGoal m c.kind c.goal =
    subst (λ g. IsTrue b ↔ IsComputedGoal m c.kind g) (sym (ap (λ (t : Sequent). t.goal) e)) (subst (λ i. IsTrue b ↔ IsComputedGoal m i s.goal) (sym k) h) in (
      λ yes. inr ((computed_goal m c).0 (same.0 yes)),
      λ p. elim p [ inl f ↦ absurd (open_not_found s f.0 opened (subst (λ t. IsFound t f.0) e f.1)) | inr q ↦ same.1 ((computed_goal m c).1 q) ],
    )
