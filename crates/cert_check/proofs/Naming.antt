-- What the formula gives that a step names.
use Rattle.std.proofs.Common.{◌≡◌, sym, refl, subst, ℕ, zero, suc, true, List, map, Option, Some, None, slice_get}
use Rattle.math_terms.specs.declared.descriptor.Desc.{Desc}
use Rattle.math_terms.specs.declared.name.Name.{Name}
use Rattle.math_terms.specs.declared.term.Term.{Term}
use Rattle.math_terms.specs.Kinds.{sort_of_desc}
use Rattle.term_cells.specs.declared.cell.Cell.{Cell}
use Rattle.term_cells.specs.Standing.{stands}
use Rattle.vc_sequents.specs.declared.sequent.Sequent.{Sequent}
use Rattle.vc_sequents.specs.Splitting.{goal_cases, hypothesis_cases, sorts_of}
use Rattle.cert_check.specs.declared.cases.Cases.{Cases}
use Rattle.cert_check.specs.working.Cases.{CasesAre, GoalCasesAre}
use Rattle.cert_check.specs.working.Children.{CasesAt, HypothesisCasesAre}
use Rattle.cert_check.specs.working.Path.{StandsIn, named}
use Rattle.cert_check.proofs.Telling.{named_at, unnamed_at}

module _ (cells : List Cell) (vars : List (Name × Desc)) (s : Sequent) (same : s.vars ≡ vars) (hyps : List ℕ) (goal : ℕ) (standing : StandsIn cells hyps goal s) (r : Option Cases) where
  pub goal_named : (k : ℕ) → k ≡ 0 → ((f : Term) → stands cells f goal ≡ true → GoalCasesAre cells r (goal_cases (map (λ v. sort_of_desc v.1) vars) f)) → CasesAt cells k s r
  goal_named zero e h = subst (λ (vs : List (Name × Desc)). GoalCasesAre cells r (goal_cases (map (λ v. sort_of_desc v.1) vs) s.goal)) (sym same) (h s.goal standing.goal_stands)
  goal_named (suc k) e h = absurd (omega_no k e)
    where
      omega_no : (n : ℕ) → suc n ≡ 0 → ⊥
      omega_no n e = cc

  pub none_named : (k : ℕ) → (k ≡ 0 → ⊥) → named hyps k ≡ None → r ≡ None → CasesAt cells k s r
  none_named zero some e is = absurd (some refl)
  none_named (suc k) some e is =
      let gone : slice_get s.hyps k ≡ None = unnamed_at cells s.hyps hyps standing.hyps_stand (suc k) e in
      subst (λ (o : Option Term). HypothesisCasesAre cells (sorts_of s) o r) (sym gone) is

  pub hypothesis_named : (k p : ℕ) → named hyps k ≡ Some p → ((f : Term) → stands cells f p ≡ true → CasesAre cells r (hypothesis_cases (map (λ v. sort_of_desc v.1) vars) f)) → CasesAt cells k s r
  hypothesis_named zero p e h = cc
  hypothesis_named (suc k) p e h =
      let f = named_at cells s.hyps hyps standing.hyps_stand (suc k) p e in
      let cases : CasesAre cells r (hypothesis_cases (sorts_of s) f.0) =
      subst (λ (vs : List (Name × Desc)). CasesAre cells r (hypothesis_cases (map (λ v. sort_of_desc v.1) vs) f.0)) (sym same) (h f.0 f.2) in
      subst (λ (o : Option Term). HypothesisCasesAre cells (sorts_of s) o r) (sym f.1) cases
