-- Conditions that count as proved are valid.
use Rattle.std.proofs.Common.{◌≡◌, ◌∙◌, sym, ap, ℕ, true, false, List, [], ◌∷◌, cond, inl, inr, eqb, ◌≢◌}
use Rattle.std.specs.Prelude.{◌⊎◌, IsTrue}
use Rattle.std.specs.List.{AllByRecursion}
use Rattle.std.proofs.lemmas.Bool.Decides.{eqb_tells}
use Rattle.math_terms.specs.declared.term.Term.{Term}
use Rattle.math_terms.specs.declared.term.Term.TheOpen.{Term-F}
use Rattle.math_terms.specs.declared.term.Term.TheFolds.{fold-roll-Term}
use Rattle.math_terms.specs.Laws.{SubstitutionKeepsValues, EqualityIsSameness}
use Rattle.math_terms.specs.Terms.{put}
use Rattle.math_terms.specs.Values.{Val, truth, same}
use Rattle.math_terms.specs.Meaning.{Valuation, set_to, value_step}
use Rattle.math_terms.specs.Descriptors.{Interpretation, holds, value, starts_in}
use Rattle.cert_check.specs.Laws.{LegalIsValid}
use Rattle.vc_prover.specs.Laws.{FoundIsLegal}
use Rattle.main_form.specs.declared.module.Module.{Module}
use Rattle.main_vcs.specs.Terms.{var, empty_string, equal}
use Rattle.main_vcs.specs.Walk.{Condition, conditions_of}
use Rattle.main_vcs.specs.Soundness.{IsValidCondition}
use Rattle.main_prover.specs.Proving.{IsProved, ProvedIsValid, sequent_of}
use Rattle.main_prover.proofs.Starting.{Starts, conditions_start}

-- a variable set to its own value
set_at : (w : Valuation) (v : Val) (k : ℕ) → w 2 ≡ v → ((eqb k 2 ≡ true) × (k ≡ 2)) ⊎ ((eqb k 2 ≡ false) × (k ≢ 2)) → set_to 2 v w k ≡ w k
set_at w v k e (inl (here, is)) = ap (λ b. cond b v (w k)) here ∙ sym e ∙ ap w (sym is)
set_at w v k e (inr (other, is)) = ap (λ b. cond b v (w k)) other

set_same : (w : Valuation) (v : Val) → w 2 ≡ v → set_to 2 v w ≡ w
set_same w v e = λ i k. set_at w v k e (eqb_tells k 2) i

module _ (sameness : EqualityIsSameness) (I : Interpretation) (w : Valuation) where
  -- where the output is the empty string at first, it stands for that
  output_empty : IsTrue (holds I w (equal (var 2) empty_string)) → w 2 ≡ value I w empty_string
  output_empty h =
      let sides = ap truth (fold-roll-Term Val (value_step (starts_in I) w) (Term-F.Eq (var 2) empty_string)) in
      let alike : same (value I w (var 2)) (value I w empty_string) ≡ true = sym sides ∙ h in
      sym (fold-roll-Term Val (value_step (starts_in I) w) (Term-F.Var 2)) ∙ (sameness (value I w (var 2)) (value I w empty_string)).0 alike

  -- the empty string in place of the output
  put_empty : SubstitutionKeepsValues → (t : Term) → w 2 ≡ value I w empty_string → value I w (put 2 empty_string t) ≡ value I w t
  put_empty keeps t e = keeps 2 empty_string t I w ∙ ap (λ u. value I u t) (set_same w (value I w empty_string) e)

module _ (legal : FoundIsLegal) (valid : LegalIsValid) (keeps : SubstitutionKeepsValues) (sameness : EqualityIsSameness) where
  condition_valid : (m : Module) (c : Condition) → Starts c.hyps → IsProved m c → IsValidCondition c
  condition_valid m c starts (inl found) = valid found.0 (sequent_of c) (legal (sequent_of c) found.0 found.1)
  condition_valid m c starts (inr computed) = λ I is w lies hyps.
      sym (ap truth (put_empty sameness I w keeps c.goal (output_empty sameness I w (starts I w hyps)))) ∙ computed.computed.1 I w

  each_valid : (m : Module) (cs : List Condition) → AllByRecursion (λ c. Starts c.hyps) cs → AllByRecursion (IsProved m) cs → AllByRecursion IsValidCondition cs
  each_valid m [] starts proved = tt
  each_valid m (c ∷ cs) starts proved = (condition_valid m c starts.0 proved.0, each_valid m cs starts.1 proved.1)

  pub proved_valid : ProvedIsValid
  proved_valid m proved = each_valid m (conditions_of m) (conditions_start m) proved
