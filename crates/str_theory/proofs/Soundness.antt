-- All rules at all positions.
use Rattle.std.proofs.Common.{◌≡◌, ap, refl, subst, ℕ, zero, suc, true, List, [], ◌∷◌, map, Option, Some, None, slice_get}
use Rattle.std.specs.Prelude.{IfSome}
use Rattle.std.proofs.lemmas.Option.{same_Some}
use Rattle.std.specs.List.{AllByRecursion}
use Rattle.math_terms.specs.declared.descriptor.Sort.{Sort}
use Rattle.math_terms.specs.declared.term.Term.{Term}
use Rattle.math_terms.specs.Laws.{EqualityIsSameness, SameTermsAreEqual}
use Rattle.math_terms.specs.Laws.{StringsHaveKinds}
use Rattle.math_terms.specs.Sorts.{b, is_str}
use Rattle.math_terms.specs.Kinds.{kind, sort_of_desc}
use Rattle.math_terms.specs.Values.{is_string, truth}
use Rattle.math_terms.specs.Meaning.{Valuation}
use Rattle.math_terms.specs.Descriptors.{Interpretation, value}
use Rattle.num_theory.specs.Laws.{FormsKeepValues}
use Rattle.math_terms.specs.Kinding.{IsFormula}
use Rattle.str_theory.specs.Laws.{Keeps, RulesKeepTruth}
use Rattle.str_theory.specs.Positions.{given_at}
use Rattle.str_theory.specs.Rules.{Given, given_by, rule, rules}
use Rattle.str_theory.proofs.Keeping.{IsRewriting, IsSound, s2_keeps, s3_keeps, s4_keeps, s5_keeps, s6_keeps, s7_keeps, s8_keeps, s9_keeps, s10_keeps, s11_keeps, s12_keeps, s13_keeps, s15_keeps, s16_keeps, s17_keeps, s18_keeps, s19_keeps, s20_keeps, s21_keeps}
use Rattle.str_theory.proofs.Matching.{s14_keeps, s22_keeps, s23_keeps, s24_keeps, s25_keeps}
use Rattle.str_theory.proofs.Equations.{s26_keeps, s27_keeps, s28_keeps, s29_keeps, s30_keeps, s31_keeps}
use Rattle.str_theory.proofs.FormTerms.{s1_keeps}
use Rattle.str_theory.proofs.Placed.{given_at_keeps}

-- an entry of a list of which all entries have a property
entry_has : {A : Type 0} (P : A → Type 0) (xs : List A) (k : ℕ) (x : A) → AllByRecursion P xs → slice_get xs k ≡ Some x → P x
entry_has P [] k x h e = cc
entry_has P (y ∷ ys) zero x h e = subst P (same_Some y x e) h.0
entry_has P (y ∷ ys) (suc k) x h e = entry_has P ys k x h.1 e

module _ (vars : List Sort) (I : Interpretation) (w : Valuation) (used : Option Term) (equality : EqualityIsSameness) (same_terms : SameTermsAreEqual) (forms : FormsKeepValues)
    (strings : (t : Term) → is_str (kind vars t) ≡ true → is_string (value I w t) ≡ true)
    (formula : IfSome used (IsFormula I w)) where
  all_sound : AllByRecursion (IsSound vars I w used) (rules vars used)
  all_sound = (
    s1_keeps vars I w used equality forms,
    (
      s2_keeps vars I w used,
      (
        s3_keeps vars I w used,
        (
          s4_keeps vars I w used,
          (
            s5_keeps vars I w used,
            (
              s6_keeps vars I w used,
              (
                s7_keeps vars I w used,
                (
                  s8_keeps vars I w used,
                  (
                    s9_keeps vars I w used,
                    (
                      s10_keeps vars I w used,
                      (
                        s11_keeps vars I w used,
                        (
                          s12_keeps vars I w used,
                          (
                            s13_keeps vars I w used,
                            (
                              s14_keeps vars I w used equality same_terms strings,
                              (
                                s15_keeps vars I w used,
                                (
                                  s16_keeps vars I w used,
                                  (
                                    s17_keeps vars I w used,
                                    (
                                      s18_keeps vars I w used,
                                      (
                                        s19_keeps vars I w used,
                                        (
                                          s20_keeps vars I w used,
                                          (
                                            s21_keeps vars I w used,
                                            (
                                              s22_keeps vars I w used equality same_terms formula,
                                              (
                                                s23_keeps vars I w used equality same_terms,
                                                (
                                                  s24_keeps vars I w used equality same_terms,
                                                  (
                                                    s25_keeps vars I w used equality same_terms,
                                                    (
                                                      s26_keeps vars I w used equality same_terms strings,
                                                      (
                                                        s27_keeps vars I w used equality same_terms strings,
                                                        (
                                                          s28_keeps vars I w used equality same_terms strings,
                                                          (s29_keeps vars I w used equality same_terms strings, (s30_keeps vars I w used equality same_terms strings, (s31_keeps vars I w used equality same_terms strings, tt))),
                                                        ),
                                                      ),
                                                    ),
                                                  ),
                                                ),
                                              ),
                                            ),
                                          ),
                                        ),
                                      ),
                                    ),
                                  ),
                                ),
                              ),
                            ),
                          ),
                        ),
                      ),
                    ),
                  ),
                ),
              ),
            ),
          ),
        ),
      ),
    ),
  )

  rule_sound : (r : ℕ) → IsSound vars I w used (rule vars used r)
  rule_sound zero t s q h g = cc
  rule_sound (suc r) t s q h g = by_entry (slice_get (rules vars used) r) refl g
    where
      by_entry : (o : Option (Term → Given)) → slice_get (rules vars used) r ≡ o → given_by t o ≡ Some q → IsRewriting vars I w used t s q
      by_entry None e g = cc
      by_entry (Some f) e g = entry_has (IsSound vars I w used) (rules vars used) r f all_sound e t s q h g

  pub keeps : (r : ℕ) (ps : List ℕ) (f new : Term) (conditions : List Term) → IsFormula I w f → given_at ps (rule vars used r) f ≡ Some (new, conditions) → Keeps I w used f new conditions
  keeps r ps f new conditions h g =
      let q = given_at_keeps vars I w used (rule vars used r) (rule_sound r) ps f b (new, conditions) h g in
      record { kind_stays = q.kind_is; conditions_are = q.conditions_are; truth_stays = λ a u. ap truth (q.value_is a u) }

pub rules_keep_truth : StringsHaveKinds → EqualityIsSameness → SameTermsAreEqual → FormsKeepValues → RulesKeepTruth
rules_keep_truth strings equality same_terms forms params I good w descs lies used formula r ps f new conditions h g =
    keeps (map sort_of_desc descs) I w used equality same_terms forms (strings params I good w descs lies) formula r ps f new conditions h g
