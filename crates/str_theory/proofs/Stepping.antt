-- Rewritings in sequents.
use Rattle.std.proofs.Common.{◌≡◌, ◌∙◌, sym, ap, refl, subst, ℕ, zero, suc, Bool, true, List, [], ◌∷◌, set, Option, Some, None, slice_get}
use Rattle.std.specs.Prelude.{IfSome}
use Rattle.std.proofs.lemmas.Bool.{and_parts, and_from}
use Rattle.std.proofs.lemmas.Option.{same_Some}
use Rattle.std.specs.List.{list_all, AllByRecursion}
use Rattle.math_terms.specs.declared.term.Term.{Term}
use Rattle.math_terms.specs.Meaning.{Valuation}
use Rattle.math_terms.specs.Descriptors.{Interpretation, holds}
use Rattle.math_terms.specs.Kinding.{IsFormula}
use Rattle.str_theory.specs.Laws.{RulesKeepTruth, used_holds}
use Rattle.str_theory.specs.Steps.{HoldsAt, IsThere, RewritingsHold}

entry_has : {A : Type 0} (P : A → Type 0) (xs : List A) (k : ℕ) (x : A) → AllByRecursion P xs → slice_get xs k ≡ Some x → P x
entry_has P [] k x h e = cc
entry_has P (y ∷ ys) zero x h e = subst P (same_Some y x e) h.0
entry_has P (y ∷ ys) (suc k) x h e = entry_has P ys k x h.1 e

entry_true : (p : Term → Bool) (xs : List Term) (k : ℕ) (x : Term) → list_all p xs ≡ true → slice_get xs k ≡ Some x → p x ≡ true
entry_true p [] k x h e = cc
entry_true p (y ∷ ys) zero x h e = ap p (sym (same_Some y x e)) ∙ (and_parts (p y) (list_all p ys) h).0
entry_true p (y ∷ ys) (suc k) x h e = entry_true p ys k x (and_parts (p y) (list_all p ys) h).1 e

-- a list with another entry
set_has : {A : Type 0} (P : A → Type 0) (xs : List A) (k : ℕ) (x : A) → AllByRecursion P xs → P x → AllByRecursion P (set xs k x)
set_has P [] k x h n = h
set_has P (y ∷ ys) zero x h n = (n, h.1)
set_has P (y ∷ ys) (suc k) x h n = (h.0, set_has P ys k x h.1 n)

set_true : (p : Term → Bool) (xs : List Term) (k : ℕ) (x : Term) → list_all p xs ≡ true → p x ≡ true → list_all p (set xs k x) ≡ true
set_true p [] k x h n = h
set_true p (y ∷ ys) zero x h n = and_from (p x) (list_all p ys) n (and_parts (p y) (list_all p ys) h).1
set_true p (y ∷ ys) (suc k) x h n =
    let q = and_parts (p y) (list_all p ys) h in
    and_from (p y) (list_all p (set ys k x)) q.0 (set_true p ys k x q.1 n)

module _ (I : Interpretation) (w : Valuation) (hyps : List Term) (well : AllByRecursion (IsFormula I w) hyps) (all_true : list_all (holds I w) hyps ≡ true) where
  conditions_hold : (cs : List Term) → AllByRecursion (IsFormula I w) cs → AllByRecursion (HoldsAt I w hyps) cs → list_all (holds I w) cs ≡ true
  conditions_hold [] h k = refl
  conditions_hold (c ∷ cs) h k = and_from (holds I w c) (list_all (holds I w) cs) (k.0 well h.0 all_true) (conditions_hold cs h.1 k.1)

  used_formula : (used : Option Term) → IsThere hyps used → IfSome used (IsFormula I w)
  used_formula None h = tt
  used_formula (Some f) h = entry_has (IsFormula I w) hyps h.0 f well h.1

  used_true : (used : Option Term) → IsThere hyps used → used_holds I w used ≡ true
  used_true None h = refl
  used_true (Some f) h = entry_true (holds I w) hyps h.0 f all_true h.1

pub rewritings_hold : RulesKeepTruth → RewritingsHold
rewritings_hold law = record {
  goal = λ params I good w descs lies hyps used there r position f new conditions e sides rest well formula all_true.
      let k = law params I good w descs lies used (used_formula I w hyps well all_true used there) r position f new conditions formula e in
      let c = conditions_hold I w hyps well all_true conditions k.conditions_are sides in
      let u = used_true I w hyps well all_true used there in
      sym (k.truth_stays c u) ∙ rest well (k.kind_stays c u) all_true;
  hypothesis = λ params I good w descs lies hyps used there r position f new conditions e j g is sides rest well formula all_true.
      let k = law params I good w descs lies used (used_formula I w hyps well all_true used there) r position f new conditions (entry_has (IsFormula I w) hyps j f well is) e in
      let c = conditions_hold I w hyps well all_true conditions k.conditions_are sides in
      let u = used_true I w hyps well all_true used there in
      rest (set_has (IsFormula I w) hyps j new well (k.kind_stays c u)) formula
      (set_true (holds I w) hyps j new all_true (k.truth_stays c u ∙ entry_true (holds I w) hyps j f all_true is));
}
