-- What the steps from a number on do with a sequent, from what the first of them gives.
use Rattle.std.proofs.Common.{◌≡◌, ◌∙◌, sym, ap, refl, subst, ℕ, zero, suc, ◌+◌, ◌≤◌, Bool, List, [], ◌∷◌, ◌++◌, length, take, drop, map, ◌||◌, Option, Some, None, IfSome, slice_get, Result, Ok, Err, OnOk, arith}
use Rattle.std.proofs.Math.ListN.{drop_of_length-le}
use Rattle.std.proofs.Math.Seq.{take-append_seam, drop-append_seam}
use Rattle.std.proofs.lemmas.Option.{same_Some}
use Rattle.math_terms.specs.declared.descriptor.Desc.{Desc}
use Rattle.math_terms.specs.declared.name.Line.{Line}
use Rattle.math_terms.specs.declared.name.Name.{Name}
use Rattle.math_terms.specs.declared.name.RowName.{RowName}
use Rattle.math_terms.specs.declared.term.Term.{Term}
use Rattle.math_terms.specs.Heads.{same_term}
use Rattle.math_terms.specs.Kinds.{sort_of_desc}
use Rattle.num_theory.specs.Naming.{linear_test}
use Rattle.term_cells.specs.declared.cell.Cell.{Cell}
use Rattle.term_cells.specs.Growing.{Grows, Store}
use Rattle.vc_sequents.specs.declared.sequent.Sequent.{Sequent}
use Rattle.cert_form.specs.declared.cert.Step.{Step}
use Rattle.cert_form.specs.declared.cert.Step.TheVariants as step
use Rattle.cert_check.specs.declared.cases.Case.{Case}
use Rattle.cert_check.specs.declared.walk.Stop.{Stop}
use Rattle.cert_check.specs.declared.walk.Stop.TheVariants.{Illegal, Full}
use Rattle.cert_check.specs.Legality as rule
use Rattle.cert_check.specs.working.Children.{ChildIs, Opens}
use Rattle.term_cells.specs.Placed.{AllStand}
use Rattle.cert_check.specs.working.Path.{StandsIn, TestOfTerm, named}
use Rattle.cert_check.specs.working.Walking.{Walked}

pub drop_some : {A : Type 0} (xs : List A) (n : ℕ) (x : A) → slice_get xs n ≡ Some x → drop n xs ≡ x ∷ drop (suc n) xs
drop_some [] n x e = cc
drop_some (y ∷ ys) zero x e = ap (λ z. z ∷ ys) (same_Some y x e)
drop_some (y ∷ ys) (suc n) x e = drop_some ys n x e

drop_gone : {A : Type 0} (xs : List A) (n : ℕ) → slice_get xs n ≡ None → drop n xs ≡ []
drop_gone [] zero e = refl
drop_gone [] (suc n) e = refl
drop_gone (y ∷ ys) zero e = cc
drop_gone (y ∷ ys) (suc n) e = drop_gone ys n e

module _ (steps : List Step) (at : ℕ) (s : Sequent) where
  -- No step is left.
  pub walked_gone : slice_get steps at ≡ None → Walked steps at s (Err (Illegal at))
  walked_gone e = λ rest. ap (λ sts. rule.verdict_from sts at (s ∷ rest)) (drop_gone steps at e)

  pub walked_past : length steps ≤ at → Walked steps at s (Err (Illegal at))
  walked_past h = λ rest. ap (λ sts. rule.verdict_from sts at (s ∷ rest)) (drop_of_length-le steps h)

  module _ (st : Step) (here : slice_get steps at ≡ Some st) where
    -- the first step, and those after it
    first : (o : Option (List Sequent)) → rule.gives st s ≡ o → (rest : List Sequent) →
        rule.verdict_from (drop at steps) at (s ∷ rest) ≡ rule.next at o (λ new. rule.verdict_from (drop (at + 1) steps) (at + 1) (new ++ rest))
    first o given rest =
        let same : suc at ≡ at + 1 = omega arith in
        ap (λ sts. rule.verdict_from sts at (s ∷ rest)) (drop_some steps at st here ∙ ap (λ n. st ∷ drop n steps) same)
        ∙ ap (λ p. rule.next at p (λ new. rule.verdict_from (drop (at + 1) steps) (at + 1) (new ++ rest))) given

    pub walked_refused : rule.gives st s ≡ None → Walked steps at s (Err (Illegal at))
    walked_refused given = λ rest. first None given rest

    pub walked_closed : rule.gives st s ≡ Some [] → Walked steps at s (Ok (at + 1))
    walked_closed given = λ rest. first (Some []) given rest

    pub walked_one : (P : Type 0) (x : Sequent) → rule.gives st s ≡ Some (x ∷ []) → (r : Result ℕ Stop) → Walked steps (at + 1) x r × OnOk r P → Walked steps at s r × OnOk r P
    walked_one P x given (Ok m) w = ((λ rest. first (Some (x ∷ [])) given rest ∙ w.0 rest), w.1)
    walked_one P x given (Err (Illegal k)) w = ((λ rest. first (Some (x ∷ [])) given rest ∙ w.0 rest), w.1)
    walked_one P x given (Err Full) w = (tt, w.1)

    module _ (x y : Sequent) (given : rule.gives st s ≡ Some (x ∷ y ∷ [])) where
      pub walked_first : (stop : Stop) → Walked steps (at + 1) x (Err stop) → Walked steps at s (Err stop)
      walked_first (Illegal k) w = λ rest. first (Some (x ∷ y ∷ [])) given rest ∙ w (y ∷ rest)
      walked_first Full w = tt

      pub walked_two : (m : ℕ) → Walked steps (at + 1) x (Ok m) → (P Q : Type 0) → (P → Q) → (r : Result ℕ Stop) → Walked steps m y r × OnOk r P → Walked steps at s r × OnOk r Q
      walked_two m w P Q f (Ok n) v = ((λ rest. first (Some (x ∷ y ∷ [])) given rest ∙ w (y ∷ rest) ∙ v.0 rest), f v.1)
      walked_two m w P Q f (Err (Illegal k)) v = ((λ rest. first (Some (x ∷ y ∷ [])) given rest ∙ w (y ∷ rest) ∙ v.0 rest), tt)
      walked_two m w P Q f (Err Full) v = (tt, tt)

-- the sequent of a case has the variables of that which is split
pub child_vars : (cells : List Cell) (k : ℕ) (s : Sequent) (c : Case) (child : Sequent) → ChildIs cells k s c child → child.vars ≡ s.vars
child_vars cells zero s c child h = ap (λ (t : Sequent). t.vars) h.2
child_vars cells (suc k) s c child h = ap (λ (t : Sequent). t.vars) h.2

-- it stands with its places last
pub child_stands : (places here : List ℕ) (cells : List Cell) (child : Sequent) (goal end : ℕ) → end ≡ length places → Opens places here cells child goal → StandsIn cells (drop end here) goal child
child_stands places here cells child goal end count h =
    let last : h.0 ≡ drop end here = sym (drop-append_seam places h.0) ∙ (λ i. drop (sym count i) (sym h.1 i)) in
    subst (λ (ps : List ℕ). StandsIn cells ps goal child) last h.2

-- what was before stands again
pub cells_back : (old here new : Store) (most n : ℕ) → Grows old here most → n ≡ length old.0 → new ≡ here → (take n new.0, new.1) ≡ old
cells_back old here new most n grows count same =
    let front : take n here.0 ≡ old.0 = (λ i. take (count i) (grows.held i)) ∙ take-append_seam old.0 grows.more in
    let back : (take n here.0, here.1) ≡ old = (λ i. (front i, grows.room i)) in
    ap (λ (p : Store). (take n p.0, p.1)) same ∙ back

pub places_back : (old here new : List ℕ × ℕ) (cells : List Cell) (child : Sequent) (goal n : ℕ) → Opens old.0 here.0 cells child goal → here.1 ≡ old.1 → n ≡ length old.0 → new ≡ here → (take n new.0, new.1) ≡ old
places_back old here new cells child goal n opened room count same =
    let front : take n here.0 ≡ old.0 = (λ i. take (count i) (opened.1 i)) ∙ take-append_seam old.0 opened.0 in
    let back : (take n here.0, here.1) ≡ old = (λ i. (front i, room i)) in
    ap (λ (p : List ℕ × ℕ). (take n p.0, p.1)) same ∙ back

-- a sequent that stands in cells that are the same
pub stands_again : (cells cells' : List Cell) (places places' : List ℕ) (start goal : ℕ) (s : Sequent) → cells' ≡ cells → places' ≡ places → StandsIn cells (drop start places) goal s → StandsIn cells' (drop start places') goal s
stands_again cells cells' places places' start goal s e f h =
    subst (λ (cs : List Cell). StandsIn cs (drop start places') goal s) (sym e) (subst (λ (ps : List ℕ). StandsIn cells (drop start ps) goal s) (sym f) h)

pub child_again : (cells cells' : List Cell) (k : ℕ) (s : Sequent) (c : Case) (child : Sequent) → cells' ≡ cells → ChildIs cells k s c child → ChildIs cells' k s c child
child_again cells cells' k s c child e h = subst (λ (cs : List Cell). ChildIs cs k s c child) (sym e) h

hypothesis_is : (s : Sequent) (k : ℕ) → rule.hypothesis s k ≡ named s.hyps k
hypothesis_is s zero = refl
hypothesis_is s (suc k) = refl

-- what a step gives that splits nothing
module _ (s : Sequent) (cells : List Cell) (hyps : List ℕ) (goal : ℕ) (standing : StandsIn cells hyps goal s) (st : Step) where
  pub same_gives : st ≡ step.Same → (r : Bool) → TestOfTerm cells goal (λ g. rule.is_true g || rule.is_identity g) r → rule.gives st s ≡ rule.when r
  same_gives is r told = ap (λ t. rule.gives t s) is ∙ ap rule.when (sym (told s.goal standing.goal_stands))

  pub hyp_gives : (k : ℕ) → st ≡ step.Hyp k → (r : Bool) → ((fs : List Term) → AllStand cells fs hyps → TestOfTerm cells goal (λ g. rule.passes (same_term g) (named fs k)) r) → rule.gives st s ≡ rule.when r
  hyp_gives k is r told =
      ap (λ t. rule.gives t s) is ∙ ap (λ o. rule.when (rule.passes (same_term s.goal) o)) (hypothesis_is s k) ∙ ap rule.when (sym (told s.hyps standing.hyps_stand s.goal standing.goal_stands))

  pub absurd_gives : (k : ℕ) → st ≡ step.Absurd k → (r : Bool) → ((fs : List Term) → AllStand cells fs hyps → r ≡ rule.passes rule.is_false (named fs k)) → rule.gives st s ≡ rule.when r
  absurd_gives k is r told =
      ap (λ t. rule.gives t s) is ∙ ap (λ o. rule.when (rule.passes rule.is_false o)) (hypothesis_is s k) ∙ ap rule.when (sym (told s.hyps standing.hyps_stand))

  pub clash_gives : (k l : ℕ) → st ≡ step.Clash k l → (r : Bool) → ((fs : List Term) → AllStand cells fs hyps → r ≡ rule.clash (named fs k) (named fs l)) → rule.gives st s ≡ rule.when r
  clash_gives k l is r told =
      ap (λ t. rule.gives t s) is ∙ (λ i. rule.when (rule.clash (hypothesis_is s k i) (hypothesis_is s l i))) ∙ ap rule.when (sym (told s.hyps standing.hyps_stand))

  pub linear_gives : (rows : List RowName) (lines : List Line) → st ≡ step.Linear rows lines → (r : Option Bool) → IfSome r (λ b. b ≡ rule.linear_step s rows lines) → IfSome r (λ b. rule.gives st s ≡ rule.when b)
  linear_gives rows lines is None told = tt
  linear_gives rows lines is (Some b) told = ap (λ t. rule.gives t s) is ∙ ap rule.when (sym told)

pub subst_gives : (s : Sequent) (st : Step) (k : ℕ) → st ≡ step.Subst k → rule.gives st s ≡ None
subst_gives s st k is = ap (λ t. rule.gives t s) is

pub linear_told : (vars : List (Name × Desc)) (s : Sequent) → s.vars ≡ vars → (rows : List RowName) (lines : List Line) (b : Bool) → b ≡ linear_test (map (λ v. sort_of_desc v.1) vars) s.hyps s.goal rows lines → b ≡ rule.linear_step s rows lines
linear_told vars s same rows lines b e = e ∙ ap (λ (vs : List (Name × Desc)). linear_test (map (λ v. sort_of_desc v.1) vs) s.hyps s.goal rows lines) (sym same)
