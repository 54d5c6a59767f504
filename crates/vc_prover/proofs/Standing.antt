-- How far the search of a sequent has come.
use Rattle.std.proofs.Common.{◌≡◌, ◌∙◌, sym, ap, refl, subst, ℕ, zero, suc, ◌+◌, ◌-◌, ◌<◌, ◌≤◌, ltb, ◌&&◌, Bool, true, false, List, [], ◌∷◌, ◌++◌, length, map, reverse, Option, Some, None, Result, Ok, Err, OnOk, IfErr, MatchOption, option_and_then, option_map, slice_get, sum_by, arith}
use Rattle.std.proofs.lemmas.Bool.{and_parts, and_from, cond-true, cond-false, lt-ltb, le-ltb}
use Rattle.std.proofs.lemmas.List.{reverse-append}
use Rattle.std.proofs.lemmas.List.Folds.{list_all-append}
use Rattle.std.proofs.lemmas.List.Sums.{sum_by-append, sum_by-cons}
use Rattle.std.proofs.lemmas.Option.{same_Some}
use Rattle.std.specs.List.{list_all}
use Rattle.math_terms.specs.declared.term.Term.{Term}
use Rattle.vc_sequents.specs.declared.sequent.Sequent.{Sequent}
use Rattle.vc_sequents.specs.Ending.{SplitsEnd, work}
use Rattle.vc_sequents.specs.Splitting.{Cases, GoalCase, goal_cases, hypothesis_cases, in_place, sorts_of, split_at, with_case, with_goal_case}
use Rattle.cert_form.specs.declared.cert.Step.{Step}
use Rattle.cert_form.specs.declared.cert.Step.TheVariants as step
use Rattle.cert_check.specs.Legality.{is_small, small_cases, small_goal_cases, small_split}
use Rattle.vc_prover.specs.declared.search.Done.{Done}
use Rattle.vc_prover.specs.declared.search.ProveError.{ProveError}
use Rattle.vc_prover.specs.declared.search.ProveError.TheVariants.{Open, NoMemory}
use Rattle.vc_prover.specs.Refusal.{IsProveRefusal}
use Rattle.vc_prover.specs.Search.{IsFound, IsOpen, closing, go_on, is_small_sequent, mapped, most_ends, or_else, split_from, splitting, steps_for, with_step}
use Rattle.vc_prover.specs.working.Answers.{Closes, IsNotSplit, IsStep, IsStepRefusal, Opens, Splits}
use Rattle.vc_prover.proofs.Allowing.{split_is}
use Rattle.vc_prover.proofs.Fuel.{Moves, Progress, finished, goes_on, starts, stuck}

and_true : (b : Bool) → (b && true) ≡ b
and_true true = refl
and_true false = refl

-- Where the formulas of a sequent are small, those of a split are exactly where the new sequents' are.
module _ (s : Sequent) (small : is_small_sequent s ≡ true) where
  hyps_small : list_all is_small s.hyps ≡ true
  hyps_small = (and_parts (list_all is_small s.hyps) (is_small s.goal) small).0

  goal_small : is_small s.goal ≡ true
  goal_small = (and_parts (list_all is_small s.hyps) (is_small s.goal) small).1

  placed_small : (k : ℕ) (new hyps : List Term) (f : Term) → slice_get hyps k ≡ Some f → list_all is_small hyps ≡ true → list_all is_small (in_place k new hyps) ≡ list_all is_small new
  placed_small k new [] f at h = cc
  placed_small zero new (g ∷ gs) f at h =
      let parts = and_parts (is_small g) (list_all is_small gs) h in
      list_all-append is_small new gs ∙ (ap (λ b. list_all is_small new && b) parts.1 ∙ and_true (list_all is_small new))
  placed_small (suc k) new (g ∷ gs) f at h =
      let parts = and_parts (is_small g) (list_all is_small gs) h in
      ap (λ b. b && list_all is_small (in_place k new gs)) parts.0 ∙ placed_small k new gs f at parts.1

  case_small : (k : ℕ) (f : Term) (c : List Term) → slice_get s.hyps k ≡ Some f → is_small_sequent (with_case s k c) ≡ list_all is_small c
  case_small k f c at = (λ i. placed_small k c s.hyps f at hyps_small i && goal_small i) ∙ and_true (list_all is_small c)

  cases_small : (k : ℕ) (f : Term) (cs : List (List Term)) → slice_get s.hyps k ≡ Some f → list_all is_small_sequent (map (with_case s k) cs) ≡ list_all (list_all is_small) cs
  cases_small k f [] at = refl
  cases_small k f (c ∷ cs) at = λ i. case_small k f c at i && cases_small k f cs at i

  goal_case_small : (c : GoalCase) → is_small_sequent (with_goal_case s c) ≡ (list_all is_small c.0 && is_small c.1)
  goal_case_small c = ap (λ b. b && is_small c.1) (list_all-append is_small s.hyps c.0 ∙ ap (λ b. b && list_all is_small c.0) hyps_small)

  goal_cases_small : (cs : List GoalCase) → list_all is_small_sequent (map (with_goal_case s) cs) ≡ list_all (λ (c : GoalCase). list_all is_small c.0 && is_small c.1) cs
  goal_cases_small [] = refl
  goal_cases_small (c ∷ cs) = λ i. goal_case_small c i && goal_cases_small cs i

  from_cases : (k : ℕ) (f : Term) (c : Cases) (ss : List Sequent) → slice_get s.hyps k ≡ Some f → option_map (map (with_case s k)) c ≡ Some ss → small_cases c ≡ list_all is_small_sequent ss
  from_cases k f None ss at e = cc
  from_cases k f (Some cs) ss at e = sym (cases_small k f cs at) ∙ ap (list_all is_small_sequent) (same_Some (map (with_case s k) cs) ss e)

  from_goal_cases : (c : Option (List GoalCase)) (ss : List Sequent) → option_map (map (with_goal_case s)) c ≡ Some ss → small_goal_cases c ≡ list_all is_small_sequent ss
  from_goal_cases None ss e = cc
  from_goal_cases (Some cs) ss e = sym (goal_cases_small cs) ∙ ap (list_all is_small_sequent) (same_Some (map (with_goal_case s) cs) ss e)

  small_there : (k : ℕ) (f : Term) → slice_get s.hyps k ≡ Some f → small_split s (suc k) ≡ small_cases (hypothesis_cases (sorts_of s) f)
  small_there k f at = rw (at) refl

  from_hypothesis : (k : ℕ) (o : Option Term) (ss : List Sequent) → slice_get s.hyps k ≡ o → option_and_then (λ f. option_map (map (with_case s k)) (hypothesis_cases (sorts_of s) f)) o ≡ Some ss →
      small_split s (suc k) ≡ list_all is_small_sequent ss
  from_hypothesis k None ss at e = cc
  from_hypothesis k (Some f) ss at e = small_there k f at ∙ from_cases k f (hypothesis_cases (sorts_of s) f) ss at e

  pub small_split_is : (k : ℕ) (ss : List Sequent) → split_at k s ≡ Some ss → small_split s k ≡ list_all is_small_sequent ss
  small_split_is zero ss e = from_goal_cases (goal_cases (sorts_of s) s.goal) ss e
  small_split_is (suc k) ss e = from_hypothesis k (slice_get s.hyps k) ss refl e

-- the step that closes the next sequent, or splits it
module _ (next : Sequent) (ends : ℕ) (rest : List Sequent) where
  closed_moves : (x : Step) → closing next ≡ Some x → ends < most_ends → Moves ends (next ∷ rest) x (ends + 1) rest
  closed_moves x e few fuel =
      let closed : Option (List Step) = steps_for fuel (ends + 1) rest in
      let opened : List Sequent → Option (List Step) = λ new. steps_for fuel ends (new ++ rest) in
      ap (λ o. go_on next ends o (splitting next) closed opened) e ∙ cond-true (ltb ends most_ends) (with_step x closed) None (lt-ltb ends most_ends few)

  split_moves : (c : ℕ × List Sequent) → closing next ≡ None → splitting next ≡ Some c → small_split next c.0 ≡ true → Moves ends (next ∷ rest) (step.Split c.0 (length c.1)) ends (c.1 ++ rest)
  split_moves c e f small fuel =
      let closed : Option (List Step) = steps_for fuel (ends + 1) rest in
      let opened : List Sequent → Option (List Step) = λ new. steps_for fuel ends (new ++ rest) in
      (λ i. go_on next ends (e i) (f i) closed opened) ∙ cond-true (small_split next c.0) (with_step (step.Split c.0 (length c.1)) (steps_for fuel ends (c.1 ++ rest))) None small

  closed_late : (x : Step) → closing next ≡ Some x → most_ends ≤ ends → (fuel : ℕ) → steps_for fuel ends (next ∷ rest) ≡ None
  closed_late x e many zero = refl
  closed_late x e many (suc fuel) =
      let closed : Option (List Step) = steps_for fuel (ends + 1) rest in
      let opened : List Sequent → Option (List Step) = λ new. steps_for fuel ends (new ++ rest) in
      ap (λ o. go_on next ends o (splitting next) closed opened) e ∙ cond-false (ltb ends most_ends) (with_step x closed) None (le-ltb ends most_ends many)

  not_split : (o : Option (ℕ × List Sequent)) → closing next ≡ None → splitting next ≡ o → MatchOption o (Unit {0}) (λ c. small_split next c.0 ≡ false) → (fuel : ℕ) → steps_for fuel ends (next ∷ rest) ≡ None
  not_split o e f large zero = refl
  not_split None e f large (suc fuel) =
      let closed : Option (List Step) = steps_for fuel (ends + 1) rest in
      let opened : List Sequent → Option (List Step) = λ new. steps_for fuel ends (new ++ rest) in
      λ i. go_on next ends (e i) (f i) closed opened
  not_split (Some c) e f large (suc fuel) =
      let closed : Option (List Step) = steps_for fuel (ends + 1) rest in
      let opened : List Sequent → Option (List Step) = λ new. steps_for fuel ends (new ++ rest) in
      (λ i. go_on next ends (e i) (f i) closed opened) ∙ cond-false (small_split next c.0) (with_step (step.Split c.0 (length c.1)) (steps_for fuel ends (c.1 ++ rest))) None large

-- what the search has come to, where the next sequent that stands comes last
pub record Standing (s : Sequent) (todo : List Sequent) (done : Done) : Type 0 where
  pub progress : Progress s done.steps done.ends (reverse todo)
  pub small : list_all is_small_sequent (reverse todo) ≡ true

progress_as : (s : Sequent) (steps steps' : List Step) (ends ends' : ℕ) (ss ss' : List Sequent) → steps' ≡ steps → ends' ≡ ends → ss' ≡ ss → Progress s steps ends ss → Progress s steps' ends' ss'
progress_as s steps steps' ends ends' ss ss' e f g p = subst (λ (t : List Step × ℕ × List Sequent). Progress s t.0 t.1 t.2) (λ i. (sym e i, sym f i, sym g i)) p

pub begins : (s : Sequent) (todo : List Sequent) (done : Done) → is_small_sequent s ≡ true → todo ≡ s ∷ [] → done.steps ≡ [] → done.ends ≡ 0 → Standing s todo done
begins s todo done small e f g = record {
  progress = progress_as s [] done.steps 0 done.ends (s ∷ []) (reverse todo) f g (ap reverse e) (starts s small);
  small = ap (λ ss. list_all is_small_sequent (reverse ss)) e ∙ and_from (is_small_sequent s) true small refl;
}

reverse_push : (xs : List Sequent) (x : Sequent) → reverse (xs ++ x ∷ []) ≡ x ∷ reverse xs
reverse_push xs x = reverse-append xs (x ∷ [])

module _ (s next : Sequent) (todo : List Sequent) (done : Done) (before : List Sequent) (at : before ≡ todo ++ next ∷ []) (standing : Standing s before done) where
  turned : reverse before ≡ next ∷ reverse todo
  turned = ap reverse at ∙ reverse_push todo next

  progress : Progress s done.steps done.ends (next ∷ reverse todo)
  progress = progress_as s done.steps done.steps done.ends done.ends (reverse before) (next ∷ reverse todo) refl refl (sym turned) standing.progress

  all_small : (is_small_sequent next ≡ true) × (list_all is_small_sequent (reverse todo) ≡ true)
  all_small = and_parts (is_small_sequent next) (list_all is_small_sequent (reverse todo)) (ap (list_all is_small_sequent) (sym turned) ∙ standing.small)

  pub next_small : is_small_sequent next ≡ true
  next_small = all_small.0

  module _ (todo' : List Sequent) (done' : Done) where
    closed_keeps : (x : Step) → closing next ≡ Some x → Closes x todo done todo' done' → Standing s todo' done'
    closed_keeps x e c = record {
      progress = progress_as s (done.steps ++ x ∷ []) done'.steps (done.ends + 1) done'.ends (reverse todo) (reverse todo') c.added c.counted (ap reverse c.todo_stays)
          (goes_on s done.steps done.ends (next ∷ reverse todo) x (done.ends + 1) (reverse todo) (closed_moves next done.ends (reverse todo) x e c.few) progress);
      small = ap (λ ss. list_all is_small_sequent (reverse ss)) c.todo_stays ∙ all_small.1;
    }

    split_keeps : (c : ℕ × List Sequent) → closing next ≡ None → splitting next ≡ Some c → Splits next todo done todo' done' c → Standing s todo' done'
    split_keeps c e f p = record {
      progress = progress_as s (done.steps ++ step.Split c.0 (length c.1) ∷ []) done'.steps done.ends done'.ends (c.1 ++ reverse todo) (reverse todo') p.added p.ends_stay p.put
          (goes_on s done.steps done.ends (next ∷ reverse todo) (step.Split c.0 (length c.1)) done.ends (c.1 ++ reverse todo) (split_moves next done.ends (reverse todo) c e f p.small) progress);
      small = ap (list_all is_small_sequent) p.put ∙ (list_all-append is_small_sequent c.1 (reverse todo)
          ∙ and_from (list_all is_small_sequent c.1) (list_all is_small_sequent (reverse todo)) (sym (small_split_is next all_small.0 c.0 c.1 (split_is next 1 (length next.hyps) c f)) ∙ p.small) all_small.1);
    }

    opened_keeps : (o : Option (ℕ × List Sequent)) → closing next ≡ None → splitting next ≡ o → MatchOption o ⊥ (Splits next todo done todo' done') → Standing s todo' done'
    opened_keeps None e f h = absurd h
    opened_keeps (Some c) e f h = split_keeps c e f h

    from_step : (o : Option Step) → closing next ≡ o → MatchOption o (Opens next todo done todo' done') (λ x. Closes x todo done todo' done') → Standing s todo' done'
    from_step None e h = opened_keeps (splitting next) e refl h
    from_step (Some x) e h = closed_keeps x e h

    pub step_keeps : IsStep next todo done todo' done' → Standing s todo' done'
    step_keeps h = from_step (closing next) refl h

  pub refusal : (e : ProveError) → IsStepRefusal next done e → IsProveRefusal s e
  refusal Open h = from_refusal (closing next) refl h
    where
      from_refusal : (o : Option Step) → closing next ≡ o → MatchOption o (IsNotSplit next) (λ x. most_ends ≤ done.ends) → IsOpen s
      from_refusal None e k = stuck s done.steps done.ends (next ∷ reverse todo) (not_split next done.ends (reverse todo) (splitting next) e refl k) progress
      from_refusal (Some x) e k = stuck s done.steps done.ends (next ∷ reverse todo) (closed_late next done.ends (reverse todo) x e k) progress
  refusal NoMemory h = tt

-- less is left to be done
module _ (law : SplitsEnd) (next : Sequent) (todo : List Sequent) (done : Done) (todo' : List Sequent) (done' : Done) where
  closed_less : (x : Step) → Closes x todo done todo' done' → sum_by work (reverse todo') < sum_by work (next ∷ reverse todo)
  closed_less x c = omega (arith, ap (λ ss. sum_by work (reverse ss)) c.todo_stays, sum_by-cons work next (reverse todo), law.some next)

  opened_less : (o : Option (ℕ × List Sequent)) → splitting next ≡ o → MatchOption o ⊥ (Splits next todo done todo' done') → sum_by work (reverse todo') < sum_by work (next ∷ reverse todo)
  opened_less None f h = absurd h
  opened_less (Some c) f h =
      omega (arith, ap (sum_by work) h.put, sum_by-append work c.1 (reverse todo), sum_by-cons work next (reverse todo), law.less next c.0 c.1 (split_is next 1 (length next.hyps) c f))

  less : (o : Option Step) → MatchOption o (Opens next todo done todo' done') (λ x. Closes x todo done todo' done') → sum_by work (reverse todo') < sum_by work (next ∷ reverse todo)
  less None h = opened_less (splitting next) refl h
  less (Some x) h = closed_less x h

  pub step_less : (before : List Sequent) → before ≡ todo ++ next ∷ [] → IsStep next todo done todo' done' → sum_by work (reverse todo') < sum_by work (reverse before)
  step_less before at h =
      subst (λ ss. sum_by work (reverse todo') < sum_by work ss) (sym (ap reverse at ∙ reverse_push todo next)) (less (closing next) h)

-- where nothing is left to be done, the steps are found
pub ended : (s : Sequent) (todo : List Sequent) (done : Done) → todo ≡ [] → Standing s todo done → IsFound s done.steps
ended s todo done e standing = finished s done.steps done.ends (progress_as s done.steps done.steps done.ends done.ends (reverse todo) [] refl refl (ap reverse (sym e)) standing.progress)

-- a hypothesis that gives nothing
pub splits_later : (s : Sequent) (k : ℕ) → splitting s ≡ split_from (k + 1) (length s.hyps - k) s → k < length s.hyps → split_at (k + 1) s ≡ None → splitting s ≡ split_from ((k + 1) + 1) (length s.hyps - (k + 1)) s
splits_later s k reached within none =
    let e : length s.hyps - k ≡ suc (length s.hyps - (k + 1)) = omega arith in
    reached ∙ (ap (λ n. split_from (k + 1) n s) e ∙ ap (λ o. or_else (mapped (λ ss. (k + 1, ss)) o) (split_from ((k + 1) + 1) (length s.hyps - (k + 1)) s)) none)

-- what comes of the parts of a split
module _ (next : Sequent) (small : is_small_sequent next ≡ true) (k : ℕ) (parts : List Sequent) (is : splitting next ≡ Some (k, parts)) where
  parts_small : small_split next k ≡ list_all is_small_sequent parts
  parts_small = small_split_is next small k parts (split_is next 1 (length next.hyps) (k, parts) is)

  pub opens : (todo : List Sequent) (done : Done) (todo' : List Sequent) (done' : Done) (r : Result (Unit {0}) ProveError) → OnOk r (list_all is_small_sequent parts ≡ true) → OnOk r (reverse todo' ≡ parts ++ reverse todo) →
      OnOk r (done'.steps ≡ done.steps ++ step.Split k (length parts) ∷ []) → OnOk r (done'.ends ≡ done.ends) → OnOk r (Opens next todo done todo' done')
  opens todo done todo' done' (Ok u) all put added ends =
      let P : Option (ℕ × List Sequent) → Type 0 = λ o. MatchOption o ⊥ (Splits next todo done todo' done') in
      subst P (sym is) (record { small = parts_small ∙ all; put = put; added = added; ends_stay = ends })
  opens todo done todo' done' (Err e) all put added ends = tt

  pub refuses : (r : Result (Unit {0}) ProveError) → IfErr r (λ e. e ≡ Open → list_all is_small_sequent parts ≡ false) → IfErr r (λ e. e ≡ Open → IsNotSplit next)
  refuses (Ok u) h = tt
  refuses (Err e) h =
      let P : Option (ℕ × List Sequent) → Type 0 = λ o. MatchOption o (Unit {0}) (λ c. small_split next c.0 ≡ false) in
      λ opened. subst P (sym is) (parts_small ∙ h opened)
