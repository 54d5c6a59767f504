-- How far the work has come that gives the leaves of a sequent.
use Rattle.std.proofs.Common.{◌≡◌, ◌∙◌, sym, ap, refl, subst, ◌<◌, ◌≤◌, List, [], ◌∷◌, ◌++◌, length, reverse, Option, Some, None, MatchOption, sum_by, append_assoc, length-append, arith}
use Rattle.std.proofs.lemmas.List.{reverse-append}
use Rattle.std.proofs.lemmas.List.Sums.{sum_by-append, sum_by-cons}
use Rattle.vc_sequents.specs.declared.sequent.Sequent.{Sequent}
use Rattle.vc_sequents.specs.declared.sequent.SplitError.{SplitError}
use Rattle.vc_sequents.specs.declared.sequent.SplitError.TheVariants.{TooManyCases, NoMemory}
use Rattle.vc_sequents.specs.Splitting.{Leaves, LeavesOfAll, branch, leaf, more, none, split_of}
use Rattle.vc_sequents.specs.Laws.{AreLeaves, IsSplitRefusal, SplitsKeepValidity}
use Rattle.vc_sequents.specs.working.Leaves.{AddsLeaf, PutsParts, IsStep, IsStepRefusal}
use Rattle.vc_sequents.specs.Ending.{work}
use Rattle.vc_sequents.proofs.Ending.{have_leaves, some_work, split_less_work}
use Rattle.vc_sequents.proofs.Leaving.{Parted, leaves_keep, parted}

-- the leaves so far, with those of what is to be done, are the leaves of the sequent
pub record Progress (s : Sequent) (todo done : List Sequent) : Type 0 where
  pub whole : (ms : List Sequent) → LeavesOfAll (reverse todo) ms → Leaves s (done ++ ms)
  pub few : length done ≤ 64

-- the leaves of two lists of sequents
abbrev Apart : List Sequent → List Sequent → List Sequent → Type 0
Apart ss ts ms = (ls : List Sequent) × (ks : List Sequent) × LeavesOfAll ss ls × LeavesOfAll ts ks × (ms ≡ ls ++ ks)

apart : (ss ts ms : List Sequent) → LeavesOfAll (ss ++ ts) ms → Apart ss ts ms
apart [] ts ms h = ([], ms, none, h, refl)
apart (s ∷ ss) ts ms h =
    let p : Parted (s ∷ (ss ++ ts)) ms = parted (s ∷ (ss ++ ts)) ms h in
    let q = apart ss ts p.1 p.3 in
    (p.0 ++ q.0, q.1, more s ss p.0 q.0 p.2 q.2, q.3, p.4 ∙ ap (λ ks. p.0 ++ ks) q.4 ∙ sym (append_assoc p.0 q.0 q.1))

append_nothing : (xs : List Sequent) → xs ++ [] ≡ xs
append_nothing [] = refl
append_nothing (x ∷ xs) = ap (λ ys. x ∷ ys) (append_nothing xs)

-- the work begins with the sequent itself
pub starts : (s : Sequent) (todo done : List Sequent) → todo ≡ s ∷ [] → done ≡ [] → Progress s todo done
starts s todo done e f = record { whole = started; few = omega (arith, ap length f) }
  where
    started : (ms : List Sequent) → LeavesOfAll (reverse todo) ms → Leaves s (done ++ ms)
    started ms h =
        let p : Parted (s ∷ []) ms = parted (s ∷ []) ms (subst (λ ts. LeavesOfAll (reverse ts) ms) e h) in
        let rest : p.1 ≡ [] = parted [] p.1 p.3 in
        let whole : ms ≡ p.0 = p.4 ∙ ap (λ ks. p.0 ++ ks) rest ∙ append_nothing p.0 in
        subst (Leaves s) (sym whole ∙ ap (λ ls. ls ++ ms) (sym f)) p.2

reverse_push : (xs : List Sequent) (x : Sequent) → reverse (xs ++ x ∷ []) ≡ x ∷ reverse xs
reverse_push xs x = reverse-append xs (x ∷ [])

module _ (s next : Sequent) (todo done todo' done' : List Sequent) where
  leaf_keeps : split_of next ≡ None → AddsLeaf next todo done todo' done' → Progress s (todo ++ next ∷ []) done → Progress s todo' done'
  leaf_keeps e adds p = record { whole = kept; few = adds.few }
    where
      kept : (ms : List Sequent) → LeavesOfAll (reverse todo') ms → Leaves s (done' ++ ms)
      kept ms h =
          let all : LeavesOfAll (reverse (todo ++ next ∷ [])) ((next ∷ []) ++ ms) =
          subst (λ ts. LeavesOfAll ts ((next ∷ []) ++ ms)) (sym (reverse_push todo next))
          (more next (reverse todo) (next ∷ []) ms (leaf next e) (subst (λ ts. LeavesOfAll (reverse ts) ms) adds.todo_stays h)) in
          subst (Leaves s) (sym (append_assoc done (next ∷ []) ms) ∙ ap (λ ls. ls ++ ms) (sym adds.added)) (p.whole ((next ∷ []) ++ ms) all)

  parts_keep : (parts : List Sequent) → split_of next ≡ Some parts → PutsParts todo done todo' done' parts → Progress s (todo ++ next ∷ []) done → Progress s todo' done'
  parts_keep parts e puts p = record { whole = kept; few = subst (λ ls. length ls ≤ 64) (sym puts.done_stays) p.few }
    where
      kept : (ms : List Sequent) → LeavesOfAll (reverse todo') ms → Leaves s (done' ++ ms)
      kept ms h =
          let q = apart parts (reverse todo) ms (subst (λ ts. LeavesOfAll ts ms) puts.put h) in
          let all : LeavesOfAll (reverse (todo ++ next ∷ [])) (q.0 ++ q.1) =
          subst (λ ts. LeavesOfAll ts (q.0 ++ q.1)) (sym (reverse_push todo next))
          (more next (reverse todo) q.0 q.1 (branch next parts q.0 e q.2) q.3) in
          subst (Leaves s) (ap (λ ls. done ++ ls) (sym q.4) ∙ ap (λ ls. ls ++ ms) (sym puts.done_stays)) (p.whole (q.0 ++ q.1) all)

  from_step : (o : Option (List Sequent)) → split_of next ≡ o → MatchOption o (AddsLeaf next todo done todo' done') (PutsParts todo done todo' done') → Progress s (todo ++ next ∷ []) done → Progress s todo' done'
  from_step None e step p = leaf_keeps e step p
  from_step (Some parts) e step p = parts_keep parts e step p

  -- a step keeps the leaves
  pub step_keeps : (before : List Sequent) → before ≡ todo ++ next ∷ [] → IsStep next todo done todo' done' → Progress s before done → Progress s todo' done'
  step_keeps before e step p = from_step (split_of next) refl step (subst (λ ts. Progress s ts done) e p)

  less_left : (o : Option (List Sequent)) → split_of next ≡ o → MatchOption o (AddsLeaf next todo done todo' done') (PutsParts todo done todo' done') → sum_by work (reverse todo') < sum_by work (reverse (todo ++ next ∷ []))
  less_left None e step =
      omega (arith, ap (λ ts. sum_by work (reverse ts)) step.todo_stays, ap (sum_by work) (reverse_push todo next), sum_by-cons work next (reverse todo), some_work next)
  less_left (Some parts) e step =
      omega (arith, ap (sum_by work) step.put, sum_by-append work parts (reverse todo), ap (sum_by work) (reverse_push todo next), sum_by-cons work next (reverse todo), split_less_work next parts e)

  -- and leaves less to be done
  pub step_less : (before : List Sequent) → before ≡ todo ++ next ∷ [] → IsStep next todo done todo' done' → sum_by work (reverse todo') < sum_by work (reverse before)
  step_less before e step = subst (λ ts. sum_by work (reverse todo') < sum_by work (reverse ts)) (sym e) (less_left (split_of next) refl step)

-- a refused step refuses the leaves
too_many : (s next : Sequent) (todo done : List Sequent) → split_of next ≡ None → 64 ≤ length done → Progress s (todo ++ next ∷ []) done → (ls : List Sequent) × Leaves s ls × (64 < length ls)
too_many s next todo done e many p =
    let rest = have_leaves (reverse todo) in
    let all : LeavesOfAll (reverse (todo ++ next ∷ [])) ((next ∷ []) ++ rest.0) =
    subst (λ ts. LeavesOfAll ts ((next ∷ []) ++ rest.0)) (sym (reverse_push todo next))
    (more next (reverse todo) (next ∷ []) rest.0 (leaf next e) rest.1) in
    (done ++ ((next ∷ []) ++ rest.0), p.whole ((next ∷ []) ++ rest.0) all, omega (arith, length-append done ((next ∷ []) ++ rest.0)))

pub refusal : (s next : Sequent) (before todo done : List Sequent) (e : SplitError) → before ≡ todo ++ next ∷ [] → IsStepRefusal next done e → Progress s before done → IsSplitRefusal s e
refusal s next before todo done TooManyCases at h p = too_many s next todo done h.0 h.1 (subst (λ ts. Progress s ts done) at p)
refusal s next before todo done NoMemory at h p = tt

-- where nothing is left to be done, what is done are the leaves
pub finished : SplitsKeepValidity → (s : Sequent) (todo done : List Sequent) → todo ≡ [] → Progress s todo done → AreLeaves s done
finished law s todo done e p =
    let ls : Leaves s done = subst (Leaves s) (append_nothing done) (p.whole [] (subst (λ ts. LeavesOfAll (reverse ts) []) (sym e) none)) in
    (ls, leaves_keep law s done ls)
