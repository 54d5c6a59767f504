-- The leaves of a sequent: there is one list of them, and they are valid where the sequent is.
use Rattle.std.proofs.Common.{◌≡◌, ◌∙◌, sym, refl, subst, inl, inr, ⊎_elim, ◌⊎◌, ◌↔◌, List, [], ◌∷◌, ◌++◌, Option, Some, None, Result, Ok, Err, IfOk, IfSome, MatchOption, Vec}
use Rattle.std.specs.declared.alloc.Global.{Global}
use Rattle.math_terms.specs.declared.name.NoMemory.{NoMemory}
use Rattle.std.specs.List.{AllByRecursion}
use Rattle.vc_sequents.specs.declared.sequent.Sequent.{Sequent}
use Rattle.vc_sequents.specs.Splitting.{IsValidSequent, Leaves, LeavesOfAll, branch, leaf, more, none, split_of}
use Rattle.vc_sequents.specs.Laws.{SplitsKeepValidity}
use Rattle.vc_sequents.proofs.Keeping.{split_keeps_validity}

all_append : {A : Type 0} (P : A → Type 0) (xs ys : List A) → AllByRecursion P (xs ++ ys) ↔ (AllByRecursion P xs × AllByRecursion P ys)
all_append P [] ys = (λ h. (tt, h), λ h. h.1)
all_append P (x ∷ xs) ys =
    let rest = all_append P xs ys in
    (λ h. ((h.0, (rest.0 h.1).0), (rest.0 h.1).1), λ h. (h.0.0, rest.1 (h.0.1, h.1)))

module _ (law : SplitsKeepValidity) where
  mutual
    pub leaves_keep : (s : Sequent) (ls : List Sequent) → Leaves s ls → IsValidSequent s ↔ AllByRecursion IsValidSequent ls
    leaves_keep s ls (leaf t e) = (λ h. (h, tt), λ h. h.0)
    leaves_keep s ls (branch t ss ms e all) =
        let one = split_keeps_validity law s ss e in
        let each = all_leaves_keep ss ls all in
        (λ h. each.0 (one.0 h), λ h. one.1 (each.1 h))

    all_leaves_keep : (ss ls : List Sequent) → LeavesOfAll ss ls → AllByRecursion IsValidSequent ss ↔ AllByRecursion IsValidSequent ls
    all_leaves_keep ss ls none = (λ h. h, λ h. h)
    all_leaves_keep ss ls (more s ts ks ms first others) =
        let one = leaves_keep s ks first in
        let each = all_leaves_keep ts ms others in
        let joined = all_append IsValidSequent ks ms in
        (λ h. joined.1 (one.0 h.0, each.0 h.1), λ h. (one.1 (joined.0 h).0, each.1 (joined.0 h).1))

-- the first of several sequents, with its leaves, and the others with theirs
abbrev pub Parted : List Sequent → List Sequent → Type 0
Parted [] ms = ms ≡ []
Parted (t ∷ ts) ms = (ls : List Sequent) × (ks : List Sequent) × Leaves t ls × LeavesOfAll ts ks × (ms ≡ ls ++ ks)

pub parted : (ss ms : List Sequent) → LeavesOfAll ss ms → Parted ss ms
parted ss ms none = refl
parted ss ms (more t ts ls ks first others) = (ls, ks, first, others, refl)

-- what gives the leaves of a sequent
abbrev Found : Sequent → List Sequent → Type 0
Found s ms = ((split_of s ≡ None) × (ms ≡ s ∷ [])) ⊎ ((ss : List Sequent) × (split_of s ≡ Some ss) × LeavesOfAll ss ms)

found : (s : Sequent) (ms : List Sequent) → Leaves s ms → Found s ms
found s ms (leaf t e) = inl (e, refl)
found s ms (branch t ss ls e all) = inr (ss, e, all)

mutual
  pub one_leaf_list : (s : Sequent) (ls ms : List Sequent) → Leaves s ls → Leaves s ms → ls ≡ ms
  one_leaf_list s ls ms (leaf t e) other = ⊎_elim (λ f. sym f.1) (λ f. absurd (cc)) (found s ms other)
  one_leaf_list s ls ms (branch t ss ks e all) other =
      ⊎_elim (λ f. absurd (cc)) (λ f. let same : f.0 ≡ ss = cc in one_list ss ls ms all (subst (λ ts. LeavesOfAll ts ms) same f.2)) (found s ms other)

  one_list : (ss ls ms : List Sequent) → LeavesOfAll ss ls → LeavesOfAll ss ms → ls ≡ ms
  one_list ss ls ms none other = sym (parted [] ms other)
  one_list ss ls ms (more t ts ks ns first others) other =
      let p = parted (t ∷ ts) ms other in
      (λ i. one_leaf_list t ks p.0 first p.2 i ++ one_list ts ns p.1 others p.3 i) ∙ sym p.4

-- where an answer is the split of a sequent, its sequents are valid exactly where the sequent is
pub valid_parts : SplitsKeepValidity → (s : Sequent) (r : Result (Option (Vec Sequent Global)) NoMemory) → IfOk r (λ o. MatchOption o (split_of s ≡ None) (λ ss. split_of s ≡ Some ss.items)) →
    IfOk r (λ o. IfSome o (λ ss. IsValidSequent s ↔ AllByRecursion IsValidSequent ss.items))
valid_parts law s (Ok (Some ss)) h = split_keeps_validity law s ss.items h
valid_parts law s (Ok None) h = tt
valid_parts law s (Err e) h = tt
