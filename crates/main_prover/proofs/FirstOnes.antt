-- The first condition that does not count as proved is one, if there is any.
use Rattle.std.proofs.Common.{◌≡◌, ◌∙◌, sym, ap, refl, subst, ℕ, suc, ◌+◌, List, [], ◌∷◌, ◌++◌, length}
use Rattle.std.specs.List.{AllByRecursion}
use Rattle.main_form.specs.declared.module.Module.{Module}
use Rattle.main_vcs.specs.Walk.{Condition, conditions_of}
use Rattle.main_prover.specs.declared.proving.Unproved.{Unproved}
use Rattle.main_prover.specs.Proving.{IsProved, IsFirstUnproved, OneFirst, NoneFirst}

-- what stands first in a list
head_is : Condition → List Condition → Type 0
head_is c [] = ⊥
head_is c (d ∷ ds) = c ≡ d

tail_is : List Condition → List Condition → Type 0
tail_is cs [] = ⊥
tail_is cs (d ∷ ds) = cs ≡ ds

same_head : (c d : Condition) (cs ds : List Condition) → c ∷ cs ≡ d ∷ ds → c ≡ d
unfolding head_is
same_head c d cs ds e = subst (head_is c) e refl

same_tail : (c d : Condition) (cs ds : List Condition) → c ∷ cs ≡ d ∷ ds → cs ≡ ds
unfolding tail_is
same_tail c d cs ds e = subst (tail_is cs) e refl

module _ (P : Condition → Type 0) where
  -- the two first ones of a list are at one place
  pub one_place : (xs bs cs ds : List Condition) (a b : Condition) → xs ++ a ∷ cs ≡ bs ++ b ∷ ds → AllByRecursion P xs → AllByRecursion P bs → (P a → ⊥) → (P b → ⊥) → (length xs ≡ length bs) × (a ≡ b)
  one_place [] [] cs ds a b e ps qs na nb = (refl, same_head a b cs ds e)
  one_place [] (q ∷ bs) cs ds a b e ps qs na nb = absurd (na (subst P (sym (same_head a q cs (bs ++ b ∷ ds) e)) qs.0))
  one_place (p ∷ xs) [] cs ds a b e ps qs na nb = absurd (nb (subst P (same_head p b (xs ++ a ∷ cs) ds e) ps.0))
  one_place (p ∷ xs) (q ∷ bs) cs ds a b e ps qs na nb =
      let r = one_place xs bs cs ds a b (same_tail p q (xs ++ a ∷ cs) (bs ++ b ∷ ds) e) ps.1 qs.1 na nb in
      (ap suc r.0, r.1)

  pub no_place : (xs cs : List Condition) (a : Condition) → AllByRecursion P (xs ++ a ∷ cs) → (P a → ⊥) → ⊥
  no_place [] cs a all not = not all.0
  no_place (p ∷ xs) cs a all not = no_place xs cs a all.1 not

same_parts : (u v : Unproved) → u.number ≡ v.number → u.kind ≡ v.kind → u.at ≡ v.at → u ≡ v
same_parts u v n k a =
    ap (λ i. record { number = i; kind = u.kind; at = u.at }) n
    ∙ ap (λ i. record { number = v.number; kind = i; at = u.at }) k
    ∙ ap (λ i. record { number = v.number; kind = v.kind; at = i }) a

pub one_first_law : OneFirst
one_first_law m u v f g =
    let r = one_place (IsProved m) f.before g.before f.later g.later f.first g.first (sym f.all ∙ g.all) f.proved g.proved f.unproved g.unproved in
    same_parts u v
    (f.number ∙ ap (λ n. n + 1) r.0 ∙ sym g.number)
    (f.kind ∙ ap (λ c. c.kind) r.1 ∙ sym g.kind)
    (f.at ∙ ap (λ c. c.at) r.1 ∙ sym g.at)

pub none_first_law : NoneFirst
none_first_law m u f all =
    no_place (IsProved m) f.before f.later f.first (subst (AllByRecursion (IsProved m)) f.all all) f.unproved
