-- Where two sorts meet: what the definition gives for each form.
use Rattle.std.proofs.Common.{◌≡◌, ◌≢◌, ◌∙◌, sym, ap, refl, subst, ℕ, zero, suc, ◌<◌, List, [], ◌∷◌, ◌++◌, length, get_or, map, Option, Some, None, arith}
use Rattle.math_terms.specs.declared.descriptor.Sort.{Sort}
use Rattle.math_terms.specs.declared.descriptor.Sort.TheOpen.{Sort-F}
use Rattle.math_terms.specs.declared.descriptor.Sort.TheVariants.{Str, Tup, Any, rolls-Str, rolls-Tup, rolls-Any}
use Rattle.math_terms.specs.declared.descriptor.Sort.TheViews.{roll-Sort, out-roll-Sort}
use Rattle.math_terms.specs.declared.descriptor.Sort.TheFolds.{map-Sort, fold-Sort, fold-roll-Sort, ind-Sort}
use Rattle.math_terms.specs.Sorts.{Meeting, meeting_step, meet, meet_all, meets, meet_str, meet_tup, sorts_of, both_sorts, str, tup, tuple_option}
use Rattle.math_terms.proofs.Folds.{list_map-map}

-- a sort with what it gives at another
pub with_meets : Sort → Meeting
with_meets s = fold-Sort Meeting meeting_step s

map-map : {X Y Z : Type 0} (f : X → Y) (g : Y → Z) (x : Sort-F X) → map-Sort Y Z g (map-Sort X Y f x) ≡ map-Sort X Z (λ a. g (f a)) x
map-map f g Sort-F.Z = refl
map-map f g Sort-F.B = refl
map-map f g (Sort-F.Str s) = refl
map-map f g (Sort-F.Tup ss) = ap (λ ys. Sort-F.Tup ys) (list_map-map f g ss)
map-map f g (Sort-F.Param k) = refl
map-map f g Sort-F.Any = refl

sorts_of_is : (ms : List Meeting) → sorts_of ms ≡ map (λ (m : Meeting). m.0) ms
sorts_of_is [] = refl
sorts_of_is (m ∷ ms) = ap (λ ss. m.0 ∷ ss) (sorts_of_is ms)

keeps_step : (x : Sort-F Meeting) → (meeting_step x).0 ≡ roll-Sort (map-Sort Meeting Sort (λ m. m.0) x)
keeps_step Sort-F.Z = refl
keeps_step Sort-F.B = refl
keeps_step (Sort-F.Str m) = refl
keeps_step (Sort-F.Tup ms) = ap (λ ss. roll-Sort (Sort-F.Tup ss)) (sorts_of_is ms)
keeps_step (Sort-F.Param k) = refl
keeps_step Sort-F.Any = refl

Kept : Sort → Type 0
Kept s = (with_meets s).0 ≡ s

children_kept : (y : Sort-F ((s : Sort) × Kept s)) →
    map-Sort Meeting Sort (λ m. m.0) (map-Sort Sort Meeting with_meets (map-Sort ((s : Sort) × Kept s) Sort (λ e. e.0) y)) ≡ map-Sort ((s : Sort) × Kept s) Sort (λ e. e.0) y
unfolding Kept
children_kept y =
    ap (map-Sort Meeting Sort (λ m. m.0)) (map-map (λ (e : (s : Sort) × Kept s). e.0) with_meets y)
    ∙ map-map (λ (e : (s : Sort) × Kept s). with_meets e.0) (λ m. m.0) y
    ∙ (λ i. map-Sort ((s : Sort) × Kept s) Sort (λ e. e.1 i) y)

kept : (s : Sort) → (with_meets s).0 ≡ s
unfolding Kept with_meets
kept = ind-Sort Kept (λ x y is.
    ap (λ (m : Meeting). m.0) (fold-roll-Sort Meeting meeting_step x)
    ∙ keeps_step (map-Sort Sort Meeting with_meets x)
    ∙ ap roll-Sort (subst (λ z. map-Sort Meeting Sort (λ m. m.0) (map-Sort Sort Meeting with_meets z) ≡ z) is (children_kept y)))

all_kept : (ss : List Sort) → sorts_of (map with_meets ss) ≡ ss
all_kept [] = refl
all_kept (s ∷ ss) = λ i. kept s i ∷ all_kept ss i

pub meet_roll : (x : Sort-F Sort) (t : Sort) → meet (roll-Sort x) t ≡ (meeting_step (map-Sort Sort Meeting with_meets x)).1 t
unfolding with_meets
meet_roll x t = ap (λ (m : Meeting). m.1 t) (fold-roll-Sort Meeting meeting_step x)

-- a string and a product where they meet `Any`
pub str_meets_any : (s : Sort) → meet (Str s) Any ≡ Some (Str s)
str_meets_any s =
    (λ i. meet (sym (rolls-Str s) i) (sym rolls-Any i))
    ∙ meet_roll (Sort-F.Str s) (roll-Sort Sort-F.Any)
    ∙ ap (meet_str (with_meets s)) (out-roll-Sort Sort-F.Any)
    ∙ ap (λ r. Some (str r)) (kept s)
    ∙ ap (λ r. Some r) (rolls-Str s)

pub tup_meets_any : (ss : List Sort) → meet (Tup ss) Any ≡ Some (Tup ss)
tup_meets_any ss =
    (λ i. meet (sym (rolls-Tup ss) i) (sym rolls-Any i))
    ∙ meet_roll (Sort-F.Tup ss) (roll-Sort Sort-F.Any)
    ∙ ap (meet_tup (map with_meets ss)) (out-roll-Sort Sort-F.Any)
    ∙ ap (λ r. Some (tup r)) (all_kept ss)
    ∙ ap (λ r. Some r) (rolls-Tup ss)

-- two products meet where their parts do
meets_is : (ss ts : List Sort) → meets (map with_meets ss) ts ≡ meet_all ss ts
unfolding with_meets
meets_is [] [] = refl
meets_is [] (t ∷ ts) = refl
meets_is (s ∷ ss) [] = refl
meets_is (s ∷ ss) (t ∷ ts) = ap (both_sorts (meet s t)) (meets_is ss ts)

pub tup_meets_tup : (ss ts : List Sort) → meet (Tup ss) (Tup ts) ≡ tuple_option (meet_all ss ts)
tup_meets_tup ss ts =
    (λ i. meet (sym (rolls-Tup ss) i) (sym (rolls-Tup ts) i))
    ∙ meet_roll (Sort-F.Tup ss) (roll-Sort (Sort-F.Tup ts))
    ∙ ap (meet_tup (map with_meets ss)) (out-roll-Sort (Sort-F.Tup ts))
    ∙ ap tuple_option (meets_is ss ts)

-- lists that are not as long as each other do not meet
no_rest : (o : Option Sort) → both_sorts o None ≡ None
no_rest None = refl
no_rest (Some s) = refl

pub meet_all_apart : (ss ts : List Sort) → length ss ≢ length ts → meet_all ss ts ≡ None
meet_all_apart [] [] h = absurd (h refl)
meet_all_apart [] (t ∷ ts) h = refl
meet_all_apart (s ∷ ss) [] h = refl
meet_all_apart (s ∷ ss) (t ∷ ts) h = ap (both_sorts (meet s t)) (meet_all_apart ss ts (λ e. h (ap (λ n. suc n) e))) ∙ no_rest (meet s t)

-- one more pair
pub push_onto : (o : Option Sort) (p q : Option (List Sort)) (out : List Sort) (r : Sort) →
    ((xs : List Sort) → p ≡ Some xs → q ≡ Some (xs ++ r ∷ [])) → both_sorts o p ≡ Some out → both_sorts o q ≡ Some (out ++ r ∷ [])
push_onto None p q out r step h = cc
push_onto (Some s) None q out r step h = cc
push_onto (Some s) (Some xs) q out r step h =
    let e : s ∷ xs ≡ out = cc in
    ap (both_sorts (Some s)) (step xs refl) ∙ ap (λ ys. Some (ys ++ r ∷ [])) e

pub meet_all_push : (ss ts : List Sort) (s t r : Sort) (out : List Sort) → meet_all ss ts ≡ Some out → meet s t ≡ Some r → meet_all (ss ++ s ∷ []) (ts ++ t ∷ []) ≡ Some (out ++ r ∷ [])
meet_all_push [] [] s t r out h e =
    let empty : [] ≡ out = cc in
    ap (λ o. both_sorts o (Some [])) e ∙ ap (λ xs. Some (xs ++ r ∷ [])) empty
meet_all_push [] (y ∷ ys) s t r out h e = cc
meet_all_push (x ∷ xs) [] s t r out h e = cc
meet_all_push (x ∷ xs) (y ∷ ys) s t r out h e =
    push_onto (meet x y) (meet_all xs ys) (meet_all (xs ++ s ∷ []) (ys ++ t ∷ [])) out r (λ out' h'. meet_all_push xs ys s t r out' h' e) h

-- a pair that does not meet
pub meet_all_none : (ss ts : List Sort) (k : ℕ) (s t : Sort) → k < length ss → k < length ts → s ≡ get_or ss k s → t ≡ get_or ts k t → meet s t ≡ None → meet_all ss ts ≡ None
meet_all_none [] ts k s t h g es et e = absurd (omega arith)
meet_all_none (x ∷ xs) [] k s t h g es et e = refl
meet_all_none (x ∷ xs) (y ∷ ys) zero s t h g es et e = ap (λ o. both_sorts o (meet_all xs ys)) ((λ i. meet (sym es i) (sym et i)) ∙ e)
meet_all_none (x ∷ xs) (y ∷ ys) (suc k) s t h g es et e = ap (both_sorts (meet x y)) (meet_all_none xs ys k s t (omega arith) (omega arith) es et e) ∙ no_rest (meet x y)
