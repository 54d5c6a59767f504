-- The rules of equations: of strings by their chains, and of tuples.
use Rattle.std.proofs.Common.{◌≡◌, ◌∙◌, sym, ap, refl, subst, ⊎_elim, Bool, true, false, not, ◌&&◌, ◌||◌, List, [], ◌∷◌, ◌++◌, map, Option, Some, None}
use Rattle.std.specs.Prelude.{option_and_then}
use Rattle.std.proofs.lemmas.Bool.{and_parts, and_from, or_cases}
use Rattle.std.proofs.lemmas.List.{append_cancel_left, append_cancel_right, same_from_push}
use Rattle.std.proofs.lemmas.Option.{same_Some}
use Rattle.std.specs.List.{list_all, list_any, AllByRecursion}
use Rattle.math_terms.specs.declared.descriptor.Sort.{Sort}
use Rattle.math_terms.specs.declared.term.Term.{Term}
use Rattle.math_terms.specs.declared.term.Term.TheOpen.{Term-F}
use Rattle.math_terms.specs.declared.term.Term.TheViews.{out-Term}
use Rattle.math_terms.specs.Heads.{same_term}
use Rattle.math_terms.specs.Laws.{EqualityIsSameness, SameTermsAreEqual}
use Rattle.math_terms.specs.Sorts.{b, any, str, is_str}
use Rattle.math_terms.specs.Kinds.{kind}
use Rattle.math_terms.specs.Values.{Val, Truth, entries, is_string, same, same_all, string, truth as truth_of, vals_of}
use Rattle.math_terms.specs.Meaning.{Valuation}
use Rattle.math_terms.specs.Descriptors.{Interpretation, value}
use Rattle.str_theory.specs.Forms.{and, eq, is_empty, single, truth, tuple}
use Rattle.str_theory.specs.Chains.{chain, front, is_single, joined, last, single_shape}
use Rattle.math_terms.specs.Kinding.{HasKind, IsFormula, Kinding, Valued, kinding, valued}
use Rattle.str_theory.specs.Rules.{Given, equal_onto, equal_parts, firsts, gives, lasts, same_ends, single_ends, s26, s27, s28, s29, s30, s31, when_chains}
use Rattle.str_theory.proofs.Kinded.{kinding_roll, make_and, make_eq, make_truth, open_eq, open_single, string_well}
use Rattle.str_theory.proofs.Telling.{empty_tells, eq_tells, rolled, single_tells, tuple_tells, when_tells}
use Rattle.str_theory.proofs.Worth.{held, held_empty, held_single, list_of-vals_of, value_roll}
use Rattle.str_theory.proofs.Keeping.{IsRewriting, IsSound, as_kind, of_kind, plain, whole_string}
use Rattle.str_theory.proofs.ChainValues.{AreStrings, chain_holds, front_strings, held_all, joined_holds, joined_kind, last_holds, last_string}

-- two truth values of which each gives the other
pub bool_same : (p q : Bool) → (p ≡ true → q ≡ true) → (q ≡ true → p ≡ true) → p ≡ q
bool_same true q f g = sym (f refl)
bool_same false true f g = g refl
bool_same false false f g = refl

string_is : (us vs : List Val) → string us ≡ string vs → us ≡ vs
string_is us vs e = sym (list_of-vals_of us) ∙ ap entries e ∙ list_of-vals_of vs

cons_parts : {A : Type 0} (x y : A) (xs ys : List A) → x ∷ xs ≡ y ∷ ys → (x ≡ y) × (xs ≡ ys)
cons_parts x y xs ys e = (cc, cc)

-- one list before another, or after it
joins : Bool → List Val → List Val → List Val
joins true xs us = xs ++ us
joins false xs us = us ++ xs

joins_cancel : (front : Bool) (xs us vs : List Val) → joins front xs us ≡ joins front xs vs → us ≡ vs
unfolding joins
joins_cancel true xs us vs e = append_cancel_left xs us vs e
joins_cancel false xs us vs e = append_cancel_right us vs xs e

joins_single : (front : Bool) (x y : Val) (us vs : List Val) → joins front (x ∷ []) us ≡ joins front (y ∷ []) vs → (x ≡ y) × (us ≡ vs)
unfolding joins
joins_single true x y us vs e = cons_parts x y us vs e
joins_single false x y us vs e = let p = same_from_push us vs x y e in (p.1, p.0)

no_left : (xs ys : List Val) → xs ++ ys ≡ [] → ys ≡ []
no_left [] ys e = e
no_left (x ∷ xs) ys e = cc

single_shape_tells : (x : Term-F Term) → single_shape x ≡ true → (a : Term) × (x ≡ Term-F.Single a)
single_shape_tells (Term-F.Single a) h = (a, refl)
single_shape_tells x h = cc

single_is : (t : Term) → is_single t ≡ true → (a : Term) × (t ≡ single a)
single_is t h = let q = single_shape_tells (out-Term t) h in (q.0, rolled t (Term-F.Single q.0) q.1)

module _ (vars : List Sort) (I : Interpretation) (w : Valuation) (used : Option Term) (equality : EqualityIsSameness) (same_terms : SameTermsAreEqual)
    (strings : (t : Term) → is_str (kind vars t) ≡ true → is_string (value I w t) ≡ true) where
  abbrev val : Term → Val
  val t = value I w t

  -- an equation of strings in another's place
  strings_equal : (us vs : List Val) → Bool
  strings_equal us vs = same (string us) (string vs)

  to_lists : (us vs : List Val) → strings_equal us vs ≡ true → us ≡ vs
  unfolding strings_equal
  to_lists us vs h = string_is us vs ((equality (string us) (string vs)).0 h)

  from_lists : (us vs : List Val) → us ≡ vs → strings_equal us vs ≡ true
  unfolding strings_equal
  from_lists us vs e = (equality (string us) (string vs)).1 (ap string e)

  ok_of : (t : Term) (s : Sort) → HasKind I w t s → (kinding I w t).1 ≡ true
  ok_of t s h = ap (λ (p : Kinding). p.1) h

  -- the two sides of such an equation, by their chains
  pub record Sides (t : Term) (s : Sort) (xs ys : List Term) : Type 0 where
    pub sort_is : b ≡ s
    pub left_are : AreStrings vars I w xs
    pub right_are : AreStrings vars I w ys
    pub value_is : value I w t ≡ Truth (same (string (held_all vars I w xs)) (string (held_all vars I w ys)))

  sides_tell : (t : Term) (s : Sort) (r : Term × List Term) (next : List Term → List Term → Given) → HasKind I w t s → when_chains vars t next ≡ Some r
      → (xs : List Term) × (ys : List Term) × Sides t s xs ys × (next xs ys ≡ Some r)
  sides_tell t s r next h g =
      let o = eq_tells t _ r g in
      let a : Term = o.0 in
      let c : Term = o.1 in
      let q = when_tells (is_str (kind vars a) && is_str (kind vars c) && not (is_empty a) && not (is_empty c)) (next (chain a) (chain c)) r o.3 in
      let f = and_parts (is_str (kind vars a) && is_str (kind vars c) && not (is_empty a)) (not (is_empty c)) q.0 in
      let f2 = and_parts (is_str (kind vars a) && is_str (kind vars c)) (not (is_empty a)) f.0 in
      let f3 = and_parts (is_str (kind vars a)) (is_str (kind vars c)) f2.0 in
      let k = open_eq I w a c s (of_kind vars I w used t (eq a c) s o.2 h) in
      let ka : HasKind I w a (str any) = string_well I w a (strings a f3.0) k.1 in
      let kc : HasKind I w c (str any) = string_well I w c (strings c f3.1) k.2 in
      let ca = chain_holds vars I w a ka in
      let cb = chain_holds vars I w c kc in (
        chain a,
        chain c,
        record {
          sort_is = k.0;
          left_are = ca.1;
          right_are = cb.1;
          value_is = ap val o.2 ∙ value_roll I w (Term-F.Eq a c)
              ∙ (λ i. Truth (same ((whole_string vars I w used a ka ∙ ap string ca.0) i) ((whole_string vars I w used c kc ∙ ap string cb.0) i)));
        },
        q.1,
      )

  -- an equation of the rests
  rests_value : (us vs : List Term) → AreStrings vars I w us → AreStrings vars I w vs
      → value I w (eq (joined us) (joined vs)) ≡ Truth (same (string (held_all vars I w us)) (string (held_all vars I w vs)))
  rests_value us vs hu hv =
      value_roll I w (Term-F.Eq (joined us) (joined vs))
      ∙ (λ i. Truth (same ((whole_string vars I w used (joined us) (joined_kind vars I w us hu) ∙ ap string (joined_holds vars I w us)) i) ((whole_string vars I w used (joined vs) (joined_kind vars I w vs hv) ∙ ap string (joined_holds vars I w vs)) i)))

  rests_kind : (us vs : List Term) → AreStrings vars I w us → AreStrings vars I w vs → HasKind I w (eq (joined us) (joined vs)) b
  rests_kind us vs hu hv =
      make_eq I w (joined us) (joined vs) (ok_of (joined us) (str any) (joined_kind vars I w us hu)) (ok_of (joined vs) (str any) (joined_kind vars I w vs hv))

  -- ends that are the same are dropped
  same_ends_keep : (front : Bool) (t : Term) (s : Sort) (r : Term × List Term) (x y : Term) (us vs : List Term) → b ≡ s → AreStrings vars I w us → AreStrings vars I w vs
      → val t ≡ Truth (strings_equal (joins front (held I w x) (held_all vars I w us)) (joins front (held I w y) (held_all vars I w vs)))
      → same_ends x us y vs ≡ Some r → IsRewriting vars I w used t s r
  unfolding strings_equal
  same_ends_keep front t s r x y us vs k hu hv e g =
      let q = when_tells (same_term x y) (gives (eq (joined us) (joined vs))) r g in
      let xy : held I w x ≡ held I w y = ap (held I w) ((same_terms x y).0 q.0) in
      let hus = held_all vars I w us in
      let hvs = held_all vars I w vs in
      plain vars I w used t (eq (joined us) (joined vs)) s r (as_kind vars I w used (eq (joined us) (joined vs)) b s (rests_kind us vs hu hv) k)
      (rests_value us vs hu hv
      ∙ ap (λ c. Truth c) (bool_same (strings_equal hus hvs) (strings_equal (joins front (held I w x) hus) (joins front (held I w y) hvs))
      (λ h. from_lists (joins front (held I w x) hus) (joins front (held I w y) hvs) (λ i. joins front (xy i) (to_lists hus hvs h i)))
      (λ h. from_lists hus hvs (joins_cancel front (held I w x) hus hvs (to_lists (joins front (held I w x) hus) (joins front (held I w y) hvs) h ∙ ap (λ z. joins front z hvs) (sym xy)))))
      ∙ sym e) q.1

  -- ends of one element give an equation of the elements
  single_ends_keep : (front : Bool) (t : Term) (s : Sort) (r : Term × List Term) (x y : Term) (us vs : List Term) → b ≡ s → AreStrings vars I w us → AreStrings vars I w vs
      → HasKind I w x (str any) → HasKind I w y (str any)
      → val t ≡ Truth (strings_equal (joins front (held I w x) (held_all vars I w us)) (joins front (held I w y) (held_all vars I w vs)))
      → single_ends x us y vs ≡ Some r → IsRewriting vars I w used t s r
  unfolding strings_equal
  single_ends_keep front t s r x y us vs k hu hv hx hy e g =
      let p = single_tells x _ r g in
      let q = single_tells y _ r p.2 in
      let u : Term = p.0 in
      let v : Term = q.0 in
      let hus = held_all vars I w us in
      let hvs = held_all vars I w vs in
      let xs : held I w x ≡ val u ∷ [] = ap (held I w) p.1 ∙ held_single I w u in
      let ys : held I w y ≡ val v ∷ [] = ap (held I w) q.1 ∙ held_single I w v in
      let ou = (open_single I w u (str any) (of_kind vars I w used x (single u) (str any) p.1 hx)).1 in
      let ov = (open_single I w v (str any) (of_kind vars I w used y (single v) (str any) q.1 hy)).1 in
      let new : Term = and (eq u v) (eq (joined us) (joined vs)) in
      let left : List Val = joins front (val u ∷ []) hus in
      let right : List Val = joins front (val v ∷ []) hvs in
      plain vars I w used t new s r (as_kind vars I w used new b s (make_and I w (eq u v) (eq (joined us) (joined vs)) (make_eq I w u v ou ov) (rests_kind us vs hu hv)) k)
      (value_roll I w (Term-F.And (eq u v) (eq (joined us) (joined vs)))
      ∙ (λ i. Truth (truth_of (value_roll I w (Term-F.Eq u v) i) && truth_of (rests_value us vs hu hv i)))
      ∙ ap (λ c. Truth c) (bool_same (same (val u) (val v) && strings_equal hus hvs) (strings_equal left right)
      (λ h.
      let f = and_parts (same (val u) (val v)) (strings_equal hus hvs) h in
      from_lists left right (λ i. joins front ((equality (val u) (val v)).0 f.0 i ∷ []) (to_lists hus hvs f.1 i)))
      (λ h.
      let f = joins_single front (val u) (val v) hus hvs (to_lists left right h) in
      and_from (same (val u) (val v)) (strings_equal hus hvs) ((equality (val u) (val v)).1 f.0) (from_lists hus hvs f.1)))
      ∙ (λ i. Truth (strings_equal (joins front (sym xs i) hus) (joins front (sym ys i) hvs)))
      ∙ sym e) q.2

  -- the first parts of both sides, and the last ones
  record Ends (front : Bool) (t : Term) (s : Sort) (x y : Term) (us vs : List Term) : Type 0 where
    pub sort_is : b ≡ s
    pub left_is : HasKind I w x (str any)
    pub right_is : HasKind I w y (str any)
    pub left_are : AreStrings vars I w us
    pub right_are : AreStrings vars I w vs
    pub value_is : val t ≡ Truth (strings_equal (joins front (held I w x) (held_all vars I w us)) (joins front (held I w y) (held_all vars I w vs)))

  abbrev EndsGive : Bool → Term → Sort → Term × List Term → (Term → List Term → Term → List Term → Given) → Type 0
  EndsGive front t s r next = (x : Term) × (y : Term) × (us : List Term) × (vs : List Term) × Ends front t s x y us vs × (next x us y vs ≡ Some r)

  firsts_give : (t : Term) (s : Sort) (r : Term × List Term) (next : Term → List Term → Term → List Term → Given) (xs ys : List Term) → Sides t s xs ys → firsts xs ys next ≡ Some r → EndsGive true t s r next
  unfolding strings_equal joins
  firsts_give t s r next [] ys k g = cc
  firsts_give t s r next (x ∷ xs) [] k g = cc
  firsts_give t s r next (x ∷ xs) (y ∷ ys) k g =
      (x, y, xs, ys, record { sort_is = k.sort_is; left_is = k.left_are.0; right_is = k.right_are.0; left_are = k.left_are.1; right_are = k.right_are.1; value_is = k.value_is }, g)

  lasts_give : (t : Term) (s : Sort) (r : Term × List Term) (next : Term → List Term → Term → List Term → Given) (xs ys : List Term) → Sides t s xs ys → lasts xs ys next ≡ Some r → EndsGive false t s r next
  unfolding strings_equal joins
  lasts_give t s r next xs ys k g = ends (last xs) (last ys) refl refl g
    where
      ends : (x y : Option Term) → last xs ≡ x → last ys ≡ y → option_and_then (λ a. option_and_then (λ c. next a (front xs) c (front ys)) y) x ≡ Some r → EndsGive false t s r next
      ends None y e f h = cc
      ends (Some x) None e f h = cc
      ends (Some x) (Some y) e f h = (
        x,
        y,
        front xs,
        front ys,
        record {
          sort_is = k.sort_is;
          left_is = last_string vars I w xs x e k.left_are;
          right_is = last_string vars I w ys y f k.right_are;
          left_are = front_strings vars I w xs k.left_are;
          right_are = front_strings vars I w ys k.right_are;
          value_is = k.value_is ∙ (λ i. Truth (same (string (last_holds vars I w xs x e i)) (string (last_holds vars I w ys y f i))));
        },
        h,
      )

  pub s26_keeps : IsSound vars I w used (s26 vars)
  s26_keeps t s r h g =
      let o = sides_tell t s r (λ xs ys. firsts xs ys same_ends) h g in
      let q = firsts_give t s r same_ends o.0 o.1 o.2 o.3 in
      same_ends_keep true t s r q.0 q.1 q.2 q.3 q.4.sort_is q.4.left_are q.4.right_are q.4.value_is q.5

  pub s27_keeps : IsSound vars I w used (s27 vars)
  s27_keeps t s r h g =
      let o = sides_tell t s r (λ xs ys. lasts xs ys same_ends) h g in
      let q = lasts_give t s r same_ends o.0 o.1 o.2 o.3 in
      same_ends_keep false t s r q.0 q.1 q.2 q.3 q.4.sort_is q.4.left_are q.4.right_are q.4.value_is q.5

  pub s28_keeps : IsSound vars I w used (s28 vars)
  s28_keeps t s r h g =
      let o = sides_tell t s r (λ xs ys. firsts xs ys single_ends) h g in
      let q = firsts_give t s r single_ends o.0 o.1 o.2 o.3 in
      single_ends_keep true t s r q.0 q.1 q.2 q.3 q.4.sort_is q.4.left_are q.4.right_are q.4.left_is q.4.right_is q.4.value_is q.5

  pub s29_keeps : IsSound vars I w used (s29 vars)
  s29_keeps t s r h g =
      let o = sides_tell t s r (λ xs ys. lasts xs ys single_ends) h g in
      let q = lasts_give t s r single_ends o.0 o.1 o.2 o.3 in
      single_ends_keep false t s r q.0 q.1 q.2 q.3 q.4.sort_is q.4.left_are q.4.right_are q.4.left_is q.4.right_is q.4.value_is q.5

  -- a chain with a part of one element is not empty
  not_empty : (ts : List Term) → list_any is_single ts ≡ true → held_all vars I w ts ≡ [] → ⊥
  not_empty [] h e = cc
  not_empty (t ∷ ts) h e = by_shape (is_single t) refl (λ k. not_empty ts k (no_left (held I w t) (held_all vars I w ts) e)) h
    where
      by_shape : (c : Bool) → is_single t ≡ c → (list_any is_single ts ≡ true → ⊥) → (c || list_any is_single ts) ≡ true → ⊥
      by_shape true is more h =
          let q = single_is t is in
          let one : held I w t ≡ val q.0 ∷ [] = ap (held I w) q.1 ∙ held_single I w q.0 in
          let none : val q.0 ∷ held_all vars I w ts ≡ [] = sym (ap (λ vs. vs ++ held_all vars I w ts) one) ∙ e in
          cc
      by_shape false is more h = more h

  unequal : (us vs : List Val) → (us ≡ vs → ⊥) → strings_equal us vs ≡ false
  unfolding strings_equal
  unequal us vs h = by_answer (strings_equal us vs) refl
    where
      by_answer : (c : Bool) → strings_equal us vs ≡ c → strings_equal us vs ≡ false
      by_answer true is = absurd (h (to_lists us vs is))
      by_answer false is = is

  pub s30_keeps : IsSound vars I w used (s30 vars)
  unfolding strings_equal
  s30_keeps t s r h g =
      let o = eq_tells t _ r g in
      let a : Term = o.0 in
      let c : Term = o.1 in
      let left : Bool = is_empty a && list_any is_single (chain c) in
      let right : Bool = is_empty c && list_any is_single (chain a) in
      let q = when_tells (is_str (kind vars a) && is_str (kind vars c) && (left || right)) (gives (truth false)) r o.3 in
      let f = and_parts (is_str (kind vars a) && is_str (kind vars c)) (left || right) q.0 in
      let f2 = and_parts (is_str (kind vars a)) (is_str (kind vars c)) f.0 in
      let k = open_eq I w a c s (of_kind vars I w used t (eq a c) s o.2 h) in
      let ka : HasKind I w a (str any) = string_well I w a (strings a f2.0) k.1 in
      let kc : HasKind I w c (str any) = string_well I w c (strings c f2.1) k.2 in
      let no : held I w a ≡ held I w c → ⊥ = λ e. ⊎_elim
      (λ x. let y = and_parts (is_empty a) (list_any is_single (chain c)) x in none_here a c y.0 kc y.1 e)
      (λ x. let y = and_parts (is_empty c) (list_any is_single (chain a)) x in none_here c a y.0 ka y.1 (sym e))
      (or_cases left right f.1) in
      plain vars I w used t (truth false) s r (as_kind vars I w used (truth false) b s (make_truth I w false) k.0)
      (value_roll I w (Term-F.Truth false)
      ∙ ap (λ x. Truth x) (sym (unequal (held I w a) (held I w c) no))
      ∙ (λ i. Truth (same (sym (whole_string vars I w used a ka) i) (sym (whole_string vars I w used c kc) i)))
      ∙ sym (value_roll I w (Term-F.Eq a c))
      ∙ ap (value I w) (sym o.2)) q.1
    where
      none_here : (a c : Term) → is_empty a ≡ true → HasKind I w c (str any) → list_any is_single (chain c) ≡ true → held I w a ≡ held I w c → ⊥
      none_here a c e kc any_single same_held =
          not_empty (chain c) any_single (sym (chain_holds vars I w c kc).0 ∙ sym same_held ∙ ap (held I w) (empty_tells a e) ∙ held_empty I w)

  -- equations of parts, joined to what comes before
  all_ok : List Term → Bool
  all_ok ts = list_all (λ (p : Bool). p) (map (λ (p : Valued). p.1) (map (valued I w) ts))

  tuples_same : List Term → List Term → Bool
  tuples_same ts us = same_all (vals_of (map val ts)) (vals_of (map val us))

  pub record IsJoined (f : Term) (more : Bool) (r : Term × List Term) : Type 0 where
    pub kind_is : HasKind I w r.0 b
    pub none_are : r.1 ≡ []
    pub value_is : val r.0 ≡ Truth (truth_of (val f) && more)

  and_true : (p : Bool) → (p && true) ≡ p
  and_true true = refl
  and_true false = refl

  and_assoc : (p q c : Bool) → ((p && q) && c) ≡ (p && (q && c))
  and_assoc true q c = refl
  and_assoc false q c = refl

  equal_onto_tells : (f : Term) (ts us : List Term) (r : Term × List Term) → HasKind I w f b → val f ≡ Truth (truth_of (val f)) → all_ok ts ≡ true → all_ok us ≡ true
      → equal_onto f ts us ≡ Some r → IsJoined f (tuples_same ts us) r
  unfolding all_ok tuples_same
  equal_onto_tells f [] [] r k e ht hu g =
      subst (IsJoined f true) (same_Some (f, []) r g) (record { kind_is = k; none_are = refl; value_is = e ∙ ap (λ c. Truth c) (sym (and_true (truth_of (val f)))) })
  equal_onto_tells f [] (u ∷ us) r k e ht hu g = cc
  equal_onto_tells f (t ∷ ts) [] r k e ht hu g = cc
  equal_onto_tells f (t ∷ ts) (u ∷ us) r k e ht hu g =
      let p = and_parts (kinding I w t).1 (all_ok ts) ht in
      let q = and_parts (kinding I w u).1 (all_ok us) hu in
      let joined_to : val (and f (eq t u)) ≡ Truth (truth_of (val f) && same (val t) (val u)) =
      value_roll I w (Term-F.And f (eq t u)) ∙ ap (λ v. Truth (truth_of (val f) && truth_of v)) (value_roll I w (Term-F.Eq t u)) in
      let x = equal_onto_tells (and f (eq t u)) ts us r (make_and I w f (eq t u) k (make_eq I w t u p.0 q.0)) (joined_to ∙ ap (λ v. Truth (truth_of v)) (sym joined_to)) p.1 q.1 g in
      record {
        kind_is = x.kind_is;
        none_are = x.none_are;
        value_is = x.value_is ∙ ap (λ v. Truth (truth_of v && tuples_same ts us)) joined_to ∙ ap (λ c. Truth c) (and_assoc (truth_of (val f)) (same (val t) (val u)) (tuples_same ts us));
      }

  equal_parts_tells : (ts us : List Term) (r : Term × List Term) → all_ok ts ≡ true → all_ok us ≡ true → equal_parts ts us ≡ Some r
      → HasKind I w r.0 b × (r.1 ≡ []) × (val r.0 ≡ Truth (tuples_same ts us))
  unfolding all_ok tuples_same
  equal_parts_tells [] us r ht hu g = cc
  equal_parts_tells (t ∷ ts) [] r ht hu g = cc
  equal_parts_tells (t ∷ ts) (u ∷ us) r ht hu g =
      let p = and_parts (kinding I w t).1 (all_ok ts) ht in
      let q = and_parts (kinding I w u).1 (all_ok us) hu in
      let e : val (eq t u) ≡ Truth (same (val t) (val u)) = value_roll I w (Term-F.Eq t u) in
      let x = equal_onto_tells (eq t u) ts us r (make_eq I w t u p.0 q.0) (e ∙ ap (λ v. Truth (truth_of v)) (sym e)) p.1 q.1 g in
      (x.kind_is, x.none_are, x.value_is ∙ ap (λ v. Truth (truth_of v && tuples_same ts us)) e)

  pub s31_keeps : IsSound vars I w used s31
  unfolding all_ok tuples_same
  s31_keeps t s r h g =
      let o = eq_tells t _ r g in
      let p = tuple_tells o.0 _ r o.3 in
      let q = tuple_tells o.1 _ r p.2 in
      let ts : List Term = p.0 in
      let us : List Term = q.0 in
      let e : t ≡ eq (tuple ts) (tuple us) = o.2 ∙ (λ i. eq (p.1 i) (q.1 i)) in
      let k = open_eq I w (tuple ts) (tuple us) s (of_kind vars I w used t (eq (tuple ts) (tuple us)) s e h) in
      let x = equal_parts_tells ts us r (sym (ap (λ (p : Kinding). p.1) (kinding_roll I w (Term-F.Tuple ts))) ∙ k.1) (sym (ap (λ (p : Kinding). p.1) (kinding_roll I w (Term-F.Tuple us))) ∙ k.2) q.2 in
      record {
        kind_is = λ c u. as_kind vars I w used r.0 b s x.0 k.0;
        conditions_are = subst (AllByRecursion (IsFormula I w)) (sym x.1) tt;
        value_is = λ c u.
            x.2
            ∙ (λ i. Truth (same (sym (value_roll I w (Term-F.Tuple ts)) i) (sym (value_roll I w (Term-F.Tuple us)) i)))
            ∙ sym (value_roll I w (Term-F.Eq (tuple ts) (tuple us)))
            ∙ ap (value I w) (sym e);
      }
