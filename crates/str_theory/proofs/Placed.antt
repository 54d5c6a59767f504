-- A rule at a position keeps what it keeps at a node.
use Rattle.std.proofs.Common.{◌≡◌, ◌∙◌, sym, ap, refl, subst, ℕ, zero, suc, Bool, true, false, ◌&&◌, List, [], ◌∷◌, map, set, Option, Some, None, slice_get}
use Rattle.std.specs.Prelude.{option_and_then, option_map}
use Rattle.std.proofs.lemmas.Bool.{and_parts}
use Rattle.std.proofs.lemmas.Option.{same_Some}
use Rattle.std.specs.List.{list_all}
use Rattle.math_terms.specs.declared.descriptor.Sort.{Sort}
use Rattle.math_terms.specs.declared.term.Term.{Term}
use Rattle.math_terms.specs.declared.term.Term.TheOpen.{Term-F}
use Rattle.math_terms.specs.declared.term.Term.TheViews.{out-Term, roll-out-Term}
use Rattle.math_terms.specs.declared.term.Term.TheFolds.{map-Term}
use Rattle.math_terms.specs.Heads.{children}
use Rattle.math_terms.specs.Positions.{first_of_two, one_of_three, with_child}
use Rattle.math_terms.specs.Terms.{every_child}
use Rattle.math_terms.specs.Meaning.{Valuation, value_step}
use Rattle.math_terms.specs.Descriptors.{Interpretation, holds, starts_in, value}
use Rattle.math_terms.specs.Kinding.{HasKind, Kinding, Valued, fits, kind_of, kinding, valued, valued_step}
use Rattle.str_theory.specs.Laws.{used_holds}
use Rattle.str_theory.specs.Positions.{around, given_at}
use Rattle.str_theory.specs.Rules.{Given}
use Rattle.str_theory.proofs.Kinded.{of_valued, opened, valued_roll, valued_value}
use Rattle.str_theory.proofs.Worth.{value_roll}
use Rattle.str_theory.proofs.Keeping.{IsRewriting, IsSound}
use Rattle.str_theory.proofs.Matching.{all_entry, mapped_entry}

and_true : (p : Bool) → (p && true) ≡ p
and_true true = refl
and_true false = refl

three_listed : (i j a : Bool) → ((i && j) && a) ≡ (i && (j && (a && true)))
three_listed true j a = ap (λ c. j && c) (sym (and_true a))
three_listed false j a = refl

-- all children as a list
every_listed : (x : Term-F Bool) → every_child x ≡ list_all (λ p. p) (children x)
every_listed (Term-F.Num n) = refl
every_listed (Term-F.Truth b) = refl
every_listed Term-F.MinInt = refl
every_listed Term-F.MaxInt = refl
every_listed (Term-F.Var v) = refl
every_listed (Term-F.Add a b) = ap (λ c. a && c) (sym (and_true b))
every_listed (Term-F.Sub a b) = ap (λ c. a && c) (sym (and_true b))
every_listed (Term-F.Mul a b) = ap (λ c. a && c) (sym (and_true b))
every_listed (Term-F.Div a b) = ap (λ c. a && c) (sym (and_true b))
every_listed (Term-F.Mod a b) = ap (λ c. a && c) (sym (and_true b))
every_listed (Term-F.Len a) = sym (and_true a)
every_listed Term-F.Empty = refl
every_listed (Term-F.Single a) = sym (and_true a)
every_listed (Term-F.Cat a b) = ap (λ c. a && c) (sym (and_true b))
every_listed (Term-F.Reverse a) = sym (and_true a)
every_listed (Term-F.Part i j a) = three_listed i j a
every_listed (Term-F.Tuple ts) = refl
every_listed (Term-F.Proj n a) = sym (and_true a)
every_listed (Term-F.Eq a b) = ap (λ c. a && c) (sym (and_true b))
every_listed (Term-F.Less a b) = ap (λ c. a && c) (sym (and_true b))
every_listed (Term-F.LessEq a b) = ap (λ c. a && c) (sym (and_true b))
every_listed (Term-F.Not a) = sym (and_true a)
every_listed (Term-F.And a b) = ap (λ c. a && c) (sym (and_true b))
every_listed (Term-F.Or a b) = ap (λ c. a && c) (sym (and_true b))
every_listed (Term-F.Implies a b) = ap (λ c. a && c) (sym (and_true b))
every_listed (Term-F.Initial n a) = sym (and_true a)

mapped_children : {A B : Type 0} (f : A → B) (x : Term-F A) → children (map-Term A B f x) ≡ map f (children x)
mapped_children f (Term-F.Num n) = refl
mapped_children f (Term-F.Truth b) = refl
mapped_children f Term-F.MinInt = refl
mapped_children f Term-F.MaxInt = refl
mapped_children f (Term-F.Var v) = refl
mapped_children f (Term-F.Add a b) = refl
mapped_children f (Term-F.Sub a b) = refl
mapped_children f (Term-F.Mul a b) = refl
mapped_children f (Term-F.Div a b) = refl
mapped_children f (Term-F.Mod a b) = refl
mapped_children f (Term-F.Len a) = refl
mapped_children f Term-F.Empty = refl
mapped_children f (Term-F.Single a) = refl
mapped_children f (Term-F.Cat a b) = refl
mapped_children f (Term-F.Reverse a) = refl
mapped_children f (Term-F.Part i j a) = refl
mapped_children f (Term-F.Tuple ts) = refl
mapped_children f (Term-F.Proj n a) = refl
mapped_children f (Term-F.Eq a b) = refl
mapped_children f (Term-F.Less a b) = refl
mapped_children f (Term-F.LessEq a b) = refl
mapped_children f (Term-F.Not a) = refl
mapped_children f (Term-F.And a b) = refl
mapped_children f (Term-F.Or a b) = refl
mapped_children f (Term-F.Implies a b) = refl
mapped_children f (Term-F.Initial n a) = refl

-- A function of terms does not see that a child is exchanged for one of which it gives the same.
module _ {A : Type 0} (f : Term → A) where
  one_child : (k : ℕ) (a new child : Term) → slice_get (a ∷ []) k ≡ Some child → f new ≡ f child → f new ≡ f a
  one_child zero a new child e h = h ∙ ap f (sym (same_Some a child e))
  one_child (suc k) a new child e h = cc

  two_children : (node : Term → Term → Term-F Term) (image : A → A → Term-F A) → ((x y : Term) → map-Term Term A f (node x y) ≡ image (f x) (f y))
      → (k : ℕ) (a b new child : Term) → slice_get (a ∷ b ∷ []) k ≡ Some child → f new ≡ f child → map-Term Term A f (first_of_two node k new a b) ≡ image (f a) (f b)
  two_children node image law zero a b new child e h = law new b ∙ ap (λ v. image v (f b)) (h ∙ ap f (sym (same_Some a child e)))
  two_children node image law (suc zero) a b new child e h = law a new ∙ ap (image (f a)) (h ∙ ap f (sym (same_Some b child e)))
  two_children node image law (suc (suc k)) a b new child e h = cc

  three_children : (k : ℕ) (i j a new child : Term) → slice_get (i ∷ j ∷ a ∷ []) k ≡ Some child → f new ≡ f child → map-Term Term A f (one_of_three k new i j a) ≡ Term-F.Part (f i) (f j) (f a)
  three_children zero i j a new child e h = ap (λ v. Term-F.Part v (f j) (f a)) (h ∙ ap f (sym (same_Some i child e)))
  three_children (suc zero) i j a new child e h = ap (λ v. Term-F.Part (f i) v (f a)) (h ∙ ap f (sym (same_Some j child e)))
  three_children (suc (suc zero)) i j a new child e h = ap (λ v. Term-F.Part (f i) (f j) v) (h ∙ ap f (sym (same_Some a child e)))
  three_children (suc (suc (suc k))) i j a new child e h = cc

  list_children : (k : ℕ) (ts : List Term) (new child : Term) → slice_get ts k ≡ Some child → f new ≡ f child → map f (set ts k new) ≡ map f ts
  list_children k [] new child e h = cc
  list_children zero (t ∷ ts) new child e h = ap (λ v. v ∷ map f ts) (h ∙ ap f (sym (same_Some t child e)))
  list_children (suc k) (t ∷ ts) new child e h = ap (λ vs. f t ∷ vs) (list_children k ts new child e h)

  same_children : (k : ℕ) (x : Term-F Term) (new child : Term) → slice_get (children x) k ≡ Some child → f new ≡ f child → map-Term Term A f (with_child k new x) ≡ map-Term Term A f x
  same_children k (Term-F.Num n) new child e h = cc
  same_children k (Term-F.Truth b) new child e h = cc
  same_children k Term-F.MinInt new child e h = cc
  same_children k Term-F.MaxInt new child e h = cc
  same_children k (Term-F.Var v) new child e h = cc
  same_children k (Term-F.Add a b) new child e h = two_children (λ x y. Term-F.Add x y) (λ x y. Term-F.Add x y) (λ x y. refl) k a b new child e h
  same_children k (Term-F.Sub a b) new child e h = two_children (λ x y. Term-F.Sub x y) (λ x y. Term-F.Sub x y) (λ x y. refl) k a b new child e h
  same_children k (Term-F.Mul a b) new child e h = two_children (λ x y. Term-F.Mul x y) (λ x y. Term-F.Mul x y) (λ x y. refl) k a b new child e h
  same_children k (Term-F.Div a b) new child e h = two_children (λ x y. Term-F.Div x y) (λ x y. Term-F.Div x y) (λ x y. refl) k a b new child e h
  same_children k (Term-F.Mod a b) new child e h = two_children (λ x y. Term-F.Mod x y) (λ x y. Term-F.Mod x y) (λ x y. refl) k a b new child e h
  same_children k (Term-F.Len a) new child e h = ap (λ v. Term-F.Len v) (one_child k a new child e h)
  same_children k Term-F.Empty new child e h = cc
  same_children k (Term-F.Single a) new child e h = ap (λ v. Term-F.Single v) (one_child k a new child e h)
  same_children k (Term-F.Cat a b) new child e h = two_children (λ x y. Term-F.Cat x y) (λ x y. Term-F.Cat x y) (λ x y. refl) k a b new child e h
  same_children k (Term-F.Reverse a) new child e h = ap (λ v. Term-F.Reverse v) (one_child k a new child e h)
  same_children k (Term-F.Part i j a) new child e h = three_children k i j a new child e h
  same_children k (Term-F.Tuple ts) new child e h = ap (λ vs. Term-F.Tuple vs) (list_children k ts new child e h)
  same_children k (Term-F.Proj n a) new child e h = ap (λ v. Term-F.Proj n v) (one_child k a new child e h)
  same_children k (Term-F.Eq a b) new child e h = two_children (λ x y. Term-F.Eq x y) (λ x y. Term-F.Eq x y) (λ x y. refl) k a b new child e h
  same_children k (Term-F.Less a b) new child e h = two_children (λ x y. Term-F.Less x y) (λ x y. Term-F.Less x y) (λ x y. refl) k a b new child e h
  same_children k (Term-F.LessEq a b) new child e h = two_children (λ x y. Term-F.LessEq x y) (λ x y. Term-F.LessEq x y) (λ x y. refl) k a b new child e h
  same_children k (Term-F.Not a) new child e h = ap (λ v. Term-F.Not v) (one_child k a new child e h)
  same_children k (Term-F.And a b) new child e h = two_children (λ x y. Term-F.And x y) (λ x y. Term-F.And x y) (λ x y. refl) k a b new child e h
  same_children k (Term-F.Or a b) new child e h = two_children (λ x y. Term-F.Or x y) (λ x y. Term-F.Or x y) (λ x y. refl) k a b new child e h
  same_children k (Term-F.Implies a b) new child e h = two_children (λ x y. Term-F.Implies x y) (λ x y. Term-F.Implies x y) (λ x y. refl) k a b new child e h
  same_children k (Term-F.Initial n a) new child e h = ap (λ v. Term-F.Initial n v) (one_child k a new child e h)

module _ (vars : List Sort) (I : Interpretation) (w : Valuation) (used : Option Term) where
  child_ok : (x : Term-F Term) (k : ℕ) (child : Term) → slice_get (children x) k ≡ Some child → every_child (map-Term Valued Bool (λ p. p.1) (map-Term Term Valued (valued I w) x)) ≡ true → (valued I w child).1 ≡ true
  child_ok x k child e h =
      let all : Term-F Valued = map-Term Term Valued (valued I w) x in
      let listed : children (map-Term Valued Bool (λ p. p.1) all) ≡ map (λ (p : Valued). p.1) (map (valued I w) (children x)) =
      mapped_children (λ (p : Valued). p.1) all ∙ ap (map (λ (p : Valued). p.1)) (mapped_children (valued I w) x) in
      all_entry (map (λ (p : Valued). p.1) (map (valued I w) (children x))) k (valued I w child).1
      (mapped_entry (λ (p : Valued). p.1) (map (valued I w) (children x)) k (valued I w child) (mapped_entry (valued I w) (children x) k child e))
      (ap (list_all (λ p. p)) (sym listed) ∙ sym (every_listed (map-Term Valued Bool (λ p. p.1) all)) ∙ h)

  -- around a child that is rewritten
  around_keeps : (t child : Term) (s : Sort) (k : ℕ) (q : Term × List Term) → HasKind I w t s → slice_get (children (out-Term t)) k ≡ Some child
      → IsRewriting vars I w used child (kinding I w child).0 q → (kinding I w child).1 ≡ true → IsRewriting vars I w used t s (around k (out-Term t) q)
  around_keeps t child s k q h e c o =
      let x : Term-F Term = out-Term t in
      let same_valued : list_all (holds I w) q.1 ≡ true → used_holds I w used ≡ true → valued I w q.0 ≡ valued I w child =
      λ a u i. ((valued_value I w q.0 ∙ c.value_is a u ∙ sym (valued_value I w child)) i, (ap (λ (p : Kinding). p.1) (c.kind_is a u) ∙ sym o) i) in
      record {
        kind_is = λ a u.
            ap (of_valued I w) (valued_roll I w (with_child k q.0 x)
            ∙ ap (valued_step I w) (same_children (valued I w) k x q.0 child e (same_valued a u))
            ∙ sym (valued_roll I w x)
            ∙ ap (valued I w) (roll-out-Term t))
            ∙ h;
        conditions_are = c.conditions_are;
        value_is = λ a u.
            value_roll I w (with_child k q.0 x)
            ∙ ap (value_step (starts_in I) w) (same_children (value I w) k x q.0 child e (c.value_is a u))
            ∙ sym (value_roll I w x)
            ∙ ap (value I w) (roll-out-Term t);
      }

  pub given_at_keeps : (rule : Term → Given) → IsSound vars I w used rule → (ps : List ℕ) → IsSound vars I w used (given_at ps rule)
  given_at_keeps rule sound [] t s r h g = sound t s r h g
  given_at_keeps rule sound (zero ∷ ps) t s r h g = cc
  given_at_keeps rule sound (suc k ∷ ps) t s r h g = down (slice_get (children (out-Term t)) k) refl (given_at_keeps rule sound ps) g
    where
      new_child : (child : Term) (o : Option (Term × List Term)) → slice_get (children (out-Term t)) k ≡ Some child → (kinding I w child).1 ≡ true
          → ((q : Term × List Term) → o ≡ Some q → IsRewriting vars I w used child (kinding I w child).0 q) → option_map (around k (out-Term t)) o ≡ Some r → IsRewriting vars I w used t s r
      new_child child None e ok inner g = cc
      new_child child (Some q) e ok inner g =
          subst (IsRewriting vars I w used t s) (same_Some (around k (out-Term t) q) r g) (around_keeps t child s k q h e (inner q refl) ok)

      down : (o : Option Term) → slice_get (children (out-Term t)) k ≡ o → IsSound vars I w used (given_at ps rule)
          → option_and_then (λ child. option_map (around k (out-Term t)) (given_at ps rule child)) o ≡ Some r → IsRewriting vars I w used t s r
      down None e inner g = cc
      down (Some child) e inner g =
          let p = opened I w (out-Term t) s (ap (kinding I w) (roll-out-Term t) ∙ h) in
          let ok = child_ok (out-Term t) k child e
          (and_parts (fits (map-Term Valued Sort (λ p. kind_of p.0) (map-Term Term Valued (valued I w) (out-Term t)))) (every_child (map-Term Valued Bool (λ p. p.1) (map-Term Term Valued (valued I w) (out-Term t)))) (ap (λ (p : Kinding). p.1) p)).1 in
          new_child child (given_at ps rule child) e ok (λ q is. inner child (kinding I w child).0 q (λ i. ((kinding I w child).0, ok i)) is) g
