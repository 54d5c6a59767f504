-- Terms are equal where they are the same, node by node.
use Rattle.std.proofs.Common.{◌≡◌, ◌∙◌, sym, ap, refl, subst, ℕ, ◌==◌, ℤ, pos, unsigned_abs, Bool, true, false, ◌&&◌, List, [], ◌∷◌, map, Option, Some, None, slice_get, ◌↔◌}
use Rattle.std.specs.Prelude.{option_and_then}
use Rattle.std.specs.Ordering.{int_eq}
use Rattle.std.proofs.lemmas.Bool.{and_parts, and_from, eqb-true, eq-eqb}
use Rattle.std.proofs.lemmas.Bool.Decides.{Decides-int_eq}
use Rattle.math_terms.specs.declared.term.Term.{Term}
use Rattle.math_terms.specs.declared.term.Term.TheOpen.{Term-F}
use Rattle.math_terms.specs.declared.term.Term.TheViews.{roll-Term, out-Term, roll-out-Term, out-roll-Term}
use Rattle.math_terms.specs.declared.term.Term.TheFolds.{map-Term, fold-roll-Term, ind-Term}
use Rattle.math_terms.specs.Heads.{form, own, children, pairwise, same_node, same_term}

-- a node with this number of its own and these children, where there are as many as the form has
abbrev own_number : {A : Type 0} → (ℤ → Term-F A) → ℤ → List A → Option (Term-F A)
own_number f n cs = Some (f n)

abbrev one : {A : Type 0} → (ℤ → A → Term-F A) → ℤ → List A → Option (Term-F A)
one f n [] = None
one f n (a ∷ []) = Some (f n a)
one f n (a ∷ b ∷ cs) = None

abbrev two : {A : Type 0} → (A → A → Term-F A) → ℤ → List A → Option (Term-F A)
two f n [] = None
two f n (a ∷ []) = None
two f n (a ∷ b ∷ []) = Some (f a b)
two f n (a ∷ b ∷ c ∷ cs) = None

abbrev three : {A : Type 0} → (A → A → A → Term-F A) → ℤ → List A → Option (Term-F A)
three f n [] = None
three f n (a ∷ []) = None
three f n (a ∷ b ∷ []) = None
three f n (a ∷ b ∷ c ∷ []) = Some (f a b c)
three f n (a ∷ b ∷ c ∷ d ∷ cs) = None

-- how a node of each form is made, in the order of the forms
abbrev makers : {A : Type 0} → List (ℤ → List A → Option (Term-F A))
makers =
    own_number (λ n. Term-F.Num n)
    ∷ (own_number (λ n. Term-F.Truth (int_eq n (pos 1))))
    ∷ (own_number (λ n. Term-F.MinInt))
    ∷ (own_number (λ n. Term-F.MaxInt))
    ∷ (own_number (λ n. Term-F.Var (unsigned_abs n)))
    ∷ (two (λ a b. Term-F.Add a b))
    ∷ (two (λ a b. Term-F.Sub a b))
    ∷ (two (λ a b. Term-F.Mul a b))
    ∷ (two (λ a b. Term-F.Div a b))
    ∷ (two (λ a b. Term-F.Mod a b))
    ∷ (one (λ n a. Term-F.Len a))
    ∷ (own_number (λ n. Term-F.Empty))
    ∷ (one (λ n a. Term-F.Single a))
    ∷ (two (λ a b. Term-F.Cat a b))
    ∷ (one (λ n a. Term-F.Reverse a))
    ∷ (three (λ i j a. Term-F.Part i j a))
    ∷ (λ n cs. Some (Term-F.Tuple cs))
    ∷ (one (λ n a. Term-F.Proj (unsigned_abs n) a))
    ∷ (two (λ a b. Term-F.Eq a b))
    ∷ (two (λ a b. Term-F.Less a b))
    ∷ (two (λ a b. Term-F.LessEq a b))
    ∷ (one (λ n a. Term-F.Not a))
    ∷ (two (λ a b. Term-F.And a b))
    ∷ (two (λ a b. Term-F.Or a b))
    ∷ (two (λ a b. Term-F.Implies a b))
    ∷ (one (λ n a. Term-F.Initial (unsigned_abs n) a))
    ∷ []

abbrev remade : {A : Type 0} → ℕ → ℤ → List A → Option (Term-F A)
remade n z cs = option_and_then (λ f. f z cs) (slice_get makers n)

truth_remade : {A : Type 0} (b : Bool) → remade {A = A} 1 (own {A = A} (Term-F.Truth b)) [] ≡ Some (Term-F.Truth b)
truth_remade true = refl
truth_remade false = refl

-- a node is told by its form, its own number and its children
node_remade : {A : Type 0} (x : Term-F A) → remade (form x) (own x) (children x) ≡ Some x
node_remade (Term-F.Truth b) = truth_remade b
node_remade x = refl

-- a node whose children are mapped has the same form and the same number of its own
pub mapped_heads : {A B : Type 0} (f : A → B) (x : Term-F A) →
    (form (map-Term A B f x) ≡ form x) × (own (map-Term A B f x) ≡ own x) × (children (map-Term A B f x) ≡ map f (children x))
mapped_heads f (Term-F.Num n) = (refl, refl, refl)
mapped_heads f x = (refl, refl, refl)

Decided : Term → Type 0
Decided t = (u : Term) → (same_term t u ≡ true) ↔ (t ≡ u)

-- a term with that fact of it
abbrev Known : Type 0
Known = (t : Term) × Decided t

abbrev bare : List Known → List Term
bare ys = map (λ (e : Known). e.0) ys

pairs_equal : (ys : List Known) (vs : List Term) → pairwise (map same_term (bare ys)) vs ≡ true → bare ys ≡ vs
unfolding Decided
pairs_equal [] [] h = refl
pairs_equal [] (v ∷ vs) h = cc
pairs_equal (y ∷ ys) [] h = cc
pairs_equal (y ∷ ys) (v ∷ vs) h =
    let p = and_parts (same_term y.0 v) (pairwise (map same_term (bare ys)) vs) h in
    λ i. (y.1 v).0 p.0 i ∷ pairs_equal ys vs p.1 i

pairs_same : (ys : List Known) → pairwise (map same_term (bare ys)) (bare ys) ≡ true
unfolding Decided
pairs_same [] = refl
pairs_same (y ∷ ys) = and_from (same_term y.0 y.0) (pairwise (map same_term (bare ys)) (bare ys)) ((y.1 y.0).1 refl) (pairs_same ys)

-- nodes are the same where these three are
pub same_heads : {A : Type 0} (x v : Term-F A) → form x ≡ form v → own x ≡ own v → children x ≡ children v → x ≡ v
same_heads x v e f g =
    let all : Some x ≡ Some v = sym (node_remade x) ∙ (λ i. remade (e i) (f i) (g i)) ∙ node_remade v in
    cc

-- a node of terms with that fact, without it
abbrev node : Term-F Known → Term-F Term
node y = map-Term Known Term (λ e. e.0) y

abbrev tests : Term-F Term → Term-F (Term → Bool)
tests x = map-Term Term (Term → Bool) same_term x

children_of_tests : (y : Term-F Known) → children (tests (node y)) ≡ map same_term (bare (children y))
children_of_tests y =
    (mapped_heads same_term (node y)).2 ∙ ap (map same_term) (mapped_heads (λ (e : Known). e.0) y).2

node_equal : (y : Term-F Known) (v : Term-F Term) → same_node (tests (node y)) v ≡ true → node y ≡ v
node_equal y v h =
    let x = node y in
    let p = and_parts ((form (tests x) == form v) && int_eq (own (tests x)) (own v)) (pairwise (children (tests x)) (children v)) h in
    let q = and_parts (form (tests x) == form v) (int_eq (own (tests x)) (own v)) p.0 in
    let heads = mapped_heads same_term x in
    let pairs : pairwise (map same_term (bare (children y))) (children v) ≡ true = ap (λ fs. pairwise fs (children v)) (sym (children_of_tests y)) ∙ p.1 in
    same_heads x v
    (sym heads.0 ∙ eqb-true (form (tests x)) (form v) q.0)
    (sym heads.1 ∙ (Decides-int_eq (own (tests x)) (own v)).0 q.1)
    ((mapped_heads (λ (e : Known). e.0) y).2 ∙ pairs_equal (children y) (children v) pairs)

node_same : (y : Term-F Known) → same_node (tests (node y)) (node y) ≡ true
node_same y =
    let x = node y in
    let heads = mapped_heads same_term x in
    let numbers = and_from (form (tests x) == form x) (int_eq (own (tests x)) (own x)) (eq-eqb (form (tests x)) (form x) heads.0) ((Decides-int_eq (own (tests x)) (own x)).1 heads.1) in
    let pairs : pairwise (children (tests x)) (children x) ≡ true =
    (λ i. pairwise (children_of_tests y i) ((mapped_heads (λ (e : Known). e.0) y).2 i)) ∙ pairs_same (children y) in
    and_from ((form (tests x) == form x) && int_eq (own (tests x)) (own x)) (pairwise (children (tests x)) (children x)) numbers pairs

abbrev opened : Term-F (Term → Bool) → Term → Bool
opened x u = same_node x (out-Term u)

pub same_term_decides : (t u : Term) → (same_term t u ≡ true) ↔ (t ≡ u)
unfolding Decided
same_term_decides = ind-Term Decided (λ x y is u.
    let step : same_term (roll-Term x) u ≡ same_node (tests x) (out-Term u) = ap (λ f. f u) (fold-roll-Term (Term → Bool) opened x) in
    let equal = subst (λ z. (v : Term-F Term) → same_node (tests z) v ≡ true → z ≡ v) is (node_equal y) in
    let same = subst (λ z. same_node (tests z) z ≡ true) is (node_same y) in (
      λ h. ap roll-Term (equal (out-Term u) (sym step ∙ h)) ∙ roll-out-Term u,
      λ e. step ∙ ap (λ w. same_node (tests x) (out-Term w)) (sym e) ∙ ap (same_node (tests x)) (out-roll-Term x) ∙ same,
    ))
