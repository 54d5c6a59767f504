-- Nodes by their forms, their own numbers and their children.
use Rattle.std.proofs.Common.{◌≡◌, ◌∙◌, sym, ap, refl, ℕ, ◌+◌, ◌==◌, ℤ, pos, unsigned_abs, Bool, true, false, ◌&&◌, List, [], ◌∷◌, map, length, sum, sum_by, Option, Some, None, slice_get, if◌then◌else◌, arith}
use Rattle.std.specs.Prelude.{option_and_then}
use Rattle.std.specs.Ordering.{int_eq}
use Rattle.std.proofs.lemmas.List.Sums.{sum_by-cons, sum-map}
use Rattle.math_terms.specs.declared.term.Term.{Term}
use Rattle.math_terms.specs.declared.term.Term.TheOpen.{Term-F}
use Rattle.math_terms.specs.declared.term.Term.TheViews.{roll-Term, out-Term, roll-out-Term}
use Rattle.math_terms.specs.declared.term.Term.TheFolds.{map-Term, fold_out-Term}
use Rattle.math_terms.specs.Heads.{form, own, children}
use Rattle.math_terms.specs.Terms.{nodes, nodes_step}
use Rattle.term_cells.specs.declared.cell.Cell.{Cell}
use Rattle.term_cells.specs.Standing.{children_stand, few_stand, parts_stand, quotient_stands}
use Rattle.term_cells.specs.working.Arity.{arity}

-- a node whose children are mapped has the same form and the same number of its own
pub mapped_heads : {A B : Type 0} (f : A → B) (x : Term-F A) →
    (form (map-Term A B f x) ≡ form x) × (own (map-Term A B f x) ≡ own x) × (children (map-Term A B f x) ≡ map f (children x))
mapped_heads f (Term-F.Num n) = (refl, refl, refl)
mapped_heads f x = (refl, refl, refl)

-- how the children of a node of a form stand
abbrev pub form_stands : List Cell → ℕ → List (ℕ → Bool) → Cell → ℕ → Bool
form_stands cells k ps c node =
    if k == 16 then parts_stand cells ps c.a node
    else if k == 9 then few_stand ps c node && quotient_stands cells c node
    else few_stand ps c node

pub children_stand_is : (cells : List Cell) (x : Term-F (ℕ → Bool)) (c : Cell) (node : ℕ) → children_stand cells x c node ≡ form_stands cells (form x) (children x) c node
children_stand_is cells (Term-F.Num n) c node = refl
children_stand_is cells x c node = refl

pub children_counted : {A : Type 0} (x : Term-F A) → (form x == 16) ≡ false → length (children x) ≡ arity (form x)
children_counted (Term-F.Tuple parts) h = cc
children_counted x h = refl

pub nodes_step_is : (x : Term-F ℕ) → nodes_step x ≡ 1 + sum (children x)
nodes_step_is (Term-F.Num n) = refl
nodes_step_is (Term-F.Truth b) = refl
nodes_step_is Term-F.MinInt = refl
nodes_step_is Term-F.MaxInt = refl
nodes_step_is (Term-F.Var k) = refl
nodes_step_is (Term-F.Add a b) = omega (arith, sum_by-cons (λ n. n) a (b ∷ []), sum_by-cons (λ n. n) b ([]))
nodes_step_is (Term-F.Sub a b) = omega (arith, sum_by-cons (λ n. n) a (b ∷ []), sum_by-cons (λ n. n) b ([]))
nodes_step_is (Term-F.Mul a b) = omega (arith, sum_by-cons (λ n. n) a (b ∷ []), sum_by-cons (λ n. n) b ([]))
nodes_step_is (Term-F.Div a b) = omega (arith, sum_by-cons (λ n. n) a (b ∷ []), sum_by-cons (λ n. n) b ([]))
nodes_step_is (Term-F.Mod a b) = omega (arith, sum_by-cons (λ n. n) a (b ∷ []), sum_by-cons (λ n. n) b ([]))
nodes_step_is (Term-F.Len a) = omega (arith, sum_by-cons (λ n. n) a ([]))
nodes_step_is Term-F.Empty = refl
nodes_step_is (Term-F.Single a) = omega (arith, sum_by-cons (λ n. n) a ([]))
nodes_step_is (Term-F.Cat a b) = omega (arith, sum_by-cons (λ n. n) a (b ∷ []), sum_by-cons (λ n. n) b ([]))
nodes_step_is (Term-F.Reverse a) = omega (arith, sum_by-cons (λ n. n) a ([]))
nodes_step_is (Term-F.Part i j a) = omega (arith, sum_by-cons (λ n. n) i (j ∷ a ∷ []), sum_by-cons (λ n. n) j (a ∷ []), sum_by-cons (λ n. n) a ([]))
nodes_step_is (Term-F.Tuple parts) = refl
nodes_step_is (Term-F.Proj k a) = omega (arith, sum_by-cons (λ n. n) a ([]))
nodes_step_is (Term-F.Eq a b) = omega (arith, sum_by-cons (λ n. n) a (b ∷ []), sum_by-cons (λ n. n) b ([]))
nodes_step_is (Term-F.Less a b) = omega (arith, sum_by-cons (λ n. n) a (b ∷ []), sum_by-cons (λ n. n) b ([]))
nodes_step_is (Term-F.LessEq a b) = omega (arith, sum_by-cons (λ n. n) a (b ∷ []), sum_by-cons (λ n. n) b ([]))
nodes_step_is (Term-F.Not a) = omega (arith, sum_by-cons (λ n. n) a ([]))
nodes_step_is (Term-F.And a b) = omega (arith, sum_by-cons (λ n. n) a (b ∷ []), sum_by-cons (λ n. n) b ([]))
nodes_step_is (Term-F.Or a b) = omega (arith, sum_by-cons (λ n. n) a (b ∷ []), sum_by-cons (λ n. n) b ([]))
nodes_step_is (Term-F.Implies a b) = omega (arith, sum_by-cons (λ n. n) a (b ∷ []), sum_by-cons (λ n. n) b ([]))
nodes_step_is (Term-F.Initial k a) = omega (arith, sum_by-cons (λ n. n) a ([]))

-- a term has one node more than its children have
pub nodes_are : (t : Term) → nodes t ≡ 1 + sum (map nodes (children (out-Term t)))
nodes_are t =
    fold_out-Term ℕ nodes_step t
    ∙ nodes_step_is (map-Term Term ℕ nodes (out-Term t))
    ∙ ap (λ ns. 1 + sum ns) (mapped_heads nodes (out-Term t)).2

pub nodes_by_list : (t : Term) (ts : List Term) → ts ≡ children (out-Term t) → nodes t ≡ 1 + sum_by nodes ts
nodes_by_list t ts e = nodes_are t ∙ ap (λ us. 1 + sum (map nodes us)) (sym e) ∙ ap (λ n. 1 + n) (sum-map nodes ts)

pub nodes_by_one : (t a : Term) → a ∷ [] ≡ children (out-Term t) → nodes t ≡ 1 + nodes a
nodes_by_one t a e = omega (arith, nodes_by_list t (a ∷ []) e, sum_by-cons nodes a [])

pub nodes_by_two : (t a b : Term) → a ∷ b ∷ [] ≡ children (out-Term t) → nodes t ≡ 1 + nodes a + nodes b
nodes_by_two t a b e = omega (arith, nodes_by_list t (a ∷ b ∷ []) e, sum_by-cons nodes a (b ∷ []), sum_by-cons nodes b [])

pub nodes_by_three : (t a b c : Term) → a ∷ b ∷ c ∷ [] ≡ children (out-Term t) → nodes t ≡ 1 + nodes a + nodes b + nodes c
nodes_by_three t a b c e =
    omega (arith, nodes_by_list t (a ∷ b ∷ c ∷ []) e, sum_by-cons nodes a (b ∷ c ∷ []), sum_by-cons nodes b (c ∷ []), sum_by-cons nodes c [])

-- how a node of each form is made from its own number and its children, where there are as many as the form has
abbrev leaf : {A : Type 0} → (ℤ → Term-F A) → ℤ → List A → Option (Term-F A)
leaf f n cs = Some (f n)

abbrev one : {A : Type 0} → (ℤ → A → Term-F A) → ℤ → List A → Option (Term-F A)
one f n [] = None
one f n (a ∷ []) = Some (f n a)
one f n (a ∷ b ∷ cs) = None

abbrev two : {A : Type 0} → (A → A → Term-F A) → ℤ → List A → Option (Term-F A)
two f n [] = None
two f n (a ∷ []) = None
two f n (a ∷ b ∷ []) = Some (f a b)
two f n (a ∷ b ∷ c ∷ cs) = None

abbrev three : {A : Type 0} → (A → A → A → Term-F A) → ℤ → List A → Option (Term-F A)
three f n [] = None
three f n (a ∷ []) = None
three f n (a ∷ b ∷ []) = None
three f n (a ∷ b ∷ c ∷ []) = Some (f a b c)
three f n (a ∷ b ∷ c ∷ d ∷ cs) = None

abbrev makers : {A : Type 0} → List (ℤ → List A → Option (Term-F A))
makers =
    leaf (λ n. Term-F.Num n)
    ∷ leaf (λ n. Term-F.Truth (int_eq n (pos 1)))
    ∷ leaf (λ n. Term-F.MinInt)
    ∷ leaf (λ n. Term-F.MaxInt)
    ∷ leaf (λ n. Term-F.Var (unsigned_abs n))
    ∷ two (λ a b. Term-F.Add a b)
    ∷ two (λ a b. Term-F.Sub a b)
    ∷ two (λ a b. Term-F.Mul a b)
    ∷ two (λ a b. Term-F.Div a b)
    ∷ two (λ a b. Term-F.Mod a b)
    ∷ one (λ n a. Term-F.Len a)
    ∷ leaf (λ n. Term-F.Empty)
    ∷ one (λ n a. Term-F.Single a)
    ∷ two (λ a b. Term-F.Cat a b)
    ∷ one (λ n a. Term-F.Reverse a)
    ∷ three (λ i j a. Term-F.Part i j a)
    ∷ (λ n cs. Some (Term-F.Tuple cs))
    ∷ one (λ n a. Term-F.Proj (unsigned_abs n) a)
    ∷ two (λ a b. Term-F.Eq a b)
    ∷ two (λ a b. Term-F.Less a b)
    ∷ two (λ a b. Term-F.LessEq a b)
    ∷ one (λ n a. Term-F.Not a)
    ∷ two (λ a b. Term-F.And a b)
    ∷ two (λ a b. Term-F.Or a b)
    ∷ two (λ a b. Term-F.Implies a b)
    ∷ one (λ n a. Term-F.Initial (unsigned_abs n) a)
    ∷ []

abbrev pub remade : {A : Type 0} → ℕ → ℤ → List A → Option (Term-F A)
remade k n cs = option_and_then (λ f. f n cs) (slice_get makers k)

truth_remade : {A : Type 0} (b : Bool) → remade {A = A} 1 (own {A = A} (Term-F.Truth b)) [] ≡ Some (Term-F.Truth b)
truth_remade true = refl
truth_remade false = refl

-- a node is told by its form, its own number and its children
pub node_remade : {A : Type 0} (x : Term-F A) → remade (form x) (own x) (children x) ≡ Some x
node_remade (Term-F.Truth b) = truth_remade b
node_remade x = refl

pub same_nodes : {A : Type 0} (x y : Term-F A) → form x ≡ form y → own x ≡ own y → children x ≡ children y → x ≡ y
same_nodes x y e f g =
    let all : Some x ≡ Some y = sym (node_remade x) ∙ (λ i. remade (e i) (f i) (g i)) ∙ node_remade y in
    cc

-- terms whose heads are the same are the same
pub same_terms : (t u : Term) → form (out-Term t) ≡ form (out-Term u) → own (out-Term t) ≡ own (out-Term u) → children (out-Term t) ≡ children (out-Term u) → t ≡ u
same_terms t u e f g = sym (roll-out-Term t) ∙ ap roll-Term (same_nodes (out-Term t) (out-Term u) e f g) ∙ roll-out-Term u
