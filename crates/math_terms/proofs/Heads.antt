-- Terms by their heads: what folds give at a view.
use Rattle.std.proofs.Common.{◌≡◌, ◌∙◌, ap, refl, ℕ, ◌+◌, List, sum, sum_by, arith}
use Rattle.std.proofs.lemmas.List.Sums.{sum-map}
use Rattle.math_terms.specs.declared.term.Term.{Term}
use Rattle.math_terms.specs.declared.term.Term.TheOpen.{Term-F}
use Rattle.math_terms.specs.declared.term.Term.TheViews.{roll-Term}
use Rattle.math_terms.specs.declared.term.Term.TheFolds.{map-Term, fold-Term, fold-roll-Term}
use Rattle.math_terms.specs.declared.view.Binary.{Binary}
use Rattle.math_terms.specs.declared.view.Unary.{Unary}
use Rattle.math_terms.specs.Views.{binary_node, unary_node}
use Rattle.math_terms.specs.Heads.{children}
use Rattle.math_terms.specs.Terms.{nodes, nodes_step}

-- a map of a node
pub binary_map : {A B : Type 0} (f : A → B) (op : Binary) (a b : A) → map-Term A B f (binary_node op a b) ≡ binary_node op (f a) (f b)
binary_map f Binary.Add a b = refl
binary_map f op a b = refl

pub unary_map : {A B : Type 0} (f : A → B) (op : Unary) (a : A) → map-Term A B f (unary_node op a) ≡ unary_node op (f a)
unary_map f Unary.Len a = refl
unary_map f op a = refl

-- a fold of a term with this node at its head
pub fold_at : {A : Type 0} (f : Term-F A → A) (x : Term-F Term) (t : Term) → t ≡ roll-Term x → fold-Term A f t ≡ f (map-Term Term A (fold-Term A f) x)
fold_at {A = A} f x t is = ap (fold-Term A f) is ∙ fold-roll-Term A f x

pub fold_at_two : {A : Type 0} (f : Term-F A → A) (op : Binary) (a b t : Term) → t ≡ roll-Term (binary_node op a b) → fold-Term A f t ≡ f (binary_node op (fold-Term A f a) (fold-Term A f b))
fold_at_two {A = A} f op a b t is = fold_at f (binary_node op a b) t is ∙ ap f (binary_map (fold-Term A f) op a b)

pub fold_at_one : {A : Type 0} (f : Term-F A → A) (op : Unary) (a t : Term) → t ≡ roll-Term (unary_node op a) → fold-Term A f t ≡ f (unary_node op (fold-Term A f a))
fold_at_one {A = A} f op a t is = fold_at f (unary_node op a) t is ∙ ap f (unary_map (fold-Term A f) op a)

-- how many nodes it has
pub nodes_of_node : (x : Term-F ℕ) → nodes_step x ≡ 1 + sum (children x)
nodes_of_node (Term-F.Tuple parts) = refl
nodes_of_node x = omega arith

binary_nodes : (op : Binary) (a b : ℕ) → nodes_step (binary_node op a b) ≡ 1 + a + b
binary_nodes Binary.Add a b = refl
binary_nodes op a b = refl

unary_nodes : (op : Unary) (a : ℕ) → nodes_step (unary_node op a) ≡ 1 + a
unary_nodes Unary.Len a = refl
unary_nodes op a = refl

pub nodes_at_two : (op : Binary) (a b t : Term) → t ≡ roll-Term (binary_node op a b) → nodes t ≡ 1 + nodes a + nodes b
nodes_at_two op a b t is = fold_at_two nodes_step op a b t is ∙ binary_nodes op (nodes a) (nodes b)

pub nodes_at_one : (op : Unary) (a t : Term) → t ≡ roll-Term (unary_node op a) → nodes t ≡ 1 + nodes a
nodes_at_one op a t is = fold_at_one nodes_step op a t is ∙ unary_nodes op (nodes a)

pub nodes_at_tuple : (parts : List Term) (t : Term) → t ≡ roll-Term (Term-F.Tuple parts) → nodes t ≡ 1 + sum_by nodes parts
nodes_at_tuple parts t is = fold_at nodes_step (Term-F.Tuple parts) t is ∙ ap (λ n. 1 + n) (sum-map nodes parts)
