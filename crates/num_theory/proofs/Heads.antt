-- Folds of terms by their heads.
use Rattle.std.proofs.Common.{◌≡◌, ◌∙◌, ap, refl}
use Rattle.std.proofs.lemmas.Simd as maps
use Rattle.math_terms.specs.declared.term.Term.{Term}
use Rattle.math_terms.specs.declared.term.Term.TheOpen.{Term-F}
use Rattle.math_terms.specs.declared.term.Term.TheViews.{roll-Term}
use Rattle.math_terms.specs.declared.term.Term.TheFolds.{map-Term, fold-Term, fold-roll-Term}
use Rattle.math_terms.specs.declared.view.Binary.{Binary}
use Rattle.math_terms.specs.declared.view.Unary.{Unary}
use Rattle.math_terms.specs.Views.{binary_node, unary_node}

-- a map of a node with two children, and of one with one
binary_map : {A B : Type 0} (f : A → B) (op : Binary) (a b : A) → map-Term A B f (binary_node op a b) ≡ binary_node op (f a) (f b)
binary_map f Binary.Add a b = refl
binary_map f op a b = refl

unary_map : {A B : Type 0} (f : A → B) (op : Unary) (a : A) → map-Term A B f (unary_node op a) ≡ unary_node op (f a)
unary_map f Unary.Len a = refl
unary_map f op a = refl

-- a fold of a term with this node at its head
pub fold_at : {A : Type 0} (f : Term-F A → A) (x : Term-F Term) (t : Term) → t ≡ roll-Term x → fold-Term A f t ≡ f (map-Term Term A (fold-Term A f) x)
fold_at {A = A} f x t is = ap (fold-Term A f) is ∙ fold-roll-Term A f x

pub fold_at_two : {A : Type 0} (f : Term-F A → A) (op : Binary) (a b t : Term) → t ≡ roll-Term (binary_node op a b) → fold-Term A f t ≡ f (binary_node op (fold-Term A f a) (fold-Term A f b))
fold_at_two {A = A} f op a b t is = fold_at f (binary_node op a b) t is ∙ ap f (binary_map (fold-Term A f) op a b)

pub fold_at_one : {A : Type 0} (f : Term-F A → A) (op : Unary) (a t : Term) → t ≡ roll-Term (unary_node op a) → fold-Term A f t ≡ f (unary_node op (fold-Term A f a))
fold_at_one {A = A} f op a t is = fold_at f (unary_node op a) t is ∙ ap f (unary_map (fold-Term A f) op a)

-- two maps of a node one after the other
pub map-map : {X Y Z : Type 0} (f : X → Y) (g : Y → Z) (x : Term-F X) → map-Term Y Z g (map-Term X Y f x) ≡ map-Term X Z (λ a. g (f a)) x
map-map f g (Term-F.Tuple parts) = ap (λ ys. Term-F.Tuple ys) (maps.map-map g f parts)
map-map f g x = refl
