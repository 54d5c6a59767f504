-- A node's form, its own number and its children: with these three a term is told.
use Rattle.std.specs.Prelude.{ℕ, ◌==◌, ℤ, pos, Bool, true, false, ◌&&◌, List, [], ◌∷◌}
use Rattle.std.specs.Ordering.{int_eq}
use Rattle.math_terms.specs.declared.term.Term.{Term}
use Rattle.math_terms.specs.declared.term.Term.TheOpen.{Term-F}
use Rattle.math_terms.specs.declared.term.Term.TheViews.{out-Term}
use Rattle.math_terms.specs.declared.term.Term.TheFolds.{fold-Term}
use Rattle.math_terms.specs.Forms.{form as form_of, form_number}

-- the number of a node's form
abbrev pub form : {A : Type 0} → Term-F A → ℕ
form x = form_number (form_of x)

-- the number, truth value or index that stands in the node itself, 0 where there is none
abbrev pub truth_number : Bool → ℤ
truth_number true = pos 1
truth_number false = pos 0

abbrev pub own : {A : Type 0} → Term-F A → ℤ
own (Term-F.Num n) = n
own (Term-F.Truth b) = truth_number b
own (Term-F.Var k) = pos k
own (Term-F.Proj k a) = pos k
own (Term-F.Initial k a) = pos k
own x = pos 0

-- the children from the left
abbrev pub children : {A : Type 0} → Term-F A → List A
children (Term-F.Add a b) = a ∷ b ∷ []
children (Term-F.Sub a b) = a ∷ b ∷ []
children (Term-F.Mul a b) = a ∷ b ∷ []
children (Term-F.Div a b) = a ∷ b ∷ []
children (Term-F.Mod a b) = a ∷ b ∷ []
children (Term-F.Len a) = a ∷ []
children (Term-F.Single a) = a ∷ []
children (Term-F.Cat a b) = a ∷ b ∷ []
children (Term-F.Reverse a) = a ∷ []
children (Term-F.Part i j a) = i ∷ j ∷ a ∷ []
children (Term-F.Tuple parts) = parts
children (Term-F.Proj k a) = a ∷ []
children (Term-F.Eq a b) = a ∷ b ∷ []
children (Term-F.Less a b) = a ∷ b ∷ []
children (Term-F.LessEq a b) = a ∷ b ∷ []
children (Term-F.Not a) = a ∷ []
children (Term-F.And a b) = a ∷ b ∷ []
children (Term-F.Or a b) = a ∷ b ∷ []
children (Term-F.Implies a b) = a ∷ b ∷ []
children (Term-F.Initial k a) = a ∷ []
children x = []

-- all pairs at the same places pass, and there are as many of the one as of the other
abbrev pub pairwise : {A : Type 0} → List (A → Bool) → List A → Bool
pairwise [] [] = true
pairwise [] (x ∷ xs) = false
pairwise (p ∷ ps) [] = false
pairwise (p ∷ ps) (x ∷ xs) = p x && pairwise ps xs

abbrev pub same_node : Term-F (Term → Bool) → Term-F Term → Bool
same_node x y = (form x == form y) && int_eq (own x) (own y) && pairwise (children x) (children y)

-- two terms are the same, node by node
abbrev pub same_term : Term → Term → Bool
same_term t u = fold-Term (Term → Bool) (λ x v. same_node x (out-Term v)) t u
