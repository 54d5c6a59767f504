-- Positions in terms: child numbers from 1, from the root down.
use Rattle.std.specs.Prelude.{ℕ, zero, suc, List, [], ◌∷◌, Option, Some, None, option_and_then, option_map, set, slice_get}
use Rattle.math_terms.specs.declared.name.TermError.{TermError}
use Rattle.math_terms.specs.declared.term.Term.{Term}
use Rattle.math_terms.specs.declared.term.Term.TheOpen.{Term-F}
use Rattle.math_terms.specs.declared.term.Term.TheViews.{out-Term, roll-Term}
use Rattle.math_terms.specs.Heads.{children}
use Rattle.math_terms.specs.Terms.{IsSizeRefusal, nodes}

-- the entry of this number, counted from 1
abbrev pub numbered : {A : Type 0} → ℕ → List A → Option A
numbered zero xs = None
numbered (suc k) xs = slice_get xs k

-- the subterm at a position
abbrev pub at : List ℕ → Term → Option Term
at [] t = Some t
at (p ∷ ps) t = option_and_then (λ c. at ps c) (numbered p (children (out-Term t)))

-- a node with another child at a place, counted from 0
abbrev pub first_of_two : {A : Type 0} → (A → A → Term-F A) → ℕ → A → A → A → Term-F A
first_of_two node zero new a b = node new b
first_of_two node (suc k) new a b = node a new

abbrev pub one_of_three : {A : Type 0} → ℕ → A → A → A → A → Term-F A
one_of_three zero new i j a = Term-F.Part new j a
one_of_three (suc zero) new i j a = Term-F.Part i new a
one_of_three (suc (suc k)) new i j a = Term-F.Part i j new

abbrev pub with_child : {A : Type 0} → ℕ → A → Term-F A → Term-F A
with_child k new (Term-F.Add a b) = first_of_two (λ x y. Term-F.Add x y) k new a b
with_child k new (Term-F.Sub a b) = first_of_two (λ x y. Term-F.Sub x y) k new a b
with_child k new (Term-F.Mul a b) = first_of_two (λ x y. Term-F.Mul x y) k new a b
with_child k new (Term-F.Div a b) = first_of_two (λ x y. Term-F.Div x y) k new a b
with_child k new (Term-F.Mod a b) = first_of_two (λ x y. Term-F.Mod x y) k new a b
with_child k new (Term-F.Len a) = Term-F.Len new
with_child k new (Term-F.Single a) = Term-F.Single new
with_child k new (Term-F.Cat a b) = first_of_two (λ x y. Term-F.Cat x y) k new a b
with_child k new (Term-F.Reverse a) = Term-F.Reverse new
with_child k new (Term-F.Part i j a) = one_of_three k new i j a
with_child k new (Term-F.Tuple parts) = Term-F.Tuple (set parts k new)
with_child k new (Term-F.Proj n a) = Term-F.Proj n new
with_child k new (Term-F.Eq a b) = first_of_two (λ x y. Term-F.Eq x y) k new a b
with_child k new (Term-F.Less a b) = first_of_two (λ x y. Term-F.Less x y) k new a b
with_child k new (Term-F.LessEq a b) = first_of_two (λ x y. Term-F.LessEq x y) k new a b
with_child k new (Term-F.Not a) = Term-F.Not new
with_child k new (Term-F.And a b) = first_of_two (λ x y. Term-F.And x y) k new a b
with_child k new (Term-F.Or a b) = first_of_two (λ x y. Term-F.Or x y) k new a b
with_child k new (Term-F.Implies a b) = first_of_two (λ x y. Term-F.Implies x y) k new a b
with_child k new (Term-F.Initial n a) = Term-F.Initial n new
with_child k new x = x

-- the term with `by` at a position in place of the subterm there
abbrev pub replaced : List ℕ → Term → Term → Option Term
replaced [] by t = Some by
replaced (zero ∷ ps) by t = None
replaced (suc k ∷ ps) by t =
    option_and_then (λ c. option_map (λ new. roll-Term (with_child k new (out-Term t))) (replaced ps by c)) (slice_get (children (out-Term t)) k)

-- Why a replacement is refused: its result would have more than 10,000 nodes, or memory has run out.
abbrev pub IsReplacementRefusal : TermError → Option Term → Type 0
IsReplacementRefusal e None = IsSizeRefusal e 0
IsReplacementRefusal e (Some r) = IsSizeRefusal e (nodes r)
