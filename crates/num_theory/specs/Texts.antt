-- The text of a term, by the bytes of which atoms are ordered. It has the fewest parentheses.
use Rattle.std.specs.Prelude.{ℕ, zero, suc, leb, Bool, true, false, List, [], ◌∷◌, ◌++◌, codes, decimal, if◌then◌else◌}
use Rattle.std.specs.Fmt.{signed_decimal}
use Rattle.math_terms.specs.declared.term.Term.{Term}
use Rattle.math_terms.specs.declared.term.Term.TheOpen.{Term-F}
use Rattle.math_terms.specs.declared.term.Term.TheFolds.{fold-Term}

-- A text with the strength of its outermost form: implies 0, or 1, and 2, not 3, comparisons 4, o 5, sums 6,
-- products 7, operands 9.
abbrev pub Piece : Type 0
Piece = ℕ × List ℕ

abbrev pub in_parentheses : List ℕ → List ℕ
in_parentheses text = codes "(" ++ (text ++ codes ")")

-- a text where a form of at least this strength may stand
abbrev pub at_least : ℕ → Piece → List ℕ
at_least n p = if leb n p.0 then p.1 else in_parentheses p.1

-- an operator of a strength, between operands of at least these strengths
abbrev pub between_two : ℕ → ℕ → List ℕ → ℕ → Piece → Piece → Piece
between_two n left symbol right a b = (n, at_least left a ++ (symbol ++ at_least right b))

-- texts with `, ` between them
abbrev pub listed : List Piece → List ℕ
listed [] = []
listed (p ∷ []) = p.1
listed (p ∷ q ∷ ps) = p.1 ++ (codes ", " ++ listed (q ∷ ps))

abbrev pub called : List ℕ → List Piece → Piece
called name ps = (9, name ++ in_parentheses (listed ps))

abbrev pub truth_text : Bool → List ℕ
truth_text true = codes "true"
truth_text false = codes "false"

abbrev pub text_step : Term-F Piece → Piece
text_step (Term-F.Num n) = (9, signed_decimal n)
text_step (Term-F.Truth b) = (9, truth_text b)
text_step Term-F.MinInt = (9, codes "min_int")
text_step Term-F.MaxInt = (9, codes "max_int")
text_step (Term-F.Var k) = (9, codes "v" ++ decimal k)
text_step (Term-F.Add a b) = between_two 6 6 (codes " + ") 7 a b
text_step (Term-F.Sub a b) = between_two 6 6 (codes " - ") 7 a b
text_step (Term-F.Mul a b) = between_two 7 7 (codes " * ") 8 a b
text_step (Term-F.Div a b) = between_two 7 7 (codes " div ") 8 a b
text_step (Term-F.Mod a b) = between_two 7 7 (codes " mod ") 8 a b
text_step (Term-F.Len a) = (9, codes "|" ++ (at_least 5 a ++ codes "|"))
text_step Term-F.Empty = (9, codes "Empty_String")
text_step (Term-F.Single a) = (9, codes "<" ++ (at_least 5 a ++ codes ">"))
text_step (Term-F.Cat a b) = between_two 5 5 (codes " o ") 6 a b
text_step (Term-F.Reverse a) = called (codes "Reverse") (a ∷ [])
text_step (Term-F.Part i j a) = called (codes "Prt_Btwn") (i ∷ j ∷ a ∷ [])
text_step (Term-F.Tuple parts) = called [] parts
text_step (Term-F.Proj k a) = (9, at_least 9 a ++ (codes "." ++ decimal k))
text_step (Term-F.Eq a b) = between_two 4 5 (codes " = ") 5 a b
text_step (Term-F.Less a b) = between_two 4 5 (codes " < ") 5 a b
text_step (Term-F.LessEq a b) = between_two 4 5 (codes " <= ") 5 a b
text_step (Term-F.Not a) = (3, codes "not " ++ at_least 3 a)
text_step (Term-F.And a b) = between_two 2 2 (codes " and ") 3 a b
text_step (Term-F.Or a b) = between_two 1 1 (codes " or ") 2 a b
text_step (Term-F.Implies a b) = between_two 0 1 (codes " implies ") 0 a b
text_step (Term-F.Initial k a) = called (codes "Is_Initial") (a ∷ [])

abbrev pub piece : Term → Piece
piece t = fold-Term Piece text_step t

abbrev pub text : Term → List ℕ
text t = (piece t).1

-- what stands before a part of a tuple, which are counted from 0
abbrev pub separator : ℕ → List ℕ
separator zero = []
separator (suc k) = codes ", "
