-- The text of a node is its pieces joined.
use Rattle.std.proofs.Common.{◌≡◌, ◌∙◌, sym, ap, refl, ℕ, zero, suc, ltb, ℤ, Bool, true, false, List, [], ◌∷◌, ◌++◌, map, drop, codes, decimal, if◌then◌else◌, append_assoc, arith}
use Rattle.std.specs.Fmt.{signed_decimal}
use Rattle.std.proofs.lemmas.Bool.{le-leb, lt-leb, ltb-true, ltb-false}
use Rattle.std.proofs.lemmas.List.{append-nil}
use Rattle.math_terms.specs.declared.term.Term.{Term}
use Rattle.math_terms.specs.declared.term.Term.TheOpen.{Term-F}
use Rattle.math_terms.specs.declared.term.Term.TheViews.{out-Term}
use Rattle.math_terms.specs.declared.term.Term.TheFolds.{map-Term, fold_out-Term}
use Rattle.math_terms.specs.Heads.{children, form, own}
use Rattle.num_theory.specs.Texts.{Piece, at_least, in_parentheses, listed, text, text_step}
use Rattle.term_cells.specs.working.Marks.{strength}
use Rattle.term_cells.specs.working.Pieces.{child_texts, inner_pieces, joined, list_pieces, node_pieces, nth, piece_of, term_pieces}
use Rattle.term_cells.proofs.Forms.{mapped_heads}

-- a form that is strong enough for anything
any_strength : (p : Piece) → at_least 0 p ≡ p.1
any_strength p = ap (λ b. if b then p.1 else in_parentheses p.1) (le-leb 0 p.0 (omega arith))

strength_step : (x : Term-F Piece) → (text_step x).0 ≡ strength (form x)
strength_step (Term-F.Num n) = refl
strength_step x = refl

pub strength_is : (t : Term) → (piece_of t).0 ≡ strength (form (out-Term t))
strength_is t =
    ap (λ (p : Piece). p.0) (fold_out-Term Piece text_step t)
    ∙ strength_step (map-Term Term Piece piece_of (out-Term t))
    ∙ ap strength (mapped_heads piece_of (out-Term t)).0

truth_inside : (b : Bool) → joined (inner_pieces 1 (own {A = Piece} (Term-F.Truth b)) []) ≡ (text_step (Term-F.Truth b)).1
truth_inside true = refl
truth_inside false = refl

inside : (x : Term-F Piece) → joined (inner_pieces (form x) (own x) (child_texts (form x) (children x))) ≡ (text_step x).1
inside (Term-F.Num n) = append-nil (signed_decimal n)
inside (Term-F.Truth b) = truth_inside b
inside Term-F.MinInt = refl
inside Term-F.MaxInt = refl
inside (Term-F.Var k) = ap (λ ds. codes "v" ++ ds) (append-nil (decimal k))
inside (Term-F.Add a b) = ap (λ s. at_least 6 a ++ (codes " + " ++ s)) (append-nil (at_least 7 b))
inside (Term-F.Sub a b) = ap (λ s. at_least 6 a ++ (codes " - " ++ s)) (append-nil (at_least 7 b))
inside (Term-F.Mul a b) = ap (λ s. at_least 7 a ++ (codes " * " ++ s)) (append-nil (at_least 8 b))
inside (Term-F.Div a b) = ap (λ s. at_least 7 a ++ (codes " div " ++ s)) (append-nil (at_least 8 b))
inside (Term-F.Mod a b) = ap (λ s. at_least 7 a ++ (codes " mod " ++ s)) (append-nil (at_least 8 b))
inside (Term-F.Len a) = refl
inside Term-F.Empty = refl
inside (Term-F.Single a) = refl
inside (Term-F.Cat a b) = ap (λ s. at_least 5 a ++ (codes " o " ++ s)) (append-nil (at_least 6 b))
inside (Term-F.Reverse a) = ap (λ s. codes "Reverse(" ++ (s ++ codes ")")) (any_strength a)
inside (Term-F.Part i j a) =
    (λ d. codes "Prt_Btwn(" ++ (any_strength i d ++ (codes ", " ++ (any_strength j d ++ (codes ", " ++ (any_strength a d ++ codes ")"))))))
    ∙ ap (λ s. codes "Prt_Btwn(" ++ s) (sym (append_assoc i.1 (codes ", " ++ (j.1 ++ (codes ", " ++ a.1))) (codes ")")
    ∙ ap (λ s. i.1 ++ (codes ", " ++ s)) (append_assoc j.1 (codes ", " ++ a.1) (codes ")"))))
inside (Term-F.Tuple parts) = refl
inside (Term-F.Proj k a) = ap (λ ds. at_least 9 a ++ (codes "." ++ ds)) (append-nil (decimal k))
inside (Term-F.Eq a b) = ap (λ s. at_least 5 a ++ (codes " = " ++ s)) (append-nil (at_least 5 b))
inside (Term-F.Less a b) = ap (λ s. at_least 5 a ++ (codes " < " ++ s)) (append-nil (at_least 5 b))
inside (Term-F.LessEq a b) = ap (λ s. at_least 5 a ++ (codes " <= " ++ s)) (append-nil (at_least 5 b))
inside (Term-F.Not a) = ap (λ s. codes "not " ++ s) (append-nil (at_least 3 a))
inside (Term-F.And a b) = ap (λ s. at_least 2 a ++ (codes " and " ++ s)) (append-nil (at_least 3 b))
inside (Term-F.Or a b) = ap (λ s. at_least 1 a ++ (codes " or " ++ s)) (append-nil (at_least 2 b))
inside (Term-F.Implies a b) = ap (λ s. at_least 1 a ++ (codes " implies " ++ s)) (append-nil (at_least 0 b))
inside (Term-F.Initial k a) = ap (λ s. codes "Is_Initial(" ++ (s ++ codes ")")) (any_strength a)

-- pieces with one more at the end
joined_push : (ps : List (List ℕ)) (p : List ℕ) → joined (ps ++ p ∷ []) ≡ joined ps ++ p
joined_push [] p = append-nil p
joined_push (q ∷ ps) p = ap (λ s. q ++ s) (joined_push ps p) ∙ sym (append_assoc q (joined ps) p)

-- a text in parentheses, or not
abbrev pub wrapped_text : Bool → List ℕ → List ℕ
wrapped_text w s = if w then in_parentheses s else s

node_joined : (w : Bool) (k : ℕ) (n : ℤ) (ts : List (List ℕ)) → joined (node_pieces w k n ts) ≡ wrapped_text w (joined (inner_pieces k n ts))
node_joined true k n ts = ap (λ s. codes "(" ++ s) (joined_push (inner_pieces k n ts) (codes ")"))
node_joined false k n ts = joined_push (inner_pieces k n ts) [] ∙ append-nil (joined (inner_pieces k n ts))

pub term_joined : (w : Bool) (t : Term) → joined (term_pieces w t) ≡ wrapped_text w (text t)
term_joined w t =
    let x = out-Term t in
    let heads = mapped_heads piece_of x in
    node_joined w (form x) (own x) (child_texts (form x) (map piece_of (children x)))
    ∙ ap (wrapped_text w) (
    (λ i. joined (inner_pieces (sym heads.0 i) (sym heads.1 i) (child_texts (sym heads.0 i) (sym heads.2 i))))
    ∙ inside (map-Term Term Piece piece_of x)
    ∙ ap (λ (p : Piece). p.1) (sym (fold_out-Term Piece text_step t)))

pub list_joined : (ts : List Term) → joined (list_pieces ts) ≡ listed (map piece_of ts)
list_joined [] = refl
list_joined (t ∷ []) = append-nil (text t)
list_joined (t ∷ u ∷ ts) = ap (λ s. text t ++ (codes ", " ++ s)) (append-nil (listed (map piece_of (u ∷ ts))))

-- a child is in parentheses where it is too weak
by_weakness : (b : Bool) (least s : ℕ) (u : List ℕ) → ltb s least ≡ b → at_least least (s, u) ≡ wrapped_text b u
by_weakness true least s u e = ap (λ c. if c then u else in_parentheses u) (lt-leb least s (ltb-true s least e))
by_weakness false least s u e = ap (λ c. if c then u else in_parentheses u) (le-leb least s (ltb-false s least e))

pub operand_joined : (least : ℕ) (t : Term) → joined (term_pieces (ltb (strength (form (out-Term t))) least) t) ≡ at_least least (piece_of t)
operand_joined least t =
    let s = strength (form (out-Term t)) in
    term_joined (ltb s least) t
    ∙ sym (by_weakness (ltb s least) least s (text t) refl)
    ∙ ap (λ n. at_least least (n, text t)) (sym (strength_is t))

-- the pieces from one on are that one and those after it
pub joined_from : (ps : List (List ℕ)) (k : ℕ) → joined (drop k ps) ≡ nth ps k ++ joined (drop (suc k) ps)
joined_from [] zero = refl
joined_from [] (suc k) = refl
joined_from (p ∷ ps) zero = refl
joined_from (p ∷ ps) (suc k) = joined_from ps k
