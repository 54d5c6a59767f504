-- The pieces of texts, one after another.
use Rattle.std.specs.Prelude.{◌≡◌, ℕ, ◌<◌, ◌≤◌, ◌⊎◌, ltb, ◌==◌, ℤ, Bool, true, List, [], ◌∷◌, ◌++◌, length, drop, map, slice_index_or, codes, if◌then◌else◌}
use Rattle.std.specs.Fmt.{signed_decimal}
use Rattle.math_terms.specs.declared.term.Term.{Term}
use Rattle.math_terms.specs.declared.term.Term.TheViews.{out-Term}
use Rattle.math_terms.specs.declared.term.Term.TheFolds.{fold-Term}
use Rattle.math_terms.specs.Heads.{children, form, own}
use Rattle.num_theory.specs.Texts.{Piece, at_least, listed, text, text_step}
use Rattle.term_cells.specs.declared.cell.Cell.{Cell}
use Rattle.term_cells.specs.declared.before.Next.{Next}
use Rattle.term_cells.specs.declared.before.Next.TheVariants.{Mark, Number, Child, Done}
use Rattle.term_cells.specs.working.Arity.{arity}
use Rattle.term_cells.specs.working.Marks.{closing, is_numbered, left_least, opening, right_least, symbol}
use Rattle.term_cells.specs.Standing.{parts_stand, stands}

-- pieces one after another, and one of them by its number
abbrev pub joined : List (List ℕ) → List ℕ
joined [] = []
joined (p ∷ ps) = p ++ joined ps

abbrev pub nth : List (List ℕ) → ℕ → List ℕ
nth ps k = slice_index_or ps k []

-- a term's text with its strength
abbrev pub piece_of : Term → Piece
piece_of t = fold-Term Piece text_step t

-- the texts of a node's children, in parentheses where they are too weak; those of a tuple's parts are one text
abbrev pub operands : ℕ → List Piece → List (List ℕ)
operands k [] = []
operands k (p ∷ ps) = at_least (left_least k) p ∷ map (at_least (right_least k)) ps

abbrev pub child_texts : ℕ → List Piece → List (List ℕ)
child_texts k ps = if k == 16 then listed ps ∷ [] else operands k ps

-- the pieces of a node's text, from those of its children
abbrev pub inner_pieces : ℕ → ℤ → List (List ℕ) → List (List ℕ)
inner_pieces k n ts =
    opening k n
    ∷ nth ts 0
    ∷ (if ltb 1 (length ts) then symbol k else [])
    ∷ nth ts 1
    ∷ (if ltb 2 (length ts) then symbol k else [])
    ∷ nth ts 2
    ∷ closing k
    ∷ (if is_numbered k then signed_decimal n else [])
    ∷ []

-- the same with parentheses around, or without
abbrev pub node_pieces : Bool → ℕ → ℤ → List (List ℕ) → List (List ℕ)
node_pieces w k n ts = (if w then codes "(" else []) ∷ (inner_pieces k n ts ++ (if w then codes ")" else []) ∷ [])

abbrev pub term_pieces : Bool → Term → List (List ℕ)
term_pieces w t =
    node_pieces w (form (out-Term t)) (own (out-Term t)) (child_texts (form (out-Term t)) (map piece_of (children (out-Term t))))

-- the pieces of the text of a list of parts: the first, what comes after it, and the others
abbrev pub comma_before : List Term → List ℕ
comma_before [] = []
comma_before (t ∷ ts) = codes ", "

abbrev pub list_pieces : List Term → List (List ℕ)
list_pieces [] = []
list_pieces (t ∷ ts) = text t ∷ comma_before ts ∷ listed (map piece_of ts) ∷ []

-- the pieces of what stands at a place, a term or a list of parts
abbrev pub HasPieces : List Cell → ℕ → Bool → List (List ℕ) → Type 0
HasPieces cells place w ps =
    ((t : Term) × (stands cells t place ≡ true) × (ps ≡ term_pieces w t)) ⊎ ((ts : List Term) × ((limit : ℕ) × (parts_stand cells (map (stands cells) ts) place limit ≡ true)) × (ps ≡ list_pieces ts))

-- what comes next is the piece of this number, of those of a place
abbrev pub NextIs : List Cell → ℕ → List (List ℕ) → ℕ → Next → Type 0
NextIs cells place ps stage (Mark mark) = mark.now ≡ nth ps stage
NextIs cells place ps stage (Number n) = signed_decimal n ≡ nth ps stage
NextIs cells place ps stage (Child q w) = (q < place) × ((qs : List (List ℕ)) × HasPieces cells q w qs × (joined qs ≡ nth ps stage))
NextIs cells place ps stage Done = joined (drop stage ps) ≡ []

-- There are ten pieces at most, and marks are short.
abbrev pub IsWithin : ℕ → Next → Type 0
IsWithin stage (Mark mark) = (stage < 10) × (length mark.now ≤ 40)
IsWithin stage (Number n) = stage < 10
IsWithin stage (Child q w) = stage < 10
IsWithin stage Done = Unit {0}

-- These bytes come next.
abbrev pub Says : Next → List ℕ → Type 0
Says (Mark mark) bytes = mark.now ≡ bytes
Says (Number n) bytes = signed_decimal n ≡ bytes
Says (Child q w) bytes = ⊥
Says Done bytes = ⊥

-- how many children a node of a form has, where a tuple's parts are one
abbrev pub child_count : ℕ → ℕ
child_count k = if k == 16 then 1 else arity k
