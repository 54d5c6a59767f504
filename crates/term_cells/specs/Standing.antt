-- When a term stands at a place of a list of cells.
use Rattle.std.specs.Prelude.{ℕ, ltb, ◌==◌, pos, Bool, true, false, ◌&&◌, List, [], ◌∷◌, Option, Some, None, slice_get}
use Rattle.std.specs.Ordering.{int_eq}
use Rattle.math_terms.specs.declared.term.Term.{Term}
use Rattle.math_terms.specs.declared.term.Term.TheOpen.{Term-F}
use Rattle.math_terms.specs.declared.term.Term.TheFolds.{fold-Term}
use Rattle.math_terms.specs.Heads.{children, form, own}
use Rattle.term_cells.specs.declared.cell.Cell.{Cell}

-- the forms of a list of parts: the empty one, and a part before others; and that of a tuple
abbrev pub end_form : ℕ
end_form = 26

abbrev pub link_form : ℕ
link_form = 27

abbrev pub tuple_form : ℕ
tuple_form = 16

-- a child stands at a place below its node's
abbrev pub stands_below : (ℕ → Bool) → ℕ → ℕ → Bool
stands_below child at node = ltb at node && child at

abbrev pub with_cell : Option Cell → (Cell → Bool) → Bool
with_cell None test = false
with_cell (Some c) test = test c

-- parts stand in a list at a place below the node's
abbrev pub parts_stand : List Cell → List (ℕ → Bool) → ℕ → ℕ → Bool
parts_stand cells [] at node = ltb at node && with_cell (slice_get cells at) (λ c. c.form == end_form)
parts_stand cells (p ∷ ps) at node =
    ltb at node && with_cell (slice_get cells at) (λ c. (c.form == link_form) && stands_below p c.a at && parts_stand cells ps c.b at)

-- up to three children
abbrev pub few_stand : List (ℕ → Bool) → Cell → ℕ → Bool
few_stand [] c node = true
few_stand (p ∷ []) c node = stands_below p c.a node
few_stand (p ∷ q ∷ []) c node = stands_below p c.a node && stands_below q c.b node
few_stand (p ∷ q ∷ r ∷ []) c node = stands_below p c.a node && stands_below q c.b node && stands_below r c.c node
few_stand (p ∷ q ∷ r ∷ s ∷ ps) c node = false

-- Beside a remainder stands the quotient of the same two children, at a place below.
abbrev pub quotient_stands : List Cell → Cell → ℕ → Bool
quotient_stands cells c node = ltb c.c node && with_cell (slice_get cells c.c) (λ d. (d.form == 8) && int_eq d.own (pos 0) && (d.a == c.a) && (d.b == c.b) && ltb c.a c.c && ltb c.b c.c)

abbrev pub children_stand : List Cell → Term-F (ℕ → Bool) → Cell → ℕ → Bool
children_stand cells (Term-F.Tuple ps) c node = parts_stand cells ps c.a node
children_stand cells (Term-F.Mod a b) c node = few_stand (a ∷ b ∷ []) c node && quotient_stands cells c node
children_stand cells x c node = few_stand (children x) c node

-- The node's form and own number are those of the cell, and its children stand below.
abbrev pub node_stands : List Cell → Term-F (ℕ → Bool) → ℕ → Bool
node_stands cells x at =
    with_cell (slice_get cells at) (λ c. (c.form == form x) && int_eq c.own (own x) && children_stand cells x c at)

-- The term stands at this place.
abbrev pub stands : List Cell → Term → ℕ → Bool
stands cells t at = fold-Term (ℕ → Bool) (node_stands cells) t at
