-- What becomes of cells when nodes are added.
use Rattle.std.specs.Prelude.{◌≡◌, ℕ, ◌+◌, ◌-◌, ◌^◌, ◌<◌, ◌≤◌, ◌⊎◌, ◌==◌, ℤ, Bool, true, false, List, [], ◌∷◌, ◌++◌, length, map, Option, Some, None, IfSome, slice_get}
use Rattle.math_terms.specs.declared.term.Term.{Term}
use Rattle.math_terms.specs.declared.term.Term.TheOpen.{Term-F}
use Rattle.math_terms.specs.declared.term.Term.TheViews.{roll-Term}
use Rattle.math_terms.specs.Heads.{children, form, own}
use Rattle.term_cells.specs.declared.cell.Cell.{Cell}
use Rattle.term_cells.specs.Standing.{end_form, parts_stand, stands, with_cell}

-- the cells that are held, and how many there is room for
abbrev pub Store : Type 0
Store = List Cell × ℕ

-- There is no room for one more cell, or 32 bits do not count so far.
abbrev pub IsFull : Store → Type 0
IsFull s = (s.1 ≤ length s.0) ⊎ (2 ^ 32 - 1 ≤ length s.0)

-- one cell comes last, and its place is answered, or nothing changes
abbrev pub Pushes : Store → Store → Cell → Option ℕ → Type 0
Pushes old new c None = (new ≡ old) × IsFull old
Pushes old new c (Some at) = (at ≡ length old.0) × (new ≡ (old.0 ++ c ∷ [], old.1))

-- fewer than so many cells come last
pub record Grows (old new : Store) (most : ℕ) : Type 0 where
  pub room : new.1 ≡ old.1
  pub more : List Cell
  pub held : new.0 ≡ old.0 ++ more
  pub few : length more < most

-- There may be no room for so many cells less one.
abbrev pub IsShort : Store → ℕ → Type 0
IsShort s most = (s.1 + 1 < length s.0 + most) ⊎ (2 ^ 32 < length s.0 + most)

-- a node of this form with this number of its own and these children
pub record HasHead (x : Term-F Term) (k : ℕ) (n : ℤ) (ts : List Term) : Type 0 where
  pub form_is : form x ≡ k
  pub own_is : own x ≡ n
  pub children_are : children x ≡ ts

-- neither a tuple nor a remainder
pub record IsFewForm (k : ℕ) : Type 0 where
  pub no_tuple : (k == 16) ≡ false
  pub no_remainder : (k == 9) ≡ false

-- such a node stands at the place that is answered
abbrev pub StandsAs : List Cell → ℕ → ℤ → List Term → Option ℕ → Type 0
StandsAs cells k n ts r = IfSome r (λ at. (x : Term-F Term) → HasHead x k n ts → IsFewForm k → stands cells (roll-Term x) at ≡ true)

-- the end of a list of parts is at this place
abbrev pub has_end : List Cell → ℕ → Bool
has_end cells at = with_cell (slice_get cells at) (λ c. c.form == end_form)

-- the term stands at the place that is answered
abbrev pub StandsThere : List Cell → Term → Option ℕ → Type 0
StandsThere cells t r = IfSome r (λ at. stands cells t at ≡ true)

-- a node of this head, which is a tuple or not, stands at the place that is answered
abbrev pub NodeLoads : Bool → List Cell → ℕ → ℤ → List Term → Option ℕ → Type 0
NodeLoads is_tuple cells k n ts r = (x : Term-F Term) → HasHead x k n ts → (k == 16) ≡ is_tuple → StandsThere cells (roll-Term x) r

-- the parts stand in a list at the place that is answered
abbrev pub PartsLoad : List Cell → List Term → Option ℕ → Type 0
PartsLoad cells ts r = IfSome r (λ at. parts_stand cells (map (stands cells) ts) at (length cells) ≡ true)
