-- Laws of standing, each proved as the contract of a function of its own.
use Rattle.std.specs.Prelude.{◌≡◌, ℕ, ◌<◌, ◌==◌, pos, unsigned_abs, Bool, true, not, ◌||◌, List, [], ◌∷◌, ◌++◌, length, map, take, Some, slice_get}
use Rattle.std.specs.Ordering.{int_eq}
use Rattle.math_terms.specs.declared.term.Term.{Term}
use Rattle.math_terms.specs.declared.term.Term.TheOpen.{Term-F}
use Rattle.math_terms.specs.declared.term.Term.TheViews.{roll-Term, out-Term}
use Rattle.math_terms.specs.declared.term.Term.TheFolds.{map-Term}
use Rattle.math_terms.specs.Heads.{form, own}
use Rattle.term_cells.specs.declared.cell.Cell.{Cell}
use Rattle.term_cells.specs.Growing.{HasHead}
use Rattle.term_cells.specs.Standing.{children_stand, end_form, link_form, parts_stand, stands, stands_below}

-- What stands at a place stays there, whatever cells come after.
abbrev pub StandingLasts : Type 0
StandingLasts = (cells more : List Cell) (t : Term) (at : ℕ) → stands cells t at ≡ true → stands (cells ++ more) t at ≡ true

-- It needs no cells but those up to its place.
abbrev pub StandingNeeds : Type 0
StandingNeeds =
    (cells : List Cell) (t : Term) (at : ℕ) → stands cells t at ≡ true → (at < length cells) × ((n : ℕ) → at < n → stands (take n cells) t at ≡ true)

-- A place tells the term that stands there.
abbrev pub StandingTells : Type 0
StandingTells = (cells : List Cell) (t u : Term) (at : ℕ) → stands cells t at ≡ true → stands cells u at ≡ true → t ≡ u

-- how the children of a node stand, where the node is in a cell
abbrev pub children_at : List Cell → Term-F Term → Cell → ℕ → Bool
children_at cells x c at = children_stand cells (map-Term Term (ℕ → Bool) (stands cells) x) c at

-- A node stands in a new cell that has its form and its own number, and says where its children stand.
abbrev pub NodeStandsNext : Type 0
NodeStandsNext =
    (cells : List Cell) (x : Term-F Term) (c : Cell) → c.form ≡ form x → c.own ≡ own x → children_at cells x c (length cells) ≡ true → stands (cells ++ c ∷ []) (roll-Term x) (length cells) ≡ true

-- What stands anywhere stands below the next cell.
abbrev pub StandsBelowNext : Type 0
StandsBelowNext = (cells : List Cell) (t : Term) (at : ℕ) → stands cells t at ≡ true → stands_below (stands cells t) at (length cells) ≡ true

-- the cell has the form and the own number of the term, whose children stand where it says
pub record IsNodeAt (cells : List Cell) (t : Term) (c : Cell) (at : ℕ) : Type 0 where
  pub form_is : form (out-Term t) ≡ c.form
  pub own_is : own (out-Term t) ≡ c.own
  pub children_are : children_at cells (out-Term t) c at ≡ true

-- A term that stands at a place is the node of the cell there.
abbrev pub StandingOpens : Type 0
StandingOpens =
    (cells : List Cell) (t : Term) (at : ℕ) → stands cells t at ≡ true → (c : Cell) × (slice_get cells at ≡ Some c) × IsNodeAt cells t c at

-- neither a tuple nor a form with a number of its own
abbrev pub is_plain_form : ℕ → Bool
is_plain_form k = not ((k == 16) || (k == 0) || (k == 1) || (k == 4) || (k == 17) || (k == 25))

-- the term has this form with one child, which stands below
pub record StandsOne (cells : List Cell) (t : Term) (node : Term → Term-F Term) (c : Cell) (at : ℕ) : Type 0 where
  pub child : Term
  pub term_is : out-Term t ≡ node child
  pub below : c.a < at
  pub child_is : stands cells child c.a ≡ true

-- the term has this form with two children, which stand below
pub record StandsTwo (cells : List Cell) (t : Term) (node : Term → Term → Term-F Term) (c : Cell) (at : ℕ) : Type 0 where
  pub left : Term
  pub right : Term
  pub term_is : out-Term t ≡ node left right
  pub left_below : c.a < at
  pub left_is : stands cells left c.a ≡ true
  pub right_below : c.b < at
  pub right_is : stands cells right c.b ≡ true

-- The cell of a plain form with one child tells the node; likewise with two.
abbrev pub OneOpens : Type 0
OneOpens =
    (node : Term → Term-F Term) (k : ℕ) → ((a : Term) → HasHead (node a) k (pos 0) (a ∷ [])) → is_plain_form k ≡ true → (cells : List Cell) (t : Term) (at : ℕ) (c : Cell) → slice_get cells at ≡ Some c → c.form ≡ k → stands cells t at ≡ true → StandsOne cells t node c at

abbrev pub TwoOpens : Type 0
TwoOpens =
    (node : Term → Term → Term-F Term) (k : ℕ) → ((a b : Term) → HasHead (node a b) k (pos 0) (a ∷ b ∷ [])) → is_plain_form k ≡ true → (cells : List Cell) (t : Term) (at : ℕ) (c : Cell) → slice_get cells at ≡ Some c → c.form ≡ k → stands cells t at ≡ true → StandsTwo cells t node c at

-- So do those of numbers, truth values and variables.
pub record LeavesOpen : Type 0 where
  pub num : (cells : List Cell) (t : Term) (at : ℕ) (c : Cell) → slice_get cells at ≡ Some c → c.form ≡ 0 → stands cells t at ≡ true → out-Term t ≡ Term-F.Num c.own
  pub truth : (cells : List Cell) (t : Term) (at : ℕ) (c : Cell) → slice_get cells at ≡ Some c → c.form ≡ 1 → stands cells t at ≡ true → out-Term t ≡ Term-F.Truth (int_eq c.own (pos 1))
  pub var : (cells : List Cell) (t : Term) (at : ℕ) (c : Cell) → slice_get cells at ≡ Some c → c.form ≡ 4 → stands cells t at ≡ true → out-Term t ≡ Term-F.Var (unsigned_abs c.own)

-- The quotient of a remainder's children stands at the place that the remainder's cell says, below it.
abbrev pub QuotientStands : Type 0
QuotientStands =
    (cells : List Cell) (t u : Term) (at : ℕ) (c : Cell) → slice_get cells at ≡ Some c → stands cells (roll-Term (Term-F.Mod t u)) at ≡ true → (c.c < at) × (stands cells (roll-Term (Term-F.Div t u)) c.c ≡ true)

-- the cell tells where the first part and the others stand, or that there are none
abbrev pub ListAt : List Cell → List Term → Cell → ℕ → Type 0
ListAt cells [] c at = c.form ≡ end_form
ListAt cells (t ∷ ts) c at =
    (c.form ≡ link_form) × (c.a < at) × (stands cells t c.a ≡ true) × (c.b < at) × (parts_stand cells (map (stands cells) ts) c.b at ≡ true)

-- A list of parts that stands at a place is told by the cell there.
abbrev pub PartsOpen : Type 0
PartsOpen =
    (cells : List Cell) (ts : List Term) (at limit : ℕ) → parts_stand cells (map (stands cells) ts) at limit ≡ true → (c : Cell) × (slice_get cells at ≡ Some c) × ListAt cells ts c at

-- It stays there, whatever cells come after.
abbrev pub PartsLast : Type 0
PartsLast =
    (cells more : List Cell) (ts : List Term) (at limit : ℕ) → parts_stand cells (map (stands cells) ts) at limit ≡ true → parts_stand (cells ++ more) (map (stands (cells ++ more)) ts) at limit ≡ true
