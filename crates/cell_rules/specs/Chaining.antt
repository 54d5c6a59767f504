-- Chains at their ends, and the equations that come of them.
use Rattle.std.specs.Prelude.{◌≡◌, ◌+◌, ◌<◌, ◌≤◌, ℕ, Bool, true, false, List, [], ◌∷◌, Option, Some, None}
use Rattle.math_terms.specs.declared.descriptor.Sort.{Sort}
use Rattle.math_terms.specs.declared.term.Term.{Term}
use Rattle.math_terms.specs.Terms.{nodes}
use Rattle.term_cells.specs.declared.cell.Cell.{Cell}
use Rattle.term_cells.specs.Standing.{stands}
use Rattle.str_theory.specs.Chains.{chain, front, is_cat, joined}
use Rattle.str_theory.specs.Forms.{and, cat, empty, eq, when_single}
use Rattle.str_theory.specs.Rules.{Given, firsts, lasts, when_chains}
use Rattle.cell_rules.specs.declared.spine.End.{End}
use Rattle.cell_rules.specs.declared.spine.End.TheVariants as ends

abbrev pub has_parts : List Term → Bool
has_parts [] = false
has_parts (t ∷ ts) = true

-- whether there are two parts or more
abbrev pub is_longer : List Term → Bool
is_longer [] = false
is_longer (t ∷ ts) = has_parts ts

-- the part at an end, `Empty_String` where there is none, and the others
abbrev pub first_of : List Term → Term
first_of [] = empty
first_of (t ∷ ts) = t

abbrev pub rest_of : List Term → List Term
rest_of [] = []
rest_of (t ∷ ts) = ts

abbrev pub last_of : List Term → Term
last_of [] = empty
last_of (t ∷ []) = t
last_of (t ∷ u ∷ us) = last_of (u ∷ us)

abbrev pub part_at : End → List Term → Term
part_at ends.First ts = first_of ts
part_at ends.Last ts = last_of ts

abbrev pub others_at : End → List Term → List Term
others_at ends.First ts = rest_of ts
others_at ends.Last ts = front ts

-- what is done with the parts at an end of two chains, and the others
abbrev pub ends_at : End → List Term → List Term → (Term → List Term → Term → List Term → Given) → Given
ends_at ends.First xs ys next = firsts xs ys next
ends_at ends.Last xs ys next = lasts xs ys next

-- an equation of two strings without their parts at an end; the same after an equation of two elements
abbrev pub others_equal : End → Term → Term → Term
others_equal end t u = eq (joined (others_at end (chain t))) (joined (others_at end (chain u)))

abbrev pub singles_equal : End → Term → Term → Term → Term → Term
singles_equal end x y t u = and (eq x y) (others_equal end t u)

-- A term is no concatenation, or its sides stand at these places.
abbrev pub SidesStand : List Cell → Term → Option (ℕ × ℕ) → Type 0
SidesStand cells t None = is_cat t ≡ false
SidesStand cells t (Some p) = (a : Term) × (b : Term) × (t ≡ cat a b) × (stands cells a p.0 ≡ true) × (stands cells b p.1 ≡ true)

-- the first part of a term's chain, and a smaller term with the others as its chain
pub record RestIs (cells : List Cell) (t : Term) (p : ℕ × ℕ) : Type 0 where
  pub first : Term
  pub rest : Term
  pub chain_is : chain t ≡ first ∷ chain rest
  pub goes_on : has_parts (chain rest) ≡ true
  pub smaller : nodes rest + 2 ≤ nodes t
  pub first_stands : stands cells first p.0 ≡ true
  pub rest_stands : stands cells rest p.1 ≡ true

-- A term's chain has one part at most, or the first and the rest stand at these places.
abbrev pub LongerIs : List Cell → Term → Option (ℕ × ℕ) → Type 0
LongerIs cells t None = is_longer (chain t) ≡ false
LongerIs cells t (Some p) = RestIs cells t p

-- an equation of two strings that are not empty, by their chains
pub record StringsAre (cells : List Cell) (vars : List Sort) (t : Term) (p : ℕ × ℕ) : Type 0 where
  pub left : Term
  pub right : Term
  pub left_stands : stands cells left p.0 ≡ true
  pub right_stands : stands cells right p.1 ≡ true
  pub left_parts : has_parts (chain left) ≡ true
  pub right_parts : has_parts (chain right) ≡ true
  pub smaller : nodes left + nodes right < nodes t
  pub looks : (next : List Term → List Term → Given) → when_chains vars t next ≡ next (chain left) (chain right)

-- A term is no such equation, or its sides stand at these places.
abbrev pub ChainsAre : List Cell → List Sort → Term → Option (ℕ × ℕ) → Type 0
ChainsAre cells vars t None = (next : List Term → List Term → Given) → when_chains vars t next ≡ None
ChainsAre cells vars t (Some p) = StringsAre cells vars t p

-- Not both terms are strings of one element, or the elements stand at these places.
abbrev pub SinglesAre : List Cell → Term → Term → Option (ℕ × ℕ) → Type 0
SinglesAre cells t u None = (next : Term → Term → Given) → when_single t (λ x. when_single u (λ y. next x y)) ≡ None
SinglesAre cells t u (Some p) =
    (x : Term) × (y : Term) × (stands cells x p.0 ≡ true) × (stands cells y p.1 ≡ true)
    × ((next : Term → Term → Given) → when_single t (λ a. when_single u (λ b. next a b)) ≡ next x y)
