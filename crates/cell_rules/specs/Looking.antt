-- What a look at a place answers: whether the node there is of a form, and where its children stand.
use Rattle.std.specs.Prelude.{◌≡◌, ℕ, true, List, Option, Some, None, map}
use Rattle.math_terms.specs.declared.term.Term.{Term}
use Rattle.term_cells.specs.declared.cell.Cell.{Cell}
use Rattle.term_cells.specs.Standing.{parts_stand, stands}
use Rattle.str_theory.specs.Rules.{Given}
use Rattle.str_theory.specs.Forms.{when_part, when_proj, when_tuple}
use Rattle.cell_rules.specs.declared.forms.PartPlaces.{PartPlaces}

-- what is done with the children of a node, where it is of a form
abbrev pub One : Type 0
One = Term → (Term → Given) → Given

abbrev pub Two : Type 0
Two = Term → (Term → Term → Given) → Given

-- The node is of another form, or its children stand at the places that are answered.
abbrev pub LooksOne : One → List Cell → Term → Option ℕ → Type 0
LooksOne look cells t None = (next : Term → Given) → look t next ≡ None
LooksOne look cells t (Some p) = (a : Term) × (stands cells a p ≡ true) × ((next : Term → Given) → look t next ≡ next a)

abbrev pub LooksTwo : Two → List Cell → Term → Option (ℕ × ℕ) → Type 0
LooksTwo look cells t None = (next : Term → Term → Given) → look t next ≡ None
LooksTwo look cells t (Some p) =
    (a : Term) × (b : Term) × (stands cells a p.0 ≡ true) × (stands cells b p.1 ≡ true) × ((next : Term → Term → Given) → look t next ≡ next a b)

abbrev pub LooksPart : List Cell → Term → Option PartPlaces → Type 0
LooksPart cells t None = (next : Term → Term → Term → Given) → when_part t next ≡ None
LooksPart cells t (Some p) =
    (i : Term) × (j : Term) × (a : Term) × (stands cells i p.from ≡ true) × (stands cells j p.to ≡ true) × (stands cells a p.text ≡ true)
    × ((next : Term → Term → Term → Given) → when_part t next ≡ next i j a)

-- a projection's number and its tuple
abbrev pub LooksProj : List Cell → Term → Option (ℕ × ℕ) → Type 0
LooksProj cells t None = (next : ℕ → Term → Given) → when_proj t next ≡ None
LooksProj cells t (Some p) = (a : Term) × (stands cells a p.1 ≡ true) × ((next : ℕ → Term → Given) → when_proj t next ≡ next p.0 a)

-- the parts of a tuple stand in a list
abbrev pub LooksTuple : List Cell → Term → Option ℕ → Type 0
LooksTuple cells t None = (next : List Term → Given) → when_tuple t next ≡ None
LooksTuple cells t (Some p) =
    (ts : List Term) × ((limit : ℕ) × (parts_stand cells (map (stands cells) ts) p limit ≡ true)) × ((next : List Term → Given) → when_tuple t next ≡ next ts)
