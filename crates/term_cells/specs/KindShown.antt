-- Which kind a short answer shows.
use Rattle.std.specs.Prelude.{◌≡◌, ℕ, ◌<◌, leb, ◌==◌, Bool, true, false, ◌&&◌, ◌||◌, List, map, Option, None, Some, slice_get}
use Rattle.math_terms.specs.declared.descriptor.Desc.{Desc}
use Rattle.math_terms.specs.declared.descriptor.Sort.{Sort}
use Rattle.math_terms.specs.declared.descriptor.Sort.TheOpen.{Sort-F}
use Rattle.math_terms.specs.declared.descriptor.Sort.TheViews.{out-Sort}
use Rattle.math_terms.specs.declared.name.Name.{Name}
use Rattle.math_terms.specs.declared.term.Term.{Term}
use Rattle.math_terms.specs.Kinds.{forget, kind, sort_of_desc}
use Rattle.math_terms.specs.Sorts.{z, b, is_str, tup}
use Rattle.term_cells.specs.declared.cell.Cell.{Cell}
use Rattle.term_cells.specs.declared.kind.Kind.{Kind}
use Rattle.term_cells.specs.declared.kind.Kind.TheVariants.{Number, Truth, Text, Parts, Descs, Other}
use Rattle.term_cells.specs.Standing.{parts_stand, stands}

-- the forms of numbers, and those of truth values
abbrev pub is_number_form : ℕ → Bool
is_number_form k = (k == 0) || (k == 2) || (k == 3) || (leb 5 k && leb k 10)

abbrev pub is_truth_form : ℕ → Bool
is_truth_form k = (k == 1) || (leb 18 k && leb k 25)

-- neither a number's nor a truth value's nor a string's nor a tuple's
abbrev pub is_other : Sort-F Sort → Bool
is_other Sort-F.Z = false
is_other Sort-F.B = false
is_other (Sort-F.Str s) = false
is_other (Sort-F.Tup ss) = false
is_other (Sort-F.Param k) = true
is_other Sort-F.Any = true

-- the kind of what lies in a descriptor
abbrev pub kind_of_desc : Desc → Sort
kind_of_desc d = forget (sort_of_desc d)

-- the sorts of the variables
abbrev pub sorts_of_vars : List (Name × Desc) → List Sort
sorts_of_vars vars = map (λ v. sort_of_desc v.1) vars

-- the part of a tuple that stands at a place, if any does
abbrev pub PartAt : List Cell → List Term → ℕ → Option ℕ → Type 0
PartAt cells ts k None = slice_get ts k ≡ None
PartAt cells ts k (Some at) = (t : Term) × (slice_get ts k ≡ Some t) × (stands cells t at ≡ true)

-- A tuple's kind is shown by the place of its parts, or by the descriptors of its parts.
abbrev pub Shows : List Cell → List Sort → Kind → Sort → Type 0
Shows cells sorts Number s = s ≡ z
Shows cells sorts Truth s = s ≡ b
Shows cells sorts Text s = is_str s ≡ true
Shows cells sorts (Parts at) s = (ts : List Term) × (s ≡ tup (map (kind sorts) ts)) × ((limit : ℕ) × (parts_stand cells (map (stands cells) ts) at limit ≡ true))
Shows cells sorts (Descs ds) s = s ≡ tup (map kind_of_desc ds.now)
Shows cells sorts Other s = is_other (out-Sort s) ≡ true

-- the same where no part stands in cells
abbrev pub ShowsIn : Kind → Sort → Type 0
ShowsIn Number s = s ≡ z
ShowsIn Truth s = s ≡ b
ShowsIn Text s = is_str s ≡ true
ShowsIn (Parts at) s = ⊥
ShowsIn (Descs ds) s = s ≡ tup (map kind_of_desc ds.now)
ShowsIn Other s = is_other (out-Sort s) ≡ true

-- a list of parts is below a place
abbrev pub PartsBelow : ℕ → Kind → Type 0
PartsBelow p Number = Unit {0}
PartsBelow p Truth = Unit {0}
PartsBelow p Text = Unit {0}
PartsBelow p (Parts at) = at < p
PartsBelow p (Descs ds) = Unit {0}
PartsBelow p Other = Unit {0}
