-- Where a list of names and bytes has the first file of a name.
use Rattle.std.specs.Prelude.{◌≡◌, ℕ, List, slice_get, take, Some, None}
use Rattle.edge_io.specs.Memory.{files_of}

-- a place of a list is that of the first file of a name
abbrev pub IsFirst : List (List ℕ × List ℕ) → List ℕ → ℕ → Type 0
IsFirst files name at = (files_of (take at files) name ≡ None) × ((bytes : List ℕ) × (slice_get files at ≡ Some (name, bytes)))
