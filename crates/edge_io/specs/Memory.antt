-- What the forms in memory hold, and which of their calls fail.
use Rattle.std.specs.Prelude.{◌≡◌, ℕ, ◌+◌, ◌-◌, ◌^◌, ◌<◌, Bool, true, false, List, [], ◌∷◌, if◌then◌else◌, Option, Some, None}
use Rattle.std.specs.List.{Contains}
use Rattle.std.specs.Str.{bytes_eq}
use Rattle.edge_io.specs.Files.{Files}

-- the bytes that a sink tells, from whether it tells and what it holds
abbrev pub told : Bool → List ℕ → Option (List ℕ)
told true held = Some held
told false held = None

-- Whether the next call fails, from the numbers of the calls that fail, counted from 1, and the number of calls so far.
-- At the last number of 32 bits no call fails.
abbrev pub Fails : List ℕ → ℕ → Type 0
Fails failing calls = (calls < 2 ^ 32 - 1) × Contains failing (calls + 1)

-- the files of a list of names and bytes: of two of one name the first one counts
abbrev pub files_of : List (List ℕ × List ℕ) → Files
files_of [] name = None
files_of (file ∷ files) name = if bytes_eq file.0 name then Some file.1 else files_of files name
