-- The files of a shelf, as a map from names to bytes, where the shelf tells.
use Rattle.std.specs.Prelude.{◌≡◌, ◌≢◌, ℕ, ◌<◌, ◌≤◌, List, [], length, Option, Some, None, Result, Ok, Err}
use Rattle.edge_io.specs.declared.shelf.ShelfError.{ShelfError}
use Rattle.edge_io.specs.declared.shelf.ShelfError.TheVariants.{NotFound, TooLong, Failed, NoMemory}

-- a name's bytes, or none where the name is not held
abbrev pub Files : Type 0
Files = List ℕ → Option (List ℕ)

-- the most bytes of a file
abbrev pub most_bytes : ℕ
most_bytes = 16777216

-- What a read answers, from what the shelf has under the name, and the bytes that it leaves.
abbrev pub ReadAnswers : {A : Type 0} → Option (List ℕ) → Result A ShelfError → List ℕ → Type 0
ReadAnswers file (Ok x) bytes = file ≡ Some bytes
ReadAnswers file (Err NotFound) bytes = file ≡ None
ReadAnswers file (Err TooLong) bytes = (held : List ℕ) × (file ≡ Some held) × (most_bytes < length held)
ReadAnswers file (Err Failed) bytes = Unit {0}
ReadAnswers file (Err NoMemory) bytes = Unit {0}

-- the bytes that a read leaves, whether the shelf tells or not: at most so many, and none after a refusal
abbrev pub LeavesFew : {A : Type 0} → Result A ShelfError → List ℕ → Type 0
LeavesFew (Ok x) bytes = length bytes ≤ most_bytes
LeavesFew (Err e) bytes = bytes ≡ []

-- What a write answers, from the number of bytes: never NotFound, and TooLong exactly where there are too many.
abbrev pub WriteAnswers : {A : Type 0} → Result A ShelfError → ℕ → Type 0
WriteAnswers (Ok x) len = len ≤ most_bytes
WriteAnswers (Err NotFound) len = ⊥
WriteAnswers (Err TooLong) len = most_bytes < len
WriteAnswers (Err Failed) len = Unit {0}
WriteAnswers (Err NoMemory) len = Unit {0}

-- no file is another than before
abbrev pub SameFiles : Files → Files → Type 0
SameFiles old new = (name : List ℕ) → new name ≡ old name

-- no file of another name is another than before
abbrev pub SameOthers : List ℕ → Files → Files → Type 0
SameOthers name old new = (other : List ℕ) → other ≢ name → new other ≡ old other
