-- What holds of every identifier.
use Rattle.std.specs.Prelude.{◌≡◌, ℕ, ◌<◌, ◌≤◌, true, false, List, [], ◌∷◌, ◌++◌, length, take}
use Rattle.std.specs.List.{AllByRecursion}
use Rattle.identifiers.specs.Identifiers.{is_identifier, is_letter, is_letter_or_digit, is_plain_identifier, longest, NothingContinues}

-- An identifier is the longest one at the front of what begins with it, where nothing goes on with it.
abbrev pub Ends : Type 0
Ends = (name rest : List ℕ) → is_identifier name ≡ true → NothingContinues rest → longest is_identifier (name ++ rest) ≡ length name

-- Where the longest one has bytes at all, these are an identifier.
abbrev pub Stands : Type 0
Stands =
    (bytes : List ℕ) → 0 < longest is_identifier bytes → (is_identifier (take (longest is_identifier bytes) bytes) ≡ true) × (longest is_identifier bytes ≤ length bytes)

-- An ASCII byte that is no letter begins none, and one that is no digit either ends each before it. So does the end.
abbrev pub BeginsNone : Type 0
BeginsNone = (b : ℕ) (bs : List ℕ) → b < 128 → is_letter b ≡ false → longest is_identifier (b ∷ bs) ≡ 0

abbrev pub EndsAll : Type 0
EndsAll = (b : ℕ) (bs : List ℕ) → b < 128 → is_letter_or_digit b ≡ false → NothingContinues (b ∷ bs)

abbrev pub EndEndsAll : Type 0
EndEndsAll = NothingContinues []

-- Of bytes that are ASCII, the identifiers are the plain ones.
abbrev pub PlainAreAscii : Type 0
PlainAreAscii = (name : List ℕ) → AllByRecursion (λ b. b < 128) name → is_identifier name ≡ is_plain_identifier name
