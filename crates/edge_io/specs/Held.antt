-- What a source has left and what a sink holds, each where it tells: `None` is one that does not tell.
use Rattle.std.specs.Prelude.{◌≡◌, ℕ, ◌<◌, ◌≤◌, ◌↔◌, List, [], ◌++◌, length, take, drop, Option, Some, None}

-- A sink took a piece: where it tells now it told before, and the piece was appended. One that does not tell never tells again.
abbrev pub Grew : Option (List ℕ) → Option (List ℕ) → List ℕ → Type 0
Grew old None piece = Unit {0}
Grew None (Some now) piece = ⊥
Grew (Some before) (Some now) piece = now ≡ before ++ piece

-- a sink took some first bytes of a piece
abbrev pub GrewByPrefix : Option (List ℕ) → Option (List ℕ) → List ℕ → Type 0
GrewByPrefix old new piece = (n : ℕ) × Grew old new (take n piece)

-- A read of n bytes into a buffer: where the source told what it had left, these are its first n bytes, the rest
-- stays, and a buffer that is not empty gets none exactly where nothing was left.
abbrev pub Took : Option (List ℕ) → Option (List ℕ) → List ℕ → ℕ → Type 0
Took None new buffer n = Unit {0}
Took (Some left) new buffer n = (n ≤ length left) × (take n buffer ≡ take n left) × (new ≡ Some (drop n left)) × (0 < length buffer → (n ≡ 0) ↔ (left ≡ []))
