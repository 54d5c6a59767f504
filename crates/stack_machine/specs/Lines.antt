-- Decimal lines.
use Rattle.std.specs.Prelude.{ℕ, ℤ, List, [], ◌∷◌, ◌++◌}
use Rattle.std.specs.Fmt.{signed_decimal}

-- a number as decimal digits, with `-` before them where it is below 0, and LF
abbrev pub line : ℤ → List ℕ
line n = signed_decimal n ++ 10 ∷ []

abbrev pub lines : List ℤ → List ℕ
lines [] = []
lines (n ∷ ns) = line n ++ lines ns
