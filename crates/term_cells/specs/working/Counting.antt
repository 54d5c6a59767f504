-- Counting nodes down from a number.
use Rattle.std.specs.Prelude.{◌≡◌, ℕ, ◌+◌, ◌<◌, Option, None, Some}

-- what is left of a number when so many are taken, where there are as many
abbrev pub Leaves : ℕ → ℕ → Option ℕ → Type 0
Leaves number taken None = number < taken
Leaves number taken (Some left) = left + taken ≡ number
