-- Which rules are answered.
use Rattle.std.specs.Prelude.{ℕ, leb, ◌==◌, Bool, ◌&&◌, ◌||◌}

-- All but linear forms: 2 to 31.
abbrev pub is_answered : ℕ → Bool
is_answered r = leb 2 r && leb r 31

-- those whose answers may have any number of nodes that are new: equations by the ends of chains, and of tuples
abbrev pub is_equation : ℕ → Bool
is_equation r = (leb 26 r && leb r 29) || (r == 31)

-- the others, which give a few nodes above what they look at
abbrev pub is_sketched : ℕ → Bool
is_sketched r = (leb 2 r && leb r 25) || (r == 30)
