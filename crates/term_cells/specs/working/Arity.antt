-- How many children the nodes of a form have.
use Rattle.std.specs.Prelude.{ℕ, leb, ◌==◌, ◌&&◌, ◌||◌, if◌then◌else◌}

-- of a tuple, which has any number of parts, and of a leaf 0
abbrev pub arity : ℕ → ℕ
arity k =
    if (leb 5 k && leb k 9) || (k == 13) || (leb 18 k && leb k 20) || (leb 22 k && leb k 24) then 2
    else if (k == 10) || (k == 12) || (k == 14) || (k == 17) || (k == 21) || (k == 25) then 1
    else if k == 15 then 3
    else 0
