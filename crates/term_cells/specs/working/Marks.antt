-- What stands around and between the children in the text of a node, form by form.
use Rattle.std.specs.Prelude.{ℕ, leb, ◌==◌, ℤ, pos, Bool, ◌&&◌, ◌||◌, List, [], codes, if◌then◌else◌}
use Rattle.std.specs.Ordering.{int_eq}

-- How strongly a form holds its parts together: implies 0, or 1, and 2, not 3, comparisons 4, o 5, sums 6, products 7, others 9.
abbrev pub strength : ℕ → ℕ
strength k =
    if k == 24 then 0
    else if k == 23 then 1
    else if k == 22 then 2
    else if k == 21 then 3
    else if leb 18 k && leb k 20 then 4
    else if k == 13 then 5
    else if leb 5 k && leb k 6 then 6
    else if leb 7 k && leb k 9 then 7
    else 9

-- before the first child; of a truth value its text
abbrev pub opening : ℕ → ℤ → List ℕ
opening k n =
    if k == 1 then (if int_eq n (pos 1) then codes "true" else codes "false")
    else if k == 2 then codes "min_int"
    else if k == 3 then codes "max_int"
    else if k == 4 then codes "v"
    else if k == 10 then codes "|"
    else if k == 11 then codes "Empty_String"
    else if k == 12 then codes "<"
    else if k == 14 then codes "Reverse("
    else if k == 15 then codes "Prt_Btwn("
    else if k == 16 then codes "("
    else if k == 21 then codes "not "
    else if k == 25 then codes "Is_Initial("
    else []

-- between two children
abbrev pub symbol : ℕ → List ℕ
symbol k =
    if k == 5 then codes " + "
    else if k == 6 then codes " - "
    else if k == 7 then codes " * "
    else if k == 8 then codes " div "
    else if k == 9 then codes " mod "
    else if k == 13 then codes " o "
    else if k == 15 then codes ", "
    else if k == 18 then codes " = "
    else if k == 19 then codes " < "
    else if k == 20 then codes " <= "
    else if k == 22 then codes " and "
    else if k == 23 then codes " or "
    else if k == 24 then codes " implies "
    else []

-- after the last child
abbrev pub closing : ℕ → List ℕ
closing k =
    if k == 10 then codes "|"
    else if k == 12 then codes ">"
    else if (leb 14 k && leb k 16) || (k == 25) then codes ")"
    else if k == 17 then codes "."
    else []

-- whether the node's own number comes last
abbrev pub is_numbered : ℕ → Bool
is_numbered k = (k == 0) || (k == 4) || (k == 17)

-- How strong the first child is at least where it stands without parentheses, and the others.
abbrev pub left_least : ℕ → ℕ
left_least k =
    if leb 5 k && leb k 6 then 6
    else if leb 7 k && leb k 9 then 7
    else if (k == 10) || (k == 12) || (k == 13) || (leb 18 k && leb k 20) then 5
    else if k == 17 then 9
    else if k == 21 then 3
    else if k == 22 then 2
    else if (k == 23) || (k == 24) then 1
    else 0

abbrev pub right_least : ℕ → ℕ
right_least k =
    if leb 5 k && leb k 6 then 7
    else if leb 7 k && leb k 9 then 8
    else if k == 13 then 6
    else if leb 18 k && leb k 20 then 5
    else if k == 22 then 3
    else if k == 23 then 2
    else 0
