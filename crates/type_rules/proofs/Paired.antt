-- Two lists side by side, behind the end of the shorter.
use Rattle.std.proofs.Common.{◌≡◌, ℕ, ◌≤◌, List, [], drop, length, min, arith}
use Rattle.std.specs.List.{zip}
use Rattle.std.proofs.lemmas.List.{length-drop, nil_from_length}
use Rattle.std.proofs.lemmas.Slice.Zip.{length-zip}

pub zip-ended : {A B : Type 0} → (xs : List A) (ys : List B) (k : ℕ) → min (length xs) (length ys) ≤ k → zip (drop k xs) (drop k ys) ≡ []
zip-ended xs ys k past =
    let first = length-drop k xs in
    let second = length-drop k ys in
    let both = length-zip (drop k xs) (drop k ys) in
    nil_from_length (zip (drop k xs) (drop k ys)) (omega (arith, past, first, second, both))
