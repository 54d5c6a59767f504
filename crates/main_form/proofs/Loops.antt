-- Loops over lists, by what is left.
use Rattle.std.proofs.Common.{◌≡◌, ◌∙◌, ap, ℕ, ◌+◌, ◌<◌, ◌≤◌, Bool, true, false, ◌||◌, List, drop, get_or, length}
use Rattle.std.proofs.lemmas.List.{at_drop_more, at_drop_all}
use Rattle.std.specs.List.{list_any}

-- a test of each item, up to one that passes
pub any_here : {A : Type 0} (p : A → Bool) (xs : List A) (i : ℕ) (d : A) → i < length xs → list_any p xs ≡ list_any p (drop i xs) → p (get_or xs i d) ≡ true → list_any p xs ≡ true
any_here p xs i d below so passes =
    so ∙ at_drop_more (list_any p) xs i d below ∙ ap (λ b. b || list_any p (drop (i + 1) xs)) passes

pub any_later : {A : Type 0} (p : A → Bool) (xs : List A) (i : ℕ) (d : A) → i < length xs → list_any p xs ≡ list_any p (drop i xs) → p (get_or xs i d) ≡ false → list_any p xs ≡ list_any p (drop (i + 1) xs)
any_later p xs i d below so fails =
    so ∙ at_drop_more (list_any p) xs i d below ∙ ap (λ b. b || list_any p (drop (i + 1) xs)) fails

pub any_none : {A : Type 0} (p : A → Bool) (xs : List A) (i : ℕ) → list_any p xs ≡ list_any p (drop i xs) → length xs ≤ i → list_any p xs ≡ false
any_none p xs i so end = so ∙ at_drop_all (list_any p) xs i end
