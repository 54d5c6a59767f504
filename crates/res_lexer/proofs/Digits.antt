-- The value of a literal, digit by digit.
use Rattle.std.proofs.Common.{◌≡◌, ℕ, zero, suc, ◌+◌, ◌-◌, ◌*◌, ◌<◌, ◌≤◌, true, List, [], ◌∷◌, length, get_or, take, ap, ◌∙◌, Bool, cond, refl, sym, subst, ⊎_elim, one-add, arith}
use Rattle.std.proofs.lemmas.Bool.{and_parts, and_from, cases_Bool}
use Rattle.std.proofs.lemmas.Bool.Decides.{nat_tests}
use Rattle.std.proofs.lemmas.Int.Digits.{digits_value_more}
use Rattle.std.proofs.lemmas.Str.{digit_value_digit}
use Rattle.std.specs.Char.{digit_value}
use Rattle.std.specs.List.{list_all, prefix_len}
use Rattle.std.specs.Str.Parse.{digits_value}
use Rattle.res_lexer.specs.Pieces.{is_digit, is_literal}

pub is_digit-within : (b : ℕ) → is_digit b ≡ true → (48 ≤ b) × (b ≤ 57)
is_digit-within b h = grind (arith, nat_tests)

each_digit : (digits : List ℕ) (i : ℕ) → list_all is_digit digits ≡ true → i < length digits → (48 ≤ get_or digits i 0) × (get_or digits i 0 ≤ 57)
each_digit [] i h below = absurd (omega arith)
each_digit (b ∷ bs) zero h below = is_digit-within b (and_parts (is_digit b) (list_all is_digit bs) h).0
each_digit (b ∷ bs) (suc i) h below =
    each_digit bs i (and_parts (is_digit b) (list_all is_digit bs) h).1 (omega arith)

-- each byte of a literal is a digit
pub literal_digit : (digits : List ℕ) (i : ℕ) → is_literal digits ≡ true → i < length digits → (48 ≤ get_or digits i 0) × (get_or digits i 0 ≤ 57)
literal_digit [] i h below = absurd (omega arith)
literal_digit (b ∷ bs) i h below = each_digit (b ∷ bs) i h below

-- one more digit of a literal
pub literal_more : (digits : List ℕ) (i : ℕ) → is_literal digits ≡ true → i < length digits → digits_value 10 (take (i + 1) digits) ≡ digits_value 10 (take i digits) * 10 + (get_or digits i 0 - 48)
literal_more digits i h below =
    let digit = digit_value_digit (get_or digits i 0) (literal_digit digits i h below) in
    let is : digit_value (get_or digits i 0) ≡ get_or digits i 0 - 48 = omega arith in
    digits_value_more 10 digits i below ∙ ap (λ d. digits_value 10 (take i digits) * 10 + d) is

-- the digits at the front, where there are some, are a literal
pub front_literal : (rest : List ℕ) → 0 < prefix_len is_digit rest → is_literal (take (prefix_len is_digit rest) rest) ≡ true
front_literal [] some = absurd (omega (arith, some))
front_literal (b ∷ bs) some =
    let P : Bool → Type 0 = λ t. 0 < cond t (1 + prefix_len is_digit bs) 0 → is_literal (take (cond t (1 + prefix_len is_digit bs) 0) (b ∷ bs)) ≡ true in
    ⊎_elim
    (λ passed. subst P (sym passed) (λ more. rw one-add (and_from (is_digit b) (list_all is_digit (take (prefix_len is_digit bs) bs)) passed (front_passes bs))) some)
    (λ failed. subst P (sym failed) (λ more. absurd (omega (arith, more))) some)
    (cases_Bool (is_digit b))
  where
    front_passes : (xs : List ℕ) → list_all is_digit (take (prefix_len is_digit xs) xs) ≡ true
    front_passes [] = refl
    front_passes (x ∷ xs) =
        let P : Bool → Type 0 = λ t. list_all is_digit (take (cond t (1 + prefix_len is_digit xs) 0) (x ∷ xs)) ≡ true in
        ⊎_elim
        (λ passed. subst P (sym passed) (rw one-add (and_from (is_digit x) (list_all is_digit (take (prefix_len is_digit xs) xs)) passed (front_passes xs))))
        (λ failed. subst P (sym failed) refl)
        (cases_Bool (is_digit x))
