-- Digits and the numbers that they write.
use Rattle.std.proofs.Common.{◌≡◌, ℕ, ◌+◌, ◌*◌, ◌^◌, ◌<◌, ◌≤◌, Bool, true, false, List, [], ◌∷◌, length, take, get_or, refl, sym, arith}
use Rattle.std.proofs.Math.Nat.{pow-le-pow_right}
use Rattle.std.proofs.lemmas.Bool.{leb-true, true≢false}
use Rattle.std.proofs.lemmas.Bool.Decides.{nat_tests}
use Rattle.std.proofs.lemmas.Int.Digits.{digits_value-lt, digits_value_more}
use Rattle.std.proofs.lemmas.Str.{digit_value_digit}
use Rattle.std.proofs.lemmas.Str.Parse.{digit_at, digits_value-take-le}
use Rattle.std.specs.Char.{digit_value}
use Rattle.std.specs.List.{list_all}
use Rattle.std.specs.Prelude.{not, ◌&&◌, ◌==◌, ◌-◌, nat_le}
use Rattle.std.specs.Str.Parse.{AllDigits, digits_value}
use Rattle.res_lexer.specs.Tokens.{is_digit}
use Rattle.command_words.specs.Words.{is_number, is_steps}

and-left : (a b : Bool) → (a && b) ≡ true → a ≡ true
and-left true b h = refl
and-left false b h = h

and-right : (a b : Bool) → (a && b) ≡ true → b ≡ true
and-right true b h = h
and-right false b h = absurd (true≢false (sym h))

digit-within : (c : ℕ) → is_digit c ≡ true → (48 ≤ c) × (c ≤ 57)
digit-within c h = grind (arith, nat_tests)

digit-small : (c : ℕ) → is_digit c ≡ true → digit_value c < 10
digit-small c h = let within = digit-within c h in let is = digit_value_digit c within in omega (arith, is, within.1)

all-digits : (cs : List ℕ) → list_all is_digit cs ≡ true → AllDigits 10 cs
all-digits [] h = tt
all-digits (c ∷ cs) h = (digit-small c (and-left (is_digit c) (list_all is_digit cs) h), all-digits cs (and-right (is_digit c) (list_all is_digit cs) h))

number-digits : (cs : List ℕ) → is_number cs ≡ true → AllDigits 10 cs
number-digits [] h = absurd (true≢false (sym h))
number-digits (c ∷ cs) h =
    let front = and-left (is_digit c && not (c == 48)) (list_all is_digit cs) h in
    (digit-small c (and-left (is_digit c) (not (c == 48)) front), all-digits cs (and-right (is_digit c && not (c == 48)) (list_all is_digit cs) h))

-- a number of steps has digits alone, and is below 10 ^ 12
pub steps-digits : (cs : List ℕ) → is_steps cs ≡ true → AllDigits 10 cs
steps-digits cs h = number-digits cs (and-left (is_number cs) (nat_le (length cs) 12) h)

pub steps-small : (cs : List ℕ) → is_steps cs ≡ true → digits_value 10 cs < 1000000000000
steps-small cs h =
    let digits = steps-digits cs h in
    let below = digits_value-lt 10 cs digits in
    let short : length cs ≤ 12 = leb-true (length cs) 12 (and-right (is_number cs) (nat_le (length cs) 12) h) in
    let ten : 0 < 10 = omega arith in
    let most : 10 ^ length cs ≤ 10 ^ 12 = pow-le-pow_right ten short in
    omega (arith, below, most)

-- the number of the digits up to a place, with one more
pub steps-more : (cs : List ℕ) (i : ℕ) → is_steps cs ≡ true → i < length cs → (10 * digits_value 10 (take i cs) + (get_or cs i 0 - 48) ≡ digits_value 10 (take (i + 1) cs)) × (digits_value 10 (take (i + 1) cs) < 1000000000000)
steps-more cs i h below =
    let more = digits_value_more 10 cs i below in
    let at = digit_value_digit (get_or cs i 0) (digit_at cs i (steps-digits cs h) below) in
    let one : 1 ≤ 10 = omega arith in
    let part = digits_value-take-le 10 cs (i + 1) one in
    let small = steps-small cs h in
    (omega (arith, more, at), omega (arith, part, small))

pub steps-digit : (cs : List ℕ) (i : ℕ) → is_steps cs ≡ true → i < length cs → (48 ≤ get_or cs i 0) × (get_or cs i 0 ≤ 57)
steps-digit cs i h below = digit_at cs i (steps-digits cs h) below
