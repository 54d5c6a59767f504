-- What an identifier is.
use Rattle.std.specs.Prelude.{◌≡◌, ℕ, zero, suc, nat_le, ◌==◌, Bool, false, ◌&&◌, ◌||◌, List, [], ◌∷◌, ◌++◌, length, take, chars, encode_utf8, if◌then◌else◌}
use Rattle.std.specs.Char.{IsScalar}
use Rattle.std.specs.List.{list_all}
use Rattle.std.specs.Str.{is_utf8}
use Rattle.unicode_ident.specs.Ident.{is_xid_start, is_xid_continue}

-- the first character has the property XID_Start, or is `_`
abbrev pub begins_identifier : ℕ → Bool
begins_identifier c = is_xid_start c || c == 95

-- and each other one has XID_Continue
abbrev pub spell_identifier : List ℕ → Bool
spell_identifier [] = false
spell_identifier (c ∷ cs) = begins_identifier c && list_all is_xid_continue cs

-- An identifier, as bytes: well-formed UTF-8 of such characters.
unfoldable pub is_identifier : List ℕ → Bool
is_identifier bytes = is_utf8 bytes && spell_identifier (chars bytes)

-- the greatest number of bytes up to n that a front has which passes the test, or 0 where none does
abbrev pub longest_up_to : (List ℕ → Bool) → ℕ → List ℕ → ℕ
longest_up_to test zero bytes = 0
longest_up_to test (suc n) bytes = if test (take (suc n) bytes) then suc n else longest_up_to test n bytes

-- how many bytes the longest front has that passes the test, or 0 where none does
unfoldable pub longest : (List ℕ → Bool) → List ℕ → ℕ
longest test bytes = longest_up_to test (length bytes) bytes

-- no character that goes on with an identifier begins the bytes
abbrev pub NothingContinues : List ℕ → Type 0
NothingContinues bytes = (c : ℕ) (rest : List ℕ) → IsScalar c → bytes ≡ encode_utf8 c ++ rest → is_xid_continue c ≡ false

-- An identifier of ASCII alone: letters, digits and `_`, with no digit in front.
abbrev pub is_letter : ℕ → Bool
is_letter b = (nat_le 65 b && nat_le b 90) || (nat_le 97 b && nat_le b 122) || b == 95

abbrev pub is_letter_or_digit : ℕ → Bool
is_letter_or_digit b = is_letter b || (nat_le 48 b && nat_le b 57)

abbrev pub is_plain_identifier : List ℕ → Bool
is_plain_identifier [] = false
is_plain_identifier (b ∷ bs) = is_letter b && list_all is_letter_or_digit bs
