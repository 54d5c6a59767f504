-- The tokens of a text, or the first place where it has none.
use Rattle.std.specs.Prelude.{◌≡◌, ℕ, zero, suc, pos, ◌+◌, ◌-◌, ◌<◌, ◌≤◌, List, [], ◌∷◌, length, take, drop, Some, slice_get, Result, Ok, Err, IsTrue}
use Rattle.std.specs.Str.Parse.{digits_value}
use Rattle.identifiers.specs.Identifiers.{is_identifier}
use Rattle.res_lexer.specs.declared.token.Token.{Token}
use Rattle.res_lexer.specs.declared.token.TokenKind.{TokenKind}
use Rattle.res_lexer.specs.declared.token.TokenKind.TheVariants.{Word, Literal, Symbol}
use Rattle.res_lexer.specs.declared.token.LexError.{LexError}
use Rattle.res_lexer.specs.declared.token.LexError.TheVariants.{BadByte, OpenComment, LongName, BigLiteral, NoMemory}
use Rattle.res_lexer.specs.Pieces.{Piece, Gap, Stands, Breach, piece_at, piece_len, is_literal, symbols, most_name_bytes, greatest_literal}
-- bytes and digits, for those who read only this file
pub use Rattle.res_lexer.specs.Pieces.{is_digit, same_bytes}

-- a token before the tokens after it
abbrev pub with_token : Token → Result (List Token) LexError → Result (List Token) LexError
with_token t (Ok ts) = Ok (t ∷ ts)
with_token t (Err e) = Err e

-- A text is a row of pieces. What a piece at a place adds to the tokens after it: a blank and a comment add nothing, and
-- nothing is read past a breach.
abbrev pub before : ℕ → Piece → Result (List Token) LexError → Result (List Token) LexError
before place (Gap n) later = later
before place (Stands n kind) later = with_token (record { at = place; len = n; kind = kind }) later
before place (Breach e) later = Err e

-- The tokens of the text from a place on, of which so many bytes belong to a piece that has begun.
abbrev pub reading_from : ℕ → ℕ → List ℕ → Result (List Token) LexError
reading_from place begun [] = Ok []
reading_from place (suc begun) (b ∷ bs) = reading_from (place + 1) begun bs
reading_from place zero (b ∷ bs) =
    let piece = piece_at place (b ∷ bs) in before place piece (reading_from (place + 1) (piece_len piece - 1) bs)

unfoldable pub reading : List ℕ → Result (List Token) LexError
reading bytes = reading_from 0 0 bytes

-- the tokens of a text
abbrev pub AreTokens : List ℕ → List Token → Type 0
AreTokens bytes ts = reading bytes ≡ Ok ts

-- The first place of the text where no piece stands: all before it are pieces.
abbrev pub Refuses : List ℕ → LexError → Type 0
Refuses bytes e = reading bytes ≡ Err e

-- what a call answers that may also run out of memory
abbrev pub RefusesOrNoMemory : List ℕ → LexError → Type 0
RefusesOrNoMemory bytes (BadByte at) = Refuses bytes (BadByte at)
RefusesOrNoMemory bytes (OpenComment at) = Refuses bytes (OpenComment at)
RefusesOrNoMemory bytes (LongName at) = Refuses bytes (LongName at)
RefusesOrNoMemory bytes (BigLiteral at) = Refuses bytes (BigLiteral at)
RefusesOrNoMemory bytes NoMemory = Unit {0}

-- a token's kind, by its text
abbrev pub Means : TokenKind → List ℕ → Type 0
Means (Word name) text = IsTrue (is_identifier text) × (name ≡ text) × (length text ≤ most_name_bytes)
Means (Literal n) text = IsTrue (is_literal text) × (n ≡ pos (digits_value 10 text)) × (digits_value 10 text ≤ greatest_literal)
Means (Symbol k) text = (0 < k) × (slice_get symbols (k - 1) ≡ Some text)

-- Tokens of a text from a place on: each begins where the one before has ended, or later, has a byte at least, ends inside
-- the text, and is what its bytes mean.
abbrev pub Lie : List ℕ → ℕ → List Token → Type 0
Lie bytes from [] = Unit {0}
Lie bytes from (t ∷ ts) =
    (from ≤ t.at) × (0 < t.len) × (t.at + t.len ≤ length bytes) × Means t.kind (take t.len (drop t.at bytes)) × Lie bytes (t.at + t.len) ts
