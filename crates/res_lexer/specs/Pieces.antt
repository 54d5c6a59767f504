-- The piece that stands at the front of a text: a blank, a comment, a word, a literal or a symbol.
use Rattle.std.specs.Prelude.{ℕ, suc, pos, ◌+◌, nat_eq, nat_lt, nat_le, ◌==◌, Bool, true, false, ◌&&◌, ◌||◌, List, [], ◌∷◌, length, take, drop, Option, Some, None, option_map, codes, if◌then◌else◌}
use Rattle.std.specs.List.{list_all, position_or_len, prefix_len, starts_with}
use Rattle.std.specs.Str.Lossy.{utf8_valid_len}
use Rattle.std.specs.Str.Parse.{digits_value}
use Rattle.identifiers.specs.Identifiers.{is_identifier, longest}
use Rattle.res_lexer.specs.declared.token.TokenKind.{TokenKind}
use Rattle.res_lexer.specs.declared.token.TokenKind.TheVariants.{Word, Literal, Symbol}
use Rattle.res_lexer.specs.declared.token.LexError.{LexError}
use Rattle.res_lexer.specs.declared.token.LexError.TheVariants.{BadByte, OpenComment, LongName, BigLiteral}

-- A blank or a comment of so many bytes, a token of so many bytes, or why no piece stands there.
pub data Piece : Type 0 where
  Gap : ℕ → Piece
  Stands : ℕ → TokenKind → Piece
  Breach : LexError → Piece

abbrev pub piece_len : Piece → ℕ
piece_len (Gap n) = n
piece_len (Stands n kind) = n
piece_len (Breach e) = 0

-- whether there is a first byte, and it passes the test
abbrev pub first_passes : (ℕ → Bool) → List ℕ → Bool
first_passes test [] = false
first_passes test (b ∷ bs) = test b

-- whether the text begins with these bytes
abbrev pub begins : List ℕ → List ℕ → Bool
begins front rest = starts_with nat_eq rest front

-- ---- blanks and comments

-- space, tab, CR and LF
abbrev pub is_blank : ℕ → Bool
is_blank b = b == 32 || b == 9 || b == 13 || b == 10

-- A comment from `--` ends before the next LF, or where the text ends.
abbrev pub line_comment_len : List ℕ → ℕ
line_comment_len rest = position_or_len (λ b. b == 10) rest

-- how many bytes stand before the first `*)`
abbrev pub before_closing : List ℕ → Option ℕ
before_closing [] = None
before_closing (b ∷ bs) = if begins (codes "*)") (b ∷ bs) then Some 0 else option_map suc (before_closing bs)

-- A comment from `(*` ends with the first `*)` after these two bytes. Nothing inside it counts.
abbrev pub bracket_comment_len : List ℕ → Option ℕ
bracket_comment_len rest = option_map (λ n. 2 + n + 2) (before_closing (drop 2 rest))

-- A comment is UTF-8. If it is not, the breach stands where the first character is not well-formed.
abbrev pub comment : ℕ → List ℕ → Piece
comment place text =
    if utf8_valid_len text == length text then Gap (length text) else Breach (BadByte (place + utf8_valid_len text))

abbrev pub bracket_comment : ℕ → List ℕ → Option ℕ → Piece
bracket_comment place rest None = Breach (OpenComment place)
bracket_comment place rest (Some len) = comment place (take len rest)

-- ---- words

abbrev pub most_name_bytes : ℕ
most_name_bytes = 64

abbrev pub word : ℕ → List ℕ → Piece
word place text =
    if nat_le (length text) most_name_bytes then Stands (length text) (Word text) else Breach (LongName place)

-- ---- literals

abbrev pub is_digit : ℕ → Bool
is_digit b = nat_le 48 b && nat_le b 57

-- decimal digits, at least one; leading zeros are accepted
abbrev pub is_literal : List ℕ → Bool
is_literal [] = false
is_literal (b ∷ bs) = is_digit b && list_all is_digit bs

abbrev pub greatest_literal : ℕ
greatest_literal = 1000000000

abbrev pub literal : ℕ → List ℕ → Piece
literal place text =
    if nat_le (digits_value 10 text) greatest_literal then Stands (length text) (Literal (pos (digits_value 10 text))) else Breach (BigLiteral place)

-- ---- symbols

-- The symbols, of which the first has number 1. Each stands before those that it begins with.
abbrev pub symbols : List (List ℕ)
symbols =
    codes ":=:" ∷ codes ":=" ∷ codes "<=" ∷ codes ">=" ∷ codes "/=" ∷ codes "<" ∷ codes ">" ∷ codes "=" ∷ codes "+" ∷ codes "-" ∷ codes "*" ∷ codes "(" ∷ codes ")" ∷ codes "," ∷ codes ";" ∷ codes ":" ∷ codes "." ∷ codes "|" ∷ codes "#" ∷ []

-- The first of these symbols that the text begins with; they are numbered from this number on.
abbrev pub symbol_among : ℕ → List (List ℕ) → ℕ → List ℕ → Piece
symbol_among number [] place rest = Breach (BadByte place)
symbol_among number (s ∷ ss) place rest =
    if begins s rest then Stands (length s) (Symbol number) else symbol_among (number + 1) ss place rest

unfoldable pub symbol_at : ℕ → List ℕ → Piece
symbol_at place rest = symbol_among 1 symbols place rest

-- ---- the piece at a place

-- What begins as a comment is one. A word and a literal are the longest that stand there. Where nothing else stands, no
-- piece begins, whether a well-formed character stands there or not.
unfoldable pub piece_at : ℕ → List ℕ → Piece
piece_at place rest =
    if first_passes is_blank rest then Gap 1
    else (if begins (codes "--") rest then comment place (take (line_comment_len rest) rest)
    else (if begins (codes "(*") rest then bracket_comment place rest (bracket_comment_len rest)
    else (if nat_lt 0 (longest is_identifier rest) then word place (take (longest is_identifier rest) rest)
    else (if nat_lt 0 (prefix_len is_digit rest) then literal place (take (prefix_len is_digit rest) rest)
    else symbol_at place rest))))

-- the same lists of bytes
abbrev pub same_bytes : List ℕ → List ℕ → Bool
same_bytes [] [] = true
same_bytes [] (y ∷ ys) = false
same_bytes (x ∷ xs) [] = false
same_bytes (x ∷ xs) (y ∷ ys) = x == y && same_bytes xs ys
