-- Tokens that are written out, with blanks between them.
use Rattle.std.specs.Prelude.{◌≡◌, ℕ, pos, negsuc, ◌+◌, ◌-◌, ◌<◌, ◌≤◌, List, [], ◌∷◌, ◌++◌, length, slice_index_or, decimal, IsTrue}
use Rattle.std.specs.List.{list_all}
use Rattle.identifiers.specs.Identifiers.{is_identifier}
use Rattle.res_lexer.specs.declared.symbol.TheConstants.{MINUS}
use Rattle.res_lexer.specs.declared.token.Token.{Token}
use Rattle.res_lexer.specs.declared.token.TokenKind.{TokenKind}
use Rattle.res_lexer.specs.declared.token.TokenKind.TheVariants.{Word, Literal, Symbol}
use Rattle.res_lexer.specs.Pieces.{is_blank, symbols, most_name_bytes, greatest_literal}

-- the text that a token is written as
abbrev pub text_of : TokenKind → List ℕ
text_of (Word name) = name
text_of (Literal (pos n)) = decimal n
text_of (Literal (negsuc n)) = []
text_of (Symbol k) = slice_index_or symbols (k - 1) []

-- a token that some text has
abbrev pub IsWritable : TokenKind → Type 0
IsWritable (Word name) = IsTrue (is_identifier name) × (length name ≤ most_name_bytes)
IsWritable (Literal (pos n)) = n ≤ greatest_literal
IsWritable (Literal (negsuc n)) = ⊥
IsWritable (Symbol k) = (0 < k) × (k ≤ length symbols)

-- tokens in order, each with the blanks that are written after it
abbrev pub Row : Type 0
Row = List (TokenKind × List ℕ)

abbrev pub spaced : Row → List ℕ
spaced [] = []
spaced ((kind, blanks) ∷ row) = text_of kind ++ (blanks ++ spaced row)

-- the tokens of a row that is written from this place on
abbrev pub placed_from : ℕ → Row → List Token
placed_from place [] = []
placed_from place ((kind, blanks) ∷ row) =
    record { at = place; len = length (text_of kind); kind = kind } ∷ placed_from (place + length (text_of kind) + length blanks) row

-- No blank is needed after a token that is the last, and between a minus sign and a literal.
abbrev pub MayTouch : TokenKind → Row → Type 0
MayTouch kind [] = Unit {0}
MayTouch (Symbol k) ((Literal n, blanks) ∷ row) = k ≡ MINUS
MayTouch kind (next ∷ row) = ⊥

-- Tokens that are apart: each is one that some text has, and the row has only blanks between them, and those it needs.
abbrev pub AreApart : Row → Type 0
AreApart [] = Unit {0}
AreApart ((kind, blanks) ∷ row) =
    IsWritable kind × IsTrue (list_all is_blank blanks) × (blanks ≡ [] → MayTouch kind row) × AreApart row
