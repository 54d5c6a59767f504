-- Tokens that can follow others: those that a text can have whatever stands before, and the words of these.
use Rattle.std.specs.Prelude.{ℕ, ℤ, pos, negsuc, Bool, false, ◌&&◌, ◌||◌, nat_le, nat_lt, ◌==◌, List, length}
use Rattle.std.specs.List.{list_all, list_any}
use Rattle.res_lexer.specs.declared.token.Token.{Token}
use Rattle.res_lexer.specs.declared.token.TokenKind.{TokenKind}
use Rattle.res_lexer.specs.declared.token.TokenKind.TheVariants.{Word, Literal, Symbol}
use Rattle.res_grammar.specs.Numbers.{symbol_count}
use Rattle.res_grammar.specs.Classes.{same_word}

-- a letter of ASCII, or `_`
abbrev pub is_letter : ℕ → Bool
is_letter b = (nat_le 65 b && nat_le b 90) || (nat_le 97 b && nat_le b 122) || b == 95

-- Plain tokens: words of 1 to 64 letters, literals up to 1,000,000,000, and the symbols.
abbrev pub is_plain : TokenKind → Bool
is_plain (Word word) = nat_lt 0 (length word) && nat_le (length word) 64 && list_all is_letter word
is_plain (Literal (pos n)) = nat_le n 1000000000
is_plain (Literal (negsuc n)) = false
is_plain (Symbol k) = nat_le 1 k && nat_le k symbol_count

abbrev pub are_one_word : TokenKind → TokenKind → Bool
are_one_word (Word a) (Word b) = same_word a b
are_one_word _ _ = false

-- one of these tokens is the same word
abbrev pub is_word_of : List Token → TokenKind → Bool
is_word_of ts kind = list_any (λ t. are_one_word t.kind kind) ts

abbrev pub can_follow : List Token → TokenKind → Bool
can_follow ts kind = is_plain kind || is_word_of ts kind
