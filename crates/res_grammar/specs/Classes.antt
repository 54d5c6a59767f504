-- The class of a token, which is all that the grammar sees of it.
use Rattle.std.specs.Prelude.{ℕ, ◌+◌, ◌-◌, Bool, ◌&&◌, nat_eq, nat_le, ◌==◌, if◌then◌else◌, List, [], ◌∷◌, map, Option, Some}
use Rattle.std.specs.Cmp.Lexicographic.{pointwise}
use Rattle.res_lexer.specs.declared.token.Token.{Token}
use Rattle.res_lexer.specs.declared.token.TokenKind.{TokenKind}
use Rattle.res_lexer.specs.declared.token.TokenKind.TheVariants.{Word, Literal, Symbol}
use Rattle.res_grammar.specs.Numbers.{id, literal, first_symbol, symbol_count, first_word, no_class, reserved}

-- two words have the same bytes
abbrev pub same_word : List ℕ → List ℕ → Bool
same_word a b = pointwise nat_eq a b

-- The class of a word among these reserved words, which have their classes from this one on. Any other word is an identifier.
abbrev pub class_among : ℕ → List (List ℕ) → List ℕ → ℕ
class_among class [] word = id
class_among class (r ∷ rs) word = if same_word r word then class else class_among (class + 1) rs word

unfoldable pub class_of_word : List ℕ → ℕ
class_of_word word = class_among first_word reserved word

abbrev pub class_of_symbol : ℕ → ℕ
class_of_symbol k = if nat_le 1 k && nat_le k symbol_count then first_symbol + (k - 1) else no_class

abbrev pub class_of : TokenKind → ℕ
class_of (Word word) = class_of_word word
class_of (Literal n) = literal
class_of (Symbol k) = class_of_symbol k

abbrev pub classes_of : List Token → List ℕ
classes_of ts = map (λ t. class_of t.kind) ts

-- the bytes of a word, and none of any other token
abbrev pub word_of : TokenKind → List ℕ
word_of (Word word) = word
word_of (Literal n) = []
word_of (Symbol k) = []

-- the last identifier, where after it comes a token of this class and of these bytes
abbrev pub remembered : ℕ → List ℕ → Option (List ℕ) → Option (List ℕ)
remembered class word last = if class == id then Some word else last
