-- The literal 0 behind two minus signs, as in `- - 0`: the one thing that a canonical text may have to write deeper than it was read.
--
-- `- 0` is the number 0. So `- - 0` is a minus sign before the number 0, which is one node, and its canonical text is `- ( 0 )`,
-- with a node more for the parentheses. Where the file is nested as deep as it may be, its canonical text is nested too deep, and
-- is refused. A file without it may have a 0 behind one minus sign, as `- 0`, whose canonical text is `0`, and `x - 0`. No
-- canonical text has it: a component that is read back is spelled by a file without it.
use Rattle.std.specs.Prelude.{pos, negsuc, eqb, Bool, false, ◌&&◌, ◌||◌, List, [], ◌∷◌}
use Rattle.res_lexer.specs.declared.symbol.TheConstants.{MINUS}
use Rattle.res_lexer.specs.declared.token.TokenKind.{TokenKind}
use Rattle.res_lexer.specs.declared.token.TokenKind.TheVariants.{Word, Literal, Symbol}

abbrev pub is_minus : TokenKind → Bool
is_minus (Word name) = false
is_minus (Literal n) = false
is_minus (Symbol k) = eqb k MINUS

-- whether the first one is the literal 0, of however many digits
abbrev pub begins_with_zero : List TokenKind → Bool
begins_with_zero [] = false
begins_with_zero (Word name ∷ ks) = false
begins_with_zero (Literal (pos n) ∷ ks) = eqb n 0
begins_with_zero (Literal (negsuc n) ∷ ks) = false
begins_with_zero (Symbol k ∷ ks) = false

-- whether the first two are a minus sign and the literal 0
abbrev pub begins_with_minus_zero : List TokenKind → Bool
begins_with_minus_zero [] = false
begins_with_minus_zero (k ∷ ks) = is_minus k && begins_with_zero ks

-- whether a literal 0 stands directly behind two minus signs somewhere
abbrev pub has_minus_minus_zero : List TokenKind → Bool
has_minus_minus_zero [] = false
has_minus_minus_zero (k ∷ ks) = (is_minus k && begins_with_minus_zero ks) || has_minus_minus_zero ks
