-- What is claimed of the parts of the grammar holds of every derivation, where it holds of each way from the parts that it leads to.
-- A part that was done comes with what every doing keeps.
use Rattle.std.proofs.Common.{◌≡◌, ℕ, zero, suc, ◌-◌, ◌+◌, max, Bool, true, false, ◌==◌, nat_lt, pos, negsuc, List, [], ◌∷◌}
use Rattle.ll_grammar.specs.Grammar.{Rules, row}
use Rattle.ll_grammar.specs.declared.form.Move.{Move}
use Rattle.ll_grammar.specs.declared.form.Move.TheVariants.{Shift, Expand, Act}
use Rattle.ll_grammar.specs.declared.form.Symbol.{Symbol}
use Rattle.ll_grammar.specs.declared.form.Symbol.TheVariants.{Terminal, Nonterminal, Action}
use Rattle.res_lexer.specs.Spaced.{IsWritable}
use Rattle.res_lexer.specs.declared.token.TokenKind.{TokenKind}
use Rattle.res_lexer.specs.declared.token.TokenKind.TheVariants as kind
use Rattle.res_grammar.specs.Classes.{class_of_word}
use Rattle.res_grammar.specs.Numbers as n
use Rattle.round_trip.proofs.Doing.{Doing, did, nothing_done, then, took}
use Rattle.round_trip.proofs.Steady.{Steady}

-- what is claimed of the doing of each part
abbrev pub Claim : Type 1
Claim = ℕ → Doing → Type 0

-- the one token of a class, other than that of names and that of literals
abbrev pub kind_by : Bool → ℕ → TokenKind
kind_by true c = kind.Symbol (c - n.first_symbol + 1)
kind_by false c = kind.Word (row n.reserved (c - n.first_word))

abbrev pub kind_of_class : ℕ → TokenKind
kind_of_class c = kind_by (nat_lt c n.first_word) c

-- for every token of the class that some text has
abbrev pub ForLiterals : Bool → ℕ → (TokenKind → Type 0) → Type 0
ForLiterals true c P = (k : ℕ) → IsWritable (kind.Literal (pos k)) → P (kind.Literal (pos k))
ForLiterals false c P = P (kind_of_class c)

abbrev pub ForNames : Bool → ℕ → (TokenKind → Type 0) → Type 0
ForNames true c P = (name : List ℕ) → class_of_word name ≡ n.id → IsWritable (kind.Word name) → P (kind.Word name)
ForNames false c P = ForLiterals (c == n.literal) c P

abbrev pub ForClass : ℕ → (TokenKind → Type 0) → Type 0
ForClass c P = ForNames (c == n.id) c P

-- A token that is taken as the literal behind a minus sign. Where it is 0, it counts as too deep: what `- - 0` builds is written
-- `- ( 0 )`, which is one node deeper, so nothing is claimed of the depth of what has it.
abbrev pub sunk : TokenKind → Doing
sunk k = record { build = λ s. (took k).build s; nest = λ ν. record ν { deepest = max ν.deepest 201 }; names = λ q. (took k).names q }

abbrev pub took_number : ℕ → Doing
took_number zero = sunk (kind.Literal (pos 0))
took_number (suc j) = took (kind.Literal (pos (suc j)))

abbrev pub took_signed : TokenKind → Doing
took_signed (kind.Word name) = took (kind.Word name)
took_signed (kind.Literal (pos j)) = took_number j
took_signed (kind.Literal (negsuc j)) = took (kind.Literal (negsuc j))
took_signed (kind.Symbol j) = took (kind.Symbol j)

abbrev pub took_as : Bool → TokenKind → Doing
took_as true k = took_signed k
took_as false k = took k

abbrev pub took_before : List Symbol → TokenKind → Doing
took_before [] k = took k
took_before (Terminal c ∷ ss) k = took k
took_before (Nonterminal x ∷ ss) k = took k
took_before (Action a ∷ ss) k = took_as (a == n.minus_literal_mark) k

-- The symbols are done one behind the other, each part so that its claim holds; then this holds of all that was done.
abbrev pub Chain : Claim → List Symbol → (Doing → Type 0) → Doing → Type 0
Chain Q [] P m = P m
Chain Q (Terminal c ∷ ss) P m = ForClass c (λ k. Chain Q ss P (then m (took_before ss k)))
Chain Q (Action a ∷ ss) P m = Chain Q ss P (then m (did a))
Chain Q (Nonterminal x ∷ ss) P m = (d : Doing) → Steady d → Q x d → Chain Q ss P (then m d)

-- the claim of a part holds of each of its ways
abbrev pub Ways : Claim → ℕ → List (List Symbol) → Type 0
Ways Q x [] = Unit {0}
Ways Q x (right ∷ ways) = Chain Q right (Q x) nothing_done × Ways Q x ways

abbrev pub AllWays : Claim → ℕ → Rules → Type 0
AllWays Q x [] = Unit {0}
AllWays Q x (ways ∷ more) = Ways Q x ways × AllWays Q (x + 1) more

-- all tokens are such as some text has
abbrev pub AllWritable : List TokenKind → Type 0
AllWritable [] = Unit {0}
AllWritable (k ∷ ks) = IsWritable k × AllWritable ks

-- The token is no 0, where the moves go on with the literal behind a minus sign.
abbrev pub IsNoZero : Bool → TokenKind → Type 0
IsNoZero true k = k ≡ kind.Literal (pos 0) → ⊥
IsNoZero false k = Unit {0}

abbrev pub IsNoMinusZero : TokenKind → List Move → Type 0
IsNoMinusZero k [] = Unit {0}
IsNoMinusZero k (Shift ∷ ms) = Unit {0}
IsNoMinusZero k (Expand x w ∷ ms) = Unit {0}
IsNoMinusZero k (Act a ∷ ms) = IsNoZero (a == n.minus_literal_mark) k

-- No 0 is the literal behind a minus sign.
abbrev pub HaveNoMinusZero : List Move → List TokenKind → Type 0
HaveNoMinusZero [] ks = Unit {0}
HaveNoMinusZero (Shift ∷ ms) [] = HaveNoMinusZero ms []
HaveNoMinusZero (Shift ∷ ms) (k ∷ ks) = IsNoMinusZero k ms × HaveNoMinusZero ms ks
HaveNoMinusZero (Expand x w ∷ ms) ks = HaveNoMinusZero ms ks
HaveNoMinusZero (Act a ∷ ms) ks = HaveNoMinusZero ms ks
