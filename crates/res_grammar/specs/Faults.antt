-- Where a text is refused, and why.
use Rattle.std.specs.Prelude.{◌≡◌, ℕ, ◌+◌, ◌<◌, ◌≤◌, Bool, true, List, [], ◌∷◌, ◌++◌, take, length, Some, None}
use Rattle.ll_grammar.specs.declared.form.Move.{Move}
use Rattle.ll_grammar.specs.declared.form.Move.TheVariants.{Shift}
use Rattle.ll_grammar.specs.declared.form.Symbol.TheVariants.{Nonterminal}
use Rattle.ll_grammar.specs.Grammar.{Rules, Derives}
use Rattle.ll_grammar.specs.Texts.{Read}
use Rattle.ll_grammar.specs.Watch.{watched, Passes, IsText, BeginsText, IsViable}
use Rattle.res_lexer.specs.declared.token.Token.{Token}
use Rattle.res_grammar.specs.Classes.{class_of, classes_of, word_of}
use Rattle.res_grammar.specs.OwnName.{OwnNames, own, own_step, own_act}
use Rattle.res_grammar.specs.ClosingName.{ClosingNames, closing, closing_step, closing_act}
use Rattle.res_grammar.specs.Nesting.{nesting, nesting_shift, nesting_act}
use Rattle.res_grammar.specs.Following.{can_follow}
use Rattle.res_grammar.specs.declared.nesting.Nesting.{Nesting}
use Rattle.res_grammar.specs.declared.watches.Watches.{Watches}
use Rattle.res_grammar.specs.declared.watches.Fault.{Fault}
use Rattle.res_grammar.specs.declared.watches.Fault.TheVariants.{Expected, TooDeep, EndName}
use Rattle.res_grammar.specs.declared.expressions.PrefixReading.{PrefixReading}
use Rattle.res_grammar.specs.declared.expressions.PrefixReading.TheVariants as prefix
use Rattle.res_grammar.specs.declared.reading.Reading.{Reading}
use Rattle.res_grammar.specs.declared.reading.Reading.TheVariants.{Text, Refused}

-- ---- texts

-- All three watches pass the tokens on the way of these moves.
pub record AllPass (moves : List Move) (ts : List Token) : Type 0 where
  pub own : Passes OwnNames Token own moves ts
  pub nesting : Passes Nesting Token nesting moves ts
  pub closing : Passes ClosingNames Token closing moves ts

-- The moves are the one derivation of the tokens, and no watch refuses a token.
pub record IsTextBy (g : Rules) (start : ℕ) (moves : List Move) (ts : List Token) : Type 0 where
  pub read : Read g start (classes_of ts) moves
  pub pass : AllPass moves ts

-- A text apart from nesting and closing names begins with these tokens.
abbrev pub Begins : Rules → ℕ → List Token → Type 0
Begins g start ts = BeginsText OwnNames Token g start own (λ t. true) ts

-- Such a text begins with them in which only tokens follow that can follow them.
abbrev pub GoesOn : Rules → ℕ → List Token → Type 0
GoesOn g start ts = BeginsText OwnNames Token g start own (λ t. can_follow ts t.kind) ts

-- The tokens begin some text, and no path of its tree has more than 200 nodes up to there.
abbrev pub IsShallow : Rules → ℕ → List Token → Type 0
IsShallow g start ts = IsViable Nesting Token g start nesting ts

-- The tokens begin some text, and closing names repeat what they close.
abbrev pub ClosesNames : Rules → ℕ → List Token → Type 0
ClosesNames g start ts = IsViable ClosingNames Token g start closing ts

-- ---- refusals

-- Why the token at a place is refused: no text goes on with it, or at the end there is none; its nodes are too deep; or a
-- name is not the one that it closes. At one place the first of these that applies.
abbrev pub IsFaultAt : Rules → ℕ → Fault → List Token → ℕ → Type 0
IsFaultAt g start Expected ts place = (place < length ts → Begins g start (take (place + 1) ts) → ⊥) × (length ts ≤ place → IsText OwnNames Token g start own ts → ⊥)
IsFaultAt g start TooDeep ts place = (place < length ts) × GoesOn g start (take (place + 1) ts) × (IsShallow g start (take (place + 1) ts) → ⊥)
IsFaultAt g start EndName ts place = (place < length ts) × GoesOn g start (take (place + 1) ts) × IsShallow g start (take (place + 1) ts) × (ClosesNames g start (take (place + 1) ts) → ⊥)

-- The first place where there is a fault: all is well with the tokens before it.
pub record IsRefusedAt (g : Rules) (start : ℕ) (ts : List Token) (place : ℕ) (fault : Fault) : Type 0 where
  pub inside : place ≤ length ts
  pub begins : GoesOn g start (take place ts)
  pub shallow : IsShallow g start (take place ts)
  pub closes : ClosesNames g start (take place ts)
  pub here : IsFaultAt g start fault ts place

abbrev pub MatchReading : Reading → (List Move → Type 0) → (ℕ → Fault → Type 0) → Type 0
MatchReading (Text moves) P Q = P moves.items
MatchReading (Refused place fault) P Q = Q place fault

-- ---- as long as a text goes on

-- The first tokens, as many as these, are a text, and with the next one they begin none.
pub record IsTextUpTo (g : Rules) (start : ℕ) (ts : List Token) (place : ℕ) (moves : List Move) : Type 0 where
  pub inside : place ≤ length ts
  pub text : IsTextBy g start moves (take place ts)
  pub ends : place < length ts → Begins g start (take (place + 1) ts) → ⊥

-- A token is refused, or the first with which no text goes on comes where those before it are no text.
pub record IsNoTextUpTo (g : Rules) (start : ℕ) (ts : List Token) (place : ℕ) (fault : Fault) : Type 0 where
  pub refused : IsRefusedAt g start ts place fault
  pub none : fault ≡ Expected → (moves : List Move) → IsTextBy g start moves (take place ts) → ⊥

abbrev pub MatchPrefix : PrefixReading → (ℕ → List Move → Type 0) → (ℕ → Fault → Type 0) → Type 0
MatchPrefix (prefix.Text place moves) P Q = P place moves.items
MatchPrefix (prefix.Refused place fault) P Q = Q place fault

-- ---- one answer

abbrev pub OneRefusal : Rules → ℕ → Type 0
OneRefusal g start = (ts : List Token) (p q : ℕ) (f k : Fault) → IsRefusedAt g start ts p f → IsRefusedAt g start ts q k → (p ≡ q) × (f ≡ k)

abbrev pub TextsAreNotRefused : Rules → ℕ → Type 0
TextsAreNotRefused g start = (ts : List Token) (moves : List Move) (place : ℕ) (f : Fault) → IsTextBy g start moves ts → IsRefusedAt g start ts place f → ⊥

abbrev pub OneDerivation : Rules → ℕ → Type 0
OneDerivation g start = (moves : List Move) (words : List ℕ) → Derives g moves (Nonterminal start ∷ []) words → Read g start words moves

-- ---- what the walk over the moves goes by: one token

pub record Passed (t : Token) (old new : Watches) : Type 0 where
  pub own : own.shift t old.own ≡ Some new.own
  pub nesting : nesting_shift t old.nesting ≡ Some new.nesting
  pub closing : closing.shift t old.closing ≡ Some new.closing

pub record OwnPasses (t : Token) (s : Watches) : Type 0 where
  pub own_names : OwnNames
  pub is : own.shift t s.own ≡ Some own_names

pub record NestingPasses (t : Token) (s : Watches) : Type 0 where
  pub depths : Nesting
  pub is : nesting_shift t s.nesting ≡ Some depths

abbrev pub Refuses : Fault → Token → Watches → Type 0
Refuses Expected t s = own.shift t s.own ≡ None
Refuses TooDeep t s = OwnPasses t s × (nesting_shift t s.nesting ≡ None)
Refuses EndName t s = OwnPasses t s × NestingPasses t s × (closing.shift t s.closing ≡ None)

abbrev pub acted : ℕ → Watches → Watches
acted a s = record { own = own_act a s.own; nesting = nesting_act a s.nesting; closing = closing_act a s.closing }

-- ---- all tokens

-- the first watch that refuses, in the order in which they are asked
abbrev pub RefusesAfter : Fault → List Move → List Token → Type 0
RefusesAfter Expected moves ts = watched own moves ts own.outset ≡ None
RefusesAfter TooDeep moves ts = Passes OwnNames Token own moves ts × (watched nesting moves ts nesting.outset ≡ None)
RefusesAfter EndName moves ts = Passes OwnNames Token own moves ts × Passes Nesting Token nesting moves ts × (watched closing moves ts closing.outset ≡ None)

-- All tokens before this place are passed; this one is not.
pub record StopsAt (moves : List Move) (ts : List Token) (place : ℕ) (fault : Fault) : Type 0 where
  pub first : List Move
  pub rest : List Move
  pub is : moves ≡ first ++ Shift ∷ rest
  pub inside : place < length ts
  pub before : AllPass first (take place ts)
  pub refuses : RefusesAfter fault (first ++ Shift ∷ []) (take (place + 1) ts)
