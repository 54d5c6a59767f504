-- Where a reader stands: after some words and moves, before a stack of symbols. Only the contracts of its own functions
-- speak of it.
use Rattle.std.specs.Prelude.{◌≡◌, ℕ, true, List, [], ◌∷◌, ◌++◌, Option, Some, None, get_or}
use Rattle.ll_grammar.specs.Grammar.{Rules, Symbol, Terminal, Nonterminal, Action, Move, Derives}
use Rattle.ll_grammar.specs.Predictive.{Table, is_in, ahead, are_known}

-- the words that are looked at: all, or those with this next class
abbrev pub Looks : Table → Option ℕ → List ℕ → Type 0
Looks t None w = Unit {0}
Looks t (Some c) w = ahead t w ≡ c

-- Each word that the symbols derive begins with a member of the set.
abbrev pub Leads : Rules → Table → List Symbol → ℕ → Type 0
Leads g t ss m = (ms : List Move) (w : List ℕ) → Derives g ms ss w → is_in (ahead t w) m ≡ true

-- what comes after each part of the stack begins with what may follow that part
abbrev pub Followed : Rules → Table → List Symbol → Type 0
Followed g t [] = Unit {0}
Followed g t (Terminal c ∷ ss) = Followed g t ss
Followed g t (Action a ∷ ss) = Followed g t ss
Followed g t (Nonterminal n ∷ ss) = Leads g t ss (get_or t.certificate.follows n 0) × Followed g t ss

-- the derivation goes on from the stack, after these moves
pub record Continues (g : Rules) (moves : List Move) (stack : List Symbol) (ms : List Move) (w : List ℕ) : Type 0 where
  pub rest : List Move
  pub is : ms ≡ moves ++ rest
  pub derives : Derives g rest stack w

-- After these words, by these moves, this stack is left; and every derivation of a word that begins so, and
-- goes on as is looked at, comes by.
pub record Reached (g : Rules) (t : Table) (done : List ℕ) (moves : List Move) (stack : List Symbol) (looks : Option ℕ) : Type 0 where
  pub followed : Followed g t stack
  pub known : are_known t stack ≡ true
  pub sound : (ms : List Move) (w : List ℕ) → Derives g ms stack w → Derives g (moves ++ ms) (Nonterminal t.start ∷ []) (done ++ w)
  pub whole : (ms : List Move) (w : List ℕ) → Looks t looks w → Derives g ms (Nonterminal t.start ∷ []) (done ++ w) → Continues g moves stack ms w
