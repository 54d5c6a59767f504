-- Watches: rules on the tokens of a text that their classes do not tell, as that a word repeats another one.
--
-- A watch goes along with a derivation. It knows something at each step, and refuses a token by what it knows.
use Rattle.std.specs.Prelude.{◌≡◌, ℕ, ◌<◌, Bool, true, ◌&&◌, nat_lt, List, [], ◌∷◌, ◌++◌, Option, Some, None, map, length}
use Rattle.std.specs.List.{list_all}
use Rattle.ll_grammar.specs.Grammar.{Rules, Symbol, Terminal, Nonterminal, Action, Move, Shift, Expand, Act, Derives, shifts}
use Rattle.ll_grammar.specs.Predictive.{Table, is_ll1}

-- A watch over tokens: what it knows, what a token does to that, where it does not refuse it, and what an action does.
pub record Watch (M T : Type 0) : Type 0 where
  pub class : T → ℕ
  pub outset : M
  pub shift : T → M → Option M
  pub act : ℕ → M → M

-- what comes of a value that may not be there
abbrev pub and_then : {A B : Type 0} → Option A → (A → Option B) → Option B
and_then None f = None
and_then (Some x) f = f x

-- what the watch knows after these moves over these tokens, where it refuses none
abbrev pub watched : {M T : Type 0} → Watch M T → List Move → List T → M → Option M
watched w [] [] m = Some m
watched w [] (t ∷ ts) m = None
watched w (Shift ∷ ms) [] m = None
watched w (Shift ∷ ms) (t ∷ ts) m = and_then (w.shift t m) (watched w ms ts)
watched w (Expand x k ∷ ms) ts m = watched w ms ts m
watched w (Act a ∷ ms) ts m = watched w ms ts (w.act a m)

-- The watch passes these moves over these tokens.
pub record Passes (M T : Type 0) (w : Watch M T) (moves : List Move) (ts : List T) : Type 0 where
  pub last : M
  pub passes : watched w moves ts w.outset ≡ Some last

-- The tokens are a text: they have a derivation that the watch passes.
pub record IsText (M T : Type 0) (g : Rules) (start : ℕ) (w : Watch M T) (ts : List T) : Type 0 where
  pub moves : List Move
  pub derives : Derives g moves (Nonterminal start ∷ []) (map w.class ts)
  pub passed : Passes M T w moves ts

-- Some text begins with these tokens, and each token that follows them there passes the test.
pub record BeginsText (M T : Type 0) (g : Rules) (start : ℕ) (w : Watch M T) (fits : T → Bool) (ts : List T) : Type 0 where
  pub more : List T
  pub fit : list_all fits more ≡ true
  pub text : IsText M T g start w (ts ++ more)

-- The tokens are a viable prefix that the watch passes: classes can follow with which they make a text of the grammar.
pub record IsViable (M T : Type 0) (g : Rules) (start : ℕ) (w : Watch M T) (ts : List T) : Type 0 where
  pub moves : List Move
  pub rest : List Move
  pub more : List ℕ
  pub derives : Derives g (moves ++ rest) (Nonterminal start ∷ []) (map w.class ts ++ more)
  pub passed : Passes M T w moves ts

-- The moves take these tokens at the beginning of some derivation.
pub record Takes (T : Type 0) (g : Rules) (start : ℕ) (class : T → ℕ) (moves : List Move) (ts : List T) : Type 0 where
  pub rest : List Move
  pub more : List ℕ
  pub derives : Derives g (moves ++ rest) (Nonterminal start ∷ []) (map class ts ++ more)
  pub counted : shifts moves ≡ length ts

-- a token of this class that passes the test and the watch
pub record PassesClass (M T : Type 0) (w : Watch M T) (fits : T → Bool) (holds : M → Bool) (m : M) (c : ℕ) : Type 0 where
  pub token : T
  pub class : w.class token ≡ c
  pub fit : fits token ≡ true
  pub next : M
  pub passes : w.shift token m ≡ Some next
  pub keeps : holds next ≡ true

-- The watch never refuses all tokens of a class that pass a test, wherever something holds of what it knows; and that
-- goes on to hold.
pub record IsFair (M T : Type 0) (w : Watch M T) (fits : T → Bool) (holds : M → Bool) (classes : ℕ) : Type 0 where
  pub passes : (m : M) (c : ℕ) → holds m ≡ true → c < classes → PassesClass M T w fits holds m c
  pub acts : (a : ℕ) (m : M) → holds m ≡ true → holds (w.act a m) ≡ true

-- all classes that are named lie below a number
abbrev pub are_classes : ℕ → List Symbol → Bool
are_classes n [] = true
are_classes n (Terminal c ∷ ss) = nat_lt c n && are_classes n ss
are_classes n (Nonterminal k ∷ ss) = are_classes n ss
are_classes n (Action a ∷ ss) = are_classes n ss

abbrev pub ways_have_classes : ℕ → List (List Symbol) → Bool
ways_have_classes n [] = true
ways_have_classes n (r ∷ rs) = are_classes n r && ways_have_classes n rs

unfoldable pub have_classes : ℕ → Rules → Bool
have_classes n [] = true
have_classes n (r ∷ rs) = ways_have_classes n r && have_classes n rs

-- ---- laws

-- Any moves decide whether the watch passes: where it refuses one of the tokens on the way, they are no viable prefix.
abbrev pub OneWay : (M T : Type 0) → Type 0
OneWay M T = (g : Rules) (t : Table) → is_ll1 g t ≡ true → (w : Watch M T) (moves : List Move) (ts : List T) → Takes T g t.start w.class moves ts → watched w moves ts w.outset ≡ None → IsViable M T g t.start w ts → ⊥

-- Under a fair watch each viable prefix begins a text.
abbrev pub FairGoesOn : (M T : Type 0) → Type 0
FairGoesOn M T = (g : Rules) (t : Table) (n : ℕ) → have_classes n g ≡ true → (w : Watch M T) (fits : T → Bool) (holds : M → Bool) → IsFair M T w fits holds n → (ts : List T) (v : IsViable M T g t.start w ts) → holds v.passed.last ≡ true → BeginsText M T g t.start w fits ts

-- What a text begins with is a viable prefix.
abbrev pub TextIsViable : (M T : Type 0) → Type 0
TextIsViable M T = (g : Rules) (start : ℕ) (w : Watch M T) (fits : T → Bool) (ts : List T) → BeginsText M T g start w fits ts → IsViable M T g start w ts

-- A watch goes on from where it stands.
abbrev pub GoesOn : (M T : Type 0) → Type 0
GoesOn M T = (w : Watch M T) (a b : List Move) (s t : List T) (m n : M) → watched w a s m ≡ Some n → watched w (a ++ b) (s ++ t) m ≡ watched w b t n

-- Moves that a watch passes take all tokens.
abbrev pub TakesAll : (M T : Type 0) → Type 0
TakesAll M T = (w : Watch M T) (a : List Move) (s : List T) (m n : M) → watched w a s m ≡ Some n → shifts a ≡ length s

-- Fewer tokens of a viable prefix are one.
abbrev pub FewerAreViable : (M T : Type 0) → Type 0
FewerAreViable M T = (g : Rules) (start : ℕ) (w : Watch M T) (ts us : List T) → IsViable M T g start w (ts ++ us) → IsViable M T g start w ts
