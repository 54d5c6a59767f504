-- A grammar as data, and its leftmost derivations.
--
-- A text is a list of words, of which a grammar sees the classes alone, as numbers. The grammar's nonterminals are called
-- parts, and a part's productions its ways. A way is a list of symbols: classes, parts, and actions, which no word stands for.
use Rattle.std.specs.Prelude.{◌≡◌, ℕ, zero, suc, ◌==◌, if◌then◌else◌, List, [], ◌∷◌, ◌++◌, map, Option, Some, None}
pub use Rattle.ll_grammar.specs.declared.form.Symbol.{Symbol}
pub use Rattle.ll_grammar.specs.declared.form.Symbol.TheVariants.{Terminal, Nonterminal, Action}
pub use Rattle.ll_grammar.specs.declared.form.Move.{Move}
pub use Rattle.ll_grammar.specs.declared.form.Move.TheVariants.{Shift, Expand, Act}

-- A grammar: for each part, by its number, its ways.
abbrev pub Rules : Type 0
Rules = List (List (List Symbol))

-- the item at a place
abbrev pub at : {A : Type 0} → List A → ℕ → Option A
at [] n = None
at (x ∷ xs) zero = Some x
at (x ∷ xs) (suc n) = at xs n

-- the list at a place, empty past the end
abbrev pub row : {A : Type 0} → List (List A) → ℕ → List A
row [] n = []
row (r ∷ rs) zero = r
row (r ∷ rs) (suc n) = row rs n

-- A word is taken: the first symbol is its class, and what is left derives what follows.
abbrev pub shifted : (List Symbol → List ℕ → Type 0) → List Symbol → List ℕ → Type 0
shifted derives (Terminal c ∷ ss) (d ∷ w) = (c ≡ d) × derives ss w
shifted derives _ _ = ⊥

-- A way that is there stands in the place of its part.
abbrev pub spelled : (List Symbol → Type 0) → List Symbol → Option (List Symbol) → Type 0
spelled derives ss None = ⊥
spelled derives ss (Some right) = derives (right ++ ss)

-- A part is spelled: the first symbol is that part, and its way and the symbols after it derive the words.
abbrev pub expanded : Rules → (List Symbol → Type 0) → ℕ → ℕ → List Symbol → Type 0
expanded g derives m k (Nonterminal n ∷ ss) = (m ≡ n) × spelled derives ss (at (row g n) k)
expanded g derives m k _ = ⊥

-- An action is met: the first symbol is its mark.
abbrev pub acted : (List Symbol → Type 0) → ℕ → List Symbol → Type 0
acted derives a (Action b ∷ ss) = (a ≡ b) × derives ss
acted derives a _ = ⊥

-- nothing is left to derive, and no word
abbrev pub IsNone : List Symbol → List ℕ → Type 0
IsNone [] [] = Unit {0}
IsNone _ _ = ⊥

-- The moves are a leftmost derivation of the words from the symbols.
abbrev pub Derives : Rules → List Move → List Symbol → List ℕ → Type 0
Derives g [] ss w = IsNone ss w
Derives g (Shift ∷ ms) ss w = shifted (Derives g ms) ss w
Derives g (Expand m k ∷ ms) ss w = expanded g (λ s. Derives g ms s w) m k ss
Derives g (Act a ∷ ms) ss w = acted (λ s. Derives g ms s w) a ss

-- how many words the moves take
abbrev pub shifts : List Move → ℕ
shifts [] = 0
shifts (Shift ∷ ms) = suc (shifts ms)
shifts (Expand m k ∷ ms) = shifts ms
shifts (Act a ∷ ms) = shifts ms

-- ---- what the actions of a derivation build

-- How a value is built along a derivation: the class of a token, and what a token and what an action does to the value.
pub record Builder (S T : Type 0) : Type 0 where
  pub class : T → ℕ
  pub take : T → S → S
  pub act : ℕ → S → S

-- what the moves build of the tokens
abbrev pub built : {S T : Type 0} → Builder S T → List Move → List T → S → S
built b [] ts s = s
built b (Shift ∷ ms) [] s = built b ms [] s
built b (Shift ∷ ms) (t ∷ ts) s = built b ms ts (b.take t s)
built b (Expand m k ∷ ms) ts s = built b ms ts s
built b (Act a ∷ ms) ts s = built b ms ts (b.act a s)

-- where a derivation stands: what is still to be derived, the tokens that are left, and what has been built
pub record Stand (S T : Type 0) : Type 0 where
  pub stack : List Symbol
  pub left : List T
  pub state : S

-- The moves are made, where each one fits the first symbol.
abbrev pub opening : {S T : Type 0} → (List Symbol → Option (Stand S T)) → List Symbol → Option (List Symbol) → Option (Stand S T)
opening go ss None = None
opening go ss (Some right) = go (right ++ ss)

abbrev pub made : {S T : Type 0} → Rules → Builder S T → List Move → List Symbol → List T → S → Option (Stand S T)
made g b [] ss ts s = Some (record { stack = ss; left = ts; state = s })
made g b (Shift ∷ ms) (Terminal c ∷ ss) (t ∷ ts) s = if c == b.class t then made g b ms ss ts (b.take t s) else None
made g b (Expand m k ∷ ms) (Nonterminal n ∷ ss) ts s = if m == n then opening (λ z. made g b ms z ts s) ss (at (row g n) k) else None
made g b (Act a ∷ ms) (Action x ∷ ss) ts s = if a == x then made g b ms ss ts (b.act a s) else None
made g b _ _ _ _ = None

-- Moves that can be made to the end of all are a derivation, and build what they made.
abbrev pub MadeIsDerived : (S T : Type 0) → Type 0
MadeIsDerived S T = (g : Rules) (b : Builder S T) (ms : List Move) (ss : List Symbol) (ts : List T) (s end : S) → made g b ms ss ts s ≡ Some (record { stack = []; left = []; state = end }) → Derives g ms ss (map b.class ts) × (built b ms ts s ≡ end)
