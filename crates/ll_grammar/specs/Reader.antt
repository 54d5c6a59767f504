-- Grammars of the code, and what the reader's functions answer.
use Rattle.std.specs.Prelude.{◌≡◌, ℕ, zero, suc, Bool, ◌&&◌, nat_le, nat_eq, ◌-◌, drop, length, true, List, [], ◌∷◌, ◌++◌, take, Option, Some}
use Rattle.ll_grammar.specs.declared.form.Grammar.{Grammar}
use Rattle.ll_grammar.specs.Grammar.{Rules, Symbol, Terminal, Nonterminal, Move, at, row, Derives}
use Rattle.ll_grammar.specs.declared.reader.Settled.{Settled}
use Rattle.ll_grammar.specs.declared.reader.Settled.TheVariants as settled
use Rattle.ll_grammar.specs.declared.reader.Answer.{Answer}
use Rattle.ll_grammar.specs.declared.reader.Answer.TheVariants as answer
use Rattle.ll_grammar.specs.declared.prefix.Prefix.{Prefix}
use Rattle.ll_grammar.specs.declared.prefix.Prefix.TheVariants as prefix
use Rattle.ll_grammar.specs.Predictive.{Table, Certificate, Chosen, is_ll1, ahead}
use Rattle.ll_grammar.specs.Standing.{Reached}

-- the pieces of a list that end at these places, the first one from `from` on
abbrev pub cuts : {A : Type 0} → ℕ → List ℕ → List A → List (List A)
cuts from [] xs = []
cuts from (e ∷ es) xs = take (e - from) xs ∷ cuts e es (drop (e - from) xs)

abbrev pub cut_start : ℕ → List ℕ → ℕ → ℕ
cut_start from es zero = from
cut_start from [] (suc k) = 0
cut_start from (e ∷ es) (suc k) = cut_start e es k

-- the places ascend up to a length
abbrev pub are_cuts : ℕ → List ℕ → ℕ → Bool
are_cuts from [] n = true
are_cuts from (e ∷ es) n = nat_le from e && nat_le e n && are_cuts e es n

-- the ways that a grammar of the code stands for, one behind the other
abbrev pub ways_of : Grammar → List (List Symbol)
ways_of g = cuts 0 g.ends.now g.symbols.now

-- the rules that a grammar of the code stands for
abbrev pub rules_of : Grammar → Rules
rules_of g = cuts 0 g.parts.now (ways_of g)

abbrev pub lookaheads_of : Grammar → List (List ℕ)
lookaheads_of g = cuts 0 g.parts.now g.lookaheads.now

abbrev pub table_of : Grammar → Certificate → Table
table_of g shown_by = record { lookaheads = lookaheads_of g; end_mark = g.end_mark; start = g.start; certificate = shown_by }

-- all pieces lie in what they are pieces of
abbrev pub is_flat : Grammar → Bool
is_flat g = are_cuts 0 g.ends.now (length g.symbols.now) && are_cuts 0 g.parts.now (length g.ends.now) && nat_eq (length g.lookaheads.now) (length g.ends.now)

abbrev pub IsFlat : Grammar → Type 0
IsFlat g = is_flat g ≡ true

-- The grammar is LL(1), as this certificate shows.
pub record IsLl1 (g : Grammar) (shown_by : Certificate) : Type 0 where
  pub flat : IsFlat g
  pub decides : is_ll1 (rules_of g) (table_of g shown_by) ≡ true

-- The reader stands there, in a grammar of the code.
abbrev pub Stands : Grammar → Certificate → List ℕ → List Move → List Symbol → Option ℕ → Type 0
Stands g shown_by done moves stack looks = Reached (rules_of g) (table_of g shown_by) done moves stack looks

-- the way of a part that is taken at a class
pub record IsChosen (g : Grammar) (part class k : ℕ) (right : List Symbol) : Type 0 where
  pub chosen : Chosen (lookaheads_of g) part k class
  pub spells : at (row (rules_of g) part) k ≡ Some right

-- no way of the part is taken at the class
pub record NoWay (g : Grammar) (part class : ℕ) : Type 0 where
  pub none : (k : ℕ) → Chosen (lookaheads_of g) part k class → ⊥

-- no text goes on with this class
pub record Never (g : Grammar) (done : List ℕ) (class : ℕ) : Type 0 where
  pub never : (ms : List Move) (w : List ℕ) → Derives (rules_of g) ms (Nonterminal g.start ∷ []) (done ++ class ∷ w) → ⊥

-- the same, also for the end where the class is its mark
pub record Stuck (g : Rules) (t : Table) (done : List ℕ) (c : ℕ) : Type 0 where
  pub never : (ms : List Move) (w : List ℕ) → ahead t w ≡ c → Derives g ms (Nonterminal t.start ∷ []) (done ++ w) → ⊥

-- the reader stands there with some stack
pub record Somewhere (g : Grammar) (shown_by : Certificate) (done : List ℕ) (moves : List Move) (class : ℕ) : Type 0 where
  pub stack : List Symbol
  pub stands : Stands g shown_by done moves stack (Some class)

-- what a reader comes to that takes ways and meets actions until a word is wanted
abbrev pub Settles : Grammar → Certificate → List ℕ → ℕ → List Move → List Symbol → Settled → Type 0
Settles g k done class moves stack (settled.Terminal d) = Stands g k done moves (Terminal d ∷ stack) (Some class)
Settles g k done class moves stack settled.Nothing = Stands g k done moves [] (Some class)
Settles g k done class moves stack settled.Stuck = Stuck (rules_of g) (table_of g k) done class × Somewhere g k done moves class

abbrev pub MatchAnswer : Answer → (List Move → Type 0) → (ℕ → List Move → Type 0) → Type 0
MatchAnswer (answer.Read moves) P Q = P moves.items
MatchAnswer (answer.Refused place moves) P Q = Q place moves.items

abbrev pub MatchPrefix : Prefix → (ℕ → List Move → Type 0) → (ℕ → Type 0) → Type 0
MatchPrefix (prefix.Text place moves) P Q = P place moves.items
MatchPrefix (prefix.NoText place) P Q = Q place

abbrev pub place_of : Prefix → ℕ
place_of (prefix.Text place moves) = place
place_of (prefix.NoText place) = place
