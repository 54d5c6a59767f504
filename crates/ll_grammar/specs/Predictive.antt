-- The LL(1) test: whether the next word decides each step of a leftmost derivation.
use Rattle.std.specs.Prelude.{◌≡◌, ℕ, ◌+◌, ◌/◌, ◌%◌, ◌^◌, Bool, true, false, cond, ◌&&◌, nat_eq, nat_lt, List, [], ◌∷◌, Option, Some, None, bit_or, bit_and, length, get_or}
use Rattle.ll_grammar.specs.Grammar.{Rules, Symbol, Terminal, Nonterminal, Action, at, row}

-- What shows that a grammar passes the test. No code reads it, and it is trusted by nobody: the test checks it.
-- Sets are numbers by their bits, and the lists have an entry for each part.
pub record Certificate : Type 0 where
  -- the parts that can be spelled by no word
  pub nullable : ℕ
  -- the classes that a part can begin with
  pub firsts : List ℕ
  -- the classes that can follow a part, the end mark among them
  pub follows : List ℕ
  -- more than the number of steps from a part to the next word, by any of its ways
  pub costs : List ℕ
  -- the height of a part's lowest tree, and the way that it begins with
  pub heights : List ℕ
  pub easiest : List ℕ

-- What a reader goes by: for each way of each part the classes at which it is taken, the class that stands for the end
-- of the words, and the part that a whole text is; and with it what shows that it may.
pub record Table : Type 0 where
  pub lookaheads : List (List ℕ)
  pub end_mark : ℕ
  pub start : ℕ
  pub certificate : Certificate

-- membership in a set of numbers, which is a number by its bits
abbrev pub is_in : ℕ → ℕ → Bool
is_in c m = nat_eq (m / 2 ^ c % 2) 1

abbrev pub within : ℕ → ℕ → Bool
within m k = nat_eq (bit_or m k) k

abbrev pub is_nullable : Table → ℕ → Bool
is_nullable t n = is_in n t.certificate.nullable

-- the classes that these symbols begin with, where `after` may come after them
abbrev pub first_of : Table → List Symbol → ℕ → ℕ
first_of t [] after = after
first_of t (Terminal c ∷ ss) after = 2 ^ c
first_of t (Action a ∷ ss) after = first_of t ss after
first_of t (Nonterminal n ∷ ss) after = cond (is_nullable t n) (bit_or (get_or t.certificate.firsts n 0) (first_of t ss after)) (get_or t.certificate.firsts n 0)

abbrev pub all_nullable : Table → List Symbol → Bool
all_nullable t [] = true
all_nullable t (Terminal c ∷ ss) = false
all_nullable t (Action a ∷ ss) = all_nullable t ss
all_nullable t (Nonterminal n ∷ ss) = is_nullable t n && all_nullable t ss

-- each part of a right side is followed by what its follow set has
abbrev pub are_followed : Table → List Symbol → ℕ → Bool
are_followed t [] after = true
are_followed t (Terminal c ∷ ss) after = are_followed t ss after
are_followed t (Action a ∷ ss) after = are_followed t ss after
are_followed t (Nonterminal n ∷ ss) after = within (first_of t ss after) (get_or t.certificate.follows n 0) && are_followed t ss after

-- how many ways can be taken and actions met before the next word is taken
abbrev pub cost : Table → List Symbol → ℕ
cost t [] = 0
cost t (Terminal c ∷ ss) = 0
cost t (Action a ∷ ss) = cost t ss + 1
cost t (Nonterminal n ∷ ss) = cond (is_nullable t n) (get_or t.certificate.costs n 0 + cost t ss) (get_or t.certificate.costs n 0)

abbrev pub is_good_way : Table → ℕ → List Symbol → ℕ → Bool
is_good_way t n right when =
    (cond (all_nullable t right) (is_nullable t n) true)
    && within (first_of t right 0) (get_or t.certificate.firsts n 0)
    && are_followed t right (get_or t.certificate.follows n 0)
    && within (first_of t right (get_or t.certificate.follows n 0)) when
    && nat_lt (cost t right) (get_or t.certificate.costs n 0)

-- no class has two ways
abbrev pub are_good_ways : Table → ℕ → ℕ → List (List Symbol) → List ℕ → Bool
are_good_ways t n seen [] [] = true
are_good_ways t n seen [] (w ∷ ws) = false
are_good_ways t n seen (r ∷ rs) [] = false
are_good_ways t n seen (r ∷ rs) (w ∷ ws) = is_good_way t n r w && nat_eq (bit_and seen w) 0 && are_good_ways t n (bit_or seen w) rs ws

abbrev pub are_good_parts : Table → ℕ → Rules → List (List ℕ) → Bool
are_good_parts t n [] [] = true
are_good_parts t n [] (w ∷ ws) = false
are_good_parts t n (r ∷ rs) [] = false
are_good_parts t n (r ∷ rs) (w ∷ ws) = are_good_ways t n 0 r w && are_good_parts t (n + 1) rs ws

-- every part of these symbols ends by rules, with a height below this one
abbrev pub are_lower : Table → ℕ → List Symbol → Bool
are_lower t h [] = true
are_lower t h (Terminal c ∷ ss) = are_lower t h ss
are_lower t h (Action a ∷ ss) = are_lower t h ss
are_lower t h (Nonterminal n ∷ ss) = nat_lt (get_or t.certificate.heights n 0) h && are_lower t h ss

abbrev pub ends_by : Table → ℕ → Option (List Symbol) → Bool
ends_by t h None = false
ends_by t h (Some right) = are_lower t h right

abbrev pub all_end : Rules → Table → ℕ → List ℕ → List ℕ → Bool
all_end g t n [] ps = true
all_end g t n (h ∷ hs) [] = false
all_end g t n (h ∷ hs) (p ∷ ps) = ends_by t h (at (row g n) p) && all_end g t (n + 1) hs ps

abbrev pub are_known : Table → List Symbol → Bool
are_known t [] = true
are_known t (Terminal c ∷ ss) = are_known t ss
are_known t (Action a ∷ ss) = are_known t ss
are_known t (Nonterminal n ∷ ss) = nat_lt n (length t.certificate.heights) && are_known t ss

abbrev pub know_ways : Table → List (List Symbol) → Bool
know_ways t [] = true
know_ways t (r ∷ rs) = are_known t r && know_ways t rs

abbrev pub know_all : Table → Rules → Bool
know_all t [] = true
know_all t (r ∷ rs) = know_ways t r && know_all t rs

-- The test. Each way of each part is as the certificate says, no class has two ways of one part, each part ends, and
-- each part that is named is there.
unfoldable pub is_ll1 : Rules → Table → Bool
is_ll1 g t =
    are_good_parts t 0 g t.lookaheads
    && all_end g t 0 t.certificate.heights t.certificate.easiest
    && know_all t g
    && nat_lt t.start (length t.certificate.heights)
    && is_in t.end_mark (get_or t.certificate.follows t.start 0)

-- the class of the next word, or the end mark
abbrev pub ahead : Table → List ℕ → ℕ
ahead t [] = t.end_mark
ahead t (c ∷ w) = c

-- the way k of the part n is taken at the class c
pub record Chosen (lookaheads : List (List ℕ)) (n k c : ℕ) : Type 0 where
  pub when : ℕ
  pub is : at (row lookaheads n) k ≡ Some when
  pub member : is_in c when ≡ true
