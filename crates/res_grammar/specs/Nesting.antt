-- The limit on nesting: blocks, statements, operators, brackets and calls, no more than 200 on a path.
use Rattle.std.specs.Prelude.{ℕ, ◌+◌, ◌-◌, max, min, nat_le, ◌==◌, if◌then◌else◌, List, [], ◌∷◌, Option, Some, None}
use Rattle.ll_grammar.specs.Watch.{Watch}
use Rattle.res_grammar.specs.Numbers.{begin_mark, finish_mark, enter_mark, leave_mark, operator_mark, operated_mark}
use Rattle.res_lexer.specs.declared.token.Token.{Token}
use Rattle.res_grammar.specs.Classes.{class_of}
use Rattle.res_grammar.specs.declared.nesting.Nesting.{Nesting}

-- one node deeper; past the limit all depths are one
abbrev pub raised : ℕ → ℕ
raised n = min (n + 1) 201

abbrev pub first_or_0 : List ℕ → ℕ
first_or_0 [] = 0
first_or_0 (x ∷ xs) = x

abbrev pub others : List ℕ → List ℕ
others [] = []
others (x ∷ xs) = xs

-- a node opens, which counts at the next token
abbrev pub entered : Nesting → Nesting
entered s = record s { depth = raised s.depth; deep = max s.deep (raised s.depth); deepest = max s.deepest (raised s.depth) }

-- an expression begins: nothing of it is finished yet
abbrev pub begun : Nesting → Nesting
begun s = record s { saved = s.deep ∷ s.saved; deep = s.depth }

abbrev pub finished : Nesting → Nesting
finished s = record s { saved = others s.saved; deep = max (first_or_0 s.saved) s.deep }

-- a binary operator: the operand that is finished goes one deeper
abbrev pub operator_met : Nesting → Nesting
operator_met s = record s { saved = raised s.deep ∷ s.saved; depth = raised s.depth; deep = raised s.depth; deepest = max s.deepest (raised s.deep) }

abbrev pub operands_met : Nesting → Nesting
operands_met s = record s { saved = others s.saved; deep = max (first_or_0 s.saved) s.deep; depth = s.depth - 1 }

abbrev pub nesting_act : ℕ → Nesting → Nesting
nesting_act a s =
    if a == enter_mark then entered s else
    if a == leave_mark then record s { depth = s.depth - 1 } else
    if a == begin_mark then begun s else
    if a == finish_mark then finished s else
    if a == operator_mark then operator_met s else
    if a == operated_mark then operands_met s else s

abbrev pub nesting_shift : Token → Nesting → Option Nesting
nesting_shift t s = if nat_le s.deepest 200 then Some s else None

abbrev pub nesting : Watch Nesting Token
nesting = record {
  class = λ t. class_of t.kind;
  outset = record { depth = 0; deep = 0; saved = []; deepest = 0 };
  shift = nesting_shift;
  act = nesting_act;
}
