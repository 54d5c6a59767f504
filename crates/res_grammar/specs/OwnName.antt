-- The operation's own name: the ensures clause of a heading with a result begins with it, and no operand after it is named so.
use Rattle.std.specs.Prelude.{ℕ, Bool, true, false, ◌==◌, if◌then◌else◌, List, Option, Some, None}
use Rattle.ll_grammar.specs.Watch.{Watch}
use Rattle.res_lexer.specs.declared.token.Token.{Token}
use Rattle.res_grammar.specs.Numbers.{id, open_operation_mark, same_mark, head_mark, result_equals_mark, result_clause_mark}
use Rattle.res_grammar.specs.Classes.{class_of, word_of, same_word, remembered}
use Rattle.res_grammar.specs.declared.own_name.Asks.{Asks}
use Rattle.res_grammar.specs.declared.own_name.Asks.TheVariants.{Any, Own, Other}

-- What is known: the last identifier; the name of the operation; whether this is the rest of such a clause; and what is
-- asked of the next token, if it is an identifier.
pub record OwnNames : Type 0 where
  pub last : Option (List ℕ)
  pub operation : Option (List ℕ)
  pub in_result : Bool
  pub asks : Asks

-- whether an identifier may stand where the operation has this name
abbrev pub answers : Asks → Option (List ℕ) → List ℕ → Bool
answers Any operation word = true
answers Own None word = true
answers Own (Some name) word = same_word name word
answers Other None word = true
answers Other (Some name) word = if same_word name word then false else true

abbrev pub own_step : ℕ → List ℕ → OwnNames → Option OwnNames
own_step class word s =
    if (if class == id then answers s.asks s.operation word else true) then Some (record s { last = remembered class word s.last; asks = Any }) else None

abbrev pub own_act : ℕ → OwnNames → OwnNames
own_act a s =
    if a == open_operation_mark then record s { operation = s.last } else
    if a == same_mark then record s { asks = Own } else
    if a == head_mark then (if s.in_result then record s { asks = Other } else s) else
    if a == result_equals_mark then record s { in_result = true } else
    if a == result_clause_mark then record s { in_result = false } else s

abbrev pub own : Watch OwnNames Token
own = record {
  class = λ t. class_of t.kind;
  outset = record { last = None; operation = None; in_result = false; asks = Any };
  shift = λ t. own_step (class_of t.kind) (word_of t.kind);
  act = own_act;
}
