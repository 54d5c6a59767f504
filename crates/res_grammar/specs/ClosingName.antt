-- Closing names: the word after the last `end` of a component or a body repeats the name of what it closes.
use Rattle.std.specs.Prelude.{ℕ, Bool, true, ◌&&◌, ◌==◌, if◌then◌else◌, List, Option, Some, None}
use Rattle.ll_grammar.specs.Watch.{Watch}
use Rattle.res_lexer.specs.declared.token.Token.{Token}
use Rattle.res_grammar.specs.Numbers.{id, open_component_mark, open_operation_mark, close_component_mark, close_operation_mark}
use Rattle.res_grammar.specs.Classes.{class_of, word_of, same_word, remembered}

-- What is known: the last identifier, the names of the component and of the operation, and the name that the next token
-- has to repeat, if one has to.
pub record ClosingNames : Type 0 where
  pub last : Option (List ℕ)
  pub component : Option (List ℕ)
  pub operation : Option (List ℕ)
  pub closes : Option (List ℕ)

abbrev pub repeats : Option (List ℕ) → ℕ → List ℕ → Bool
repeats None class word = true
repeats (Some name) class word = (class == id) && same_word name word

abbrev pub closing_step : ℕ → List ℕ → ClosingNames → Option ClosingNames
closing_step class word s =
    if repeats s.closes class word then Some (record s { last = remembered class word s.last; closes = None }) else None

abbrev pub closing_act : ℕ → ClosingNames → ClosingNames
closing_act a s =
    if a == open_component_mark then record s { component = s.last } else
    if a == open_operation_mark then record s { operation = s.last } else
    if a == close_component_mark then record s { closes = s.component } else
    if a == close_operation_mark then record s { closes = s.operation } else s

abbrev pub closing : Watch ClosingNames Token
closing = record {
  class = λ t. class_of t.kind;
  outset = record { last = None; component = None; operation = None; closes = None };
  shift = λ t. closing_step (class_of t.kind) (word_of t.kind);
  act = closing_act;
}
