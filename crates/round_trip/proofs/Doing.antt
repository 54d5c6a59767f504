-- What moves do, from the first to the last: to what is built, to the depths of nesting, and to what is known of names.
use Rattle.std.proofs.Common.{ℕ, List, [], ◌∷◌, Option, option_map}
use Rattle.ll_grammar.specs.Watch.{and_then}
use Rattle.ll_grammar.specs.declared.form.Move.{Move}
use Rattle.ll_grammar.specs.declared.form.Move.TheVariants.{Shift, Expand, Act}
use Rattle.res_lexer.specs.declared.token.TokenKind.{TokenKind}
use Rattle.res_grammar.specs.ClosingName.{ClosingNames, closing, closing_act}
use Rattle.res_grammar.specs.Nesting.{nesting_act}
use Rattle.res_grammar.specs.OwnName.{OwnNames, own, own_act}
use Rattle.res_grammar.specs.declared.nesting.Nesting.{Nesting}
use Rattle.expr_parser.specs.Built.{Stage}
use Rattle.module_parser.specs.Spelling.{files}
use Rattle.module_parser.specs.declared.state.State.{State}
use Rattle.round_trip.specs.ReadsBack.{token}

-- what the watches over names know, as long as they have refused nothing
pub record Names : Type 0 where
  pub own : Option OwnNames
  pub closing : Option ClosingNames

pub record Doing : Type 0 where
  pub build : Stage State → Stage State
  pub nest : Nesting → Nesting
  pub names : Names → Names

abbrev pub nothing_done : Doing
nothing_done = record { build = λ s. s; nest = λ d. d; names = λ n. n }

-- one behind the other
abbrev pub then : Doing → Doing → Doing
then a b = record { build = λ s. b.build (a.build s); nest = λ d. b.nest (a.nest d); names = λ n. b.names (a.names n) }

-- a token of this kind is taken
abbrev pub took : TokenKind → Doing
took k = record {
  build = λ s. files.take (token k) s;
  nest = λ d. d;
  names = λ n. record { own = and_then n.own (own.shift (token k)); closing = and_then n.closing (closing.shift (token k)) };
}

-- an action is done
abbrev pub did : ℕ → Doing
did a = record {
  build = λ s. files.act a s;
  nest = λ d. nesting_act a d;
  names = λ n. record { own = option_map (own_act a) n.own; closing = option_map (closing_act a) n.closing };
}

-- what the moves do, over tokens of these kinds
abbrev pub doing : List Move → List TokenKind → Doing
doing [] ks = nothing_done
doing (Shift ∷ ms) [] = doing ms []
doing (Shift ∷ ms) (k ∷ ks) = then (took k) (doing ms ks)
doing (Expand x w ∷ ms) ks = doing ms ks
doing (Act a ∷ ms) ks = then (did a) (doing ms ks)
