-- The laws of watches, for those of the language.
use Rattle.ll_grammar.specs.Watch.{GoesOn, TakesAll, OneWay, FairGoesOn, TextIsViable, FewerAreViable}
use Rattle.res_lexer.specs.declared.token.Token.{Token}
use Rattle.res_grammar.specs.OwnName.{OwnNames}
use Rattle.res_grammar.specs.ClosingName.{ClosingNames}
use Rattle.res_grammar.specs.declared.nesting.Nesting.{Nesting}

pub record Laws : Type 0 where
  pub own : GoesOn OwnNames Token
  pub nesting : GoesOn Nesting Token
  pub closing : GoesOn ClosingNames Token
  pub counts : TakesAll OwnNames Token
  pub own_decides : OneWay OwnNames Token
  pub nesting_decides : OneWay Nesting Token
  pub closing_decides : OneWay ClosingNames Token
  pub fair : FairGoesOn OwnNames Token
  pub viable : TextIsViable OwnNames Token
  pub fewer_own : FewerAreViable OwnNames Token
  pub fewer_nesting : FewerAreViable Nesting Token
  pub fewer_closing : FewerAreViable ClosingNames Token
