-- What it means that the canonical text of an expression or of a component is read again.
use Rattle.std.specs.Prelude.{◌≡◌, List, [], ◌∷◌, map}
use Rattle.ll_grammar.specs.Grammar.{Derives}
use Rattle.ll_grammar.specs.Texts.{Read}
use Rattle.ll_grammar.specs.Watch.{Passes}
use Rattle.ll_grammar.specs.declared.form.Move.{Move}
use Rattle.ll_grammar.specs.declared.form.Symbol.TheVariants.{Nonterminal}
use Rattle.res_ast.specs.declared.component.Component.{Component}
use Rattle.res_ast.specs.declared.expression.Expr.{Expr}
use Rattle.res_lexer.specs.declared.token.Token.{Token}
use Rattle.res_lexer.specs.declared.token.TokenKind.{TokenKind}
use Rattle.res_lexer.specs.Spaced.{AreApart, Row, spaced}
use Rattle.res_lexer.specs.Tokens.{AreTokens}
use Rattle.res_grammar.specs.Classes.{classes_of}
use Rattle.res_grammar.specs.Expressions.{expression_table}
use Rattle.res_grammar.specs.ClosingName.{ClosingNames, closing}
use Rattle.res_grammar.specs.Language.{language_rules, language_table}
use Rattle.res_grammar.specs.Nesting.{nesting}
use Rattle.res_grammar.specs.OwnName.{OwnNames, own}
use Rattle.res_grammar.specs.declared.nesting.Nesting.{Nesting}
use Rattle.expr_parser.specs.Built.{expr_of}
use Rattle.module_parser.specs.Spelling.{Spells, components_of}
use Rattle.res_printer.specs.Components.{canonical}
use Rattle.res_printer.specs.Expressions.{expression}
use Rattle.round_trip.specs.Unplaced.{unplaced_component}
use Rattle.round_trip.specs.WellFormed.{unplaced}

-- a token of this kind; places are no matter
abbrev pub token : TokenKind → Token
token k = record { at = 0; len = 0; kind = k }

abbrev pub tokens : Row → List Token
tokens us = map (λ p. token p.0) us

-- The text is a row of tokens with the blanks between them that they need, so it is read as these tokens. They have a derivation,
-- which builds the expression, places aside.
pub record ReadsBack (x : Expr) : Type 0 where
  pub row : Row
  pub moves : List Move
  pub text : expression x [] ≡ spaced row
  pub apart : AreApart row
  pub derives : Derives language_rules moves (Nonterminal expression_table.start ∷ []) (classes_of (tokens row))
  pub builds : expr_of moves (tokens row) ≡ unplaced x

-- A component's canonical text is a file that spells it again, places aside.
pub record ReadsBackAs (c : Component) : Type 0 where
  pub again : Component
  pub spells : Spells (canonical c) (again ∷ [])
  pub same : unplaced_component again ≡ unplaced_component c

-- ---- whatever the limit on nesting says

-- The watches over names pass, and where something holds that over nesting too.
pub record PassWhere (Holds : Type 0) (moves : List Move) (ts : List Token) : Type 0 where
  pub own : Passes OwnNames Token own moves ts
  pub nesting : Holds → Passes Nesting Token nesting moves ts
  pub closing : Passes ClosingNames Token closing moves ts

-- A component's canonical text is a file that spells it again, places aside. The limit on nesting is left out where this does not hold.
pub record ReadsBackWhere (Holds : Type 0) (c : Component) : Type 0 where
  pub again : Component
  pub tokens : List Token
  pub are : AreTokens (canonical c) tokens
  pub moves : List Move
  pub read : Read language_rules language_table.start (classes_of tokens) moves
  pub pass : PassWhere Holds moves tokens
  pub builds : again ∷ [] ≡ components_of moves tokens
  pub same : unplaced_component again ≡ unplaced_component c
