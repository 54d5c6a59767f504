-- Lists of expressions, in the parentheses of a call.
use Rattle.std.proofs.Common.{◌≡◌, ◌∙◌, sym, ap, refl, ℕ, max, List, [], ◌∷◌, ◌++◌, Option, map, append-nil, append_assoc, arith}
use Rattle.ll_grammar.specs.declared.form.Move.{Move}
use Rattle.ll_grammar.specs.declared.form.Move.TheVariants.{Shift, Expand, Act}
use Rattle.ll_grammar.specs.declared.form.Symbol.{Symbol}
use Rattle.ll_grammar.specs.declared.form.Symbol.TheVariants.{Nonterminal, Action}
use Rattle.ll_grammar.specs.Grammar.{made}
use Rattle.res_ast.specs.declared.expression.Expr.{Expr}
use Rattle.res_lexer.specs.declared.token.Token.{Token}
use Rattle.res_lexer.specs.declared.token.TokenKind.TheVariants as kind
use Rattle.identifiers.specs.Laws.{PlainAreAscii}
use Rattle.res_lexer.specs.Spaced.{AreApart, Row, spaced}
use Rattle.res_grammar.specs.Language.{language_rules}
use Rattle.res_grammar.specs.Numbers as n
use Rattle.module_parser.specs.Spelling.{files}
use Rattle.res_printer.specs.Pieces.{Piece, comma, each, row}
use Rattle.res_printer.specs.Expressions.{Written, listed}
use Rattle.round_trip.proofs.Calm.{Calms, LeadsAll, calms_both, ended, leads_both, leads_no_more, named}
use Rattle.round_trip.proofs.Goes.{At, Closed, Goes, closed, opened_below}
use Rattle.round_trip.specs.ReadsBack.{token, tokens}
use Rattle.round_trip.proofs.Operands.{symbol, symbol_apart}
use Rattle.round_trip.proofs.Signs.{Spelled}

-- an expression, how it is written, and that it is derived
pub record Item : Type 0 where
  pub written : Written
  pub expr : Expr
  pub depth : ℕ
  pub heads : List (List ℕ)
  pub spelled : Spelled written expr depth heads

abbrev pub exprs_of : List Item → List Expr
exprs_of es = map (λ e. e.expr) es

abbrev pub written_of : List Item → List Written
written_of es = map (λ e. e.written) es

-- how deep the deepest of them leads
abbrev pub deepest_of : List Item → ℕ
deepest_of [] = 0
deepest_of (e ∷ es) = max e.depth (deepest_of es)

abbrev pub heads_of : List Item → List (List ℕ)
heads_of [] = []
heads_of (e ∷ es) = e.heads ++ heads_of es

-- the list on top, with what is built
abbrev pub collected : List Expr → List (List Expr) → Token → At → At
collected xs xss k s = record { last = k; state = record s.state { operands = record s.state.operands { lists = xs ∷ xss } } }

-- This text has a derivation from this part, which puts the expressions behind those of the list on top.
pub record Listed (part : ℕ) (text : Piece) (xs : List Expr) (d : ℕ) (heads : List (List ℕ)) : Type 0 where
  pub moves : List Move → List Move
  pub row : Row → Row
  pub last : Token → Token
  pub name : Option (List ℕ) → Option (List ℕ)
  pub reads : (us : Row) → text (spaced us) ≡ spaced (row us)
  pub goes : (r : List Move) (ss : List Symbol) (us : Row) (before : List Expr) (xss : List (List Expr)) (k : Token) (s : At) → Goes (moves r) r (Nonterminal part ∷ ss) ss (tokens (row us)) (tokens us) (collected before xss k s) (collected (before ++ xs) xss (last k) s)
  pub nests : (r : List Move) → LeadsAll (ended (moves r)) (ended r) d
  pub names : (r : List Move) (us : Row) → Calms (named (moves r) (row us)) (named r us) name heads
  pub apart : PlainAreAscii → (us : Row) → AreApart us → AreApart (row us)

pub whole : (e : Item) → Closed 0 e.written.text e.expr e.depth e.heads
whole e = closed 0 (opened_below 0 e.written.level e.written.level e.spelled.low (omega arith) e.spelled.opened)

-- no expression
no_more : (part way : ℕ) → ((r : List Move) (ss : List Symbol) (us : Row) (s : At) → Goes (Expand part way ∷ r) r (Nonterminal part ∷ ss) ss (tokens us) (tokens us) s s) → Listed part (λ z. z) [] 0 []
no_more part way h = record {
  moves = λ r. Expand part way ∷ r;
  row = λ us. us;
  last = λ k. k;
  name = λ l. l;
  reads = λ us. refl;
  goes = λ r ss us before xss k s. h r ss us (collected before xss k s) ∙ ap (λ z. made language_rules files r ss (tokens us) (collected z xss k s)) (sym (append-nil before));
  nests = λ r. leads_no_more (ended r);
  names = λ r us l a v. refl;
  apart = λ law us p. p;
}

-- each behind a comma
pub more_listed : (es : List Item) → Listed n.more_expressions_part (each (λ e. row (comma ∷ e.text ∷ [])) (written_of es)) (exprs_of es) (deepest_of es) (heads_of es)
unfolding language_rules
more_listed [] = no_more n.more_expressions_part 1 (λ r ss us s. refl)
more_listed (e ∷ es) =
    let first = whole e in
    let more = more_listed es in
    let after : List Move → List Move = λ r. Act n.add_expr_mark ∷ more.moves r in
    record {
      moves = λ r. Expand n.more_expressions_part 0 ∷ Shift ∷ first.moves (after r);
      row = λ us. symbol 14 (first.row (more.row us));
      last = λ k. more.last first.last;
      name = λ l. more.name (first.name l);
      reads = λ us. ap (λ z. comma (e.written.text z)) (more.reads us) ∙ ap comma (first.reads (more.row us));
      goes = λ r ss us before xss k s.
          first.goes (after r) (Action n.add_expr_mark ∷ Nonterminal n.more_expressions_part ∷ ss) (more.row us) (collected before xss (token (kind.Symbol 14)) s)
          ∙ more.goes r ss us (before ++ e.expr ∷ []) xss first.last s
          ∙ ap (λ z. made language_rules files r ss (tokens us) (collected z xss (more.last first.last) s)) (append_assoc before (e.expr ∷ []) (exprs_of es));
      nests = λ r. leads_both (ended (first.moves (after r))) (ended (more.moves r)) (ended r) e.depth (deepest_of es) (first.nests (after r)) (more.nests r);
      names = λ r us. calms_both (named (first.moves (after r)) (first.row (more.row us))) (named (more.moves r) (more.row us)) (named r us) first.name more.name e.heads (heads_of es) (first.names (after r) (more.row us)) (more.names r us);
      apart = λ law us p. symbol_apart 14 (first.row (more.row us)) (omega arith) (omega arith) (first.apart law (more.row us) (more.apart law us p));
    }

pub all_listed : (es : List Item) → Listed n.expressions_part (listed (written_of es)) (exprs_of es) (deepest_of es) (heads_of es)
unfolding language_rules
all_listed [] = no_more n.expressions_part 1 (λ r ss us s. refl)
all_listed (e ∷ es) =
    let first = whole e in
    let more = more_listed es in
    let after : List Move → List Move = λ r. Act n.add_expr_mark ∷ more.moves r in
    record {
      moves = λ r. Expand n.expressions_part 0 ∷ first.moves (after r);
      row = λ us. first.row (more.row us);
      last = λ k. more.last first.last;
      name = λ l. more.name (first.name l);
      reads = λ us. ap e.written.text (more.reads us) ∙ first.reads (more.row us);
      goes = λ r ss us before xss k s.
          first.goes (after r) (Action n.add_expr_mark ∷ Nonterminal n.more_expressions_part ∷ ss) (more.row us) (collected before xss k s)
          ∙ more.goes r ss us (before ++ e.expr ∷ []) xss first.last s
          ∙ ap (λ z. made language_rules files r ss (tokens us) (collected z xss (more.last first.last) s)) (append_assoc before (e.expr ∷ []) (exprs_of es));
      nests = λ r. leads_both (ended (first.moves (after r))) (ended (more.moves r)) (ended r) e.depth (deepest_of es) (first.nests (after r)) (more.nests r);
      names = λ r us. calms_both (named (first.moves (after r)) (first.row (more.row us))) (named (more.moves r) (more.row us)) (named r us) first.name more.name e.heads (heads_of es) (first.names (after r) (more.row us)) (more.names r us);
      apart = λ law us p. first.apart law (more.row us) (more.apart law us p);
    }
