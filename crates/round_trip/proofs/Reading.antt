-- The canonical text of each well-formed expression is read again.
use Rattle.std.proofs.Common.{◌≡◌, ◌∙◌, ap, sym, refl, true, [], ◌∷◌, arith}
use Rattle.identifiers.specs.Laws.{PlainAreAscii}
use Rattle.ll_grammar.specs.declared.form.Symbol.TheVariants.{Nonterminal}
use Rattle.ll_grammar.specs.Grammar.{MadeIsDerived}
use Rattle.res_ast.specs.declared.expression.Expr.{Expr}
use Rattle.res_grammar.specs.Classes.{classes_of}
use Rattle.res_grammar.specs.Numbers as n
use Rattle.res_lexer.specs.declared.token.Token.{Token}
use Rattle.expr_parser.specs.Actions.{first_or, no_expr}
use Rattle.expr_parser.specs.Built.{Stage, no_token}
use Rattle.expr_parser.specs.declared.operands.Operands.{Operands}
use Rattle.module_parser.specs.Stacks.{outset}
use Rattle.module_parser.specs.declared.state.State.{State}
use Rattle.res_printer.specs.Expressions.{written}
use Rattle.round_trip.specs.ReadsBack.{ReadsBack, tokens}
use Rattle.round_trip.specs.WellFormed.{unplaced, well_formed}
use Rattle.round_trip.proofs.Alike.{files_derived, operands_alike}
use Rattle.round_trip.proofs.Goes.{closed, opened_below, reached}
use Rattle.round_trip.proofs.Spelled.{expr_spelled}

pub reads_back : PlainAreAscii → MadeIsDerived (Token × State) Token → (x : Expr) → well_formed x ≡ true → ReadsBack x
reads_back plain law x h =
    let s = (expr_spelled x h).spelled in
    let c = closed 0 (opened_below 0 (written x).level (written x).level s.low (omega arith) s.opened) in
    let from : Stage State = record { last = no_token; state = outset } in
    let d = files_derived law (c.moves []) (Nonterminal n.expression_part ∷ []) (tokens (c.row [])) from (reached (unplaced x) c.last from) (c.goes [] [] [] from) in
    record {
      row = c.row [];
      moves = c.moves [];
      text = c.reads [];
      apart = c.apart plain [] tt;
      derives = d.0;
      builds = ap (λ (z : Operands). first_or no_expr z.exprs) (sym (operands_alike (c.moves []) (Nonterminal n.expression_part ∷ []) (classes_of (tokens (c.row []))) (tokens (c.row [])) from d.0 refl) ∙ ap (λ (z : Stage State). z.state.operands) d.1);
    }
