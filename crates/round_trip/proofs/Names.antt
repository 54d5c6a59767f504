-- Operands that are names, words of the language, and what stands between two symbols.
use Rattle.std.proofs.Common.{◌∙◌, ap, refl, ℕ, ◌+◌, List, [], ◌∷◌, Some, None, codes, arith}
use Rattle.ll_grammar.specs.declared.form.Move.{Move}
use Rattle.ll_grammar.specs.declared.form.Move.TheVariants.{Shift, Expand, Act}
use Rattle.ll_grammar.specs.declared.form.Symbol.TheVariants.{Terminal, Nonterminal, Action}
use Rattle.res_ast.specs.declared.expression.Expr.{Expr}
use Rattle.res_ast.specs.declared.expression.Form.TheOpen.{Form-F}
use Rattle.res_ast.specs.declared.expression.Form.TheViews.{roll-Form}
use Rattle.res_lexer.specs.declared.token.TokenKind.TheVariants as kind
use Rattle.res_grammar.specs.Classes.{class_of_word}
use Rattle.res_grammar.specs.Language.{language_rules}
use Rattle.res_grammar.specs.Numbers as n
use Rattle.expr_parser.specs.Actions.{expression}
use Rattle.res_printer.specs.Pieces.{dotted, row, says}
use Rattle.res_printer.specs.Expressions.{Written, arguments, enclosed, negation, old, old_dot}
use Rattle.round_trip.proofs.Calm.{ended, head_named, in_call, in_node, leads_nowhere, name_named}
use Rattle.round_trip.proofs.Goes.{Opened}
use Rattle.round_trip.specs.ReadsBack.{token, tokens}
use Rattle.round_trip.proofs.Operands.{closed_at, deep_at, in_parentheses_apart, keeps, symbol, symbol_apart, takes, word, word_apart}
use Rattle.round_trip.proofs.Words.{plain_writable}
use Rattle.round_trip.proofs.Arguments.{Item, all_listed, deepest_of, exprs_of, heads_of, written_of}
use Rattle.round_trip.proofs.Signs.{IsName, Spelled, name_goes, name_token}

-- ---- names

pub dot_opened : (name part : List ℕ) → IsName name → IsName part → Opened 8 (dotted name part) (expression 0 (roll-Form (Form-F.Dot name part))) 0 (name ∷ [])
unfolding language_rules
dot_opened name part e f =
    let second : List Move → List Move = λ r. Act n.keep_mark ∷ Expand n.dot_rest_part 1 ∷ Act n.dot_mark ∷ r in
    let first : List Move → List Move = λ r. Act n.keep_mark ∷ Expand n.operand_rest_part 1 ∷ Shift ∷ Expand n.operand_dot_part 0 ∷ Shift ∷ second r in
    record {
      moves = λ r. Expand n.operand_part 5 ∷ Expand n.head_name_part 0 ∷ Act n.head_mark ∷ Shift ∷ first r;
      row = λ us. word name (symbol 17 (word part us));
      last = name_token part;
      name = λ l. Some part;
      reads = λ us. refl;
      goes = λ r ss us s.
          name_goes name e (first r) (Action n.keep_mark ∷ Nonterminal n.operand_rest_part ∷ ss) (tokens (symbol 17 (word part us))) s
          ∙ name_goes part f (second r) (Action n.keep_mark ∷ Nonterminal n.dot_rest_part ∷ ss) (tokens us) (takes (token (kind.Symbol 17)) (keeps (name_token name) s));
      nests = λ r. leads_nowhere (ended r);
      names = λ r us l a v. head_named name (32 ∷ []) e.class (first r) (symbol 17 (word part us)) l a v.0 ∙ name_named part (32 ∷ []) f.class (second r) us (Some name) a;
      apart = λ law us p. word_apart name (symbol 17 (word part us)) e.writable (symbol_apart 17 (word part us) (omega arith) (omega arith) (word_apart part us f.writable p));
    }

pub old_opened : (name : List ℕ) → IsName name → Opened 8 (old name) (expression 0 (roll-Form (Form-F.Old name))) 0 (name ∷ [])
unfolding language_rules
old_opened name e =
    let after : List Move → List Move = λ r. Act n.keep_mark ∷ Expand n.old_rest_part 1 ∷ Act n.old_mark ∷ r in
    record {
      moves = λ r. Expand n.operand_part 6 ∷ Shift ∷ Act n.keep_mark ∷ Expand n.head_name_part 0 ∷ Act n.head_mark ∷ Shift ∷ after r;
      row = λ us. symbol 19 (word name us);
      last = name_token name;
      name = λ l. Some name;
      reads = λ us. refl;
      goes = λ r ss us s. name_goes name e (after r) (Action n.keep_mark ∷ Nonterminal n.old_rest_part ∷ ss) (tokens us) (keeps (token (kind.Symbol 19)) s);
      nests = λ r. leads_nowhere (ended r);
      names = λ r us l a v. head_named name (32 ∷ []) e.class (after r) us l a v.0;
      apart = λ law us p. symbol_apart 19 (word name us) (omega arith) (omega arith) (word_apart name us e.writable p);
    }

pub old_dot_opened : (name part : List ℕ) → IsName name → IsName part → Opened 8 (old_dot name part) (expression 0 (roll-Form (Form-F.OldDot name part))) 0 (name ∷ [])
unfolding language_rules
old_dot_opened name part e f =
    let second : List Move → List Move = λ r. Act n.old_dot_mark ∷ r in
    let first : List Move → List Move = λ r. Act n.keep_mark ∷ Expand n.old_rest_part 0 ∷ Shift ∷ Shift ∷ second r in
    record {
      moves = λ r. Expand n.operand_part 6 ∷ Shift ∷ Act n.keep_mark ∷ Expand n.head_name_part 0 ∷ Act n.head_mark ∷ Shift ∷ first r;
      row = λ us. symbol 19 (word name (symbol 17 (word part us)));
      last = name_token part;
      name = λ l. Some part;
      reads = λ us. refl;
      goes = λ r ss us s.
          name_goes name e (first r) (Action n.keep_mark ∷ Nonterminal n.old_rest_part ∷ ss) (tokens (symbol 17 (word part us))) (keeps (token (kind.Symbol 19)) s)
          ∙ name_goes part f (second r) (Action n.old_dot_mark ∷ ss) (tokens us) (takes (token (kind.Symbol 17)) (keeps (name_token name) (keeps (token (kind.Symbol 19)) s)));
      nests = λ r. leads_nowhere (ended r);
      names = λ r us l a v. head_named name (32 ∷ []) e.class (first r) (symbol 17 (word part us)) l a v.0 ∙ name_named part (32 ∷ []) f.class (second r) us (Some name) a;
      apart = λ law us p. symbol_apart 19 (word name (symbol 17 (word part us))) (omega arith) (omega arith) (word_apart name (symbol 17 (word part us)) e.writable (symbol_apart 17 (word part us) (omega arith) (omega arith) (word_apart part us f.writable p)));
    }

-- ---- `not`, and what stands between two symbols

pub not_opened : {x : Expr} {d : ℕ} {heads : List (List ℕ)} (w : Written) → Spelled w x d heads → Opened 3 (negation w).text (expression 0 (roll-Form (Form-F.Not x))) (deep_at 3 w d + 1) heads
unfolding language_rules class_of_word
not_opened {x} {d} {heads} w h =
    let inner = closed_at 3 w (omega arith) h.low h.opened in
    let after : List Move → List Move = λ r. Act n.not_mark ∷ Act n.leave_mark ∷ r in
    record {
      moves = λ r. Expand n.not_part 0 ∷ Act n.enter_mark ∷ Shift ∷ Act n.keep_mark ∷ inner.moves (after r);
      row = λ us. word (codes "not") (inner.row us);
      last = inner.last;
      name = inner.name;
      reads = λ us. ap (λ z. says (codes "not") z) (inner.reads us);
      goes = λ r ss us s. inner.goes (after r) (Action n.not_mark ∷ Action n.leave_mark ∷ ss) us (keeps (token (kind.Word (codes "not"))) s);
      nests = λ r. in_node (ended (inner.moves (after r))) (ended r) (deep_at 3 w d) (inner.nests (after r));
      names = λ r us. inner.names (after r) us;
      apart = λ law us p. word_apart (codes "not") (inner.row us) (plain_writable law (codes "not") refl) (inner.apart law us p);
    }

pub single_opened : {x : Expr} {d : ℕ} {heads : List (List ℕ)} (w : Written) → Spelled w x d heads → Opened 8 (enclosed (codes "<") w (codes ">")) (expression 0 (roll-Form (Form-F.Single x))) (deep_at 4 w d + 1) heads
unfolding language_rules
single_opened {x} {d} {heads} w h =
    let inner = closed_at 4 w (omega arith) h.low h.opened in
    let after : List Move → List Move = λ r. Shift ∷ Act n.single_mark ∷ Act n.leave_mark ∷ r in
    record {
      moves = λ r. Expand n.operand_part 11 ∷ Act n.enter_mark ∷ Shift ∷ Act n.keep_mark ∷ inner.moves (after r);
      row = λ us. symbol 6 (inner.row (symbol 7 us));
      last = token (kind.Symbol 7);
      name = inner.name;
      reads = λ us. ap (λ z. says (codes "<") z) (inner.reads (symbol 7 us));
      goes = λ r ss us s. inner.goes (after r) (Terminal 8 ∷ Action n.single_mark ∷ Action n.leave_mark ∷ ss) (symbol 7 us) (keeps (token (kind.Symbol 6)) s);
      nests = λ r. in_node (ended (inner.moves (after r))) (ended r) (deep_at 4 w d) (inner.nests (after r));
      names = λ r us. inner.names (after r) (symbol 7 us);
      apart = λ law us p. symbol_apart 6 (inner.row (symbol 7 us)) (omega arith) (omega arith) (inner.apart law (symbol 7 us) (symbol_apart 7 us (omega arith) (omega arith) p));
    }

pub bars_opened : {x : Expr} {d : ℕ} {heads : List (List ℕ)} (w : Written) → Spelled w x d heads → Opened 8 (enclosed (codes "|") w (codes "|")) (expression 0 (roll-Form (Form-F.Bars x))) (deep_at 4 w d + 1) heads
unfolding language_rules
bars_opened {x} {d} {heads} w h =
    let inner = closed_at 4 w (omega arith) h.low h.opened in
    let after : List Move → List Move = λ r. Shift ∷ Act n.bars_mark ∷ Act n.leave_mark ∷ r in
    record {
      moves = λ r. Expand n.operand_part 10 ∷ Act n.enter_mark ∷ Shift ∷ Act n.keep_mark ∷ inner.moves (after r);
      row = λ us. symbol 18 (inner.row (symbol 18 us));
      last = token (kind.Symbol 18);
      name = inner.name;
      reads = λ us. ap (λ z. says (codes "|") z) (inner.reads (symbol 18 us));
      goes = λ r ss us s. inner.goes (after r) (Terminal 19 ∷ Action n.bars_mark ∷ Action n.leave_mark ∷ ss) (symbol 18 us) (keeps (token (kind.Symbol 18)) s);
      nests = λ r. in_node (ended (inner.moves (after r))) (ended r) (deep_at 4 w d) (inner.nests (after r));
      names = λ r us. inner.names (after r) (symbol 18 us);
      apart = λ law us p. symbol_apart 18 (inner.row (symbol 18 us)) (omega arith) (omega arith) (inner.apart law (symbol 18 us) (symbol_apart 18 us (omega arith) (omega arith) p));
    }

-- ---- calls by a name that is no word of the language

pub call_opened : (name : List ℕ) (es : List Item) → IsName name → Opened 8 (row (says name ∷ arguments (written_of es) ∷ [])) (expression 0 (roll-Form (Form-F.Call None name (exprs_of es)))) (deepest_of es + 1) (name ∷ heads_of es)
unfolding language_rules
call_opened name es e =
    let inner = all_listed es in
    let after : List Move → List Move = λ r. Shift ∷ Act n.call_expr_mark ∷ Act n.leave_mark ∷ r in
    let listed : List Move → List Move = λ r. Act n.keep_mark ∷ Expand n.operand_rest_part 0 ∷ Act n.enter_mark ∷ Shift ∷ Act n.exprs_mark ∷ inner.moves (after r) in
    record {
      moves = λ r. Expand n.operand_part 5 ∷ Expand n.head_name_part 0 ∷ Act n.head_mark ∷ Shift ∷ listed r;
      row = λ us. word name (symbol 12 (inner.row (symbol 13 us)));
      last = token (kind.Symbol 13);
      name = λ l. inner.name (Some name);
      reads = λ us. ap (λ z. says name (says (codes "(") z)) (inner.reads (symbol 13 us));
      goes = λ r ss us s.
          name_goes name e (listed r) (Action n.keep_mark ∷ Nonterminal n.operand_rest_part ∷ ss) (tokens (symbol 12 (inner.row (symbol 13 us)))) s
          ∙ inner.goes (after r) (Terminal 14 ∷ Action n.call_expr_mark ∷ Action n.leave_mark ∷ ss) (symbol 13 us) [] s.state.operands.lists (token (kind.Symbol 12)) (keeps (name_token name) s);
      nests = λ r. in_call (ended (inner.moves (after r))) (ended r) (deepest_of es) (inner.nests (after r));
      names = λ r us l a v. head_named name (32 ∷ []) e.class (listed r) (symbol 12 (inner.row (symbol 13 us))) l a v.0 ∙ inner.names (after r) (symbol 13 us) (Some name) a v.1;
      apart = λ law us p. word_apart name (symbol 12 (inner.row (symbol 13 us))) e.writable (in_parentheses_apart inner.row us (inner.apart law) p);
    }
