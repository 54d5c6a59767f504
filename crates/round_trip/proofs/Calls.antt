-- Words of the language, and calls.
use Rattle.std.proofs.Common.{◌≡◌, ◌∙◌, sym, ap, refl, ℕ, ◌+◌, true, false, List, [], ◌∷◌, ◌++◌, Some, None, codes, append-nil, append_assoc, Option, arith}
use Rattle.ll_grammar.specs.declared.form.Move.{Move}
use Rattle.ll_grammar.specs.declared.form.Move.TheVariants.{Shift, Expand, Act}
use Rattle.ll_grammar.specs.declared.form.Symbol.{Symbol}
use Rattle.ll_grammar.specs.declared.form.Symbol.TheVariants.{Terminal, Nonterminal, Action}
use Rattle.ll_grammar.specs.Grammar.{made}
use Rattle.res_ast.specs.declared.expression.Form.TheOpen.{Form-F}
use Rattle.res_ast.specs.declared.expression.Form.TheViews.{roll-Form}
use Rattle.res_lexer.specs.declared.token.Token.{Token}
use Rattle.res_lexer.specs.declared.token.TokenKind.TheVariants as kind
use Rattle.identifiers.specs.Laws.{PlainAreAscii}
use Rattle.res_lexer.specs.Spaced.{IsWritable, Row}
use Rattle.res_grammar.specs.Classes.{class_of_word}
use Rattle.res_grammar.specs.Language.{language_rules}
use Rattle.res_grammar.specs.Numbers as n
use Rattle.expr_parser.specs.Actions.{expression}
use Rattle.module_parser.specs.Spelling.{files}
use Rattle.res_printer.specs.Pieces.{closes, comma, dotted, each, row, says}
use Rattle.res_printer.specs.Expressions.{arguments, initial, truth}
use Rattle.round_trip.proofs.Calm.{Around, calm, calms_both, ended, head_named, in_argument, in_call, leads_both, leads_no_more, leads_nowhere, name_named, named}
use Rattle.round_trip.proofs.Goes.{At, Goes, Opened}
use Rattle.round_trip.specs.ReadsBack.{token, tokens}
use Rattle.round_trip.proofs.Operands.{in_parentheses_apart, keeps, symbol, symbol_apart, takes, word, word_apart}
use Rattle.round_trip.proofs.Words.{plain_writable}
use Rattle.round_trip.proofs.Arguments.{Item, Listed, all_listed, collected, deepest_of, exprs_of, heads_of, whole, written_of}
use Rattle.round_trip.proofs.Signs.{IsName, name_goes, name_token}

-- ---- words of the language

pub true_opened : Opened 8 (truth true).text (expression 0 (roll-Form (Form-F.Truth true))) 0 []
unfolding language_rules class_of_word
true_opened = record {
  moves = λ r. Expand n.operand_part 0 ∷ Shift ∷ Act n.true_mark ∷ r;
  row = word (codes "true");
  last = name_token (codes "true");
  name = λ l. l;
  reads = λ us. refl;
  goes = λ r ss us s. refl;
  nests = λ r. leads_nowhere (ended r);
  names = λ r us l a v. refl;
  apart = λ law us p. word_apart (codes "true") us (plain_writable law (codes "true") refl) p;
}

pub false_opened : Opened 8 (truth false).text (expression 0 (roll-Form (Form-F.Truth false))) 0 []
unfolding language_rules class_of_word
false_opened = record {
  moves = λ r. Expand n.operand_part 1 ∷ Shift ∷ Act n.false_mark ∷ r;
  row = word (codes "false");
  last = name_token (codes "false");
  name = λ l. l;
  reads = λ us. refl;
  goes = λ r ss us s. refl;
  nests = λ r. leads_nowhere (ended r);
  names = λ r us l a v. refl;
  apart = λ law us p. word_apart (codes "false") us (plain_writable law (codes "false") refl) p;
}

pub min_int_opened : Opened 8 (says (codes "min_int")) (expression 0 (roll-Form Form-F.MinInt)) 0 []
unfolding language_rules class_of_word
min_int_opened = record {
  moves = λ r. Expand n.operand_part 2 ∷ Shift ∷ Act n.min_int_mark ∷ r;
  row = word (codes "min_int");
  last = name_token (codes "min_int");
  name = λ l. l;
  reads = λ us. refl;
  goes = λ r ss us s. refl;
  nests = λ r. leads_nowhere (ended r);
  names = λ r us l a v. refl;
  apart = λ law us p. word_apart (codes "min_int") us (plain_writable law (codes "min_int") refl) p;
}

pub max_int_opened : Opened 8 (says (codes "max_int")) (expression 0 (roll-Form Form-F.MaxInt)) 0 []
unfolding language_rules class_of_word
max_int_opened = record {
  moves = λ r. Expand n.operand_part 3 ∷ Shift ∷ Act n.max_int_mark ∷ r;
  row = word (codes "max_int");
  last = name_token (codes "max_int");
  name = λ l. l;
  reads = λ us. refl;
  goes = λ r ss us s. refl;
  nests = λ r. leads_nowhere (ended r);
  names = λ r us l a v. refl;
  apart = λ law us p. word_apart (codes "max_int") us (plain_writable law (codes "max_int") refl) p;
}

pub empty_opened : Opened 8 (says (codes "Empty_String")) (expression 0 (roll-Form Form-F.Empty)) 0 []
unfolding language_rules class_of_word
empty_opened = record {
  moves = λ r. Expand n.operand_part 4 ∷ Shift ∷ Act n.empty_string_mark ∷ r;
  row = word (codes "Empty_String");
  last = name_token (codes "Empty_String");
  name = λ l. l;
  reads = λ us. refl;
  goes = λ r ss us s. refl;
  nests = λ r. leads_nowhere (ended r);
  names = λ r us l a v. refl;
  apart = λ law us p. word_apart (codes "Empty_String") us (plain_writable law (codes "Empty_String") refl) p;
}

-- ---- operations that are words of the language

-- The word is a way of this part.
pub record IsBuiltIn (name : List ℕ) : Type 0 where
  pub way : ℕ
  pub goes : (r : List Move) (ss : List Symbol) (us : List Token) (s : At) → Goes (Expand n.builtin_part way ∷ Shift ∷ r) r (Nonterminal n.builtin_part ∷ ss) (Action n.keep_mark ∷ ss) (name_token name ∷ us) us s (takes (name_token name) s)
  pub stays : (r : List Move) (us : Row) (l : Option (List ℕ)) (a : Around) → named (Shift ∷ r) (word name us) (calm l a) ≡ named r us (calm l a)
  pub writable : PlainAreAscii → IsWritable (kind.Word name)

pub read_built_in : IsBuiltIn (codes "Read")
unfolding language_rules class_of_word
read_built_in = record { way = 0; goes = λ r ss us s. refl; stays = λ r us l a. refl; writable = λ law. plain_writable law (codes "Read") refl }

pub write_built_in : IsBuiltIn (codes "Write")
unfolding language_rules class_of_word
write_built_in = record { way = 1; goes = λ r ss us s. refl; stays = λ r us l a. refl; writable = λ law. plain_writable law (codes "Write") refl }

pub at_end_built_in : IsBuiltIn (codes "At_End")
unfolding language_rules class_of_word
at_end_built_in = record { way = 2; goes = λ r ss us s. refl; stays = λ r us l a. refl; writable = λ law. plain_writable law (codes "At_End") refl }

pub remaining_built_in : IsBuiltIn (codes "Remaining")
unfolding language_rules class_of_word
remaining_built_in = record { way = 3; goes = λ r ss us s. refl; stays = λ r us l a. refl; writable = λ law. plain_writable law (codes "Remaining") refl }

pub swap_entry_built_in : IsBuiltIn (codes "Swap_Entry")
unfolding language_rules class_of_word
swap_entry_built_in = record { way = 4; goes = λ r ss us s. refl; stays = λ r us l a. refl; writable = λ law. plain_writable law (codes "Swap_Entry") refl }

-- the arguments in their parentheses, and what an action does with them
abbrev ends_call : ℕ → List Move → List Move
ends_call mark r = Shift ∷ Act mark ∷ Act n.leave_mark ∷ r

abbrev in_call_of : ℕ → (List Move → List Move) → List Move → List Move
in_call_of mark moves r = Shift ∷ Act n.exprs_mark ∷ moves (ends_call mark r)

abbrev call_ends : ℕ → List Symbol → List Symbol
call_ends mark ss = Terminal 14 ∷ Action mark ∷ Action n.leave_mark ∷ ss

abbrev call_begins : ℕ → List Symbol → List Symbol
call_begins mark ss = Terminal 13 ∷ Action n.exprs_mark ∷ Nonterminal n.expressions_part ∷ call_ends mark ss

pub built_in_opened : (name : List ℕ) (es : List Item) → IsBuiltIn name → Opened 8 (row (says name ∷ arguments (written_of es) ∷ [])) (expression 0 (roll-Form (Form-F.Call None name (exprs_of es)))) (deepest_of es + 1) (heads_of es)
unfolding language_rules
built_in_opened name es e =
    let inner = all_listed es in
    let after : List Move → List Move = ends_call n.builtin_expr_mark in
    let called : List Move → List Move = λ r. Act n.keep_mark ∷ in_call_of n.builtin_expr_mark inner.moves r in
    record {
      moves = λ r. Expand n.operand_part 7 ∷ Act n.enter_mark ∷ Expand n.builtin_part e.way ∷ Shift ∷ called r;
      row = λ us. word name (symbol 12 (inner.row (symbol 13 us)));
      last = token (kind.Symbol 13);
      name = inner.name;
      reads = λ us. ap (λ z. says name (says (codes "(") z)) (inner.reads (symbol 13 us));
      goes = λ r ss us s.
          e.goes (called r) (call_begins n.builtin_expr_mark ss) (tokens (symbol 12 (inner.row (symbol 13 us)))) s
          ∙ inner.goes (after r) (call_ends n.builtin_expr_mark ss) (symbol 13 us) [] s.state.operands.lists (token (kind.Symbol 12)) (keeps (name_token name) s);
      nests = λ r. in_call (ended (inner.moves (after r))) (ended r) (deepest_of es) (inner.nests (after r));
      names = λ r us l a v. e.stays (called r) (symbol 12 (inner.row (symbol 13 us))) l a ∙ inner.names (after r) (symbol 13 us) l a v;
      apart = λ law us p. word_apart name (symbol 12 (inner.row (symbol 13 us))) (e.writable law) (in_parentheses_apart inner.row us (inner.apart law) p);
    }

-- ---- calls of a facility

pub facility_call_opened : (facility name : List ℕ) (es : List Item) → IsName facility → IsName name → Opened 8 (row (dotted facility name ∷ arguments (written_of es) ∷ [])) (expression 0 (roll-Form (Form-F.Call (Some facility) name (exprs_of es)))) (deepest_of es + 1) (facility ∷ heads_of es)
unfolding language_rules
facility_call_opened facility name es e f =
    let inner = all_listed es in
    let after : List Move → List Move = ends_call n.call_of_expr_mark in
    let called : List Move → List Move = λ r. Act n.keep_mark ∷ Expand n.dot_rest_part 0 ∷ Act n.enter_mark ∷ in_call_of n.call_of_expr_mark inner.moves r in
    let first : List Move → List Move = λ r. Act n.keep_mark ∷ Expand n.operand_rest_part 1 ∷ Shift ∷ Expand n.operand_dot_part 0 ∷ Shift ∷ called r in
    let list : Row → Row = λ us. symbol 12 (inner.row (symbol 13 us)) in
    record {
      moves = λ r. Expand n.operand_part 5 ∷ Expand n.head_name_part 0 ∷ Act n.head_mark ∷ Shift ∷ first r;
      row = λ us. word facility (symbol 17 (word name (list us)));
      last = token (kind.Symbol 13);
      name = λ l. inner.name (Some name);
      reads = λ us. ap (λ z. dotted facility name (says (codes "(") z)) (inner.reads (symbol 13 us));
      goes = λ r ss us s.
          name_goes facility e (first r) (Action n.keep_mark ∷ Nonterminal n.operand_rest_part ∷ ss) (tokens (symbol 17 (word name (list us)))) s
          ∙ name_goes name f (called r) (Action n.keep_mark ∷ Nonterminal n.dot_rest_part ∷ ss) (tokens (list us)) (takes (token (kind.Symbol 17)) (keeps (name_token facility) s))
          ∙ inner.goes (after r) (call_ends n.call_of_expr_mark ss) (symbol 13 us) [] s.state.operands.lists (token (kind.Symbol 12)) (keeps (name_token name) (keeps (name_token facility) s));
      nests = λ r. in_call (ended (inner.moves (after r))) (ended r) (deepest_of es) (inner.nests (after r));
      names = λ r us l a v.
          head_named facility (32 ∷ []) e.class (first r) (symbol 17 (word name (list us))) l a v.0
          ∙ name_named name (32 ∷ []) f.class (called r) (list us) (Some facility) a
          ∙ inner.names (after r) (symbol 13 us) (Some name) a v.1;
      apart = λ law us p. word_apart facility (symbol 17 (word name (list us))) e.writable (symbol_apart 17 (word name (list us)) (omega arith) (omega arith) (word_apart name (list us) f.writable (in_parentheses_apart inner.row us (inner.apart law) p)));
    }

pub facility_built_in_opened : (facility name : List ℕ) (es : List Item) → IsName facility → IsBuiltIn name → Opened 8 (row (dotted facility name ∷ arguments (written_of es) ∷ [])) (expression 0 (roll-Form (Form-F.Call (Some facility) name (exprs_of es)))) (deepest_of es + 1) (facility ∷ heads_of es)
unfolding language_rules
facility_built_in_opened facility name es e f =
    let inner = all_listed es in
    let after : List Move → List Move = ends_call n.call_of_expr_mark in
    let called : List Move → List Move = λ r. Act n.keep_mark ∷ in_call_of n.call_of_expr_mark inner.moves r in
    let first : List Move → List Move = λ r. Act n.keep_mark ∷ Expand n.operand_rest_part 1 ∷ Shift ∷ Expand n.operand_dot_part 1 ∷ Act n.enter_mark ∷ Expand n.builtin_part f.way ∷ Shift ∷ called r in
    let list : Row → Row = λ us. symbol 12 (inner.row (symbol 13 us)) in
    record {
      moves = λ r. Expand n.operand_part 5 ∷ Expand n.head_name_part 0 ∷ Act n.head_mark ∷ Shift ∷ first r;
      row = λ us. word facility (symbol 17 (word name (list us)));
      last = token (kind.Symbol 13);
      name = λ l. inner.name (Some facility);
      reads = λ us. ap (λ z. dotted facility name (says (codes "(") z)) (inner.reads (symbol 13 us));
      goes = λ r ss us s.
          name_goes facility e (first r) (Action n.keep_mark ∷ Nonterminal n.operand_rest_part ∷ ss) (tokens (symbol 17 (word name (list us)))) s
          ∙ f.goes (called r) (call_begins n.call_of_expr_mark ss) (tokens (list us)) (takes (token (kind.Symbol 17)) (keeps (name_token facility) s))
          ∙ inner.goes (after r) (call_ends n.call_of_expr_mark ss) (symbol 13 us) [] s.state.operands.lists (token (kind.Symbol 12)) (keeps (name_token name) (keeps (name_token facility) s));
      nests = λ r. in_call (ended (inner.moves (after r))) (ended r) (deepest_of es) (inner.nests (after r));
      names = λ r us l a v.
          head_named facility (32 ∷ []) e.class (first r) (symbol 17 (word name (list us))) l a v.0
          ∙ f.stays (called r) (list us) (Some facility) a
          ∙ inner.names (after r) (symbol 13 us) (Some facility) a v.1;
      apart = λ law us p. word_apart facility (symbol 17 (word name (list us))) e.writable (symbol_apart 17 (word name (list us)) (omega arith) (omega arith) (word_apart name (list us) (f.writable law) (in_parentheses_apart inner.row us (inner.apart law) p)));
    }

pub initial_opened : (name : List ℕ) (e : Item) → IsName name → Opened 8 (initial name e.written) (expression 0 (roll-Form (Form-F.Initial name e.expr))) (e.depth + 1) (name ∷ e.heads)
unfolding language_rules class_of_word
initial_opened name e f =
    let inner = whole e in
    let after : List Move → List Move = ends_call n.is_initial_mark in
    let first : List Move → List Move = λ r. Act n.keep_mark ∷ Expand n.operand_rest_part 1 ∷ Shift ∷ Expand n.operand_dot_part 2 ∷ Act n.enter_mark ∷ Shift ∷ Shift ∷ inner.moves (after r) in
    let list : Row → Row = λ us. symbol 17 (word (codes "Is_Initial") (symbol 12 (inner.row (symbol 13 us)))) in
    record {
      moves = λ r. Expand n.operand_part 5 ∷ Expand n.head_name_part 0 ∷ Act n.head_mark ∷ Shift ∷ first r;
      row = λ us. word name (list us);
      last = token (kind.Symbol 13);
      name = λ l. inner.name (Some name);
      reads = λ us. ap (λ z. dotted name (codes "Is_Initial") (says (codes "(") z)) (inner.reads (symbol 13 us));
      goes = λ r ss us s.
          name_goes name f (first r) (Action n.keep_mark ∷ Nonterminal n.operand_rest_part ∷ ss) (tokens (list us)) s
          ∙ inner.goes (after r) (call_ends n.is_initial_mark ss) (symbol 13 us) (takes (token (kind.Symbol 12)) (keeps (name_token name) s));
      nests = λ r. in_argument (ended (inner.moves (after r))) (ended r) e.depth (inner.nests (after r));
      names = λ r us l a v. head_named name (32 ∷ []) f.class (first r) (list us) l a v.0 ∙ inner.names (after r) (symbol 13 us) (Some name) a v.1;
      apart = λ law us p. word_apart name (list us) f.writable (symbol_apart 17 (word (codes "Is_Initial") (symbol 12 (inner.row (symbol 13 us)))) (omega arith) (omega arith) (word_apart (codes "Is_Initial") (symbol 12 (inner.row (symbol 13 us))) (plain_writable law (codes "Is_Initial") refl) (in_parentheses_apart inner.row us (inner.apart law) p)));
    }

-- ---- Reverse and Prt_Btwn, which take as many arguments as the grammar asks for

pub reverse_opened : (e : Item) → Opened 8 (row (says (codes "Reverse") ∷ arguments (e.written ∷ []) ∷ [])) (expression 0 (roll-Form (Form-F.Call None (codes "Reverse") (e.expr ∷ [])))) (e.depth + 1) e.heads
unfolding language_rules class_of_word
reverse_opened e =
    let inner = whole e in
    let after : List Move → List Move = λ r. Act n.add_expr_mark ∷ ends_call n.builtin_expr_mark r in
    record {
      moves = λ r. Expand n.operand_part 8 ∷ Act n.enter_mark ∷ Shift ∷ Act n.keep_mark ∷ Shift ∷ Act n.exprs_mark ∷ inner.moves (after r);
      row = λ us. word (codes "Reverse") (symbol 12 (inner.row (symbol 13 us)));
      last = token (kind.Symbol 13);
      name = inner.name;
      reads = λ us. ap (λ z. says (codes "Reverse") (says (codes "(") z)) (inner.reads (symbol 13 us));
      goes = λ r ss us s. inner.goes (after r) (Action n.add_expr_mark ∷ call_ends n.builtin_expr_mark ss) (symbol 13 us) (collected [] s.state.operands.lists (token (kind.Symbol 12)) (keeps (name_token (codes "Reverse")) s));
      nests = λ r. in_argument (ended (inner.moves (after r))) (ended r) e.depth (inner.nests (after r));
      names = λ r us. inner.names (after r) (symbol 13 us);
      apart = λ law us p. word_apart (codes "Reverse") (symbol 12 (inner.row (symbol 13 us))) (plain_writable law (codes "Reverse") refl) (in_parentheses_apart inner.row us (inner.apart law) p);
    }

pub prt_btwn_opened : (a b c : Item) → Opened 8 (row (says (codes "Prt_Btwn") ∷ arguments (a.written ∷ b.written ∷ c.written ∷ []) ∷ [])) (expression 0 (roll-Form (Form-F.Call None (codes "Prt_Btwn") (a.expr ∷ b.expr ∷ c.expr ∷ [])))) (deepest_of (a ∷ b ∷ c ∷ []) + 1) (heads_of (a ∷ b ∷ c ∷ []))
unfolding language_rules class_of_word
prt_btwn_opened a b c =
    let x = whole a in
    let y = whole b in
    let z = whole c in
    let third : List Move → List Move = λ r. Act n.add_expr_mark ∷ ends_call n.builtin_expr_mark r in
    let second : List Move → List Move = λ r. Act n.add_expr_mark ∷ Shift ∷ z.moves (third r) in
    let first : List Move → List Move = λ r. Act n.add_expr_mark ∷ Shift ∷ y.moves (second r) in
    let last_row : Row → Row = λ us. z.row (symbol 13 us) in
    let other_row : Row → Row = λ us. y.row (symbol 14 (last_row us)) in
    record {
      moves = λ r. Expand n.operand_part 9 ∷ Act n.enter_mark ∷ Shift ∷ Act n.keep_mark ∷ Shift ∷ Act n.exprs_mark ∷ x.moves (first r);
      row = λ us. word (codes "Prt_Btwn") (symbol 12 (x.row (symbol 14 (other_row us))));
      last = token (kind.Symbol 13);
      name = λ l. z.name (y.name (x.name l));
      reads = λ us.
          ap (λ t. says (codes "Prt_Btwn") (says (codes "(") (a.written.text (comma (b.written.text (comma t)))))) (z.reads (symbol 13 us))
          ∙ ap (λ t. says (codes "Prt_Btwn") (says (codes "(") (a.written.text (comma t)))) (y.reads (symbol 14 (last_row us)))
          ∙ ap (λ t. says (codes "Prt_Btwn") (says (codes "(") t)) (x.reads (symbol 14 (other_row us)));
      goes = λ r ss us s.
          let end = call_ends n.builtin_expr_mark ss in
          let s0 = keeps (name_token (codes "Prt_Btwn")) s in
          x.goes (first r) (Action n.add_expr_mark ∷ Terminal 15 ∷ Nonterminal n.expression_part ∷ Action n.add_expr_mark ∷ Terminal 15 ∷ Nonterminal n.expression_part ∷ Action n.add_expr_mark ∷ end) (symbol 14 (other_row us)) (collected [] s.state.operands.lists (token (kind.Symbol 12)) s0)
          ∙ y.goes (second r) (Action n.add_expr_mark ∷ Terminal 15 ∷ Nonterminal n.expression_part ∷ Action n.add_expr_mark ∷ end) (symbol 14 (last_row us)) (collected (a.expr ∷ []) s.state.operands.lists (token (kind.Symbol 14)) s0)
          ∙ z.goes (third r) (Action n.add_expr_mark ∷ end) (symbol 13 us) (collected (a.expr ∷ b.expr ∷ []) s.state.operands.lists (token (kind.Symbol 14)) s0);
      nests = λ r.
          let end = ended (ends_call n.builtin_expr_mark r) in
          in_call (ended (x.moves (first r))) (ended r) (deepest_of (a ∷ b ∷ c ∷ []))
          (leads_both (ended (x.moves (first r))) (ended (y.moves (second r))) end a.depth (deepest_of (b ∷ c ∷ [])) (x.nests (first r))
          (leads_both (ended (y.moves (second r))) (ended (z.moves (third r))) end b.depth (deepest_of (c ∷ [])) (y.nests (second r))
          (leads_both (ended (z.moves (third r))) end end c.depth 0 (z.nests (third r)) (leads_no_more end))));
      names = λ r us.
          let end = named (ends_call n.builtin_expr_mark r) (symbol 13 us) in
          let two = named (y.moves (second r)) (other_row us) in
          let three = named (z.moves (third r)) (last_row us) in
          calms_both (named (x.moves (first r)) (x.row (symbol 14 (other_row us)))) two end x.name (λ l. z.name (y.name l)) a.heads (heads_of (b ∷ c ∷ [])) (x.names (first r) (symbol 14 (other_row us)))
          (calms_both two three end y.name z.name b.heads (heads_of (c ∷ [])) (y.names (second r) (symbol 14 (last_row us)))
          (calms_both three end end z.name (λ l. l) c.heads [] (z.names (third r) (symbol 13 us)) (λ l k v. refl)));
      apart = λ law us p.
          word_apart (codes "Prt_Btwn") (symbol 12 (x.row (symbol 14 (other_row us)))) (plain_writable law (codes "Prt_Btwn") refl)
          (in_parentheses_apart (λ vs. x.row (symbol 14 (y.row (symbol 14 (z.row vs))))) us (λ vs q. x.apart law (symbol 14 (y.row (symbol 14 (z.row vs)))) (symbol_apart 14 (y.row (symbol 14 (z.row vs))) (omega arith) (omega arith) (y.apart law (symbol 14 (z.row vs)) (symbol_apart 14 (z.row vs) (omega arith) (omega arith) (z.apart law vs q))))) p);
    }

-- ---- tuples

-- from the third part on
tuple_rest : (es : List Item) → Listed n.tuple_rest_part (row (each (λ e. row (comma ∷ e.text ∷ [])) (written_of es) ∷ closes ∷ [])) (exprs_of es) (deepest_of es) (heads_of es)
unfolding language_rules
tuple_rest [] = record {
  moves = λ r. Expand n.tuple_rest_part 1 ∷ Shift ∷ r;
  row = symbol 13;
  last = λ k. token (kind.Symbol 13);
  name = λ l. l;
  reads = λ us. refl;
  goes = λ r ss us before xss k s. ap (λ z. made language_rules files r ss (tokens us) (collected z xss (token (kind.Symbol 13)) s)) (sym (append-nil before));
  nests = λ r. leads_no_more (ended r);
  names = λ r us l a v. refl;
  apart = λ law us p. symbol_apart 13 us (omega arith) (omega arith) p;
}
tuple_rest (e ∷ es) =
    let first = whole e in
    let more = tuple_rest es in
    let after : List Move → List Move = λ r. Act n.add_expr_mark ∷ more.moves r in
    record {
      moves = λ r. Expand n.tuple_rest_part 0 ∷ Shift ∷ first.moves (after r);
      row = λ us. symbol 14 (first.row (more.row us));
      last = λ k. more.last first.last;
      name = λ l. more.name (first.name l);
      reads = λ us. ap (λ z. comma (e.written.text z)) (more.reads us) ∙ ap comma (first.reads (more.row us));
      goes = λ r ss us before xss k s.
          first.goes (after r) (Action n.add_expr_mark ∷ Nonterminal n.tuple_rest_part ∷ ss) (more.row us) (collected before xss (token (kind.Symbol 14)) s)
          ∙ more.goes r ss us (before ++ e.expr ∷ []) xss first.last s
          ∙ ap (λ z. made language_rules files r ss (tokens us) (collected z xss (more.last first.last) s)) (append_assoc before (e.expr ∷ []) (exprs_of es));
      nests = λ r. leads_both (ended (first.moves (after r))) (ended (more.moves r)) (ended r) e.depth (deepest_of es) (first.nests (after r)) (more.nests r);
      names = λ r us. calms_both (named (first.moves (after r)) (first.row (more.row us))) (named (more.moves r) (more.row us)) (named r us) first.name more.name e.heads (heads_of es) (first.names (after r) (more.row us)) (more.names r us);
      apart = λ law us p. symbol_apart 14 (first.row (more.row us)) (omega arith) (omega arith) (first.apart law (more.row us) (more.apart law us p));
    }

pub tuple_opened : (a b : Item) (es : List Item) → Opened 8 (arguments (written_of (a ∷ b ∷ es))) (expression 0 (roll-Form (Form-F.Tuple (exprs_of (a ∷ b ∷ es))))) (deepest_of (a ∷ b ∷ es) + 1) (heads_of (a ∷ b ∷ es))
unfolding language_rules
tuple_opened a b es =
    let x = whole a in
    let y = whole b in
    let more = tuple_rest es in
    let after : List Move → List Move = λ r. Act n.tuple_mark ∷ Act n.leave_mark ∷ r in
    let second : List Move → List Move = λ r. Act n.add_expr_mark ∷ more.moves (after r) in
    let first : List Move → List Move = λ r. Expand n.parentheses_rest_part 1 ∷ Shift ∷ Act n.exprs_mark ∷ Act n.add_first_mark ∷ y.moves (second r) in
    record {
      moves = λ r. Expand n.operand_part 12 ∷ Act n.enter_mark ∷ Shift ∷ Act n.keep_mark ∷ x.moves (first r);
      row = λ us. symbol 12 (x.row (symbol 14 (y.row (more.row us))));
      last = more.last y.last;
      name = λ l. more.name (y.name (x.name l));
      reads = λ us.
          ap (λ t. says (codes "(") (a.written.text (comma (b.written.text t)))) (more.reads us)
          ∙ ap (λ t. says (codes "(") (a.written.text (comma t))) (y.reads (more.row us))
          ∙ ap (λ t. says (codes "(") t) (x.reads (symbol 14 (y.row (more.row us))));
      goes = λ r ss us s.
          let end = Action n.tuple_mark ∷ Action n.leave_mark ∷ ss in
          let s0 = keeps (token (kind.Symbol 12)) s in
          x.goes (first r) (Nonterminal n.parentheses_rest_part ∷ Action n.leave_mark ∷ ss) (symbol 14 (y.row (more.row us))) s0
          ∙ y.goes (second r) (Action n.add_expr_mark ∷ Nonterminal n.tuple_rest_part ∷ end) (more.row us) (collected (a.expr ∷ []) s.state.operands.lists (token (kind.Symbol 14)) s0)
          ∙ more.goes (after r) end us (a.expr ∷ b.expr ∷ []) s.state.operands.lists y.last s0;
      nests = λ r.
          in_call (ended (x.moves (first r))) (ended r) (deepest_of (a ∷ b ∷ es))
          (leads_both (ended (x.moves (first r))) (ended (y.moves (second r))) (ended (after r)) a.depth (deepest_of (b ∷ es)) (x.nests (first r))
          (leads_both (ended (y.moves (second r))) (ended (more.moves (after r))) (ended (after r)) b.depth (deepest_of es) (y.nests (second r)) (more.nests (after r))));
      names = λ r us.
          let two = named (y.moves (second r)) (y.row (more.row us)) in
          calms_both (named (x.moves (first r)) (x.row (symbol 14 (y.row (more.row us))))) two (named r us) x.name (λ l. more.name (y.name l)) a.heads (heads_of (b ∷ es)) (x.names (first r) (symbol 14 (y.row (more.row us))))
          (calms_both two (named (more.moves (after r)) (more.row us)) (named r us) y.name more.name b.heads (heads_of es) (y.names (second r) (more.row us)) (more.names (after r) us));
      apart = λ law us p. symbol_apart 12 (x.row (symbol 14 (y.row (more.row us)))) (omega arith) (omega arith) (x.apart law (symbol 14 (y.row (more.row us))) (symbol_apart 14 (y.row (more.row us)) (omega arith) (omega arith) (y.apart law (more.row us) (more.apart law us p))));
    }
