-- Minus signs, literals and names.
use Rattle.std.proofs.Common.{◌≡◌, ap, refl, ℕ, suc, ◌+◌, ◌≤◌, pos, negsuc, Bool, true, false, ◌==◌, if◌then◌else◌, List, [], ◌∷◌, Option, Some, None, codes, decimal, arith}
use Rattle.ll_grammar.specs.declared.form.Move.{Move}
use Rattle.ll_grammar.specs.declared.form.Move.TheVariants.{Shift, Expand, Act}
use Rattle.ll_grammar.specs.declared.form.Symbol.{Symbol}
use Rattle.ll_grammar.specs.declared.form.Symbol.TheVariants.{Terminal, Nonterminal, Action}
use Rattle.ll_grammar.specs.Grammar.{made}
use Rattle.res_ast.specs.declared.expression.Expr.{Expr}
use Rattle.res_ast.specs.declared.expression.Form.TheOpen.{Form-F}
use Rattle.res_ast.specs.declared.expression.Form.TheViews.{roll-Form}
use Rattle.res_lexer.specs.declared.token.Token.{Token}
use Rattle.res_lexer.specs.declared.token.TokenKind.TheVariants as kind
use Rattle.res_lexer.specs.Pieces.{greatest_literal}
use Rattle.identifiers.specs.Laws.{PlainAreAscii}
use Rattle.res_lexer.specs.Spaced.{AreApart, IsWritable, Row, spaced}
use Rattle.res_grammar.specs.Classes.{class_of_word}
use Rattle.res_grammar.specs.Language.{language_rules}
use Rattle.res_grammar.specs.Numbers as n
use Rattle.expr_parser.specs.Actions.{expression}
use Rattle.module_parser.specs.Spelling.{files}
use Rattle.res_printer.specs.Pieces.{Piece, row, says}
use Rattle.res_printer.specs.Expressions.{Written, at_level, minus}
use Rattle.round_trip.proofs.Calm.{Calms, Leads, ended, head_named, in_node, leads_nowhere, named}
use Rattle.round_trip.proofs.Goes.{At, Goes, Opened, reached}
use Rattle.round_trip.specs.ReadsBack.{token, tokens}
use Rattle.round_trip.proofs.Operands.{closed_at, deep_at, keeps, symbol_apart, takes, word, word_apart}

-- ---- minus signs

-- The text begins with a minus sign; the rest is derived after it.
pub record Signed (text : Piece) (x : Expr) (d : ℕ) (heads : List (List ℕ)) : Type 0 where
  pub blanks : List ℕ
  pub moves : List Move → List Move
  pub row : Row → Row
  pub last : Token
  pub name : Option (List ℕ) → Option (List ℕ)
  pub reads : (us : Row) → text (spaced us) ≡ spaced ((kind.Symbol 10, blanks) ∷ row us)
  pub goes : (r : List Move) (ss : List Symbol) (us : Row) (s : At) → Goes (moves r) r (Nonterminal n.after_minus_part ∷ ss) ss (tokens (row us)) (tokens us) (keeps (token (kind.Symbol 10)) s) (reached x last s)
  pub nests : (r : List Move) → Leads (ended (moves r)) (ended r) d
  pub names : (r : List Move) (us : Row) → Calms (named (moves r) (row us)) (named r us) name heads
  pub apart : PlainAreAscii → (us : Row) → AreApart us → AreApart ((kind.Symbol 10, blanks) ∷ row us)

pub signed_opened : {text : Piece} {x : Expr} {d : ℕ} {heads : List (List ℕ)} → Signed text x d heads → Opened 7 text x d heads
unfolding language_rules
signed_opened h = record {
  moves = λ r. Expand n.unary_part 0 ∷ Shift ∷ Act n.keep_mark ∷ h.moves r;
  row = λ us. (kind.Symbol 10, h.blanks) ∷ h.row us;
  last = h.last;
  name = h.name;
  reads = h.reads;
  goes = h.goes;
  nests = h.nests;
  names = h.names;
  apart = h.apart;
}

-- An expression is derived from its text, from the part after a minus sign too if it begins with one.
pub record Spelled (w : Written) (x : Expr) (d : ℕ) (heads : List (List ℕ)) : Type 0 where
  pub low : w.level ≤ 8
  pub opened : Opened w.level w.text x d heads
  pub signed : w.negative ≡ true → Signed w.text x d heads

abbrev pub minus_expr : Expr → Expr
minus_expr x = expression 0 (roll-Form (Form-F.Minus x))

minus_signed : {x : Expr} {d : ℕ} {heads : List (List ℕ)} (w : Written) → Spelled w x d heads → (b : Bool) → w.negative ≡ b → Signed (row (says (codes "-") ∷ (if b then w.text else at_level 8 w) ∷ [])) (minus_expr x) ((if b then d else deep_at 8 w d) + 1) heads
unfolding language_rules
minus_signed {x} {d} {heads} w h true i =
    let inner = h.signed i in
    let after : List Move → List Move = λ r. Act n.minus_mark ∷ Act n.leave_mark ∷ r in
    record {
      blanks = 32 ∷ [];
      moves = λ r. Expand n.after_minus_part 0 ∷ Act n.enter_mark ∷ Shift ∷ Act n.keep_mark ∷ inner.moves (after r);
      row = λ us. (kind.Symbol 10, inner.blanks) ∷ inner.row us;
      last = inner.last;
      name = inner.name;
      reads = λ us. ap (λ z. says (codes "-") z) (inner.reads us);
      goes = λ r ss us s. inner.goes (after r) (Action n.minus_mark ∷ Action n.leave_mark ∷ ss) us (keeps (token (kind.Symbol 10)) s);
      nests = λ r. in_node (ended (inner.moves (after r))) (ended r) d (inner.nests (after r));
      names = λ r us. inner.names (after r) us;
      apart = λ law us p. symbol_apart 10 ((kind.Symbol 10, inner.blanks) ∷ inner.row us) (omega arith) (omega arith) (inner.apart law us p);
    }
minus_signed {x} {d} {heads} w h false i =
    let inner = closed_at 8 w (omega arith) h.low h.opened in
    let after : List Move → List Move = λ r. Act n.minus_mark ∷ Act n.leave_mark ∷ r in
    record {
      blanks = 32 ∷ [];
      moves = λ r. Expand n.after_minus_part 2 ∷ Act n.enter_mark ∷ inner.moves (after r);
      row = inner.row;
      last = inner.last;
      name = inner.name;
      reads = λ us. ap (λ z. says (codes "-") z) (inner.reads us);
      goes = λ r ss us s. inner.goes (after r) (Action n.minus_mark ∷ Action n.leave_mark ∷ ss) us (keeps (token (kind.Symbol 10)) s);
      nests = λ r. in_node (ended (inner.moves (after r))) (ended r) (deep_at 8 w d) (inner.nests (after r));
      names = λ r us. inner.names (after r) us;
      apart = λ law us p. symbol_apart 10 (inner.row us) (omega arith) (omega arith) (inner.apart law us p);
    }

-- how deep a minus sign leads before this expression
abbrev pub below_minus : Written → ℕ → ℕ
below_minus w d = (if w.negative then d else deep_at 8 w d) + 1

pub minus_spelled : {x : Expr} {d : ℕ} {heads : List (List ℕ)} (w : Written) → Spelled w x d heads → Spelled (minus w) (minus_expr x) (below_minus w d) heads
minus_spelled w h =
    let m = minus_signed w h w.negative refl in
    record { low = omega arith; opened = signed_opened m; signed = λ i. m }

-- ---- literals

pub literal_opened : (k : ℕ) → k ≤ greatest_literal → Opened 7 (says (decimal k)) (expression 0 (roll-Form (Form-F.Int (pos k)))) 0 []
unfolding language_rules
literal_opened k l = record {
  moves = λ r. Expand n.unary_part 1 ∷ Shift ∷ Act n.literal_mark ∷ r;
  row = λ us. (kind.Literal (pos k), 32 ∷ []) ∷ us;
  last = token (kind.Literal (pos k));
  name = λ l. l;
  reads = λ us. refl;
  goes = λ r ss us s. refl;
  nests = λ r. leads_nowhere (ended r);
  names = λ r us l a v. refl;
  apart = λ law us p. (l, refl, λ e. absurd (let f : 32 ∷ [] ≡ [] = e in cc), p);
}

pub negative_signed : (k : ℕ) → suc k ≤ greatest_literal → Signed (says (45 ∷ decimal (suc k))) (expression 0 (roll-Form (Form-F.Int (negsuc k)))) 0 []
unfolding language_rules
negative_signed k l = record {
  blanks = [];
  moves = λ r. Expand n.after_minus_part 1 ∷ Shift ∷ Act n.minus_literal_mark ∷ r;
  row = λ us. (kind.Literal (pos (suc k)), 32 ∷ []) ∷ us;
  last = token (kind.Literal (pos (suc k)));
  name = λ l. l;
  reads = λ us. refl;
  goes = λ r ss us s. refl;
  nests = λ r. leads_nowhere (ended r);
  names = λ r us l a v. refl;
  apart = λ law us p. ((omega arith, omega arith), refl, λ e. refl, (l, refl, λ e. absurd (let f : 32 ∷ [] ≡ [] = e in cc), p));
}

-- ---- names

-- An identifier that is no word of the language, and that some text has.
pub record IsName (name : List ℕ) : Type 0 where
  pub class : class_of_word name ≡ n.id
  pub writable : IsWritable (kind.Word name)

abbrev pub name_token : List ℕ → Token
name_token name = token (kind.Word name)

pub name_goes : (name : List ℕ) → IsName name → (r : List Move) (ss : List Symbol) (us : List Token) (s : At) → Goes (Shift ∷ r) r (Terminal n.id ∷ ss) ss (name_token name ∷ us) us s (takes (name_token name) s)
name_goes name e r ss us s = ap (λ z. if n.id == z then made language_rules files r ss us (takes (name_token name) s) else None) e.class

pub word_opened : (name : List ℕ) → IsName name → Opened 8 (says name) (expression 0 (roll-Form (Form-F.Word name))) 0 (name ∷ [])
unfolding language_rules
word_opened name e =
    let after : List Move → List Move = λ r. Act n.keep_mark ∷ Expand n.operand_rest_part 2 ∷ Act n.word_mark ∷ r in
    record {
      moves = λ r. Expand n.operand_part 5 ∷ Expand n.head_name_part 0 ∷ Act n.head_mark ∷ Shift ∷ after r;
      row = word name;
      last = name_token name;
      name = λ l. Some name;
      reads = λ us. refl;
      goes = λ r ss us s. name_goes name e (after r) (Action n.keep_mark ∷ Nonterminal n.operand_rest_part ∷ ss) (tokens us) s;
      nests = λ r. leads_nowhere (ended r);
      names = λ r us l a v. head_named name (32 ∷ []) e.class (after r) us l a v.0;
      apart = λ law us p. word_apart name us e.writable p;
    }
