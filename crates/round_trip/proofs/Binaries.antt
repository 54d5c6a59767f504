-- Operators between two operands.
use Rattle.std.proofs.Common.{◌≡◌, ◌∙◌, ap, refl, ℕ, ◌+◌, ◌≤◌, max, List, [], ◌∷◌, ◌++◌, Option, codes, arith}
use Rattle.ll_grammar.specs.declared.form.Move.{Move}
use Rattle.ll_grammar.specs.declared.form.Move.TheVariants.{Shift, Expand, Act}
use Rattle.ll_grammar.specs.declared.form.Symbol.{Symbol}
use Rattle.ll_grammar.specs.declared.form.Symbol.TheVariants.{Nonterminal, Action}
use Rattle.res_ast.specs.declared.expression.BinOp.{BinOp}
use Rattle.res_ast.specs.declared.expression.BinOp.TheVariants as op
use Rattle.res_ast.specs.declared.expression.Expr.{Expr}
use Rattle.res_ast.specs.declared.expression.Form.TheOpen.{Form-F}
use Rattle.res_ast.specs.declared.expression.Form.TheViews.{roll-Form}
use Rattle.res_lexer.specs.declared.token.Token.{Token}
use Rattle.res_lexer.specs.declared.token.TokenKind.{TokenKind}
use Rattle.res_lexer.specs.declared.token.TokenKind.TheVariants as kind
use Rattle.identifiers.specs.Laws.{PlainAreAscii}
use Rattle.res_lexer.specs.Spaced.{IsWritable, Row, spaced}
use Rattle.res_grammar.specs.Classes.{class_of_word}
use Rattle.res_grammar.specs.Language.{language_rules}
use Rattle.res_grammar.specs.Nesting.{finished, operands_met, operator_met}
use Rattle.res_grammar.specs.Numbers as n
use Rattle.res_grammar.specs.declared.nesting.Nesting.{Nesting}
use Rattle.expr_parser.specs.Actions.{expression}
use Rattle.res_printer.specs.Pieces.{Piece, row, says}
use Rattle.res_printer.specs.Expressions.{Written, at_level, operator}
use Rattle.round_trip.proofs.Calm.{Around, Leads, LeadsAt, at_rest, avoids_left, avoids_right, calm, ended, in_expression, in_operator, leads_as, named}
use Rattle.round_trip.proofs.Goes.{At, Closed, Derived, Goes, Opened, part_at, reached, tail}
use Rattle.round_trip.specs.ReadsBack.{token, tokens}
use Rattle.round_trip.proofs.Operands.{closed_at, deep_at, keeps, opened_at}
use Rattle.round_trip.proofs.Words.{plain_writable}

abbrev pub binary_expr : BinOp → Expr → Expr → Expr
binary_expr o x y = expression 0 (roll-Form (Form-F.Binary o x y))

-- How an operator stands in the grammar: the moves before its left operand, between the two and behind the right one.
pub record Stands (o : BinOp) : Type 0 where
  pub kind : TokenKind
  pub left : List Symbol → List Symbol
  pub before : List Move → List Move
  pub between : List Move → List Move
  pub behind : List Move → List Move
  pub below : List Symbol → List Symbol
  pub rest : List Symbol → List Symbol
  pub low : (operator o).level ≤ 8
  pub low_right : (operator o).right ≤ 8
  pub takes : (w : Written) (x : Expr) (d : ℕ) (heads : List (List ℕ)) → w.level ≤ 8 → Opened w.level w.text x d heads → Derived (operator o).left left (at_level (operator o).left w) x (deep_at (operator o).left w d) heads
  pub reads : (us : Row) → says (operator o).token (spaced us) ≡ spaced ((kind, 32 ∷ []) ∷ us)
  pub begin : (r : List Move) (ss : List Symbol) (us : List Token) (s : At) → Goes (before r) r (Nonterminal (part_at (operator o).level) ∷ ss) (Nonterminal (part_at (operator o).left) ∷ below ss) us us s s
  pub step : (r : List Move) (ss : List Symbol) (us : List Token) (s : At) → Goes (between r) r (left (below ss)) (Nonterminal (part_at (operator o).right) ∷ rest ss) (token kind ∷ us) us s (keeps (token kind) s)
  pub finish : (r : List Move) (ss : List Symbol) (us : List Token) (x y : Expr) (j k : Token) (s : At) → Goes (behind r) r (rest ss) (tail (operator o).level ss) us us (reached y k (keeps (token kind) (reached x j s))) (reached (binary_expr o x y) k s)
  pub leads : (mx my : List Move → List Move) (d e : ℕ) (r : List Move) → ((q : List Move) → LeadsAt (operator o).left (ended (mx q)) (ended q) d) → ((q : List Move) → LeadsAt (operator o).right (ended (my q)) (ended q) e) → LeadsAt (operator o).level (ended (before (mx (between (my (behind r)))))) (ended r) (max d e + 1)
  pub begins : (r : List Move) (us : Row) (l : Option (List ℕ)) (a : Around) → named (before r) us (calm l a) ≡ named r us (calm l a)
  pub meets : (r : List Move) (us : Row) (l : Option (List ℕ)) (a : Around) → named (between r) ((kind, 32 ∷ []) ∷ us) (calm l a) ≡ named r us (calm l a)
  pub ends : (r : List Move) (us : Row) (l : Option (List ℕ)) (a : Around) → named (behind r) us (calm l a) ≡ named r us (calm l a)
  pub writable : PlainAreAscii → IsWritable kind

pub binary_derived : {x y : Expr} {d e : ℕ} {xs ys : List (List ℕ)} (o : BinOp) (h : Stands o) (X Y : Piece) → Derived (operator o).left h.left X x d xs → Closed (operator o).right Y y e ys → Opened (operator o).level (row (X ∷ says (operator o).token ∷ Y ∷ [])) (binary_expr o x y) (max d e + 1) (xs ++ ys)
binary_derived {x} {y} {d} {e} {xs} {ys} o h X Y hx hy = record {
  moves = λ r. h.before (hx.moves (h.between (hy.moves (h.behind r))));
  row = λ us. hx.row ((h.kind, 32 ∷ []) ∷ hy.row us);
  last = hy.last;
  name = λ l. hy.name (hx.name l);
  reads = λ us.
      ap (λ z. X (says (operator o).token z)) (hy.reads us)
      ∙ ap X (h.reads (hy.row us))
      ∙ hx.reads ((h.kind, 32 ∷ []) ∷ hy.row us);
  goes = λ r ss us s.
      h.begin (hx.moves (h.between (hy.moves (h.behind r)))) ss (tokens (hx.row ((h.kind, 32 ∷ []) ∷ hy.row us))) s
      ∙ hx.goes (h.between (hy.moves (h.behind r))) (h.below ss) ((h.kind, 32 ∷ []) ∷ hy.row us) s
      ∙ h.step (hy.moves (h.behind r)) ss (tokens (hy.row us)) (reached x hx.last s)
      ∙ hy.goes (h.behind r) (h.rest ss) us (keeps (token h.kind) (reached x hx.last s))
      ∙ h.finish r ss (tokens us) x y hx.last hy.last s;
  nests = λ r. h.leads hx.moves hy.moves d e r hx.nests hy.nests;
  names = λ r us l a v.
      h.begins (hx.moves (h.between (hy.moves (h.behind r)))) (hx.row ((h.kind, 32 ∷ []) ∷ hy.row us)) l a
      ∙ hx.names (h.between (hy.moves (h.behind r))) ((h.kind, 32 ∷ []) ∷ hy.row us) l a (avoids_left a xs ys v)
      ∙ h.meets (hy.moves (h.behind r)) (hy.row us) (hx.name l) a
      ∙ hy.names (h.behind r) us (hx.name l) a (avoids_right a xs ys v)
      ∙ h.ends r us (hy.name (hx.name l)) a;
  apart = λ law us p. hx.apart law ((h.kind, 32 ∷ []) ∷ hy.row us) (h.writable law, refl, λ i. absurd (let f : 32 ∷ [] ≡ [] = i in cc), hy.apart law us p);
}

-- Operators that count between their operands and behind them alone.
operator_leads : (mx my between behind : List Move → List Move) (d e : ℕ) (r : List Move) → ((q : List Move) (s : Nesting) → ended (between q) s ≡ ended q (operator_met s)) → ((s : Nesting) → ended (behind r) s ≡ ended r (operands_met s)) → ((q : List Move) → Leads (ended (mx q)) (ended q) d) → ((q : List Move) → Leads (ended (my q)) (ended q) e) → Leads (ended (mx (between (my (behind r))))) (ended r) (max d e + 1)
operator_leads mx my between behind d e r f g p q =
    in_operator (ended (mx (between (my (behind r))))) (ended (my (behind r))) (ended r) d e
    (leads_as 1 (ended (mx (between (my (behind r))))) (ended (between (my (behind r)))) (λ s. ended (my (behind r)) (operator_met s)) d (f (my (behind r))) (p (between (my (behind r)))))
    (leads_as 1 (ended (my (behind r))) (ended (behind r)) (λ s. ended r (operands_met s)) e g (q (behind r)))

-- operators that group to the left
abbrev grouped : ℕ → ℕ → List Move → List Move
grouped part way r = Expand part way ∷ Act n.operator_mark ∷ Shift ∷ Act n.keep_mark ∷ r

abbrev done : ℕ → List Move → List Move
done mark r = Act mark ∷ Act n.operated_mark ∷ r

abbrev after : ℕ → ℕ → List Symbol → List Symbol
after mark part ss = Action mark ∷ Action n.operated_mark ∷ Nonterminal part ∷ ss

abbrev ending : ℕ → List Symbol → List Symbol
ending mark ss = Action mark ∷ Action n.operated_mark ∷ ss

or_stands : Stands op.Or
unfolding language_rules class_of_word
or_stands = record {
  kind = kind.Word (codes "or");
  left = tail 1;
  before = λ r. r;
  between = grouped n.or_rest_part 0;
  behind = done n.or_mark;
  below = λ ss. ss;
  rest = after n.or_mark n.or_rest_part;
  low = omega arith;
  low_right = omega arith;
  takes = λ w x d heads l h. opened_at 1 w (omega arith) l h;
  reads = λ us. refl;
  begin = λ r ss us s. refl;
  step = λ r ss us s. refl;
  finish = λ r ss us x y j k s. refl;
  leads = λ mx my d e r p q. operator_leads mx my (grouped n.or_rest_part 0) (done n.or_mark) d e r (λ z s. refl) (λ s. refl) p q;
  begins = λ r us l a. refl;
  meets = λ r us l a. refl;
  ends = λ r us l a. refl;
  writable = λ law. plain_writable law (codes "or") refl;
}

and_stands : Stands op.And
unfolding language_rules class_of_word
and_stands = record {
  kind = kind.Word (codes "and");
  left = tail 2;
  before = λ r. r;
  between = grouped n.and_rest_part 0;
  behind = done n.and_mark;
  below = λ ss. ss;
  rest = after n.and_mark n.and_rest_part;
  low = omega arith;
  low_right = omega arith;
  takes = λ w x d heads l h. opened_at 2 w (omega arith) l h;
  reads = λ us. refl;
  begin = λ r ss us s. refl;
  step = λ r ss us s. refl;
  finish = λ r ss us x y j k s. refl;
  leads = λ mx my d e r p q. operator_leads mx my (grouped n.and_rest_part 0) (done n.and_mark) d e r (λ z s. refl) (λ s. refl) p q;
  begins = λ r us l a. refl;
  meets = λ r us l a. refl;
  ends = λ r us l a. refl;
  writable = λ law. plain_writable law (codes "and") refl;
}

cat_stands : Stands op.Cat
unfolding language_rules class_of_word
cat_stands = record {
  kind = kind.Word (codes "o");
  left = tail 4;
  before = λ r. r;
  between = grouped n.concatenation_rest_part 0;
  behind = done n.cat_mark;
  below = λ ss. ss;
  rest = after n.cat_mark n.concatenation_rest_part;
  low = omega arith;
  low_right = omega arith;
  takes = λ w x d heads l h. opened_at 4 w (omega arith) l h;
  reads = λ us. refl;
  begin = λ r ss us s. refl;
  step = λ r ss us s. refl;
  finish = λ r ss us x y j k s. refl;
  leads = λ mx my d e r p q. operator_leads mx my (grouped n.concatenation_rest_part 0) (done n.cat_mark) d e r (λ z s. refl) (λ s. refl) p q;
  begins = λ r us l a. refl;
  meets = λ r us l a. refl;
  ends = λ r us l a. refl;
  writable = λ law. plain_writable law (codes "o") refl;
}

add_stands : Stands op.Add
unfolding language_rules class_of_word
add_stands = record {
  kind = kind.Symbol 9;
  left = tail 5;
  before = λ r. r;
  between = grouped n.sum_rest_part 0;
  behind = done n.add_mark;
  below = λ ss. ss;
  rest = after n.add_mark n.sum_rest_part;
  low = omega arith;
  low_right = omega arith;
  takes = λ w x d heads l h. opened_at 5 w (omega arith) l h;
  reads = λ us. refl;
  begin = λ r ss us s. refl;
  step = λ r ss us s. refl;
  finish = λ r ss us x y j k s. refl;
  leads = λ mx my d e r p q. operator_leads mx my (grouped n.sum_rest_part 0) (done n.add_mark) d e r (λ z s. refl) (λ s. refl) p q;
  begins = λ r us l a. refl;
  meets = λ r us l a. refl;
  ends = λ r us l a. refl;
  writable = λ law. (omega arith, omega arith);
}

sub_stands : Stands op.Sub
unfolding language_rules class_of_word
sub_stands = record {
  kind = kind.Symbol 10;
  left = tail 5;
  before = λ r. r;
  between = grouped n.sum_rest_part 1;
  behind = done n.sub_mark;
  below = λ ss. ss;
  rest = after n.sub_mark n.sum_rest_part;
  low = omega arith;
  low_right = omega arith;
  takes = λ w x d heads l h. opened_at 5 w (omega arith) l h;
  reads = λ us. refl;
  begin = λ r ss us s. refl;
  step = λ r ss us s. refl;
  finish = λ r ss us x y j k s. refl;
  leads = λ mx my d e r p q. operator_leads mx my (grouped n.sum_rest_part 1) (done n.sub_mark) d e r (λ z s. refl) (λ s. refl) p q;
  begins = λ r us l a. refl;
  meets = λ r us l a. refl;
  ends = λ r us l a. refl;
  writable = λ law. (omega arith, omega arith);
}

mul_stands : Stands op.Mul
unfolding language_rules class_of_word
mul_stands = record {
  kind = kind.Symbol 11;
  left = tail 6;
  before = λ r. r;
  between = grouped n.product_rest_part 0;
  behind = done n.mul_mark;
  below = λ ss. ss;
  rest = after n.mul_mark n.product_rest_part;
  low = omega arith;
  low_right = omega arith;
  takes = λ w x d heads l h. opened_at 6 w (omega arith) l h;
  reads = λ us. refl;
  begin = λ r ss us s. refl;
  step = λ r ss us s. refl;
  finish = λ r ss us x y j k s. refl;
  leads = λ mx my d e r p q. operator_leads mx my (grouped n.product_rest_part 0) (done n.mul_mark) d e r (λ z s. refl) (λ s. refl) p q;
  begins = λ r us l a. refl;
  meets = λ r us l a. refl;
  ends = λ r us l a. refl;
  writable = λ law. (omega arith, omega arith);
}

div_stands : Stands op.Div
unfolding language_rules class_of_word
div_stands = record {
  kind = kind.Word (codes "div");
  left = tail 6;
  before = λ r. r;
  between = grouped n.product_rest_part 1;
  behind = done n.div_mark;
  below = λ ss. ss;
  rest = after n.div_mark n.product_rest_part;
  low = omega arith;
  low_right = omega arith;
  takes = λ w x d heads l h. opened_at 6 w (omega arith) l h;
  reads = λ us. refl;
  begin = λ r ss us s. refl;
  step = λ r ss us s. refl;
  finish = λ r ss us x y j k s. refl;
  leads = λ mx my d e r p q. operator_leads mx my (grouped n.product_rest_part 1) (done n.div_mark) d e r (λ z s. refl) (λ s. refl) p q;
  begins = λ r us l a. refl;
  meets = λ r us l a. refl;
  ends = λ r us l a. refl;
  writable = λ law. plain_writable law (codes "div") refl;
}

mod_stands : Stands op.Mod
unfolding language_rules class_of_word
mod_stands = record {
  kind = kind.Word (codes "mod");
  left = tail 6;
  before = λ r. r;
  between = grouped n.product_rest_part 2;
  behind = done n.mod_mark;
  below = λ ss. ss;
  rest = after n.mod_mark n.product_rest_part;
  low = omega arith;
  low_right = omega arith;
  takes = λ w x d heads l h. opened_at 6 w (omega arith) l h;
  reads = λ us. refl;
  begin = λ r ss us s. refl;
  step = λ r ss us s. refl;
  finish = λ r ss us x y j k s. refl;
  leads = λ mx my d e r p q. operator_leads mx my (grouped n.product_rest_part 2) (done n.mod_mark) d e r (λ z s. refl) (λ s. refl) p q;
  begins = λ r us l a. refl;
  meets = λ r us l a. refl;
  ends = λ r us l a. refl;
  writable = λ law. plain_writable law (codes "mod") refl;
}

equal_stands : Stands op.Eq
unfolding language_rules class_of_word
equal_stands = record {
  kind = kind.Symbol 8;
  left = λ ss. ss;
  before = λ r. Expand n.not_part 1 ∷ r;
  between = grouped n.compare_rest_part 0;
  behind = done n.equal_mark;
  below = λ ss. Nonterminal n.compare_rest_part ∷ ss;
  rest = ending n.equal_mark;
  low = omega arith;
  low_right = omega arith;
  takes = λ w x d heads l h. closed_at 4 w (omega arith) l h;
  reads = λ us. refl;
  begin = λ r ss us s. refl;
  step = λ r ss us s. refl;
  finish = λ r ss us x y j k s. refl;
  leads = λ mx my d e r p q. operator_leads mx my (grouped n.compare_rest_part 0) (done n.equal_mark) d e r (λ z s. refl) (λ s. refl) p q;
  begins = λ r us l a. refl;
  meets = λ r us l a. refl;
  ends = λ r us l a. refl;
  writable = λ law. (omega arith, omega arith);
}

not_equal_stands : Stands op.NotEq
unfolding language_rules class_of_word
not_equal_stands = record {
  kind = kind.Symbol 5;
  left = λ ss. ss;
  before = λ r. Expand n.not_part 1 ∷ r;
  between = grouped n.compare_rest_part 1;
  behind = done n.not_equal_mark;
  below = λ ss. Nonterminal n.compare_rest_part ∷ ss;
  rest = ending n.not_equal_mark;
  low = omega arith;
  low_right = omega arith;
  takes = λ w x d heads l h. closed_at 4 w (omega arith) l h;
  reads = λ us. refl;
  begin = λ r ss us s. refl;
  step = λ r ss us s. refl;
  finish = λ r ss us x y j k s. refl;
  leads = λ mx my d e r p q. operator_leads mx my (grouped n.compare_rest_part 1) (done n.not_equal_mark) d e r (λ z s. refl) (λ s. refl) p q;
  begins = λ r us l a. refl;
  meets = λ r us l a. refl;
  ends = λ r us l a. refl;
  writable = λ law. (omega arith, omega arith);
}

less_stands : Stands op.Less
unfolding language_rules class_of_word
less_stands = record {
  kind = kind.Symbol 6;
  left = λ ss. ss;
  before = λ r. Expand n.not_part 1 ∷ r;
  between = grouped n.compare_rest_part 2;
  behind = done n.less_mark;
  below = λ ss. Nonterminal n.compare_rest_part ∷ ss;
  rest = ending n.less_mark;
  low = omega arith;
  low_right = omega arith;
  takes = λ w x d heads l h. closed_at 4 w (omega arith) l h;
  reads = λ us. refl;
  begin = λ r ss us s. refl;
  step = λ r ss us s. refl;
  finish = λ r ss us x y j k s. refl;
  leads = λ mx my d e r p q. operator_leads mx my (grouped n.compare_rest_part 2) (done n.less_mark) d e r (λ z s. refl) (λ s. refl) p q;
  begins = λ r us l a. refl;
  meets = λ r us l a. refl;
  ends = λ r us l a. refl;
  writable = λ law. (omega arith, omega arith);
}

less_equal_stands : Stands op.LessEq
unfolding language_rules class_of_word
less_equal_stands = record {
  kind = kind.Symbol 3;
  left = λ ss. ss;
  before = λ r. Expand n.not_part 1 ∷ r;
  between = grouped n.compare_rest_part 3;
  behind = done n.less_equal_mark;
  below = λ ss. Nonterminal n.compare_rest_part ∷ ss;
  rest = ending n.less_equal_mark;
  low = omega arith;
  low_right = omega arith;
  takes = λ w x d heads l h. closed_at 4 w (omega arith) l h;
  reads = λ us. refl;
  begin = λ r ss us s. refl;
  step = λ r ss us s. refl;
  finish = λ r ss us x y j k s. refl;
  leads = λ mx my d e r p q. operator_leads mx my (grouped n.compare_rest_part 3) (done n.less_equal_mark) d e r (λ z s. refl) (λ s. refl) p q;
  begins = λ r us l a. refl;
  meets = λ r us l a. refl;
  ends = λ r us l a. refl;
  writable = λ law. (omega arith, omega arith);
}

greater_stands : Stands op.Greater
unfolding language_rules class_of_word
greater_stands = record {
  kind = kind.Symbol 7;
  left = λ ss. ss;
  before = λ r. Expand n.not_part 1 ∷ r;
  between = grouped n.compare_rest_part 4;
  behind = done n.greater_mark;
  below = λ ss. Nonterminal n.compare_rest_part ∷ ss;
  rest = ending n.greater_mark;
  low = omega arith;
  low_right = omega arith;
  takes = λ w x d heads l h. closed_at 4 w (omega arith) l h;
  reads = λ us. refl;
  begin = λ r ss us s. refl;
  step = λ r ss us s. refl;
  finish = λ r ss us x y j k s. refl;
  leads = λ mx my d e r p q. operator_leads mx my (grouped n.compare_rest_part 4) (done n.greater_mark) d e r (λ z s. refl) (λ s. refl) p q;
  begins = λ r us l a. refl;
  meets = λ r us l a. refl;
  ends = λ r us l a. refl;
  writable = λ law. (omega arith, omega arith);
}

greater_equal_stands : Stands op.GreaterEq
unfolding language_rules class_of_word
greater_equal_stands = record {
  kind = kind.Symbol 4;
  left = λ ss. ss;
  before = λ r. Expand n.not_part 1 ∷ r;
  between = grouped n.compare_rest_part 5;
  behind = done n.greater_equal_mark;
  below = λ ss. Nonterminal n.compare_rest_part ∷ ss;
  rest = ending n.greater_equal_mark;
  low = omega arith;
  low_right = omega arith;
  takes = λ w x d heads l h. closed_at 4 w (omega arith) l h;
  reads = λ us. refl;
  begin = λ r ss us s. refl;
  step = λ r ss us s. refl;
  finish = λ r ss us x y j k s. refl;
  leads = λ mx my d e r p q. operator_leads mx my (grouped n.compare_rest_part 5) (done n.greater_equal_mark) d e r (λ z s. refl) (λ s. refl) p q;
  begins = λ r us l a. refl;
  meets = λ r us l a. refl;
  ends = λ r us l a. refl;
  writable = λ law. (omega arith, omega arith);
}

implies_stands : Stands op.Implies
unfolding language_rules class_of_word
implies_stands = record {
  kind = kind.Word (codes "implies");
  left = λ ss. ss;
  before = λ r. Expand n.expression_part 0 ∷ Act n.begin_mark ∷ r;
  between = grouped n.implies_rest_part 0;
  behind = λ r. Act n.implies_mark ∷ Act n.operated_mark ∷ Act n.finish_mark ∷ r;
  below = λ ss. Nonterminal n.implies_rest_part ∷ Action n.finish_mark ∷ ss;
  rest = λ ss. Action n.implies_mark ∷ Action n.operated_mark ∷ Action n.finish_mark ∷ ss;
  low = omega arith;
  low_right = omega arith;
  takes = λ w x d heads l h. closed_at 1 w (omega arith) l h;
  reads = λ us. refl;
  begin = λ r ss us s. refl;
  step = λ r ss us s. refl;
  finish = λ r ss us x y j k s. refl;
  leads = λ mx my d e r p q.
      let behind : List Move → List Move = λ z. Act n.implies_mark ∷ Act n.operated_mark ∷ Act n.finish_mark ∷ z in
      let second = my (behind r) in
      let first = mx (grouped n.implies_rest_part 0 second) in
      in_expression (ended first) (ended r) (max d e + 1) (in_operator (ended first) (ended second) (λ s. ended r (finished s)) d e (p (grouped n.implies_rest_part 0 second)) (at_rest 0 (ended second) (ended (behind r)) e (q (behind r))));
  begins = λ r us l a. refl;
  meets = λ r us l a. refl;
  ends = λ r us l a. refl;
  writable = λ law. plain_writable law (codes "implies") refl;
}

pub operator_stands : (o : BinOp) → Stands o
operator_stands op.Implies = implies_stands
operator_stands op.Or = or_stands
operator_stands op.And = and_stands
operator_stands op.Eq = equal_stands
operator_stands op.NotEq = not_equal_stands
operator_stands op.Less = less_stands
operator_stands op.LessEq = less_equal_stands
operator_stands op.Greater = greater_stands
operator_stands op.GreaterEq = greater_equal_stands
operator_stands op.Cat = cat_stands
operator_stands op.Add = add_stands
operator_stands op.Sub = sub_stands
operator_stands op.Mul = mul_stands
operator_stands op.Div = div_stands
operator_stands op.Mod = mod_stands
