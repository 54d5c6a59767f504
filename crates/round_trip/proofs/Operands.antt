-- Each expression is derived from its canonical text: parentheses, levels and operators.
use Rattle.std.proofs.Common.{◌≡◌, ap, refl, ℕ, ◌+◌, ◌-◌, ◌<◌, ◌≤◌, nat_le, Bool, true, false, if◌then◌else◌, List, [], ◌∷◌, ◌++◌, codes, arith}
use Rattle.std.proofs.lemmas.Bool.{leb-true}
use Rattle.ll_grammar.specs.declared.form.Move.{Move}
use Rattle.ll_grammar.specs.declared.form.Move.TheVariants.{Shift, Expand, Act}
use Rattle.ll_grammar.specs.declared.form.Symbol.TheVariants.{Nonterminal, Action}
use Rattle.res_ast.specs.declared.expression.Expr.{Expr}
use Rattle.res_lexer.specs.declared.token.Token.{Token}
use Rattle.res_lexer.specs.declared.token.TokenKind.TheVariants as kind
use Rattle.res_lexer.specs.Spaced.{AreApart, IsWritable, Row}
use Rattle.res_grammar.specs.Language.{language_rules}
use Rattle.res_grammar.specs.Numbers as n
use Rattle.expr_parser.specs.Actions.{kept, with_word}
use Rattle.res_printer.specs.Pieces.{Piece}
use Rattle.res_printer.specs.Expressions.{Written, at_level, in_parentheses}
use Rattle.round_trip.proofs.Calm.{ended, in_argument}
use Rattle.round_trip.proofs.Goes.{At, Closed, Opened, closed, opened_below}
use Rattle.round_trip.specs.ReadsBack.{token}

-- a token with a space behind it
abbrev pub word : List ℕ → Row → Row
word name us = (kind.Word name, 32 ∷ []) ∷ us

abbrev pub symbol : ℕ → Row → Row
symbol k us = (kind.Symbol k, 32 ∷ []) ∷ us

-- a token has been taken and kept
abbrev pub keeps : Token → At → At
keeps k s = record { last = k; state = record s.state { operands = with_word (kept k) s.state.operands } }

-- a token has been taken
abbrev pub takes : Token → At → At
takes k s = record s { last = k }

-- a symbol with a space behind it is apart from what follows
pub symbol_apart : (k : ℕ) (us : Row) → 0 < k → k ≤ 19 → AreApart us → AreApart (symbol k us)
symbol_apart k us l m p = ((l, m), refl, λ e. absurd (let f : 32 ∷ [] ≡ [] = e in cc), p)

-- and so is a word that some text has
pub word_apart : (name : List ℕ) (us : Row) → IsWritable (kind.Word name) → AreApart us → AreApart (word name us)
word_apart name us w p = (w, refl, λ e. absurd (let f : 32 ∷ [] ≡ [] = e in cc), p)

-- what stands between parentheses
pub in_parentheses_apart : (row : Row → Row) (us : Row) → ((vs : Row) → AreApart vs → AreApart (row vs)) → AreApart us → AreApart (symbol 12 (row (symbol 13 us)))
in_parentheses_apart row us h p = symbol_apart 12 (row (symbol 13 us)) (omega arith) (omega arith) (h (symbol 13 us) (symbol_apart 13 us (omega arith) (omega arith) p))

parentheses_derived : {text : Piece} {x : Expr} {d : ℕ} {heads : List (List ℕ)} (k : ℕ) → k ≤ 8 → Opened k text x d heads → Opened 8 (in_parentheses text) x (d + 1) heads
unfolding language_rules
parentheses_derived {text} {x} {d} {heads} k l h =
    let inner = closed 0 (opened_below 0 k k l (omega arith) h) in
    let after : List Move → List Move = λ r. Expand n.parentheses_rest_part 0 ∷ Shift ∷ Act n.parentheses_mark ∷ Act n.leave_mark ∷ r in
    record {
      moves = λ r. Expand n.operand_part 12 ∷ Act n.enter_mark ∷ Shift ∷ Act n.keep_mark ∷ inner.moves (after r);
      row = λ us. symbol 12 (inner.row (symbol 13 us));
      last = token (kind.Symbol 13);
      name = inner.name;
      reads = λ us. ap (λ z. codes "( " ++ z) (inner.reads (symbol 13 us));
      goes = λ r ss us s. inner.goes (after r) (Nonterminal n.parentheses_rest_part ∷ Action n.leave_mark ∷ ss) (symbol 13 us) (keeps (token (kind.Symbol 12)) s);
      nests = λ r. in_argument (ended (inner.moves (after r))) (ended r) d (inner.nests (after r));
      names = λ r us. inner.names (after r) (symbol 13 us);
      apart = λ law us p. in_parentheses_apart inner.row us (inner.apart law) p;
    }

-- how deep an expression leads where this level is asked for
abbrev pub deep_at : ℕ → Written → ℕ → ℕ
deep_at c w d = if nat_le c w.level then d else d + 1

raised : {x : Expr} {d : ℕ} {heads : List (List ℕ)} (c : ℕ) (w : Written) → c ≤ 8 → w.level ≤ 8 → Opened w.level w.text x d heads → (b : Bool) → nat_le c w.level ≡ b → Opened c (if b then w.text else in_parentheses w.text) x (if b then d else d + 1) heads
raised c w l low h true i =
    let high : c ≤ w.level = leb-true c w.level i in
    opened_below c (w.level - c) w.level low (omega (arith, high)) h
raised c w l low h false i =
    opened_below c (8 - c) 8 (omega arith) (omega arith) (parentheses_derived w.level low h)

pub opened_at : {x : Expr} {d : ℕ} {heads : List (List ℕ)} (c : ℕ) (w : Written) → c ≤ 8 → w.level ≤ 8 → Opened w.level w.text x d heads → Opened c (at_level c w) x (deep_at c w d) heads
opened_at c w l low h = raised c w l low h (nat_le c w.level) refl

pub closed_at : {x : Expr} {d : ℕ} {heads : List (List ℕ)} (c : ℕ) (w : Written) → c ≤ 8 → w.level ≤ 8 → Opened w.level w.text x d heads → Closed c (at_level c w) x (deep_at c w d) heads
closed_at c w l low h = closed c (opened_at c w l low h)
