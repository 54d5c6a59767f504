-- Operators as they were read: the claims of the levels hold of their ways.
use Rattle.std.proofs.Common.{◌≡◌, ◌∙◌, sym, ap, refl, subst, ℕ, ◌+◌, ◌≤◌, max, List, ◌++◌, Option, codes, arith}
use Rattle.res_ast.specs.declared.expression.BinOp.{BinOp}
use Rattle.res_ast.specs.declared.expression.BinOp.TheVariants as op
use Rattle.res_ast.specs.declared.expression.Expr.{Expr}
use Rattle.res_ast.specs.declared.expression.Form.TheFolds.{map-Form, fold-roll-Expr, fold-roll-Form}
use Rattle.res_ast.specs.declared.expression.Form.{Form}
use Rattle.res_ast.specs.declared.expression.Form.TheOpen.{Form-F}
use Rattle.res_ast.specs.declared.expression.Form.TheViews.{roll-Form}
use Rattle.res_lexer.specs.declared.token.Token.{Token}
use Rattle.res_lexer.specs.declared.token.TokenKind.{TokenKind}
use Rattle.res_lexer.specs.declared.token.TokenKind.TheVariants as kind
use Rattle.res_grammar.specs.Nesting.{begun, nesting_act, operands_met, operator_met, raised}
use Rattle.res_grammar.specs.Numbers as n
use Rattle.res_grammar.specs.declared.nesting.Nesting.{Nesting}
use Rattle.expr_parser.specs.Actions.{expression}
use Rattle.res_printer.specs.Expressions.{Written, binary, expr_step, form_step, operator, written, written_form}
use Rattle.round_trip.specs.ReadsBack.{token}
use Rattle.round_trip.proofs.Doing.{Doing, did, then, took}
use Rattle.round_trip.proofs.Steady.{Steady, did_steady, then_steady, took_steady}
use Rattle.round_trip.proofs.Calm.{Around, calm}
use Rattle.round_trip.proofs.Goes.{At, reached}
use Rattle.round_trip.proofs.Operands.{deep_at, keeps}
use Rattle.round_trip.proofs.Binaries.{binary_expr}
use Rattle.round_trip.proofs.Forms.{binary_spelled}
use Rattle.round_trip.proofs.Said.{After, Covers, Quiet, Said, SaidWhole, before_quiet, behind_quiet, covers_less, covers_marked, covers_operation, deep_least, deep_own, heads_both, quiet_both, quiet_did, quiet_took}

-- how a form is written
pub written_as : (f : Form-F Form Expr) → written (expression 0 (roll-Form f)) ≡ form_step (map-Form Form Expr Written Written written_form written f)
written_as f = fold-roll-Expr Written Written form_step expr_step (record { at = 0; form = roll-Form f }) ∙ fold-roll-Form Written Written form_step expr_step f

-- ---- operators

-- The action builds the operation of two expressions, and does nothing else.
record Operates (o : BinOp) (k : TokenKind) (mark : ℕ) : Type 0 where
  pub builds : (x y : Expr) (j l : Token) (s : At) → (did mark).build (reached y l (keeps (token k) (reached x j s))) ≡ reached (binary_expr o x y) l s
  pub rests : (ν : Nesting) → nesting_act mark ν ≡ ν
  pub calm : (l : Option (List ℕ)) (a : Around) → (did mark).names (calm l a) ≡ calm l a

abbrev kind_for : BinOp → TokenKind
kind_for op.Implies = kind.Word (codes "implies")
kind_for op.Or = kind.Word (codes "or")
kind_for op.And = kind.Word (codes "and")
kind_for op.Eq = kind.Symbol 8
kind_for op.NotEq = kind.Symbol 5
kind_for op.Less = kind.Symbol 6
kind_for op.LessEq = kind.Symbol 3
kind_for op.Greater = kind.Symbol 7
kind_for op.GreaterEq = kind.Symbol 4
kind_for op.Cat = kind.Word (codes "o")
kind_for op.Add = kind.Symbol 9
kind_for op.Sub = kind.Symbol 10
kind_for op.Mul = kind.Symbol 11
kind_for op.Div = kind.Word (codes "div")
kind_for op.Mod = kind.Word (codes "mod")

abbrev mark_for : BinOp → ℕ
mark_for op.Implies = n.implies_mark
mark_for op.Or = n.or_mark
mark_for op.And = n.and_mark
mark_for op.Eq = n.equal_mark
mark_for op.NotEq = n.not_equal_mark
mark_for op.Less = n.less_mark
mark_for op.LessEq = n.less_equal_mark
mark_for op.Greater = n.greater_mark
mark_for op.GreaterEq = n.greater_equal_mark
mark_for op.Cat = n.cat_mark
mark_for op.Add = n.add_mark
mark_for op.Sub = n.sub_mark
mark_for op.Mul = n.mul_mark
mark_for op.Div = n.div_mark
mark_for op.Mod = n.mod_mark

operates : (o : BinOp) → Operates o (kind_for o) (mark_for o)
operates op.Implies = record { builds = λ x y j l s. refl; rests = λ ν. refl; calm = λ l a. refl }
operates op.Or = record { builds = λ x y j l s. refl; rests = λ ν. refl; calm = λ l a. refl }
operates op.And = record { builds = λ x y j l s. refl; rests = λ ν. refl; calm = λ l a. refl }
operates op.Eq = record { builds = λ x y j l s. refl; rests = λ ν. refl; calm = λ l a. refl }
operates op.NotEq = record { builds = λ x y j l s. refl; rests = λ ν. refl; calm = λ l a. refl }
operates op.Less = record { builds = λ x y j l s. refl; rests = λ ν. refl; calm = λ l a. refl }
operates op.LessEq = record { builds = λ x y j l s. refl; rests = λ ν. refl; calm = λ l a. refl }
operates op.Greater = record { builds = λ x y j l s. refl; rests = λ ν. refl; calm = λ l a. refl }
operates op.GreaterEq = record { builds = λ x y j l s. refl; rests = λ ν. refl; calm = λ l a. refl }
operates op.Cat = record { builds = λ x y j l s. refl; rests = λ ν. refl; calm = λ l a. refl }
operates op.Add = record { builds = λ x y j l s. refl; rests = λ ν. refl; calm = λ l a. refl }
operates op.Sub = record { builds = λ x y j l s. refl; rests = λ ν. refl; calm = λ l a. refl }
operates op.Mul = record { builds = λ x y j l s. refl; rests = λ ν. refl; calm = λ l a. refl }
operates op.Div = record { builds = λ x y j l s. refl; rests = λ ν. refl; calm = λ l a. refl }
operates op.Mod = record { builds = λ x y j l s. refl; rests = λ ν. refl; calm = λ l a. refl }

-- the operator and its right operand
abbrev opens : TokenKind → Doing
opens k = then (then (did n.operator_mark) (took k)) (did n.keep_mark)

abbrev ends : ℕ → Doing
ends mark = then (did mark) (did n.operated_mark)

abbrev operation : TokenKind → ℕ → Doing → Doing
operation k mark d = then (opens k) (then d (ends mark))

operation_steady : (k : TokenKind) (mark : ℕ) (d : Doing) → Steady d → Steady (operation k mark d)
operation_steady k mark d s =
    then_steady _ _ (then_steady _ _ (then_steady _ _ (did_steady n.operator_mark) (took_steady k)) (did_steady n.keep_mark))
    (then_steady _ _ s (then_steady _ _ (did_steady mark) (did_steady n.operated_mark)))

opens_quiet : (k : TokenKind) → Quiet (opens k)
opens_quiet k = quiet_both _ _ (quiet_both _ _ (quiet_did n.operator_mark (λ l a. refl)) (quiet_took k)) (quiet_did n.keep_mark (λ l a. refl))

binary_said : (o : BinOp) (k : TokenKind) (mark : ℕ) → Operates o k mark → (m d : Doing) → Steady d → Said (operator o).left m → Said (operator o).right d → Said (operator o).level (then m (operation k mark d))
binary_said o k mark p m d s x y =
    let v = x.item.written in
    let w = y.item.written in
    let a = deep_at (operator o).left v x.item.depth in
    let b = deep_at (operator o).right w y.item.depth in
    let whole = binary (operator o) v w in
    record {
      item = record { written = whole; expr = binary_expr o x.item.expr y.item.expr; depth = max a b + 1; heads = x.item.heads ++ y.item.heads; spelled = binary_spelled o v w x.item.spelled y.item.spelled };
      is = written_as (Form-F.Binary o x.item.expr y.item.expr) ∙ ap (λ z. binary (operator o) z (written y.item.expr)) x.is ∙ ap (λ z. binary (operator o) v z) y.is;
      last = y.last;
      builds = λ z.
          ap (λ u. (operation k mark d).build u) (x.builds z)
          ∙ ap (λ u. (did mark).build u) (y.builds (keeps (token k) (reached x.item.expr x.last z)))
          ∙ p.builds x.item.expr y.item.expr x.last y.last z;
      dives = λ ν e t.
          let μ = m.nest ν in
          let θ = d.nest (operator_met μ) in
          let t2 : θ.deepest ≤ 200 = subst (λ (z : Nesting). z.deepest ≤ 200) (p.rests θ) t in
          let g : max μ.deepest (raised μ.deep) ≤ θ.deepest = s.grows (operator_met μ) in
          let c = covers_operation a b ν μ θ e t2 g (x.dives ν e (omega (arith, g, t2))) (y.dives (operator_met μ) refl t2) in
          let i : deep_at (operator o).level whole (max a b + 1) ≡ max a b + 1 = deep_own (operator o).level whole (max a b + 1) (omega arith) in
          subst (λ z. Covers (deep_at (operator o).level whole (max a b + 1)) ν (operands_met z)) (sym (p.rests θ)) (covers_less (deep_at (operator o).level whole (max a b + 1)) (max a b + 1) ν (operands_met θ) (omega (arith, i)) c);
      names = heads_both m (operation k mark d) x.item.heads y.item.heads (operation_steady k mark d s) x.names
          (behind_quiet (opens k) (then d (ends mark)) y.item.heads (opens_quiet k) (before_quiet d (ends mark) y.item.heads y.names (quiet_both _ _ (quiet_did mark p.calm) (quiet_did n.operated_mark (λ l c. refl)))));
    }

-- ---- ways

-- an operator and its right operand, behind the left one
pub operated : (o : BinOp) (m d : Doing) → Steady d → Said (operator o).left m → Said (operator o).right d → Said (operator o).level (then m (operation (kind_for o) (mark_for o) d))
operated o m d s x y = binary_said o (kind_for o) (mark_for o) (operates o) m d s x y

-- and what goes on behind them
pub go_on : (o : BinOp) (m d e : Doing) → Steady m → Steady d → Said (operator o).left m → Said (operator o).right d → After (operator o).level (operator o).level e → Said (operator o).level (then m (then (operation (kind_for o) (mark_for o) d) e))
go_on o m d e u s x y k = k (then m (operation (kind_for o) (mark_for o) d)) (then_steady _ _ u (operation_steady (kind_for o) (mark_for o) d s)) (operated o m d s x y)

-- an expression between its marks
pub whole_read : (d e : Doing) → Steady d → Steady e → Said 1 d → After 1 0 e → SaidWhole (then (then (did n.begin_mark) (then d e)) (did n.finish_mark))
whole_read d e s t x k =
    let h = k d s x in
    let m = then d e in
    record {
      steady = then_steady _ _ (then_steady _ _ (did_steady n.begin_mark) (then_steady _ _ s t)) (did_steady n.finish_mark);
      item = h.item;
      is = h.is;
      last = h.last;
      builds = h.builds;
      dives = λ ν u. covers_marked h.item.depth ν (m.nest (begun ν)) (covers_less h.item.depth (deep_at 0 h.item.written h.item.depth) (begun ν) (m.nest (begun ν)) (deep_least 0 h.item.written h.item.depth) (h.dives (begun ν) refl u));
      names = before_quiet (then (did n.begin_mark) m) (did n.finish_mark) h.item.heads (behind_quiet (did n.begin_mark) m h.item.heads (quiet_did n.begin_mark (λ l a. refl)) h.names) (quiet_did n.finish_mark (λ l a. refl));
    }
