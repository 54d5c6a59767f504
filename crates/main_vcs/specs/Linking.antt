-- The linked program of a module.
use Rattle.std.specs.Prelude.{pos, true, false, List, [], ◌∷◌, map, Option, Some, None, codes}
use Rattle.source_meaning.specs.declared.linked.Scalar.{Scalar}
use Rattle.source_meaning.specs.declared.linked.Spot.TheVariants.{Local}
use Rattle.source_meaning.specs.declared.linked.BinOp.{BinOp}
use Rattle.source_meaning.specs.declared.linked.BinOp.TheVariants as op
use Rattle.source_meaning.specs.declared.linked.LExpr.{LExpr}
use Rattle.source_meaning.specs.declared.linked.LExpr.TheOpen.{LExpr-F}
use Rattle.source_meaning.specs.declared.linked.LExpr.TheViews.{roll-LExpr}
use Rattle.source_meaning.specs.declared.linked.LStmt.{LStmt}
use Rattle.source_meaning.specs.declared.linked.LStmt.TheOpen.{LStmt-F}
use Rattle.source_meaning.specs.declared.linked.LStmt.TheViews.{roll-LStmt}
use Rattle.source_meaning.specs.declared.linked.Proc.{Proc}
use Rattle.main_form.specs.declared.module.Expr.{Expr}
use Rattle.main_form.specs.declared.module.Expr.TheOpen.{Expr-F}
use Rattle.main_form.specs.declared.module.Expr.TheFolds.{fold-Expr}
use Rattle.main_form.specs.declared.module.Comparison.{Comparison}
use Rattle.main_form.specs.declared.module.Comparison.TheVariants as comparison
use Rattle.main_form.specs.declared.module.Guard.{Guard}
use Rattle.main_form.specs.declared.module.Guard.TheOpen.{Guard-F}
use Rattle.main_form.specs.declared.module.Guard.TheFolds.{fold-Guard}
use Rattle.main_form.specs.declared.module.Stmt.{Stmt}
use Rattle.main_form.specs.declared.module.Stmt.TheOpen.{Stmt-F}
use Rattle.main_form.specs.declared.module.Stmt.TheFolds.{fold-Stmt}
use Rattle.main_form.specs.declared.module.Module.{Module}

abbrev pub two : BinOp → LExpr → LExpr → LExpr
two o a b = roll-LExpr (LExpr-F.Op o a b)

abbrev pub linked_expr_step : Expr-F LExpr → LExpr
linked_expr_step (Expr-F.Number n) = roll-LExpr (LExpr-F.Const (Scalar.Int n))
linked_expr_step (Expr-F.Variable k) = roll-LExpr (LExpr-F.Get (Local k))
linked_expr_step Expr-F.Remaining = roll-LExpr LExpr-F.Remaining
linked_expr_step (Expr-F.Minus at a) = two op.Sub (roll-LExpr (LExpr-F.Const (Scalar.Int (pos 0)))) a
linked_expr_step (Expr-F.Add at a b) = two op.Add a b
linked_expr_step (Expr-F.Sub at a b) = two op.Sub a b

abbrev pub linked_expr : Expr → LExpr
linked_expr e = fold-Expr LExpr linked_expr_step e

abbrev pub operator : Comparison → BinOp
operator comparison.Equal = op.Eq
operator comparison.NotEqual = op.NotEq
operator comparison.Less = op.Less
operator comparison.LessEqual = op.LessEq
operator comparison.Greater = op.Greater
operator comparison.GreaterEqual = op.GreaterEq

abbrev pub linked_guard_step : Guard-F LExpr → LExpr
linked_guard_step (Guard-F.Compare c a b) = two (operator c) (linked_expr a) (linked_expr b)
linked_guard_step (Guard-F.Not g) = roll-LExpr (LExpr-F.Not g)
linked_guard_step (Guard-F.And g h) = two op.And g h
linked_guard_step (Guard-F.Or g h) = two op.Or g h

abbrev pub linked_guard : Guard → LExpr
linked_guard g = fold-Guard LExpr linked_guard_step g

abbrev pub linked_stmt_step : Stmt-F LStmt → LStmt
linked_stmt_step (Stmt-F.Read at k) = roll-LStmt (LStmt-F.LRead (Local k))
linked_stmt_step (Stmt-F.Write e) = roll-LStmt (LStmt-F.LWrite (linked_expr e))
linked_stmt_step (Stmt-F.Assign k e) = roll-LStmt (LStmt-F.LSet (Local k) (linked_expr e))
linked_stmt_step (Stmt-F.If g a b) = roll-LStmt (LStmt-F.LIf (linked_guard g) a b)

abbrev pub linked_stmt : Stmt → LStmt
linked_stmt x = fold-Stmt LStmt linked_stmt_step x

-- Main as a procedure: all its variables are integers, and its streams are the input and then the output.
abbrev pub main_of : Module → Proc
main_of m = record {
  instance = 0;
  operation = codes "Main";
  modes = [];
  params = [];
  streams = (0, true) ∷ (1, false) ∷ [];
  result = None;
  locals = map (λ n. 0) m.variables;
  body = map linked_stmt m.body;
}
