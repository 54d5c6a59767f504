-- The body of a module names its variables alone, by their numbers.
use Rattle.std.specs.Prelude.{ℕ, ltb, Bool, true, ◌&&◌, length, IsTrue}
use Rattle.std.specs.List.{list_all}
use Rattle.main_form.specs.declared.module.Expr.{Expr}
use Rattle.main_form.specs.declared.module.Expr.TheOpen.{Expr-F}
use Rattle.main_form.specs.declared.module.Expr.TheFolds.{fold-Expr}
use Rattle.main_form.specs.declared.module.Guard.{Guard}
use Rattle.main_form.specs.declared.module.Guard.TheOpen.{Guard-F}
use Rattle.main_form.specs.declared.module.Guard.TheFolds.{fold-Guard}
use Rattle.main_form.specs.declared.module.Stmt.{Stmt}
use Rattle.main_form.specs.declared.module.Stmt.TheOpen.{Stmt-F}
use Rattle.main_form.specs.declared.module.Stmt.TheFolds.{fold-Stmt}
use Rattle.main_form.specs.declared.module.Module.{Module}

-- all variables of an expression, of a guard and of a statement have numbers below n
abbrev pub expr_step : ℕ → Expr-F Bool → Bool
expr_step n (Expr-F.Number k) = true
expr_step n (Expr-F.Variable k) = ltb k n
expr_step n Expr-F.Remaining = true
expr_step n (Expr-F.Minus at a) = a
expr_step n (Expr-F.Add at a b) = a && b
expr_step n (Expr-F.Sub at a b) = a && b

abbrev pub expr_fits : ℕ → Expr → Bool
expr_fits n e = fold-Expr Bool (expr_step n) e

abbrev pub guard_step : ℕ → Guard-F Bool → Bool
guard_step n (Guard-F.Compare c a b) = expr_fits n a && expr_fits n b
guard_step n (Guard-F.Not g) = g
guard_step n (Guard-F.And g h) = g && h
guard_step n (Guard-F.Or g h) = g && h

abbrev pub guard_fits : ℕ → Guard → Bool
guard_fits n g = fold-Guard Bool (guard_step n) g

abbrev pub stmt_step : ℕ → Stmt-F Bool → Bool
stmt_step n (Stmt-F.Read at k) = ltb k n
stmt_step n (Stmt-F.Write e) = expr_fits n e
stmt_step n (Stmt-F.Assign k e) = ltb k n && expr_fits n e
stmt_step n (Stmt-F.If g a b) = guard_fits n g && list_all (λ x. x) a && list_all (λ x. x) b

abbrev pub stmt_fits : ℕ → Stmt → Bool
stmt_fits n x = fold-Stmt Bool (stmt_step n) x

-- All variable numbers in the body are below the number of variables.
abbrev pub IsForm : Module → Type 0
IsForm m = IsTrue (list_all (stmt_fits (length m.variables)) m.body)
