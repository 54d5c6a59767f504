-- What the walk makes of an expression and of a guard: conditions, a term, and the point after it. The walk of a module goes on
-- with the statements that are left.
use Rattle.std.specs.Prelude.{ℕ, pos, List, [], ◌∷◌, ◌++◌, map, slice_index_or}
use Rattle.math_terms.specs.declared.term.Term.{Term}
use Rattle.vc_sequents.specs.declared.sequent.VcKind.{VcKind}
use Rattle.vc_sequents.specs.declared.sequent.VcKind.TheVariants as kind
use Rattle.main_form.specs.declared.module.Expr.{Expr}
use Rattle.main_form.specs.declared.module.Expr.TheOpen.{Expr-F}
use Rattle.main_form.specs.declared.module.Expr.TheFolds.{fold-Expr}
use Rattle.main_form.specs.declared.module.Guard.{Guard}
use Rattle.main_form.specs.declared.module.Guard.TheOpen.{Guard-F}
use Rattle.main_form.specs.declared.module.Guard.TheFolds.{fold-Guard}
use Rattle.main_form.specs.declared.module.Stmt.{Stmt}
use Rattle.main_form.specs.declared.module.Module.{Module}
use Rattle.main_vcs.specs.Terms.{num, len, add, sub, both, either, negated, bounds, in_bounds}
use Rattle.main_vcs.specs.Walk.{Path, Condition, Onward, with_hyps, compared, stmts, at_end}

pub record Made : Type 0 where
  pub conditions : List Condition
  pub term : Term
  pub point : Path

abbrev pub made : List Condition → Term → Path → Made
made cs t p = record { conditions = cs; term = t; point = p }

abbrev pub condition_at : VcKind → ℕ → Path → Term → Condition
condition_at k at p goal = record { kind = k; at = at; vars = p.vars; hyps = p.hyps; goal = goal }

-- a sum after other conditions
abbrev pub sum_made : ℕ → List Condition → Term → Path → Made
sum_made at cs t p = made (cs ++ condition_at kind.Range at p (in_bounds t) ∷ []) t p

-- one after the other, from the left
abbrev pub then_made : Made → Made → List Condition
then_made x y = x.conditions ++ y.conditions

abbrev pub expr_made_step : Expr-F (Path → Made) → Path → Made
expr_made_step (Expr-F.Number n) p = made [] (num n) p
expr_made_step (Expr-F.Variable k) p = made [] (slice_index_or p.terms k (num (pos 0))) p
expr_made_step Expr-F.Remaining p = made [] (len p.input) (with_hyps (bounds (len p.input)) p)
expr_made_step (Expr-F.Minus at a) p = let x = a p in sum_made at x.conditions (sub (num (pos 0)) x.term) x.point
expr_made_step (Expr-F.Add at a b) p = let x = a p in let y = b x.point in sum_made at (then_made x y) (add x.term y.term) y.point
expr_made_step (Expr-F.Sub at a b) p = let x = a p in let y = b x.point in sum_made at (then_made x y) (sub x.term y.term) y.point

abbrev pub expr_made : Expr → Path → Made
expr_made e = fold-Expr (Path → Made) expr_made_step e

abbrev pub guard_made_step : Guard-F (Path → Made) → Path → Made
guard_made_step (Guard-F.Compare c a b) p =
    let x = expr_made a p in let y = expr_made b x.point in made (then_made x y) (compared c x.term y.term) y.point
guard_made_step (Guard-F.Not g) p = let x = g p in made x.conditions (negated x.term) x.point
guard_made_step (Guard-F.And g h) p = let x = g p in let y = h x.point in made (then_made x y) (both x.term y.term) y.point
guard_made_step (Guard-F.Or g h) p = let x = g p in let y = h x.point in made (then_made x y) (either x.term y.term) y.point

abbrev pub guard_made : Guard → Path → Made
guard_made g = fold-Guard (Path → Made) guard_made_step g

-- what goes on where lists of statements are left, the last one first
abbrev pub under : Module → List (List Stmt) → Onward → Onward
under m [] go = go
under m (xs ∷ xss) go = under m xss (stmts m.variables m.input xs go)

abbrev pub left_over : Module → List (List Stmt) → Onward
left_over m xss = under m xss (at_end m.claim m.end_at)
