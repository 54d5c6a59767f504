-- The linked statement of an If.
use Rattle.std.proofs.Common.{◌≡◌, ◌∙◌, sym, ap, refl, List, map}
use Rattle.source_meaning.specs.declared.linked.LExpr.{LExpr}
use Rattle.source_meaning.specs.declared.linked.LStmt.{LStmt}
use Rattle.source_meaning.specs.declared.linked.LStmt.TheVariants as lstmt
use Rattle.main_form.specs.declared.module.Guard.{Guard}
use Rattle.main_form.specs.declared.module.Stmt.{Stmt}
use Rattle.main_form.specs.declared.module.Stmt.TheVariants as stmt
use Rattle.main_form.specs.declared.module.Stmt.TheOpen.{Stmt-F}
use Rattle.main_form.specs.declared.module.Stmt.TheFolds.{fold-roll-Stmt}
use Rattle.main_vcs.specs.Linking.{linked_guard, linked_stmt, linked_stmt_step}

pub linked_if : (x : Stmt) (g : Guard) (a b : List Stmt) (h : LExpr) (c d : List LStmt) → x ≡ stmt.If g a b → h ≡ linked_guard g → c ≡ map linked_stmt a → d ≡ map linked_stmt b → lstmt.LIf h c d ≡ linked_stmt x
linked_if x g a b h c d is eh ec ed =
    ap (λ l. lstmt.LIf l c d) eh
    ∙ ap (λ l. lstmt.LIf (linked_guard g) l d) ec
    ∙ ap (lstmt.LIf (linked_guard g) (map linked_stmt a)) ed
    ∙ sym (lstmt.rolls-LIf (linked_guard g) (map linked_stmt a) (map linked_stmt b))
    ∙ sym (fold-roll-Stmt LStmt linked_stmt_step (Stmt-F.If g a b))
    ∙ ap linked_stmt (stmt.rolls-If g a b)
    ∙ ap linked_stmt (sym is)
