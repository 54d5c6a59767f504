use Rattle.std.proofs.Common.{◌≡◌, sym, subst, Ok}
use Rattle.std.specs.Prelude.{IfOk}
use Rattle.module_table.specs.Tables.{added}
use Rattle.component_checks.proofs.One.{alone}
use Rattle.component_checks.proofs.checking.mistake_alone.Goals as goal

pub returns-in-Ok : goal.returns-in-Ok
returns-in-Ok c =
    let taken = subst (λ table. added table c.args.c ≡ Ok c.add.new.self) c.new-table.ensures c.in-Ok.ensures in
    subst (λ m. IfOk c.mistake_at.result (λ n. n ≡ m)) (sym (alone c.args.c c.add.new.self taken)) c.mistake_at.ensures
