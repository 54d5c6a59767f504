use Rattle.std.proofs.Common.{inl, inr}
use Rattle.std.proofs.lemmas.Result.{err_from_is_err_and}
use Rattle.module_table.proofs.Listing.{first_breach-passed, first_breach-met}
use Rattle.module_table.proofs.table.Table.check_all.Goals as goal

pub returns-in_err-check : goal.returns-in_err-check
returns-in_err-check c =
    let p = err_from_is_err_and c.from_residual.result c.from_residual.ensures.1 in
    rw (p.1, p.2)
    (elim c.in_err-check.ensures [
      | inl q ↦ inl q
      | inr q ↦ inr (first_breach-met c.args.self.now c.args.slots.now c.loop-slot.slot-index c.slot-item.result c.loop-slot-test.true c.slot-item.is c.loop-slot.invariant c.in_err-check.field-0.0 q)
    ])

pub loop-slot-preserved : goal.loop-slot-preserved
loop-slot-preserved c =
    first_breach-passed c.args.self.now c.args.slots.now c.loop-slot.slot-index c.slot-item.result c.loop-slot-test.true c.slot-item.is c.loop-slot.invariant c.in_ok-check.ensures
