use Rattle.std.proofs.Common.{refl, sym, ◌∙◌, ap, get_or, length, arith}
use Rattle.std.proofs.lemmas.Result.{err_from_is_err_and}
use Rattle.source_meaning.specs.Running.{store_of}
use Rattle.source_meaning.proofs.Runs.{set_ran, write_ran, then_ran, else_ran, guard_ran, front_more, front_over}
use Rattle.source_meaning.proofs.running.+run.Goals as goal

pub run_statement-returns-in_err-evaluate-in-LIf-clause-ran : goal.run_statement-returns-in_err-evaluate-in-LIf-clause-ran
run_statement-returns-in_err-evaluate-in-LIf-clause-ran t c =
    let p = err_from_is_err_and c.from_residual-in_err-evaluate-in-LIf.result c.from_residual-in_err-evaluate-in-LIf.ensures.1 in
    guard_ran c.args.statement.now c.in-LIf.guard c.in-LIf.first c.in-LIf.second c.in_err-evaluate-in-LIf.field-0.0 _ _ c.from_residual-in_err-evaluate-in-LIf.result c.in-LIf.is (ap (λ s. store_of c.args.input.now s) c.in_ok-pay.ensures) c.in_err-evaluate-in-LIf.ensures (rw (p.1, p.2) refl)

pub run_statement-returns-in-LSet-clause-ran : goal.run_statement-returns-in-LSet-clause-ran
run_statement-returns-in-LSet-clause-ran t c =
    set_ran _ _ _ _ _ _ c.set.result c.in-LSet.is (ap (λ s. store_of c.args.input.now s) c.in_ok-pay.ensures) c.set.ensures.ran

pub run_statement-returns-in-LWrite-clause-ran : goal.run_statement-returns-in-LWrite-clause-ran
run_statement-returns-in-LWrite-clause-ran t c =
    write_ran _ _ _ _ _ c.write.result c.in-LWrite.is (ap (λ s. store_of c.args.input.now s) c.in_ok-pay.ensures) c.write.ensures.ran

pub run_statement-returns-then-truth-clause-ran : goal.run_statement-returns-then-truth-clause-ran
run_statement-returns-then-truth-clause-ran t c =
    then_ran _ _ _ _ c.in_ok-evaluate-in-LIf.field-0 _ _ _ c.run_statements.result c.in-LIf.is (ap (λ s. store_of c.args.input.now s) c.in_ok-pay.ensures) c.in_ok-evaluate-in-LIf.ensures (sym c.if-truth.ensures) c.run_statements.ensures.ran

pub run_statement-returns-else-truth-clause-ran : goal.run_statement-returns-else-truth-clause-ran
run_statement-returns-else-truth-clause-ran t c =
    else_ran _ _ _ _ c.in_ok-evaluate-in-LIf.field-0 _ _ _ c.run_statements-else-truth.result c.in-LIf.is (ap (λ s. store_of c.args.input.now s) c.in_ok-pay.ensures) c.in_ok-evaluate-in-LIf.ensures (sym c.if-truth.ensures) c.run_statements-else-truth.ensures.ran

pub run_statements-returns-in_err-run_statement-clause-ran : goal.run_statements-returns-in_err-run_statement-clause-ran
run_statements-returns-in_err-run_statement-clause-ran t c =
    let p = err_from_is_err_and c.from_residual.result c.from_residual.ensures.1 in
    let items = c.as_slice-statement-items.ensures in
    front_over c.args.statements.now c.loop-statement.statement-index c.statement-item.result c.in_err-run_statement.field-0.0 _ _ _ c.run_statement.result c.from_residual.result c.in_err-run_statement.was (rw (p.1, p.2) refl)
    (omega (arith, c.loop-statement-test.true, ap length items)) (c.statement-item.is ∙ ap (λ l. get_or l c.loop-statement.statement-index c.statement-item.result) items)
    c.loop-statement.invariant.ran c.run_statement.ensures.ran

pub run_statements-loop-statement-preserved : goal.run_statements-loop-statement-preserved
run_statements-loop-statement-preserved t c =
    let items = c.as_slice-statement-items.ensures in
    record {
      ran = front_more c.args.statements.now c.loop-statement.statement-index c.statement-item.result _ _ _
          (omega (arith, c.loop-statement-test.true, ap length items)) (c.statement-item.is ∙ ap (λ l. get_or l c.loop-statement.statement-index c.statement-item.result) items)
          c.loop-statement.invariant.ran c.in_ok-run_statement.ensures.ran;
      taken = c.in_ok-run_statement.ensures.taken;
    }
