use Rattle.std.proofs.Common.{[], ◌∷◌, ◌≢◌, ◌∙◌, ap, arith, get_or, length}
use Rattle.std.proofs.lemmas.Result.{err_from_is_err_and}
use Rattle.stack_machine.specs.declared.image.Instr.TheVariants.{Jump}
use Rattle.stack_machine.specs.Code.{body_code, stmt_code}
use Rattle.stack_machine.proofs.Patch.{emitted_less, first_room, turn_room, second_room, when_whole, choice_whole, body_more, body_room}
use Rattle.stack_machine.proofs.codegen.+emit.Goals as goal

pub emit_statement-returns-in_err-emit_statements-in-LIf : goal.emit_statement-returns-in_err-emit_statements-in-LIf
emit_statement-returns-in_err-emit_statements-in-LIf t c =
    let p = err_from_is_err_and c.from_residual-in_err-emit_statements-in-LIf.result c.from_residual-in_err-emit_statements-in-LIf.ensures.1 in
    rw (p.1, p.2) (emitted_less c.emit_guard.new.code.items c.args.code.now.items (body_code c.in-LIf.first (length c.emit_guard.new.code.items)) (stmt_code c.args.statement.now (length c.args.code.now.items)) _
    (first_room c.args.statement.now c.in-LIf.guard c.in-LIf.first c.in-LIf.second _ _ c.in-LIf.is c.in_ok-guard_end-in-LIf.ensures.emitted.0) c.in_err-emit_statements-in-LIf.ensures)

pub emit_statement-returns-then-is_empty : goal.emit_statement-returns-then-is_empty
emit_statement-returns-then-is_empty t c =
    when_whole c.args.statement.now c.in-LIf.guard c.in-LIf.first c.in-LIf.second _ _ _ _ _ c.in-LIf.is (c.is_empty.ensures.0 c.if-is_empty.true) c.in_ok-guard_end-in-LIf.ensures.emitted.0 c.in_ok-guard_end-in-LIf.ensures.place c.in_ok-emit_statements-in-LIf.ensures c.aim_false.ensures

pub emit_statement-returns-in_err-first_end-in-LIf : goal.emit_statement-returns-in_err-first_end-in-LIf
emit_statement-returns-in_err-first_end-in-LIf t c =
    let p = err_from_is_err_and c.from_residual-in_err-first_end-in-LIf.result c.from_residual-in_err-first_end-in-LIf.ensures.1 in
    let some : c.in-LIf.second ≢ [] = λ h. (let full = c.is_empty.ensures.1 h in cc) in
    rw (p.1, p.2) (emitted_less c.emit_statements.new.code.items c.args.code.now.items (Jump 0 ∷ []) (stmt_code c.args.statement.now (length c.args.code.now.items)) _
    (turn_room c.args.statement.now c.in-LIf.guard c.in-LIf.first c.in-LIf.second _ _ _ _ c.in-LIf.is some c.in_ok-guard_end-in-LIf.ensures.emitted.0 c.in_ok-guard_end-in-LIf.ensures.place c.in_ok-emit_statements-in-LIf.ensures.0) c.in_err-first_end-in-LIf.ensures.emitted)

pub emit_statement-returns-in_err-emit_statements-in-LIf-2 : goal.emit_statement-returns-in_err-emit_statements-in-LIf-2
emit_statement-returns-in_err-emit_statements-in-LIf-2 t c =
    let p = err_from_is_err_and c.from_residual-in_err-emit_statements-in-LIf-2.result c.from_residual-in_err-emit_statements-in-LIf-2.ensures.1 in
    let some : c.in-LIf.second ≢ [] = λ h. (let full = c.is_empty.ensures.1 h in cc) in
    rw (p.1, p.2) (emitted_less c.aim_false-in-LIf.new.code.items c.args.code.now.items (body_code c.in-LIf.second (length c.aim_false-in-LIf.new.code.items)) (stmt_code c.args.statement.now (length c.args.code.now.items)) _
    (second_room c.args.statement.now c.in-LIf.guard c.in-LIf.first c.in-LIf.second _ _ _ _ _ _ _ c.in-LIf.is some c.in_ok-guard_end-in-LIf.ensures.emitted.0 c.in_ok-guard_end-in-LIf.ensures.place c.in_ok-emit_statements-in-LIf.ensures.0 c.in_ok-first_end-in-LIf.ensures.place c.in_ok-first_end-in-LIf.ensures.emitted.0 c.aim_false-in-LIf.ensures) c.in_err-emit_statements-in-LIf-2.ensures)

pub emit_statement-returns-in_ok-emit_statements-in-LIf-2 : goal.emit_statement-returns-in_ok-emit_statements-in-LIf-2
emit_statement-returns-in_ok-emit_statements-in-LIf-2 t c =
    let some : c.in-LIf.second ≢ [] = λ h. (let full = c.is_empty.ensures.1 h in cc) in
    choice_whole c.args.statement.now c.in-LIf.guard c.in-LIf.first c.in-LIf.second _ _ _ _ _ _ _ _ _ c.in-LIf.is some c.in_ok-guard_end-in-LIf.ensures.emitted.0 c.in_ok-guard_end-in-LIf.ensures.place c.in_ok-emit_statements-in-LIf.ensures.0 c.in_ok-first_end-in-LIf.ensures.place c.in_ok-first_end-in-LIf.ensures.emitted.0 c.aim_false-in-LIf.ensures c.in_ok-emit_statements-in-LIf-2.ensures c.aim.ensures

pub emit_statements-returns-in_err-emit_statement : goal.emit_statements-returns-in_err-emit_statement
emit_statements-returns-in_err-emit_statement t c =
    let p = err_from_is_err_and c.from_residual.result c.from_residual.ensures.1 in
    rw (p.1, p.2) (emitted_less c.loop-statement.code.items c.args.code.now.items (stmt_code c.statement-item.result (length c.loop-statement.code.items)) (body_code c.args.statements.now (length c.args.code.now.items)) _
    (body_room c.args.statements.now c.loop-statement.statement-index c.statement-item.result c.args.code.now.items c.loop-statement.code.items (c.statement-item.is ∙ ap (λ l. get_or l c.loop-statement.statement-index c.statement-item.result) c.as_slice-statement-items.ensures) (omega (arith, c.loop-statement-test.true, ap length c.as_slice-statement-items.ensures)) c.loop-statement.invariant.code) c.in_err-emit_statement.ensures)

pub emit_statements-loop-statement-preserved : goal.emit_statements-loop-statement-preserved
emit_statements-loop-statement-preserved t c = record {
  code = body_more c.args.statements.now c.loop-statement.statement-index c.statement-item.result c.args.code.now.items c.loop-statement.code.items (c.statement-item.is ∙ ap (λ l. get_or l c.loop-statement.statement-index c.statement-item.result) c.as_slice-statement-items.ensures) (omega (arith, c.loop-statement-test.true, ap length c.as_slice-statement-items.ensures)) c.loop-statement.invariant.code _ c.in_ok-emit_statement.ensures.0;
  few = c.in_ok-emit_statement.ensures.1;
}
