use Rattle.std.proofs.Common.{length}
use Rattle.std.proofs.lemmas.Result.{err_from_is_err_and}
use Rattle.stack_machine.specs.Code.{body_code, proc_code}
use Rattle.stack_machine.proofs.Patch.{emitted_less, proc_room, proc_whole}
use Rattle.stack_machine.proofs.codegen.emit_procedure.Goals as goal

pub returns-in_err-emit_statements : goal.returns-in_err-emit_statements
returns-in_err-emit_statements c =
    let p = err_from_is_err_and c.from_residual-in_err-emit_statements.result c.from_residual-in_err-emit_statements.ensures.1 in
    rw (p.1, p.2) (emitted_less c.emit_variables.new.code.items c.args.code.now.items (body_code c.args.procedure.now.body (length c.emit_variables.new.code.items)) (proc_code c.args.procedure.now) _
    (proc_room c.args.procedure.now _ _ c.requires c.in_ok-emit_variables.ensures.0) c.in_err-emit_statements.ensures)

pub returns : goal.returns
returns c =
    proc_whole c.args.procedure.now c.args.code.now.items c.emit_variables.new.code.items c.requires c.in_ok-emit_variables.ensures.0 _ c.emit_statements.new.code.items _ c.in_ok-emit_statements.ensures.0 c.put.ensures
