use Rattle.std.proofs.Common.{◌<◌, [], ◌∷◌, ap, arith, get_or, length}
use Rattle.std.proofs.lemmas.Result.{err_from_is_err_and}
use Rattle.source_meaning.specs.declared.linked.Spot.TheVariants.{Local}
use Rattle.stack_machine.specs.declared.image.Instr.TheVariants.{Init}
use Rattle.stack_machine.specs.Code.{init_code}
use Rattle.stack_machine.proofs.Patch.{emitted_less, init_few, init_more, init_room}
use Rattle.stack_machine.proofs.codegen.emit_variables.Goals as goal

pub overflow_cast-number : goal.overflow_cast-number
overflow_cast-number c =
    let within : c.loop-number.number < length c.args.types.now = omega (arith, c.loop-number-test.true, ap length c.as_slice-type_number-items.ensures) in
    omega (arith, init_few c.args.types.now c.loop-number.number c.args.code.now.items c.loop-number.code.items within c.loop-number.invariant.code c.loop-number.invariant.few)

pub returns-in_err-put : goal.returns-in_err-put
returns-in_err-put c =
    let p = err_from_is_err_and c.from_residual.result c.from_residual.ensures.1 in
    let within : c.loop-number.number < length c.args.types.now = omega (arith, c.loop-number-test.true, ap length c.as_slice-type_number-items.ensures) in
    rw (p.1, p.2) (emitted_less c.loop-number.code.items c.args.code.now.items (Init (Local c.loop-number.number) (get_or c.as_slice-type_number-items.result.now c.loop-number.number 0) ∷ []) (init_code 0 c.args.types.now) _
    (init_room c.args.types.now c.loop-number.number _ _ within c.loop-number.invariant.code) c.in_err-put.ensures)

pub loop-number-preserved : goal.loop-number-preserved
loop-number-preserved c =
    let within : c.loop-number.number < length c.args.types.now = omega (arith, c.loop-number-test.true, ap length c.as_slice-type_number-items.ensures) in
    record {
      code = init_more c.args.types.now c.loop-number.number _ _ within c.loop-number.invariant.code _ _ (ap (λ l. get_or l c.loop-number.number 0) c.as_slice-type_number-items.ensures) c.in_ok-put.ensures.0;
      few = c.in_ok-put.ensures.1;
    }
