use Rattle.std.proofs.Common.{◌∙◌, ◌+◌, ◌<◌, ap, arith, length, sym}
use Rattle.std.specs.Option.{option_copied}
use Rattle.type_rules.specs.Breaches.{least_of}
use Rattle.type_rules.specs.Concepts.{procedures}
use Rattle.type_modes.proofs.Procedures.{bodies_from, bodies_noted, procedure_there}
use Rattle.type_modes.proofs.bodies.note_bodies.Goals as goal
use Rattle.type_modes.proofs.bodies.note_bodies.Goals.{in-Some, in_default}

pub loop-k-preserved : goal.loop-k-preserved
loop-k-preserved c =
    let table = c.args.table.now in
    let component = c.args.component.now in
    let k = c.loop-k.k in
    let within : k < length (procedures component) = omega (arith, c.loop-k-test.true, c.procedure_count-k-end.ensures) in
    elim c.match-procedure_at.branch [
      | in-Some w ↦
          ap (λ o. least_of o (bodies_from table component (k + 1))) w.least-is
          ∙ bodies_noted table component k w.in-Some.procedure.now c.loop-k.least w.note_procedure.new.least _ (sym c.procedure_at.ensures ∙ ap option_copied w.in-Some.is) w.note_procedure.ensures c.loop-k.invariant
      | in_default w ↦ absurd (procedure_there component k within (sym c.procedure_at.ensures ∙ ap option_copied w.in_default.is))
    ]
