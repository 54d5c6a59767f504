use Rattle.std.proofs.Common.{◌∙◌, ◌<◌, arith, length, sym}
use Rattle.std.specs.Str.{bytes_eq}
use Rattle.res_ast.specs.declared.procedure.Procedure.{Procedure}
use Rattle.type_rules.specs.Concepts.{procedures}
use Rattle.type_modes.proofs.Positions.{position_here, position_later}
use Rattle.type_modes.proofs.callee.number_of.Goals as goal

pub returns-then-is_named : goal.returns-then-is_named
returns-then-is_named c =
    sym (position_here (λ (p : Procedure). bytes_eq c.args.name.now p.heading.name) (procedures c.args.component.now) c.loop-k.k c.loop-k.invariant
    (sym c.is_named.ensures ∙ c.if-is_named.true))

pub loop-k-preserved : goal.loop-k-preserved
loop-k-preserved c =
    let below : c.loop-k.k < length (procedures c.args.component.now) = omega (arith, c.loop-k-test.true, c.procedure_count-k-end.ensures) in
    position_later (λ (p : Procedure). bytes_eq c.args.name.now p.heading.name) (procedures c.args.component.now) c.loop-k.k c.loop-k.invariant below
    (sym c.is_named.ensures ∙ c.if-is_named.false)
