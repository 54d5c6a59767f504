use Rattle.std.proofs.Common.{◌∙◌, List, ap, map}
use Rattle.res_ast.specs.declared.statement.Stmt.{Stmt}
use Rattle.type_rules.specs.Breaches.{least_of}
use Rattle.type_modes.specs.Places.{Body, body}
use Rattle.type_modes.specs.Statements.{breaches_in, statement}
use Rattle.type_modes.proofs.Procedures.{statements_are}
use Rattle.type_modes.proofs.bodies.note_procedure.Goals as goal

pub returns : goal.returns
returns c =
    let own = body c.args.table.now c.args.component.now c.args.number c.args.procedure.now in
    let noted = λ (b : Body) (ss : List Stmt). least_of c.args.least.now (breaches_in (map (statement b) ss)) in
    c.statements.ensures
    ∙ ap (λ (b : Body). noted b c.as_slice.result.now) c.new-body.ensures
    ∙ ap (noted own) c.as_slice.ensures
    ∙ ap (least_of c.args.least.now) (statements_are own c.args.procedure.now.body)
