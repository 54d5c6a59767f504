-- The breaches in the bodies of a component.
use Rattle.std.specs.Prelude.{ℕ, List}
use Rattle.std.specs.List.{enumerate_from, flat_map}
use Rattle.res_ast.specs.declared.component.Component.{Component}
use Rattle.res_ast.specs.declared.procedure.Procedure.{Procedure}
use Rattle.type_rules.specs.declared.error.ModeError.{ModeError}
use Rattle.type_rules.specs.Concepts.{procedures}
use Rattle.type_modes.specs.Places.{body}
use Rattle.type_modes.specs.Statements.{statements}

abbrev pub procedure_breaches : List Component → Component → ℕ × Procedure → List ModeError
procedure_breaches table c p = statements (body table c p.0 p.1) p.1.body

abbrev pub bodies_breaches : List Component → Component → List ModeError
bodies_breaches table c = flat_map (procedure_breaches table c) (enumerate_from 0 (procedures c))
