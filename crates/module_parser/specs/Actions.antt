-- What the actions of a file build.
use Rattle.res_lexer.specs.declared.token.Token.{Token}
use Rattle.expr_parser.specs.Actions.{act}
use Rattle.module_parser.specs.Headings.{heading_act}
use Rattle.module_parser.specs.Models.{model_act}
use Rattle.module_parser.specs.Facilities.{facility_act}
use Rattle.module_parser.specs.Statements.{statement_act}
use Rattle.module_parser.specs.Components.{component_act}
use Rattle.module_parser.specs.declared.action.Action.{Action}
use Rattle.module_parser.specs.declared.action.Action.TheVariants as action
use Rattle.module_parser.specs.declared.state.State.{State}

abbrev pub file_act : Action → Token → State → State
file_act (action.OfExpr a) last s = record s { operands = act a last s.operands }
file_act (action.OfHeading a) last s = heading_act a last s
file_act (action.OfModel a) last s = model_act a last s
file_act (action.OfFacility a) last s = facility_act a last s
file_act (action.OfStatement a) last s = statement_act a s
file_act (action.OfComponent a) last s = component_act a last s
