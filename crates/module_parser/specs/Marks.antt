-- Which actions of the grammar build what. The others, which watch names and nesting, build nothing.
use Rattle.std.specs.Prelude.{ℕ, true, false, ◌==◌, if◌then◌else◌, Option, Some, None, option_map}
use Rattle.std.specs.Option.{option_or}
use Rattle.res_grammar.specs.Numbers.{names_mark, add_name_mark, some_clause_mark, no_clause_mark, formals_mark, type_formal_mark, integer_formal_mark, mode_alters_mark, mode_clears_mark, mode_evaluates_mark, mode_preserves_mark, mode_replaces_mark, mode_restores_mark, mode_updates_mark, type_word_mark, type_alone_mark, type_of_mark, result_type_mark, no_result_mark, params_mark, add_params_mark, typed_names_mark, add_typed_names_mark, headings_mark, heading_mark, signature_mark, add_heading_mark, model_z_mark, model_b_mark, model_str_mark, model_param_mark, factors_mark, add_factor_mark, model_product_mark, family_mark, no_family_mark, facs_mark, args_mark, type_arg_mark, number_arg_mark, minus_arg_mark, realized_by_mark, not_realized_mark, pairs_mark, add_pair_mark, add_fac_mark, block_mark, place_alone_mark, place_field_mark, places_mark, add_place_mark, swap_mark, assign_mark, call_local_mark, call_builtin_mark, call_of_mark, if_mark, while_mark, concept_mark, enhancement_mark, realization_mark, module_mark, of_concept_mark, for_concept_mark, rep_mark, no_rep_mark, locals_mark, add_local_mark, procedures_mark, add_procedure_mark}
use Rattle.res_ast.specs.declared.heading.Mode.TheVariants as mode
use Rattle.expr_parser.specs.Marks.{expr_action}
use Rattle.module_parser.specs.declared.action.Action.{Action}
use Rattle.module_parser.specs.declared.action.Action.TheVariants.{OfExpr, OfHeading, OfModel, OfFacility, OfStatement, OfComponent}
use Rattle.module_parser.specs.declared.action.HeadingAction.{HeadingAction}
use Rattle.module_parser.specs.declared.action.HeadingAction.TheVariants as heading
use Rattle.module_parser.specs.declared.action.ModelAction.{ModelAction}
use Rattle.module_parser.specs.declared.action.ModelAction.TheVariants as model
use Rattle.module_parser.specs.declared.action.FacilityAction.{FacilityAction}
use Rattle.module_parser.specs.declared.action.FacilityAction.TheVariants as facility
use Rattle.module_parser.specs.declared.action.StmtAction.{StmtAction}
use Rattle.module_parser.specs.declared.action.StmtAction.TheVariants as statement
use Rattle.module_parser.specs.declared.action.ComponentAction.{ComponentAction}
use Rattle.module_parser.specs.declared.action.ComponentAction.TheVariants as component

abbrev pub heading_action : ℕ → Option HeadingAction
heading_action a =
    if a == names_mark then Some heading.Names else
    if a == add_name_mark then Some heading.AddName else
    if a == some_clause_mark then Some heading.SomeClause else
    if a == no_clause_mark then Some heading.NoClause else
    if a == formals_mark then Some heading.Formals else
    if a == type_formal_mark then Some (heading.AddFormal true) else
    if a == integer_formal_mark then Some (heading.AddFormal false) else
    if a == mode_alters_mark then Some (heading.Mode mode.Alters) else
    if a == mode_clears_mark then Some (heading.Mode mode.Clears) else
    if a == mode_evaluates_mark then Some (heading.Mode mode.Evaluates) else
    if a == mode_preserves_mark then Some (heading.Mode mode.Preserves) else
    if a == mode_replaces_mark then Some (heading.Mode mode.Replaces) else
    if a == mode_restores_mark then Some (heading.Mode mode.Restores) else
    if a == mode_updates_mark then Some (heading.Mode mode.Updates) else
    if a == type_word_mark then Some heading.TypeWord else
    if a == type_alone_mark then Some heading.TypeAlone else
    if a == type_of_mark then Some heading.TypeOf else
    if a == result_type_mark then Some heading.ResultType else
    if a == no_result_mark then Some heading.NoResult else
    if a == params_mark then Some heading.Params else
    if a == add_params_mark then Some heading.AddParams else
    if a == typed_names_mark then Some heading.TypedNames else
    if a == add_typed_names_mark then Some heading.AddTypedNames else
    if a == headings_mark then Some heading.Headings else
    if a == heading_mark then Some heading.Heading else
    if a == signature_mark then Some heading.Signature else
    if a == add_heading_mark then Some heading.AddHeading else
    None

abbrev pub model_action : ℕ → Option ModelAction
model_action a =
    if a == model_z_mark then Some model.Z else
    if a == model_b_mark then Some model.B else
    if a == model_str_mark then Some model.Str else
    if a == model_param_mark then Some model.Param else
    if a == factors_mark then Some model.Factors else
    if a == add_factor_mark then Some model.AddFactor else
    if a == model_product_mark then Some model.Product else
    if a == family_mark then Some model.Family else
    if a == no_family_mark then Some model.NoFamily else
    None

abbrev pub facility_action : ℕ → Option FacilityAction
facility_action a =
    if a == facs_mark then Some facility.Facilities else
    if a == args_mark then Some facility.Args else
    if a == type_arg_mark then Some facility.TypeArg else
    if a == number_arg_mark then Some facility.NumberArg else
    if a == minus_arg_mark then Some facility.MinusArg else
    if a == realized_by_mark then Some facility.RealizedBy else
    if a == not_realized_mark then Some facility.NotRealized else
    if a == pairs_mark then Some facility.Pairs else
    if a == add_pair_mark then Some facility.AddPair else
    if a == add_fac_mark then Some facility.AddFacility else
    None

abbrev pub statement_action : ℕ → Option StmtAction
statement_action a =
    if a == block_mark then Some statement.Block else
    if a == place_alone_mark then Some statement.PlaceAlone else
    if a == place_field_mark then Some statement.PlaceField else
    if a == places_mark then Some statement.Places else
    if a == add_place_mark then Some statement.AddPlace else
    if a == swap_mark then Some statement.Swap else
    if a == assign_mark then Some statement.Assign else
    if a == call_local_mark then Some statement.Call else
    if a == call_builtin_mark then Some statement.Call else
    if a == call_of_mark then Some statement.FacilityCall else
    if a == if_mark then Some statement.If else
    if a == while_mark then Some statement.While else
    None

abbrev pub component_action : ℕ → Option ComponentAction
component_action a =
    if a == concept_mark then Some component.Concept else
    if a == enhancement_mark then Some component.Enhancement else
    if a == realization_mark then Some component.Realization else
    if a == module_mark then Some component.Module else
    if a == of_concept_mark then Some component.OfConcept else
    if a == for_concept_mark then Some component.ForConcept else
    if a == rep_mark then Some component.Rep else
    if a == no_rep_mark then Some component.NoRep else
    if a == locals_mark then Some component.Locals else
    if a == add_local_mark then Some component.AddLocal else
    if a == procedures_mark then Some component.Procedures else
    if a == add_procedure_mark then Some component.AddProcedure else
    None

-- what the action of a number builds, if it builds something
abbrev pub action_of : ℕ → Option Action
action_of a =
    option_or (option_map OfExpr (expr_action a))
    (option_or (option_map OfStatement (statement_action a))
    (option_or (option_map OfHeading (heading_action a))
    (option_or (option_map OfFacility (facility_action a))
    (option_or (option_map OfModel (model_action a))
    (option_map OfComponent (component_action a))))))
