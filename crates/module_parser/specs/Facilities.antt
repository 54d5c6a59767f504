-- Declarations of facilities.
use Rattle.std.specs.Prelude.{[], ◌∷◌, Some, None}
use Rattle.res_ast.specs.declared.facility.FacArg.{FacArg}
use Rattle.res_ast.specs.declared.facility.FacArg.TheVariants as arg
use Rattle.res_lexer.specs.declared.token.Token.{Token}
use Rattle.res_grammar.specs.Classes.{word_of}
use Rattle.expr_parser.specs.Actions.{added, negated, others, value_of}
use Rattle.module_parser.specs.Stacks.{args, optional, pairs, type_of, without_1_word, without_3_words, word_0, word_1, word_2}
use Rattle.module_parser.specs.declared.action.FacilityAction.{FacilityAction}
use Rattle.module_parser.specs.declared.action.FacilityAction.TheVariants as action
use Rattle.module_parser.specs.declared.state.State.{State}

abbrev pub add_arg : FacArg → State → State
add_arg a s = record s { args = added a s.args }

-- A facility stands at the word before its name, after which its concept comes.
abbrev pub add_facility : State → State
add_facility s = record (without_3_words s) { args = others s.args; optional = others s.optional; pairs = others s.pairs; facilities = added (record { at = (word_2 s).at; name = (word_1 s).name; concept = (word_0 s).name; args = args s; realization = optional s; enhanced = pairs s }) s.facilities }

abbrev pub type_arg : State → State
type_arg s = record s { types = others s.types; args = added (arg.OfType (type_of s)) s.args }

abbrev pub minus_arg : Token → State → State
minus_arg last s = add_arg (arg.Number (word_0 s).at (negated (value_of last.kind))) (without_1_word s)

abbrev pub realized_by : State → State
realized_by s = record (without_1_word s) { optional = Some (word_0 s).name ∷ s.optional }

abbrev pub add_pair : Token → State → State
add_pair last s = record (without_1_word s) { pairs = added ((word_0 s).name, word_of last.kind) s.pairs }

abbrev pub facility_act : FacilityAction → Token → State → State
facility_act action.Facilities last s = record s { facilities = [] ∷ s.facilities }
facility_act action.Args last s = record s { args = [] ∷ s.args }
facility_act action.TypeArg last s = type_arg s
facility_act action.NumberArg last s = add_arg (arg.Number last.at (value_of last.kind)) s
facility_act action.MinusArg last s = minus_arg last s
facility_act action.RealizedBy last s = realized_by s
facility_act action.NotRealized last s = record s { optional = None ∷ s.optional }
facility_act action.Pairs last s = record s { pairs = [] ∷ s.pairs }
facility_act action.AddPair last s = add_pair last s
facility_act action.AddFacility last s = add_facility s
