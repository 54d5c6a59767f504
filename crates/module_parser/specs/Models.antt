-- Families and models. A model is the list of its parts as they were finished, so it is built without going down it.
use Rattle.std.specs.Prelude.{[], ◌∷◌, ◌++◌, Some, None}
use Rattle.res_ast.specs.declared.model.MPart.{MPart}
use Rattle.res_ast.specs.declared.model.MPart.TheVariants as part
use Rattle.res_lexer.specs.declared.token.Token.{Token}
use Rattle.res_grammar.specs.Classes.{word_of}
use Rattle.expr_parser.specs.Actions.{added, first_or, others}
use Rattle.module_parser.specs.Stacks.{clause_0, expr_0, without_1_expr, without_1_word, without_3_words, word_0, word_1, word_2}
use Rattle.module_parser.specs.declared.action.ModelAction.{ModelAction}
use Rattle.module_parser.specs.declared.action.ModelAction.TheVariants as action
use Rattle.module_parser.specs.declared.state.State.{State}

abbrev pub add_part : MPart → State → State
add_part p s = record s { model = s.model ++ (p ∷ []) }

abbrev pub parameter : Token → State → State
parameter last s = add_part (part.Param (word_of last.kind)) s

-- A product has the names of its factors, whose models stand before it.
abbrev pub product : State → State
product s = record s { factors = others s.factors; model = s.model ++ (part.Prod (first_or [] s.factors) ∷ []) }

abbrev pub add_factor : State → State
add_factor s = record (without_1_word s) { factors = added (word_0 s).name s.factors }

abbrev pub family_of : State → State
family_of s = record (without_3_words (without_1_expr s)) { clauses = others s.clauses; model = []; families = Some (record { at = (word_2 s).at; name = (word_1 s).name; model = record { parts = s.model }; exemplar = (word_0 s).name; constraint = clause_0 s; initial = expr_0 s }) ∷ s.families }

abbrev pub model_act : ModelAction → Token → State → State
model_act action.Z last s = add_part part.Z s
model_act action.B last s = add_part part.B s
model_act action.Str last s = add_part part.Str s
model_act action.Param last s = parameter last s
model_act action.Factors last s = record s { factors = [] ∷ s.factors }
model_act action.AddFactor last s = add_factor s
model_act action.Product last s = product s
model_act action.Family last s = family_of s
model_act action.NoFamily last s = record s { families = None ∷ s.families }
