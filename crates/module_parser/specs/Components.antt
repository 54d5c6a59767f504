-- Procedures and components.
use Rattle.std.specs.Prelude.{ℕ, [], ◌∷◌, ◌++◌, Some, None}
use Rattle.res_ast.specs.declared.component.Component.{Component}
use Rattle.res_ast.specs.declared.component.Component.TheVariants as component
use Rattle.res_ast.specs.declared.procedure.Procedure.{Procedure}
use Rattle.res_lexer.specs.declared.token.Token.{Token}
use Rattle.expr_parser.specs.Actions.{added, kept, others}
use Rattle.module_parser.specs.Stacks.{block_0, clause_0, expr_0, expr_1, facilities, family, fields, formals, heading, headings, locals, names, optional, procedures, rep, without_1_word, without_2_exprs, without_2_words, without_3_words, without_4_words, word_0, word_1, word_2, word_3}
use Rattle.module_parser.specs.declared.action.ComponentAction.{ComponentAction}
use Rattle.module_parser.specs.declared.action.ComponentAction.TheVariants as action
use Rattle.module_parser.specs.declared.state.State.{State}

abbrev pub add_component : Component → State → State
add_component c s = record s { components = s.components ++ (c ∷ []) }

-- A procedure at this place, with what was read last; its last `end` is the newest word.
abbrev pub procedure : State → ℕ → Procedure
procedure s at = record { at = at; heading = heading s; metric = clause_0 s; vars = fields s; body = block_0 s; end_at = (word_0 s).at }

abbrev pub without_procedure : State → State
without_procedure s = record s { headings = others s.headings; clauses = others s.clauses; fields = others s.fields; blocks = others s.blocks }

-- A local operation's procedure stands where its heading stands,
abbrev pub add_local : State → State
add_local s = record (without_1_word (without_procedure s)) { locals = added (record { procedure = procedure s (heading s).at }) s.locals }

-- another at its first word.
abbrev pub add_procedure : State → State
add_procedure s = record (without_2_words (without_procedure s)) { procedures = added (procedure s (word_1 s).at) s.procedures }

abbrev pub rep_of : State → State
rep_of s = record (without_3_words (without_2_exprs s)) { fields = others s.fields; reps = Some (record { at = (word_2 s).at; name = (word_1 s).name; fields = fields s; convention = expr_1 s; conc = (word_0 s).name; correspondence = expr_0 s }) ∷ s.reps }

abbrev pub concept_of : State → State
concept_of s = add_component (component.Concept (record { at = (word_1 s).at; name = (word_0 s).name; formals = formals s; uses = names s; requires_clause = clause_0 s; family = family s; headings = headings s })) (record (without_2_words s) { formals = others s.formals; names = others s.names; clauses = others s.clauses; families = others s.families; heading_lists = others s.heading_lists })

abbrev pub enhancement_of : State → State
enhancement_of s = add_component (component.Enhancement (record { at = (word_2 s).at; name = (word_1 s).name; concept = (word_0 s).name; uses = names s; headings = headings s })) (record (without_3_words s) { names = others s.names; heading_lists = others s.heading_lists })

-- Its last `end` is the newest word.
abbrev pub realization_of : State → State
realization_of s = add_component (component.Realization (record { at = (word_3 s).at; name = (word_2 s).name; enhancement = optional s; concept = (word_1 s).name; uses = names s; facilities = facilities s; rep = rep s; locals = locals s; procs = procedures s; end_at = (word_0 s).at })) (record (without_4_words s) { optional = others s.optional; names = others s.names; facilities = others s.facilities; reps = others s.reps; locals = others s.locals; procedures = others s.procedures })

abbrev pub module_of : State → State
module_of s = add_component (component.Facility (record { at = (word_1 s).at; name = (word_0 s).name; uses = names s; facilities = facilities s; operations = locals s })) (record (without_2_words s) { names = others s.names; facilities = others s.facilities; locals = others s.locals })

-- What was read after `for` is an enhancement, and this is its concept.
abbrev pub of_concept : Token → State → State
of_concept last s = record s { operands = record s.operands { words = kept last ∷ others s.operands.words }; optional = Some (word_0 s).name ∷ s.optional }

abbrev pub component_act : ComponentAction → Token → State → State
component_act action.Concept last s = concept_of s
component_act action.Enhancement last s = enhancement_of s
component_act action.Realization last s = realization_of s
component_act action.Module last s = module_of s
component_act action.OfConcept last s = of_concept last s
component_act action.ForConcept last s = record s { optional = None ∷ s.optional }
component_act action.Rep last s = rep_of s
component_act action.NoRep last s = record s { reps = None ∷ s.reps }
component_act action.Locals last s = record s { locals = [] ∷ s.locals }
component_act action.AddLocal last s = add_local s
component_act action.Procedures last s = record s { procedures = [] ∷ s.procedures }
component_act action.AddProcedure last s = add_procedure s
