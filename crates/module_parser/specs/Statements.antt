-- Statements, each put at the end of the block on top. It stands at its first word.
use Rattle.std.specs.Prelude.{[], ◌∷◌, Some, None}
use Rattle.res_ast.specs.declared.statement.Stmt.{Stmt}
use Rattle.res_ast.specs.declared.statement.Stmt.TheOpen.{Stmt-F}
use Rattle.res_ast.specs.declared.statement.Stmt.TheViews.{roll-Stmt}
use Rattle.expr_parser.specs.Actions.{added, others}
use Rattle.module_parser.specs.Stacks.{block_0, block_1, expr_0, expr_1, expr_2, list, place_0, place_1, places, without_1_expr, without_1_word, without_2_words, without_3_exprs, without_list, word_0, word_1}
use Rattle.module_parser.specs.declared.action.StmtAction.{StmtAction}
use Rattle.module_parser.specs.declared.action.StmtAction.TheVariants as action
use Rattle.module_parser.specs.declared.state.State.{State}

abbrev pub add_statement : Stmt → State → State
add_statement x s = record s { blocks = added x s.blocks }

abbrev pub place_alone : State → State
place_alone s = record (without_1_word s) { places = (record { at = (word_0 s).at; base = (word_0 s).name; field = None }) ∷ s.places }

abbrev pub place_field : State → State
place_field s = record (without_2_words s) { places = (record { at = (word_1 s).at; base = (word_1 s).name; field = Some (word_0 s).name }) ∷ s.places }

abbrev pub swap : State → State
swap s = add_statement (roll-Stmt (Stmt-F.Swap (place_1 s).at (place_1 s) (place_0 s))) (record s { places = others (others s.places) })

abbrev pub assign : State → State
assign s = add_statement (roll-Stmt (Stmt-F.Assign (place_0 s).at (place_0 s) (expr_0 s))) (record (without_1_expr s) { places = others s.places })

abbrev pub call_statement : State → State
call_statement s = add_statement (roll-Stmt (Stmt-F.Call (word_0 s).at None (word_0 s).name (list s))) (without_list (without_1_word s))

abbrev pub facility_call : State → State
facility_call s = add_statement (roll-Stmt (Stmt-F.Call (word_1 s).at (Some (word_1 s).name) (word_0 s).name (list s))) (without_list (without_2_words s))

-- the block after `then`, and above it that after `else`
abbrev pub if_statement : State → State
if_statement s = add_statement (roll-Stmt (Stmt-F.If (word_0 s).at (expr_0 s) (block_1 s) (block_0 s))) (record (without_1_word (without_1_expr s)) { blocks = others (others s.blocks) })

-- the guard, above it the invariant, above it the metric
abbrev pub while_statement : State → State
while_statement s = add_statement (roll-Stmt (Stmt-F.While (word_0 s).at (expr_2 s) (places s) (expr_1 s) (expr_0 s) (block_0 s))) (record (without_1_word (without_3_exprs s)) { place_lists = others s.place_lists; blocks = others s.blocks })

abbrev pub statement_act : StmtAction → State → State
statement_act action.Block s = record s { blocks = [] ∷ s.blocks }
statement_act action.PlaceAlone s = place_alone s
statement_act action.PlaceField s = place_field s
statement_act action.Places s = record s { place_lists = [] ∷ s.place_lists }
statement_act action.AddPlace s = record s { places = others s.places; place_lists = added (place_0 s) s.place_lists }
statement_act action.Swap s = swap s
statement_act action.Assign s = assign s
statement_act action.Call s = call_statement s
statement_act action.FacilityCall s = facility_call s
statement_act action.If s = if_statement s
statement_act action.While s = while_statement s
