-- Names, clauses, types and headings.
use Rattle.std.specs.Prelude.{ℕ, Bool, List, [], ◌∷◌, ◌++◌, map, Some, None}
use Rattle.res_ast.specs.declared.heading.Mode.{Mode}
use Rattle.res_ast.specs.declared.heading.Param.{Param}
use Rattle.res_ast.specs.declared.heading.PType.{PType}
use Rattle.res_lexer.specs.declared.token.Token.{Token}
use Rattle.expr_parser.specs.declared.word.Word.{Word}
use Rattle.res_grammar.specs.Classes.{word_of}
use Rattle.expr_parser.specs.Actions.{added, first_or, kept, others}
use Rattle.module_parser.specs.Stacks.{clause_0, clause_1, expr_0, heading, mode, params, result_of, type_of, without_1_expr, without_1_word, without_2_words, word_0, word_1, words}
use Rattle.module_parser.specs.declared.action.HeadingAction.{HeadingAction}
use Rattle.module_parser.specs.declared.action.HeadingAction.TheVariants as action
use Rattle.module_parser.specs.declared.state.State.{State}

-- each of the names as a parameter of this mode and type
abbrev pub params_of : Mode → PType → List Word → List Param
params_of m t ws = map (λ w. record { at = w.at; mode = m; name = w.name; ptype = t }) ws

-- each of the names with the type
abbrev pub typed : PType → List Word → List (List ℕ × PType)
typed t ws = map (λ w. (w.name, t)) ws

abbrev pub add_params : State → State
add_params s = record s { names = others s.names; modes = others s.modes; types = others s.types; params = (params s ++ params_of (mode s) (type_of s) (words s)) ∷ others s.params }

abbrev pub add_typed_names : State → State
add_typed_names s = record s { names = others s.names; types = others s.types; fields = (first_or [] s.fields ++ typed (type_of s) (words s)) ∷ others s.fields }

abbrev pub type_word : Token → State → State
type_word last s = record s { types = (record { at = last.at; facility = None; name = word_of last.kind }) ∷ s.types }

abbrev pub type_alone : State → State
type_alone s = record (without_1_word s) { types = (record { at = (word_0 s).at; facility = None; name = (word_0 s).name }) ∷ s.types }

abbrev pub type_of_facility : Token → State → State
type_of_facility last s = record (without_1_word s) { types = (record { at = (word_0 s).at; facility = Some (word_0 s).name; name = word_of last.kind }) ∷ s.types }

abbrev pub result_type : Token → State → State
result_type last s = record s { results = Some (record { at = last.at; facility = None; name = word_of last.kind }) ∷ s.results }

-- A heading stands at the word before its name, and has two clauses.
abbrev pub heading_of : State → State
heading_of s = record (without_2_words s) { params = others s.params; results = others s.results; clauses = others (others s.clauses); headings = (record { at = (word_1 s).at; name = (word_0 s).name; params = params s; result = result_of s; requires_clause = clause_1 s; ensures_clause = clause_0 s }) ∷ s.headings }

-- That of a realization's procedure stands at its name, and has none.
abbrev pub signature : State → State
signature s = record (without_1_word s) { params = others s.params; results = others s.results; headings = (record { at = (word_0 s).at; name = (word_0 s).name; params = params s; result = result_of s; requires_clause = None; ensures_clause = None }) ∷ s.headings }

abbrev pub add_formal : Bool → Token → State → State
add_formal is_type last s = record s { formals = added (record { at = last.at; name = word_of last.kind; is_type = is_type }) s.formals }

abbrev pub some_clause : State → State
some_clause s = record (without_1_expr s) { clauses = Some (expr_0 s) ∷ s.clauses }

abbrev pub heading_act : HeadingAction → Token → State → State
heading_act action.Names last s = record s { names = [] ∷ s.names }
heading_act action.AddName last s = record s { names = added (kept last) s.names }
heading_act action.SomeClause last s = some_clause s
heading_act action.NoClause last s = record s { clauses = None ∷ s.clauses }
heading_act action.Formals last s = record s { formals = [] ∷ s.formals }
heading_act (action.AddFormal is_type) last s = add_formal is_type last s
heading_act (action.Mode m) last s = record s { modes = m ∷ s.modes }
heading_act action.TypeWord last s = type_word last s
heading_act action.TypeAlone last s = type_alone s
heading_act action.TypeOf last s = type_of_facility last s
heading_act action.ResultType last s = result_type last s
heading_act action.NoResult last s = record s { results = None ∷ s.results }
heading_act action.Params last s = record s { params = [] ∷ s.params }
heading_act action.AddParams last s = add_params s
heading_act action.TypedNames last s = record s { fields = [] ∷ s.fields }
heading_act action.AddTypedNames last s = add_typed_names s
heading_act action.Headings last s = record s { heading_lists = [] ∷ s.heading_lists }
heading_act action.Heading last s = heading_of s
heading_act action.Signature last s = signature s
heading_act action.AddHeading last s = record s { headings = others s.headings; heading_lists = added (heading s) s.heading_lists }
