-- Places do not matter to what is built: over tokens at place 0 the same trees come, without their places.
use Rattle.std.proofs.Common.{◌≡◌, ◌∙◌, refl, ap, List, [], ◌∷◌, map, Option, Some, None}
use Rattle.std.specs.Option.{option_map}
use Rattle.std.proofs.lemmas.List.{map-append}
use Rattle.ll_grammar.specs.declared.form.Move.{Move}
use Rattle.ll_grammar.specs.declared.form.Move.TheVariants.{Shift, Expand, Act}
use Rattle.ll_grammar.specs.Grammar.{built}
use Rattle.res_ast.specs.declared.expression.Expr.{Expr}
use Rattle.res_ast.specs.declared.expression.Form.TheFolds.{fold-roll-Expr, fold-roll-Form}
use Rattle.res_ast.specs.declared.heading.Mode.{Mode}
use Rattle.res_ast.specs.declared.heading.PType.{PType}
use Rattle.res_ast.specs.declared.statement.Stmt.TheFolds.{fold-roll-Stmt}
use Rattle.res_lexer.specs.declared.token.Token.{Token}
use Rattle.expr_parser.specs.declared.word.Word.{Word}
use Rattle.expr_parser.specs.declared.operands.Operands.{Operands}
use Rattle.expr_parser.specs.declared.action.ExprAction.{ExprAction}
use Rattle.expr_parser.specs.declared.action.ExprAction.TheVariants as expr
use Rattle.expr_parser.specs.Actions.{act, first_or, no_expr, no_word, others}
use Rattle.expr_parser.specs.Built.{Stage, no_token}
use Rattle.module_parser.specs.Actions.{file_act}
use Rattle.module_parser.specs.Components.{component_act}
use Rattle.module_parser.specs.Facilities.{facility_act}
use Rattle.module_parser.specs.Headings.{heading_act, params_of, typed}
use Rattle.module_parser.specs.Models.{model_act}
use Rattle.module_parser.specs.Stacks.{no_heading, no_place, no_type, outset}
use Rattle.module_parser.specs.Statements.{statement_act}
use Rattle.module_parser.specs.Marks.{action_of}
use Rattle.module_parser.specs.Spelling.{components_of, files}
use Rattle.module_parser.specs.declared.action.Action.{Action}
use Rattle.module_parser.specs.declared.action.Action.TheVariants as action
use Rattle.module_parser.specs.declared.action.ComponentAction.{ComponentAction}
use Rattle.module_parser.specs.declared.action.ComponentAction.TheVariants as component
use Rattle.module_parser.specs.declared.action.FacilityAction.{FacilityAction}
use Rattle.module_parser.specs.declared.action.FacilityAction.TheVariants as facility
use Rattle.module_parser.specs.declared.action.HeadingAction.{HeadingAction}
use Rattle.module_parser.specs.declared.action.HeadingAction.TheVariants as heading
use Rattle.module_parser.specs.declared.action.ModelAction.{ModelAction}
use Rattle.module_parser.specs.declared.action.ModelAction.TheVariants as model
use Rattle.module_parser.specs.declared.action.StmtAction.{StmtAction}
use Rattle.module_parser.specs.declared.action.StmtAction.TheVariants as statement
use Rattle.module_parser.specs.declared.state.State.{State}
use Rattle.round_trip.specs.ReadsBack.{token}
use Rattle.round_trip.specs.WellFormed.{unplaced}
use Rattle.round_trip.specs.Unplaced.{unplaced_argument, unplaced_component, unplaced_facility, unplaced_family, unplaced_field, unplaced_formal, unplaced_heading, unplaced_local, unplaced_param, unplaced_place, unplaced_procedure, unplaced_rep, unplaced_statement, unplaced_type}

-- ---- what has been built, without places

abbrev pub bare_token : Token → Token
bare_token t = token t.kind

abbrev pub bare_word : Word → Word
bare_word w = record w { at = 0 }

abbrev pub bare_operands : Operands → Operands
bare_operands s = record { words = map bare_word s.words; exprs = map unplaced s.exprs; lists = map (map unplaced) s.lists }

abbrev pub bare : State → State
bare s = record {
  operands = bare_operands s.operands;
  names = map (map bare_word) s.names;
  clauses = map (option_map unplaced) s.clauses;
  modes = s.modes;
  types = map unplaced_type s.types;
  results = map (option_map unplaced_type) s.results;
  params = map (map unplaced_param) s.params;
  headings = map unplaced_heading s.headings;
  heading_lists = map (map unplaced_heading) s.heading_lists;
  fields = map (map unplaced_field) s.fields;
  model = s.model;
  factors = s.factors;
  families = map (option_map unplaced_family) s.families;
  formals = map (map unplaced_formal) s.formals;
  places = map unplaced_place s.places;
  place_lists = map (map unplaced_place) s.place_lists;
  blocks = map (map unplaced_statement) s.blocks;
  args = map (map unplaced_argument) s.args;
  optional = s.optional;
  pairs = s.pairs;
  facilities = map (map unplaced_facility) s.facilities;
  reps = map (option_map unplaced_rep) s.reps;
  locals = map (map unplaced_local) s.locals;
  procedures = map (map unplaced_procedure) s.procedures;
  components = map unplaced_component s.components;
}

abbrev pub bare_stage : Stage State → Stage State
bare_stage s = record { last = bare_token s.last; state = bare s.state }

-- ---- stacks

others_map : {A B : Type 0} (f : A → B) (xs : List A) → others (map f xs) ≡ map f (others xs)
others_map f [] = refl
others_map f (x ∷ xs) = refl

first_map : {A B : Type 0} (f : A → B) (d : A) (xs : List A) → first_or (f d) (map f xs) ≡ f (first_or d xs)
first_map f d [] = refl
first_map f d (x ∷ xs) = refl

first_list : {A B : Type 0} (f : A → B) (xss : List (List A)) → first_or [] (map (map f) xss) ≡ map f (first_or [] xss)
first_list f [] = refl
first_list f (xs ∷ xss) = refl

first_option : {A B : Type 0} (f : A → B) (xs : List (Option A)) → first_or None (map (option_map f) xs) ≡ option_map f (first_or None xs)
first_option f [] = refl
first_option f (x ∷ xs) = refl

first_expr : (xs : List Expr) → first_or no_expr (map unplaced xs) ≡ unplaced (first_or no_expr xs)
first_expr [] = simp (fold-roll-Expr, fold-roll-Form)
first_expr (x ∷ xs) = refl

names_bare : (ws : List Word) → map (λ (w : Word). w.name) (map bare_word ws) ≡ map (λ (w : Word). w.name) ws
names_bare [] = refl
names_bare (w ∷ ws) = ap (λ z. w.name ∷ z) (names_bare ws)

params_bare : (m : Mode) (t : PType) (ws : List Word) → params_of m (unplaced_type t) (map bare_word ws) ≡ map unplaced_param (params_of m t ws)
params_bare m t [] = refl
params_bare m t (w ∷ ws) = ap (λ z. record { at = 0; mode = m; name = w.name; ptype = unplaced_type t } ∷ z) (params_bare m t ws)

typed_bare : (t : PType) (ws : List Word) → typed (unplaced_type t) (map bare_word ws) ≡ map unplaced_field (typed t ws)
typed_bare t [] = refl
typed_bare t (w ∷ ws) = ap (λ z. (w.name, unplaced_type t) ∷ z) (typed_bare t ws)

-- ---- actions

expr_bare : (a : ExprAction) (last : Token) (s : Operands) → bare_operands (act a last s) ≡ act a (bare_token last) (bare_operands s)
expr_bare expr.Keep last s = refl
expr_bare expr.OpenList last s = refl
expr_bare expr.AddExpr last s = simp (others_map, first_expr, first_list, map-append)
expr_bare expr.Parentheses last s = simp others_map
expr_bare a last s = simp (fold-roll-Expr, fold-roll-Form, others_map, first_expr, first_list, first_map bare_word no_word)

heading_bare : (a : HeadingAction) (last : Token) (s : State) → bare (heading_act a last s) ≡ heading_act a (bare_token last) (bare s)
heading_bare heading.Names last s = refl
heading_bare heading.NoClause last s = refl
heading_bare heading.Formals last s = refl
heading_bare (heading.Mode m) last s = refl
heading_bare heading.TypeWord last s = refl
heading_bare heading.ResultType last s = refl
heading_bare heading.NoResult last s = refl
heading_bare heading.Params last s = refl
heading_bare heading.TypedNames last s = refl
heading_bare heading.Headings last s = refl
heading_bare heading.AddName last s = simp (others_map, first_list, map-append)
heading_bare heading.SomeClause last s = simp (others_map, first_expr)
heading_bare (heading.AddFormal b) last s = simp (others_map, first_list, map-append)
heading_bare heading.TypeAlone last s = simp (others_map, first_map bare_word no_word)
heading_bare heading.TypeOf last s = simp (others_map, first_map bare_word no_word)
heading_bare heading.AddParams last s = simp (others_map, first_list, map-append, params_bare, first_map unplaced_type no_type)
heading_bare heading.AddTypedNames last s = simp (others_map, first_list, map-append, typed_bare, first_map unplaced_type no_type)
heading_bare heading.Heading last s = simp (others_map, first_list, first_option, first_map bare_word no_word)
heading_bare heading.Signature last s = simp (others_map, first_list, first_option, first_map bare_word no_word)
heading_bare heading.AddHeading last s = simp (others_map, first_list, map-append, first_map unplaced_heading no_heading)

model_bare : (a : ModelAction) (last : Token) (s : State) → bare (model_act a last s) ≡ model_act a (bare_token last) (bare s)
model_bare model.Z last s = refl
model_bare model.B last s = refl
model_bare model.Str last s = refl
model_bare model.Param last s = refl
model_bare model.Factors last s = refl
model_bare model.Product last s = refl
model_bare model.NoFamily last s = refl
model_bare model.AddFactor last s = simp (others_map, first_map bare_word no_word)
model_bare model.Family last s = simp (others_map, first_option, first_expr, first_map bare_word no_word)

facility_bare : (a : FacilityAction) (last : Token) (s : State) → bare (facility_act a last s) ≡ facility_act a (bare_token last) (bare s)
facility_bare facility.Facilities last s = refl
facility_bare facility.Args last s = refl
facility_bare facility.NotRealized last s = refl
facility_bare facility.Pairs last s = refl
facility_bare facility.TypeArg last s = simp (others_map, first_list, map-append, first_map unplaced_type no_type)
facility_bare facility.NumberArg last s = simp (others_map, first_list, map-append)
facility_bare facility.MinusArg last s = simp (others_map, first_list, map-append, first_map bare_word no_word)
facility_bare facility.RealizedBy last s = simp (others_map, first_map bare_word no_word)
facility_bare facility.AddPair last s = simp (others_map, first_map bare_word no_word)
facility_bare facility.AddFacility last s = simp (others_map, first_list, map-append, first_map bare_word no_word)

statement_bare : (a : StmtAction) (s : State) → bare (statement_act a s) ≡ statement_act a (bare s)
statement_bare statement.Block s = refl
statement_bare statement.Places s = refl
statement_bare statement.PlaceAlone s = simp (others_map, first_map bare_word no_word)
statement_bare statement.PlaceField s = simp (others_map, first_map bare_word no_word)
statement_bare statement.AddPlace s = simp (others_map, first_list, map-append, first_map unplaced_place no_place)
statement_bare a s = simp (fold-roll-Stmt, others_map, first_list, first_expr, map-append, first_map bare_word no_word, first_map unplaced_place no_place)

component_bare : (a : ComponentAction) (last : Token) (s : State) → bare (component_act a last s) ≡ component_act a (bare_token last) (bare s)
component_bare component.ForConcept last s = refl
component_bare component.NoRep last s = refl
component_bare component.Locals last s = refl
component_bare component.Procedures last s = refl
component_bare component.OfConcept last s = simp (others_map, first_map bare_word no_word)
component_bare component.Rep last s = simp (others_map, first_list, first_expr, first_map bare_word no_word)
component_bare a last s = simp (others_map, first_list, first_option, names_bare, map-append, first_map bare_word no_word, first_map unplaced_heading no_heading)

file_bare : (a : Action) (last : Token) (s : State) → bare (file_act a last s) ≡ file_act a (bare_token last) (bare s)
file_bare (action.OfExpr a) last s = ap (λ o. record (bare s) { operands = o }) (expr_bare a last s.operands)
file_bare (action.OfHeading a) last s = heading_bare a last s
file_bare (action.OfModel a) last s = model_bare a last s
file_bare (action.OfFacility a) last s = facility_bare a last s
file_bare (action.OfStatement a) last s = statement_bare a s
file_bare (action.OfComponent a) last s = component_bare a last s

abbrev acted : Option Action → Token → State → State
acted o last s = elim o as (λ p. State) [ None ↦ s | Some x ↦ file_act x last s ]

acted_bare : (o : Option Action) (last : Token) (s : State) → bare (acted o last s) ≡ acted o (bare_token last) (bare s)
acted_bare None last s = refl
acted_bare (Some a) last s = file_bare a last s

-- ---- moves

built_bare : (ms : List Move) (ts : List Token) (s : Stage State) → bare_stage (built files ms ts s) ≡ built files ms (map bare_token ts) (bare_stage s)
built_bare [] ts s = refl
built_bare (Shift ∷ ms) [] s = built_bare ms [] s
built_bare (Shift ∷ ms) (t ∷ ts) s = built_bare ms ts (files.take t s)
built_bare (Expand x k ∷ ms) ts s = built_bare ms ts s
built_bare (Act a ∷ ms) ts s =
    built_bare ms ts (files.act a s)
    ∙ ap (λ (z : State). built files ms (map bare_token ts) (record { last = bare_token s.last; state = z })) (acted_bare (action_of a) s.last s.state)

-- What moves build of tokens at place 0 is what they build of the tokens, without its places.
pub components_bare : (ms : List Move) (ts : List Token) → map unplaced_component (components_of ms ts) ≡ components_of ms (map bare_token ts)
components_bare ms ts = ap (λ (z : Stage State). z.state.components) (built_bare ms ts (record { last = no_token; state = outset }))
