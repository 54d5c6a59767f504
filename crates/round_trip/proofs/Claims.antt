-- What is claimed of each part of the grammar above expressions: a tree was read, and it has a canonical derivation.
use Rattle.std.proofs.Common.{◌≡◌, ◌∙◌, ap, sym, refl, append-nil, append_assoc, ℕ, ◌==◌, Bool, true, false, List, [], ◌∷◌, ◌++◌, map, Option, Some, None, codes}
use Rattle.ll_grammar.specs.Grammar as grammar
use Rattle.ll_grammar.specs.Grammar.{at}
use Rattle.ll_grammar.specs.declared.form.Symbol.TheVariants.{Terminal, Nonterminal, Action}
use Rattle.identifiers.specs.Laws.{PlainAreAscii}
use Rattle.res_lexer.specs.Spaced.{IsWritable}
use Rattle.res_lexer.specs.declared.token.Token.{Token}
use Rattle.res_lexer.specs.declared.token.TokenKind.TheVariants as kind
use Rattle.res_ast.specs.declared.component.Component.{Component}
use Rattle.res_ast.specs.declared.expression.Expr.{Expr}
use Rattle.res_ast.specs.declared.facility.FacArg.{FacArg}
use Rattle.res_ast.specs.declared.facility.FacDecl.{FacDecl}
use Rattle.res_ast.specs.declared.heading.Formal.{Formal}
use Rattle.res_ast.specs.declared.heading.Heading.{Heading}
use Rattle.res_ast.specs.declared.heading.Mode.{Mode}
use Rattle.res_ast.specs.declared.heading.Param.{Param}
use Rattle.res_ast.specs.declared.heading.PType.{PType}
use Rattle.res_ast.specs.declared.model.Family.{Family}
use Rattle.res_ast.specs.declared.model.MPart.{MPart}
use Rattle.res_ast.specs.declared.procedure.LocalOp.{LocalOp}
use Rattle.res_ast.specs.declared.procedure.Procedure.{Procedure}
use Rattle.res_ast.specs.declared.procedure.Rep.{Rep}
use Rattle.res_ast.specs.declared.statement.Place.{Place}
use Rattle.res_ast.specs.declared.statement.Stmt.{Stmt}
use Rattle.res_grammar.specs.Classes.{class_of}
use Rattle.res_grammar.specs.Language.{language_rules}
use Rattle.res_grammar.specs.Numbers as n
use Rattle.res_grammar.specs.declared.nesting.Nesting.{Nesting}
use Rattle.expr_parser.specs.Actions.{added, first_or, others, with_word}
use Rattle.expr_parser.specs.Built.{Stage}
use Rattle.expr_parser.specs.declared.word.Word.{Word}
use Rattle.module_parser.specs.Components.{of_concept}
use Rattle.module_parser.specs.Headings.{signature, type_alone, type_of_facility}
use Rattle.module_parser.specs.Stacks.{without_1_word, without_2_words, word_0, word_1}
use Rattle.module_parser.specs.Statements.{add_statement, place_alone, place_field}
use Rattle.module_parser.specs.declared.state.State.{State}
use Rattle.res_printer.specs.Components.{argument, clause, enhanced, facility, facility_arguments, family, field, formal, formals, heading, local, mode_word, param, piece_of, procedure, ptype, realized, representation, result_type, uses, variable}
use Rattle.res_printer.specs.Expressions.{at_level, expression, listed, written}
use Rattle.res_printer.specs.Models.{factor, finished}
use Rattle.res_printer.specs.Pieces.{Piece, closing, comma, dot, each, nothing, row, says, semicolon, separated}
use Rattle.res_printer.specs.Statements.{otherwise, place, statement, statements}
use Rattle.round_trip.specs.ReadsBack.{token}
use Rattle.round_trip.proofs.Canonical.{AtStart, Canonical, Going, Knowledge, Staged, staged}
use Rattle.round_trip.proofs.Chains.{Claim, Ways}
use Rattle.round_trip.proofs.Doing.{Doing, did, then, took}

abbrev pub Name : Type 0
Name = List ℕ

-- ---- claims of one value

-- This tree was read, and it is printed.
pub record Value (A : Type 0) (part : ℕ) (text : A → Knowledge → Piece) (push : A → State → State) (after : A → Knowledge → Knowledge) (m : Doing) : Type 0 where
  pub value : A
  pub light : Bool
  pub canonical : Canonical part (text value) (push value) (after value) light m

-- one that changes no knowledge
abbrev pub Plain : (A : Type 0) → ℕ → (A → Piece) → (A → State → State) → Doing → Type 0
Plain A part text push m = Value A part (λ x k. text x) push (λ x k. k) m

-- one in which nothing nests and nothing is refused
pub record LightValue (A : Type 0) (part : ℕ) (text : A → Piece) (push : A → State → State) (m : Doing) : Type 0 where
  pub value : A
  pub canonical : Canonical part (λ k. text value) (push value) (λ k. k) true m

-- ---- what is built

-- a name as a word that was kept
abbrev pub named : Name → Word
named x = record { at = 0; name = x }

abbrev pub keep : Name → State → State
keep x s = record s { operands = with_word (named x) s.operands }

abbrev pub put : Expr → State → State
put x s = record s { operands = record s.operands { exprs = x ∷ s.operands.exprs } }

-- one behind the other at the end of the list on top
abbrev pub added_all : {A : Type 0} → List A → List (List A) → List (List A)
added_all [] s = s
added_all (x ∷ xs) s = added_all xs (added x s)

abbrev pub put_exprs : List Expr → State → State
put_exprs es s = record s { operands = record s.operands { lists = es ∷ s.operands.lists } }

abbrev pub put_names : List Name → State → State
put_names xs s = record s { names = map named xs ∷ s.names }

abbrev pub add_names : List Name → State → State
add_names xs s = record s { names = added_all (map named xs) s.names }

abbrev pub put_clause : Option Expr → State → State
put_clause c s = record s { clauses = c ∷ s.clauses }

abbrev pub put_mode : Mode → State → State
put_mode m s = record s { modes = m ∷ s.modes }

abbrev pub put_type : PType → State → State
put_type t s = record s { types = t ∷ s.types }

abbrev pub put_result : Option PType → State → State
put_result t s = record s { results = t ∷ s.results }

abbrev pub add_params : List Param → State → State
add_params ps s = record s { params = added_all ps s.params }

abbrev pub put_heading : Heading → State → State
put_heading h s = record s { headings = h ∷ s.headings }

abbrev pub add_headings : List Heading → State → State
add_headings hs s = record s { heading_lists = added_all hs s.heading_lists }

abbrev pub add_fields : List (Name × PType) → State → State
add_fields fs s = record s { fields = added_all fs s.fields }

abbrev pub put_formals : List Formal → State → State
put_formals fs s = record s { formals = fs ∷ s.formals }

abbrev pub add_formals : List Formal → State → State
add_formals fs s = record s { formals = added_all fs s.formals }

abbrev pub put_place : Place → State → State
put_place p s = record s { places = p ∷ s.places }

abbrev pub add_places : List Place → State → State
add_places ps s = record s { place_lists = added_all ps s.place_lists }

abbrev pub put_block : List Stmt → State → State
put_block ss s = record s { blocks = ss ∷ s.blocks }

abbrev pub add_statements : List Stmt → State → State
add_statements ss s = record s { blocks = added_all ss s.blocks }

abbrev pub add_args : List FacArg → State → State
add_args xs s = record s { args = added_all xs s.args }

abbrev pub add_pairs : List (Name × Name) → State → State
add_pairs ps s = record s { pairs = added_all ps s.pairs }

abbrev pub add_facilities : List FacDecl → State → State
add_facilities fs s = record s { facilities = added_all fs s.facilities }

abbrev pub put_rep : Option Rep → State → State
put_rep r s = record s { reps = r ∷ s.reps }

abbrev pub add_locals : List LocalOp → State → State
add_locals ls s = record s { locals = added_all ls s.locals }

abbrev pub add_procedures : List Procedure → State → State
add_procedures ps s = record s { procedures = added_all ps s.procedures }

-- ---- names

abbrev pub AllNames : List Name → Type 0
AllNames [] = Unit {0}
AllNames (x ∷ xs) = (class_of (kind.Word x) ≡ n.id) × IsWritable (kind.Word x) × AllNames xs

abbrev pub more_names : List Name → Piece
more_names xs = each (λ x. row (comma ∷ says x ∷ [])) xs

pub record MoreNames (m : Doing) : Type 0 where
  pub read : LightValue (List Name) n.more_names_part more_names add_names m
  pub are : AllNames read.value

-- what is known once a component, or an operation, has been named
abbrev pub in_component : Name → Knowledge → Knowledge
in_component x k = record k { component = Some x }

abbrev pub in_operation : Name → Knowledge → Knowledge
in_operation x k = record k { operation = Some x }

-- the name, or this word where there is none
abbrev pub known_or : Name → Option Name → Name
known_or x None = x
known_or x (Some y) = y

abbrev pub same_state : Name → State → State
same_state x s = s

-- any word, of which nothing but its token is known
pub record AnyWord (m : Doing) : Type 0 where
  pub word : Name
  pub class : ℕ
  pub way : ℕ
  pub spells : at (grammar.row language_rules n.word_part) way ≡ Some (Terminal class ∷ [])
  pub is_class : (class == class_of (kind.Word word)) ≡ true
  pub writable : PlainAreAscii → IsWritable (kind.Word word)
  pub is : m ≡ took (kind.Word word)

-- ---- headings

abbrev pub type_rest_text : Option Name → Piece
type_rest_text None = nothing
type_rest_text (Some x) = row (dot ∷ says x ∷ [])

abbrev pub type_of : Name → State → State
type_of x s = type_of_facility (token (kind.Word x)) s

abbrev pub type_rest : Option Name → State → State
type_rest None s = type_alone s
type_rest (Some x) s = type_of x s

pub record HeadingRest : Type 0 where
  pub result : Option PType
  pub requires_clause : Option Expr
  pub ensures_clause : Option Expr

abbrev pub heading_rest_text : HeadingRest → Piece
heading_rest_text h = row (result_type h.result ∷ semicolon ∷ clause (codes "requires") h.requires_clause ∷ clause (codes "ensures") h.ensures_clause ∷ [])

abbrev pub put_heading_rest : HeadingRest → State → State
put_heading_rest h s = record s { results = h.result ∷ s.results; clauses = h.ensures_clause ∷ h.requires_clause ∷ s.clauses }

-- the operation that was named last
abbrev pub last_operation : List Name → Option Name → Option Name
last_operation [] o = o
last_operation (x ∷ xs) o = last_operation xs (Some x)

abbrev pub in_operations : List Name → Knowledge → Knowledge
in_operations xs k = record k { operation = last_operation xs k.operation }

-- A heading with a result ends the clause on it.
abbrev pub goes_on : Option PType → Bool → Bool
goes_on None b = b
goes_on (Some t) b = false

pub goes_off : (t : Option PType) (b : Bool) → b ≡ false → goes_on t b ≡ false
goes_off None b e = e
goes_off (Some t) b e = refl

abbrev pub after_result : Option PType → Knowledge → Knowledge
after_result t k = record k { in_result = goes_on t k.in_result }

abbrev pub in_heading : Heading → Knowledge → Knowledge
in_heading h k = record k { operation = Some h.name; in_result = goes_on h.result k.in_result }

abbrev pub heading_names : List Heading → List Name
heading_names hs = map (λ h. h.name) hs

abbrev pub all_go_on : List Heading → Bool → Bool
all_go_on [] b = b
all_go_on (h ∷ hs) b = all_go_on hs (goes_on h.result b)

pub all_go_off : (hs : List Heading) (b : Bool) → b ≡ false → all_go_on hs b ≡ false
all_go_off [] b e = e
all_go_off (h ∷ hs) b e = all_go_off hs (goes_on h.result b) (goes_off h.result b e)

abbrev pub in_headings : List Heading → Knowledge → Knowledge
in_headings hs k = record k { operation = last_operation (heading_names hs) k.operation; in_result = all_go_on hs k.in_result }

-- Parameters that were read as one group, and are printed one by one.
pub record ParameterGroup (m : Doing) : Type 0 where
  pub first : Param
  pub others : List Param
  pub read_last : Stage State → Token
  pub last : Stage State → Token
  pub going : Going (Nonterminal n.parameter_part ∷ Nonterminal n.more_parameters_part ∷ []) (Nonterminal n.more_parameters_part ∷ []) (λ k. row (param first ∷ each (λ p. row (semicolon ∷ param p ∷ [])) others ∷ [])) (staged read_last (add_params (first ∷ others))) (staged last (add_params (first ∷ others))) (λ k. k) true m

-- ---- models

-- A model was read: these parts, which print this.
pub record ModelParts : Type 0 where
  pub parts : List MPart
  pub piece : Piece
  pub finishes : (stack : List Piece) → finished parts stack ≡ piece ∷ stack

abbrev pub add_model : List MPart → State → State
add_model ps s = record s { model = s.model ++ ps }

-- pieces on a stack, the last on top
abbrev pub stacked : List Piece → List Piece → List Piece
stacked [] stack = stack
stacked (p ∷ ps) stack = stacked ps (p ∷ stack)

pub record FactorParts : Type 0 where
  pub factors : List (Name × Piece)
  pub parts : List MPart
  pub finishes : (stack : List Piece) → finished parts stack ≡ stacked (map (λ f. f.1) factors) stack

abbrev pub factor_names : List (Name × Piece) → List Name
factor_names fs = map (λ f. f.0) fs

abbrev pub factor_texts : List (Name × Piece) → List Piece
factor_texts fs = map (λ f. factor f.0 f.1) fs

abbrev pub more_factors : FactorParts → Piece
more_factors f = each (λ p. row (semicolon ∷ p ∷ [])) (factor_texts f.factors)

abbrev pub add_factors : FactorParts → State → State
add_factors f s = record s { model = s.model ++ f.parts; factors = added_all (factor_names f.factors) s.factors }

-- A family is built of what is there of a model before, which is nothing where all is well.
pub record FamilyRead : Type 0 where
  pub family : List MPart → Option Family
  pub left : List MPart → List MPart
  pub clean : left [] ≡ []

abbrev pub put_family : FamilyRead → State → State
put_family f s = record s { families = f.family s.model ∷ s.families; model = f.left s.model }

-- ---- facilities

pub record FacilityRest : Type 0 where
  pub concept : Name
  pub args : List FacArg
  pub realization : Option Name
  pub enhanced : List (Name × Name)

abbrev pub facility_rest_text : FacilityRest → Piece
facility_rest_text f = row (says f.concept ∷ facility_arguments f.args ∷ realized f.realization ∷ each enhanced f.enhanced ∷ [])

abbrev pub put_facility_rest : FacilityRest → State → State
put_facility_rest f s = record (keep f.concept s) { args = f.args ∷ s.args; optional = f.realization ∷ s.optional; pairs = f.enhanced ∷ s.pairs }

-- ---- procedures

abbrev pub signature_text : Option PType → Piece
signature_text r = row (result_type r ∷ semicolon ∷ [])

abbrev pub sign : Option PType → State → State
sign r s = signature (put_result r s)

pub record BodyRead : Type 0 where
  pub metric : Option Expr
  pub vars : List (Name × PType)
  pub body : List Stmt
  pub closes : Name

abbrev pub body_text : BodyRead → Knowledge → Piece
body_text b k = row (clause (codes "decreasing") b.metric ∷ each variable b.vars ∷ statements b.body ∷ closing (known_or b.closes k.operation) ∷ [])

abbrev pub put_body : BodyRead → State → State
put_body b s = record (keep (codes "end") s) { clauses = b.metric ∷ s.clauses; fields = b.vars ∷ s.fields; blocks = b.body ∷ s.blocks }

abbrev pub local_headings : List LocalOp → List Heading
local_headings ls = map (λ l. l.procedure.heading) ls

abbrev pub procedure_names : List Procedure → List Name
procedure_names ps = map (λ p. p.heading.name) ps

-- ---- statements

-- the rest of a statement whose first word is to come
pub record AfterWord : Type 0 where
  pub makes : Word → Stmt
  pub rest : Piece
  pub is : (x : Name) (z : List ℕ) → statement (makes (named x)) z ≡ says x (rest (semicolon z))

abbrev pub finish_word : AfterWord → State → State
finish_word a s = add_statement (a.makes (word_0 s)) (without_1_word s)

pub record AfterDot : Type 0 where
  pub makes : Word → Stmt
  pub rest : Piece
  pub is : (x : Name) (z : List ℕ) → statement (makes (named x)) z ≡ says x (dot (rest (semicolon z)))

abbrev pub finish_dot : AfterDot → State → State
finish_dot a s = add_statement (a.makes (word_0 s)) (without_1_word s)

pub record AfterTwo : Type 0 where
  pub makes : Word → Word → Stmt
  pub rest : Piece
  pub is : (x y : Name) (z : List ℕ) → statement (makes (named x) (named y)) z ≡ says x (dot (says y (rest (semicolon z))))

abbrev pub finish_two : AfterTwo → State → State
finish_two a s = add_statement (a.makes (word_1 s) (word_0 s)) (without_2_words s)

abbrev pub place_rest_text : Option Name → Piece
place_rest_text None = nothing
place_rest_text (Some y) = row (dot ∷ says y ∷ [])

abbrev pub place_rest : Option Name → State → State
place_rest None s = place_alone s
place_rest (Some y) s = place_field (keep y s)

-- ---- components

pub record RealizationRest : Type 0 where
  pub concept : Option Name
  pub uses : List Name
  pub facilities : List FacDecl
  pub rep : Option Rep
  pub locals : List LocalOp
  pub procs : List Procedure

abbrev pub of_text : Option Name → Piece
of_text None = nothing
of_text (Some x) = row (says (codes "of") ∷ says x ∷ [])

abbrev pub realization_rest_text : RealizationRest → Piece
realization_rest_text r = row (of_text r.concept ∷ semicolon ∷ uses r.uses ∷ each facility r.facilities ∷ representation r.rep ∷ each local r.locals ∷ each procedure r.procs ∷ [])

abbrev pub for_what : Option Name → State → State
for_what None s = record s { optional = None ∷ s.optional }
for_what (Some x) s = of_concept (token (kind.Word x)) s

abbrev pub put_realization_rest : RealizationRest → State → State
put_realization_rest r s = record (for_what r.concept s) { names = map named r.uses ∷ s.names; facilities = r.facilities ∷ s.facilities; reps = r.rep ∷ s.reps; locals = r.locals ∷ s.locals; procedures = r.procs ∷ s.procedures }

abbrev pub in_realization : RealizationRest → Knowledge → Knowledge
in_realization r k = in_operations (procedure_names r.procs) (in_headings (local_headings r.locals) k)

-- A component, which is built of what is there of a model before.
pub record ComponentRead : Type 0 where
  pub component : List MPart → Component
  pub left : List MPart → List MPart
  pub clean : left [] ≡ []
  pub knows : Knowledge → Knowledge
  pub rests : (k : Knowledge) → k.in_result ≡ false → (knows k).in_result ≡ false

abbrev pub put_component : ComponentRead → State → State
put_component c s = record s { components = s.components ++ (c.component s.model ∷ []); model = c.left s.model }

-- ---- the claims

abbrev pub ExpressionClaim : Doing → Type 0
ExpressionClaim = Plain Expr n.expression_part expression put

-- expressions in a list of their own
pub record ExpressionsClaim (m : Doing) : Type 0 where
  pub value : List Expr
  pub light : Bool
  pub passed : Staged (Action n.exprs_mark ∷ Nonterminal n.expressions_part ∷ []) (λ k. listed (map written value)) (put_exprs value) (λ k. k) light (then (did n.exprs_mark) m)

abbrev pub BuiltinClaim : Doing → Type 0
BuiltinClaim = Plain Name n.builtin_part says keep

abbrev pub choose : Bool → (Doing → Type 0) → (Doing → Type 0) → Doing → Type 0
choose true p q = p
choose false p q = q

-- What stands behind `=` in a clause on a result: there nothing of it is finished before.
pub record ConcatenationClaim (m : Doing) : Type 0 where
  pub value : Expr
  pub read_last : Stage State → Token
  pub last : Stage State → Token
  pub at_start : AtStart (Nonterminal n.concatenation_part ∷ []) [] (λ k. at_level 4 (written value)) (staged read_last (put value)) (staged last (put value)) (λ k. k) false m

-- What is claimed of expressions, as it is seen from outside.
pub record Outside (E : Claim) : Type 1 where
  pub expression : (m : Doing) → E n.expression_part m → ExpressionClaim m
  pub expressions : (m : Doing) → E n.expressions_part m → ExpressionsClaim m
  pub builtin : (m : Doing) → E n.builtin_part m → BuiltinClaim m
  pub concatenation : (m : Doing) → E n.concatenation_part m → ConcatenationClaim m

-- ---- statements

-- where there are none, nothing nests
pub record StatementsClaim (m : Doing) : Type 0 where
  pub read : Plain (List Stmt) n.statements_part statements add_statements m
  pub empty : read.value ≡ [] → (d : Nesting) → m.nest d ≡ d

abbrev pub StatementClaim : Doing → Type 0
StatementClaim = Plain Stmt n.statement_part statement add_statement

abbrev pub ElseClaim : Doing → Type 0
ElseClaim = Plain (List Stmt) n.else_part (λ ss. otherwise (map statement ss)) put_block

abbrev pub StatementRestClaim : Doing → Type 0
StatementRestClaim = Plain AfterWord n.statement_rest_part (λ a. a.rest) finish_word

abbrev pub StatementDotClaim : Doing → Type 0
StatementDotClaim = Plain AfterDot n.statement_dot_part (λ a. a.rest) finish_dot

abbrev pub StatementDotRestClaim : Doing → Type 0
StatementDotRestClaim = Plain AfterTwo n.statement_dot_rest_part (λ a. a.rest) finish_two

abbrev pub PlaceClaim : Doing → Type 0
PlaceClaim = Plain Place n.place_part place put_place

abbrev pub PlaceRestClaim : Doing → Type 0
PlaceRestClaim = Plain (Option Name) n.place_rest_part place_rest_text place_rest

abbrev pub MorePlacesClaim : Doing → Type 0
MorePlacesClaim = Plain (List Place) n.more_places_part (λ ps. each (λ p. row (comma ∷ place p ∷ [])) ps) add_places

-- ---- lists

pub top_added : {A : Type 0} (xs ys : List A) (ss : List (List A)) → added_all xs (ys ∷ ss) ≡ (ys ++ xs) ∷ ss
top_added [] ys ss = ap (λ z. z ∷ ss) (sym (append-nil ys))
top_added (x ∷ xs) ys ss = top_added xs (ys ++ x ∷ []) ss ∙ ap (λ z. z ∷ ss) (append_assoc ys (x ∷ []) xs)

-- ---- names and clauses

abbrev pub UsesClaim : Doing → Type 0
UsesClaim = Plain (List Name) n.uses_part uses put_names

abbrev pub RequiresClaim : Doing → Type 0
RequiresClaim = Plain (Option Expr) n.requires_part (clause (codes "requires")) put_clause

abbrev pub EnsuresClaim : Doing → Type 0
EnsuresClaim = Plain (Option Expr) n.ensures_part (clause (codes "ensures")) put_clause

abbrev pub ConstraintClaim : Doing → Type 0
ConstraintClaim = Plain (Option Expr) n.constraint_part (clause (codes "constraint")) put_clause

abbrev pub MetricClaim : Doing → Type 0
MetricClaim = Plain (Option Expr) n.metric_part (clause (codes "decreasing")) put_clause

abbrev pub ComponentNameClaim : Doing → Type 0
ComponentNameClaim = Value Name n.component_name_part (λ x k. says x) keep in_component

abbrev pub OperationNameClaim : Doing → Type 0
OperationNameClaim = Value Name n.operation_name_part (λ x k. says x) keep in_operation

abbrev pub CloseComponentClaim : Doing → Type 0
CloseComponentClaim = Value Name n.close_component_part (λ x k. says (known_or x k.component)) same_state (λ x k. k)

abbrev pub CloseOperationClaim : Doing → Type 0
CloseOperationClaim = Value Name n.close_operation_part (λ x k. says (known_or x k.operation)) same_state (λ x k. k)

abbrev pub ResultNameClaim : Doing → Type 0
ResultNameClaim = Plain Name n.result_name_part says keep

-- ---- headings

abbrev pub ModeClaim : Doing → Type 0
ModeClaim = LightValue Mode n.mode_part (λ m. says (mode_word m)) put_mode

abbrev pub TypeClaim : Doing → Type 0
TypeClaim = LightValue PType n.type_part ptype put_type

abbrev pub TypeRestClaim : Doing → Type 0
TypeRestClaim = LightValue (Option Name) n.type_rest_part type_rest_text type_rest

abbrev pub TypeOfClaim : Doing → Type 0
TypeOfClaim = LightValue Name n.type_of_part says type_of

abbrev pub ResultTypeClaim : Doing → Type 0
ResultTypeClaim = Plain PType n.result_type_part ptype (λ t. put_result (Some t))

abbrev pub ParametersClaim : Doing → Type 0
ParametersClaim = Plain (List Param) n.parameters_part (separated semicolon param) add_params

abbrev pub MoreParametersClaim : Doing → Type 0
MoreParametersClaim = Plain (List Param) n.more_parameters_part (each (λ p. row (semicolon ∷ param p ∷ []))) add_params

abbrev pub HeadingRestClaim : Doing → Type 0
HeadingRestClaim = Value HeadingRest n.heading_rest_part (λ h k. heading_rest_text h) put_heading_rest (λ h. after_result h.result)

abbrev pub HeadingClaim : Doing → Type 0
HeadingClaim = Value Heading n.heading_part (λ h k. heading h) put_heading in_heading

abbrev pub HeadingsClaim : Doing → Type 0
HeadingsClaim = Value (List Heading) n.headings_part (λ hs k. each heading hs) add_headings in_headings

abbrev pub FormalClaim : Doing → Type 0
FormalClaim = Plain Formal n.formal_part formal (λ f. add_formals (f ∷ []))

abbrev pub MoreFormalsClaim : Doing → Type 0
MoreFormalsClaim = Plain (List Formal) n.more_formals_part (each (λ f. row (semicolon ∷ formal f ∷ []))) add_formals

abbrev pub FormalsClaim : Doing → Type 0
FormalsClaim = Plain (List Formal) n.formals_part formals put_formals

-- ---- models

abbrev pub ModelClaim : Doing → Type 0
ModelClaim = Plain ModelParts n.model_part (λ p. p.piece) (λ p. add_model p.parts)

abbrev pub MoreFactorsClaim : Doing → Type 0
MoreFactorsClaim = Plain FactorParts n.more_factors_part more_factors add_factors

abbrev pub FamilyClaim : Doing → Type 0
FamilyClaim = Plain FamilyRead n.family_part (λ f. family (f.family [])) put_family

-- ---- facilities

abbrev pub ArgumentClaim : Doing → Type 0
ArgumentClaim = Plain FacArg n.argument_part argument (λ a. add_args (a ∷ []))

abbrev pub MoreArgumentsClaim : Doing → Type 0
MoreArgumentsClaim = Plain (List FacArg) n.more_arguments_part (each (λ a. row (comma ∷ argument a ∷ []))) add_args

abbrev pub ArgumentsClaim : Doing → Type 0
ArgumentsClaim = Plain (List FacArg) n.arguments_part facility_arguments add_args

abbrev pub EnhancedClaim : Doing → Type 0
EnhancedClaim = Plain (List (Name × Name)) n.enhanced_part (each enhanced) add_pairs

abbrev pub FacilityRestClaim : Doing → Type 0
FacilityRestClaim = Plain FacilityRest n.facility_rest_part facility_rest_text put_facility_rest

abbrev pub FacilityClaim : Doing → Type 0
FacilityClaim = Plain FacDecl n.facility_part facility (λ f. add_facilities (f ∷ []))

abbrev pub FacilitiesClaim : Doing → Type 0
FacilitiesClaim = Plain (List FacDecl) n.facilities_part (each facility) add_facilities

-- ---- procedures

abbrev pub FieldsClaim : Doing → Type 0
FieldsClaim = Plain (List (Name × PType)) n.fields_part (each field) add_fields

abbrev pub VariablesClaim : Doing → Type 0
VariablesClaim = Plain (List (Name × PType)) n.variables_part (each variable) add_fields

abbrev pub RepresentationClaim : Doing → Type 0
RepresentationClaim = Plain (Option Rep) n.representation_part representation put_rep

abbrev pub SignatureRestClaim : Doing → Type 0
SignatureRestClaim = Plain (Option PType) n.signature_rest_part signature_text sign

abbrev pub BodyClaim : Doing → Type 0
BodyClaim = Value BodyRead n.body_part body_text put_body (λ b k. k)

abbrev pub LocalsClaim : Doing → Type 0
LocalsClaim = Value (List LocalOp) n.locals_part (λ ls k. each local ls) add_locals (λ ls. in_headings (local_headings ls))

abbrev pub ProceduresClaim : Doing → Type 0
ProceduresClaim = Value (List Procedure) n.procedures_part (λ ps k. each procedure ps) add_procedures (λ ps. in_operations (procedure_names ps))

-- ---- components

abbrev pub RealizationRestClaim : Doing → Type 0
RealizationRestClaim = Value RealizationRest n.realization_rest_part (λ r k. realization_rest_text r) put_realization_rest in_realization

abbrev pub ComponentClaim : Doing → Type 0
ComponentClaim = Value ComponentRead n.component_part (λ c k. piece_of (c.component [])) put_component (λ c. c.knows)

-- ---- all of them, beside those of expressions

abbrev pub claim : Claim → Claim
claim E x =
    choose (x == n.component_part) ComponentClaim (
    choose (x == n.realization_rest_part) RealizationRestClaim (
    choose (x == n.formals_part) FormalsClaim (
    choose (x == n.more_formals_part) MoreFormalsClaim (
    choose (x == n.formal_part) FormalClaim (
    choose (x == n.uses_part) UsesClaim (
    choose (x == n.more_names_part) MoreNames (
    choose (x == n.requires_part) RequiresClaim (
    choose (x == n.ensures_part) EnsuresClaim (
    choose (x == n.family_part) FamilyClaim (
    choose (x == n.constraint_part) ConstraintClaim (
    choose (x == n.model_part) ModelClaim (
    choose (x == n.more_factors_part) MoreFactorsClaim (
    choose (x == n.headings_part) HeadingsClaim (
    choose (x == n.heading_part) HeadingClaim (
    choose (x == n.heading_rest_part) HeadingRestClaim (
    choose (x == n.result_type_part) ResultTypeClaim (
    choose (x == n.parameters_part) ParametersClaim (
    choose (x == n.more_parameters_part) MoreParametersClaim (
    choose (x == n.parameter_part) ParameterGroup (
    choose (x == n.mode_part) ModeClaim (
    choose (x == n.type_part) TypeClaim (
    choose (x == n.type_rest_part) TypeRestClaim (
    choose (x == n.type_of_part) TypeOfClaim (
    choose (x == n.facilities_part) FacilitiesClaim (
    choose (x == n.facility_part) FacilityClaim (
    choose (x == n.facility_rest_part) FacilityRestClaim (
    choose (x == n.arguments_part) ArgumentsClaim (
    choose (x == n.more_arguments_part) MoreArgumentsClaim (
    choose (x == n.argument_part) ArgumentClaim (
    choose (x == n.enhanced_part) EnhancedClaim (
    choose (x == n.representation_part) RepresentationClaim (
    choose (x == n.fields_part) FieldsClaim (
    choose (x == n.locals_part) LocalsClaim (
    choose (x == n.procedures_part) ProceduresClaim (
    choose (x == n.signature_rest_part) SignatureRestClaim (
    choose (x == n.body_part) BodyClaim (
    choose (x == n.metric_part) MetricClaim (
    choose (x == n.variables_part) VariablesClaim (
    choose (x == n.statements_part) StatementsClaim (
    choose (x == n.statement_part) StatementClaim (
    choose (x == n.else_part) ElseClaim (
    choose (x == n.statement_rest_part) StatementRestClaim (
    choose (x == n.statement_dot_part) StatementDotClaim (
    choose (x == n.statement_dot_rest_part) StatementDotRestClaim (
    choose (x == n.place_part) PlaceClaim (
    choose (x == n.place_rest_part) PlaceRestClaim (
    choose (x == n.more_places_part) MorePlacesClaim (
    choose (x == n.component_name_part) ComponentNameClaim (
    choose (x == n.close_component_part) CloseComponentClaim (
    choose (x == n.close_operation_part) CloseOperationClaim (
    choose (x == n.operation_name_part) OperationNameClaim (
    choose (x == n.result_name_part) ResultNameClaim (
    choose (x == n.word_part) AnyWord (E x))))))))))))))))))))))))))))))))))))))))))))))))))))))

-- What is claimed of a part holds of each of its ways.
abbrev pub Hold : Claim → ℕ → Type 0
Hold E x = Ways (claim E) x (grammar.row language_rules x)

pub added_both : {A : Type 0} (xs ys : List A) (ss : List (List A)) → added_all ys (added_all xs ss) ≡ added_all (xs ++ ys) ss
added_both [] ys ss = refl
added_both (x ∷ xs) ys ss = added_both xs ys (added x ss)

pub each_both : {A : Type 0} (f : A → Piece) (xs ys : List A) (z : List ℕ) → each f (xs ++ ys) z ≡ each f xs (each f ys z)
each_both f [] ys z = refl
each_both f (x ∷ xs) ys z = ap (f x) (each_both f xs ys z)

-- A group at the end of the list on top is added one by one.
pub grouped : {A : Type 0} (x : A) (xs : List A) (ss : List (List A)) → (first_or [] ss ++ (x ∷ xs)) ∷ others ss ≡ added_all (x ∷ xs) ss
grouped x xs ss = ap (λ z. z ∷ others ss) (sym (append_assoc (first_or [] ss) (x ∷ []) xs)) ∙ sym (top_added xs (first_or [] ss ++ x ∷ []) (others ss))
