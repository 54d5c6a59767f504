-- Places do not matter to canonical texts.
use Rattle.std.proofs.Common.{◌≡◌, ◌∙◌, refl, sym, ap, subst, ℕ, List, [], ◌∷◌, map, Option, Some, None, codes}
use Rattle.std.specs.Option.{option_map}
use Rattle.res_ast.specs.declared.component.Component.{Component}
use Rattle.res_ast.specs.declared.component.Component.TheVariants as component
use Rattle.res_ast.specs.declared.expression.Expr.{Expr}
use Rattle.res_ast.specs.declared.expression.Form.{Form}
use Rattle.res_ast.specs.declared.expression.Form.TheOpen.{Form-F, Expr-F}
use Rattle.res_ast.specs.declared.expression.Form.TheViews.{roll-Expr, roll-Form}
use Rattle.res_ast.specs.declared.expression.Form.TheFolds.{map-Form, ind-Expr, fold-roll-Expr, fold-roll-Form}
use Rattle.res_ast.specs.declared.facility.FacArg.{FacArg}
use Rattle.res_ast.specs.declared.facility.FacArg.TheVariants as arg
use Rattle.res_ast.specs.declared.facility.FacDecl.{FacDecl}
use Rattle.res_ast.specs.declared.heading.Formal.{Formal}
use Rattle.res_ast.specs.declared.heading.Heading.{Heading}
use Rattle.res_ast.specs.declared.heading.Param.{Param}
use Rattle.res_ast.specs.declared.heading.PType.{PType}
use Rattle.res_ast.specs.declared.model.Family.{Family}
use Rattle.res_ast.specs.declared.procedure.LocalOp.{LocalOp}
use Rattle.res_ast.specs.declared.procedure.Procedure.{Procedure}
use Rattle.res_ast.specs.declared.procedure.Rep.{Rep}
use Rattle.res_ast.specs.declared.statement.Place.{Place}
use Rattle.res_ast.specs.declared.statement.Stmt.{Stmt}
use Rattle.res_ast.specs.declared.statement.Stmt.TheOpen.{Stmt-F}
use Rattle.res_ast.specs.declared.statement.Stmt.TheFolds.{map-Stmt, ind-Stmt, fold-roll-Stmt}
use Rattle.res_printer.specs.Components as printed
use Rattle.res_printer.specs.Components.{canonical, correspondence, initially, modeled, record_of}
use Rattle.res_printer.specs.Expressions.{Written, arguments, expr_step, form_step, written, written_form}
use Rattle.res_printer.specs.Pieces.{Piece, closes, comma, dotted, each, ends_line, opens, qualified, row, says, semicolon, separated}
use Rattle.res_printer.specs.Statements.{block, claims, end, otherwise, place, statement, statement_step}
use Rattle.round_trip.specs.WellFormed.{unplaced, unplaced_form, unplaced_step}
use Rattle.round_trip.specs.Unplaced.{unplaced_argument, unplaced_component, unplaced_facility, unplaced_family, unplaced_field, unplaced_formal, unplaced_heading, unplaced_local, unplaced_param, unplaced_place, unplaced_procedure, unplaced_rep, unplaced_statement, unplaced_statement_step, unplaced_type}

-- ---- expressions

abbrev FormKept : Form → Type 0
FormKept f = written_form (unplaced_form f) ≡ written_form f

abbrev ExprKept : Expr → Type 0
ExprKept x = written (unplaced x) ≡ written x

abbrev exprs_in : List ((x : Expr) × ExprKept x) → List Expr
exprs_in es = map (λ (e : (x : Expr) × ExprKept x). e.0) es

all_kept : (es : List ((x : Expr) × ExprKept x)) → map written (map unplaced (exprs_in es)) ≡ map written (exprs_in es)
all_kept [] = refl
all_kept (e ∷ es) = ap (λ z. z ∷ map written (map unplaced (exprs_in es))) e.1 ∙ ap (λ z. written e.0 ∷ z) (all_kept es)

-- one layer, as it is printed
abbrev shown : Form-F Form Expr → Form-F Written Written
shown x = map-Form Form Expr Written Written written_form written x

abbrev bare : Form-F Form Expr → Form-F Form Expr
bare x = map-Form Form Expr Form Expr unplaced_form unplaced x

abbrev layer : Form-F ((f : Form) × FormKept f) ((x : Expr) × ExprKept x) → Form-F Form Expr
layer y = map-Form ((f : Form) × FormKept f) ((x : Expr) × ExprKept x) Form Expr (λ f. f.0) (λ e. e.0) y

layer_kept : (y : Form-F ((f : Form) × FormKept f) ((x : Expr) × ExprKept x)) → shown (bare (layer y)) ≡ shown (layer y)
layer_kept (Form-F.Int k) = refl
layer_kept (Form-F.Truth b) = refl
layer_kept Form-F.MinInt = refl
layer_kept Form-F.MaxInt = refl
layer_kept Form-F.Empty = refl
layer_kept (Form-F.Word name) = refl
layer_kept (Form-F.Old name) = refl
layer_kept (Form-F.Dot name part) = refl
layer_kept (Form-F.OldDot name part) = refl
layer_kept (Form-F.Call facility name es) = ap (λ z. Form-F.Call facility name z) (all_kept es)
layer_kept (Form-F.Initial name e) = ap (λ z. Form-F.Initial name z) e.1
layer_kept (Form-F.Not e) = ap (λ z. Form-F.Not z) e.1
layer_kept (Form-F.Minus e) = ap (λ z. Form-F.Minus z) e.1
layer_kept (Form-F.Binary o x y) = ap (λ z. Form-F.Binary o z (written (unplaced y.0))) x.1 ∙ ap (λ z. Form-F.Binary o (written x.0) z) y.1
layer_kept (Form-F.Single e) = ap (λ z. Form-F.Single z) e.1
layer_kept (Form-F.Bars e) = ap (λ z. Form-F.Bars z) e.1
layer_kept (Form-F.Tuple es) = ap (λ z. Form-F.Tuple z) (all_kept es)

form_kept : (x : Form-F Form Expr) → shown (bare x) ≡ shown x → FormKept (roll-Form x)
form_kept x e =
    ap written_form (fold-roll-Form Form Expr roll-Form unplaced_step x)
    ∙ fold-roll-Form Written Written form_step expr_step (bare x)
    ∙ ap form_step e
    ∙ sym (fold-roll-Form Written Written form_step expr_step x)

expr_kept : (x : Expr-F Form Expr) → FormKept x.form → ExprKept (roll-Expr x)
expr_kept x e =
    ap written (fold-roll-Expr Form Expr roll-Form unplaced_step x)
    ∙ fold-roll-Expr Written Written form_step expr_step (record { at = 0; form = unplaced_form x.form })
    ∙ e
    ∙ sym (fold-roll-Expr Written Written form_step expr_step x)

pub expr_written : (x : Expr) → written (unplaced x) ≡ written x
expr_written = ind-Expr FormKept ExprKept
    (λ x y is. let P : Form-F Form Expr → Type 0 = λ z. shown (bare z) ≡ shown z in form_kept x (subst P is (layer_kept y)))
    (λ x y is. let P : Expr-F Form Expr → Type 0 = λ z. FormKept z.form in expr_kept x (subst P is y.form.1))

exprs_written : (xs : List Expr) → map written (map unplaced xs) ≡ map written xs
exprs_written [] = refl
exprs_written (x ∷ xs) = ap (λ z. z ∷ map written (map unplaced xs)) (expr_written x) ∙ ap (λ z. written x ∷ z) (exprs_written xs)

-- ---- lists of pieces

each_kept : {A : Type 0} (piece : A → Piece) (u : A → A) → ((x : A) (rest : List ℕ) → piece (u x) rest ≡ piece x rest) → (xs : List A) (rest : List ℕ) → each piece (map u xs) rest ≡ each piece xs rest
each_kept piece u k [] rest = refl
each_kept piece u k (x ∷ xs) rest = k x (each piece (map u xs) rest) ∙ ap (piece x) (each_kept piece u k xs rest)

separated_kept : {A : Type 0} (between : Piece) (piece : A → Piece) (u : A → A) → ((x : A) (rest : List ℕ) → piece (u x) rest ≡ piece x rest) → (xs : List A) (rest : List ℕ) → separated between piece (map u xs) rest ≡ separated between piece xs rest
separated_kept between piece u k [] rest = refl
separated_kept between piece u k (x ∷ xs) rest =
    k x (each (λ y. row (between ∷ piece y ∷ [])) (map u xs) rest)
    ∙ ap (piece x) (each_kept (λ y. row (between ∷ piece y ∷ [])) u (λ y r. ap between (k y r)) xs rest)

-- ---- statements

places_kept : (ps : List Place) (rest : List ℕ) → separated comma place (map unplaced_place ps) rest ≡ separated comma place ps rest
places_kept ps rest = separated_kept comma place unplaced_place (λ p r. refl) ps rest

abbrev StmtKept : Stmt → Type 0
StmtKept s = statement (unplaced_statement s) ≡ statement s

abbrev stmts_in : List ((s : Stmt) × StmtKept s) → List Stmt
stmts_in ss = map (λ (s : (x : Stmt) × StmtKept x). s.0) ss

block_kept : (ss : List ((s : Stmt) × StmtKept s)) → map statement (map unplaced_statement (stmts_in ss)) ≡ map statement (stmts_in ss)
block_kept [] = refl
block_kept (s ∷ ss) = ap (λ z. z ∷ map statement (map unplaced_statement (stmts_in ss))) s.1 ∙ ap (λ z. statement s.0 ∷ z) (block_kept ss)

-- the forms of statements, from what their parts are written as
abbrev assigned : Place → Written → Piece
assigned x e = row (place x ∷ says (codes ":=") ∷ e.text ∷ semicolon ∷ [])

abbrev called : Option (List ℕ) → List ℕ → List Written → Piece
called facility name es = row (qualified facility name ∷ arguments es ∷ semicolon ∷ [])

abbrev choice : Written → List Piece → List Piece → Piece
choice guard first second = row (says (codes "If") ∷ guard.text ∷ ends_line (codes "then") ∷ block first ∷ otherwise second ∷ end ∷ [])

abbrev loop : Written → Piece → Piece → List Piece → Piece
loop guard changed claimed body =
    row (row (says (codes "While") ∷ guard.text ∷ row (says (codes "changing") ∷ changed ∷ semicolon ∷ []) ∷ claimed ∷ ends_line (codes "do") ∷ []) ∷ block body ∷ end ∷ [])

abbrev claimed : List ℕ → Written → Piece
claimed word e = row (says word ∷ e.text ∷ semicolon ∷ [])

claims_kept : (invariant metric : Expr) → claims (unplaced invariant) (unplaced metric) ≡ claims invariant metric
unfolding claims
claims_kept invariant metric =
    ap (λ z. row (claimed (codes "maintaining") z ∷ claimed (codes "decreasing") (written (unplaced metric)) ∷ [])) (expr_written invariant)
    ∙ ap (λ z. row (claimed (codes "maintaining") (written invariant) ∷ claimed (codes "decreasing") z ∷ [])) (expr_written metric)

-- a statement of one layer, as it is printed without its places
statement_layer : (y : Stmt-F ((s : Stmt) × StmtKept s)) → statement (unplaced_statement_step (map-Stmt Stmt Stmt unplaced_statement (map-Stmt ((s : Stmt) × StmtKept s) Stmt (λ s. s.0) y))) ≡ statement_step (map-Stmt Stmt Piece statement (map-Stmt ((s : Stmt) × StmtKept s) Stmt (λ s. s.0) y))
statement_layer (Stmt-F.Swap at x y) = fold-roll-Stmt Piece statement_step (Stmt-F.Swap 0 (unplaced_place x) (unplaced_place y))
statement_layer (Stmt-F.Assign at x e) =
    fold-roll-Stmt Piece statement_step (Stmt-F.Assign 0 (unplaced_place x) (unplaced e))
    ∙ ap (assigned x) (expr_written e)
statement_layer (Stmt-F.Call at facility name es) =
    fold-roll-Stmt Piece statement_step (Stmt-F.Call 0 facility name (map unplaced es))
    ∙ ap (called facility name) (exprs_written es)
statement_layer (Stmt-F.If at guard first second) =
    fold-roll-Stmt Piece statement_step (Stmt-F.If 0 (unplaced guard) (map unplaced_statement (stmts_in first)) (map unplaced_statement (stmts_in second)))
    ∙ ap (λ z. choice z (map statement (map unplaced_statement (stmts_in first))) (map statement (map unplaced_statement (stmts_in second)))) (expr_written guard)
    ∙ ap (λ z. choice (written guard) z (map statement (map unplaced_statement (stmts_in second)))) (block_kept first)
    ∙ ap (λ z. choice (written guard) (map statement (stmts_in first)) z) (block_kept second)
statement_layer (Stmt-F.While at guard changed invariant metric body) =
    fold-roll-Stmt Piece statement_step (Stmt-F.While 0 (unplaced guard) (map unplaced_place changed) (unplaced invariant) (unplaced metric) (map unplaced_statement (stmts_in body)))
    ∙ ap (λ z. loop z (separated comma place (map unplaced_place changed)) (claims (unplaced invariant) (unplaced metric)) (map statement (map unplaced_statement (stmts_in body)))) (expr_written guard)
    ∙ ap (λ z. loop (written guard) z (claims (unplaced invariant) (unplaced metric)) (map statement (map unplaced_statement (stmts_in body)))) (λ i rest. places_kept changed rest i)
    ∙ ap (λ z. loop (written guard) (separated comma place changed) z (map statement (map unplaced_statement (stmts_in body)))) (claims_kept invariant metric)
    ∙ ap (λ z. loop (written guard) (separated comma place changed) (claims invariant metric) z) (block_kept body)

pub statement_printed : (s : Stmt) → statement (unplaced_statement s) ≡ statement s
statement_printed = ind-Stmt StmtKept (λ x y is.
    let P : Stmt-F Stmt → Type 0 = λ z. statement (unplaced_statement_step (map-Stmt Stmt Stmt unplaced_statement z)) ≡ statement_step (map-Stmt Stmt Piece statement z) in
    ap statement (fold-roll-Stmt Stmt unplaced_statement_step x) ∙ subst P is (statement_layer y) ∙ sym (fold-roll-Stmt Piece statement_step x))

statements_printed : (ss : List Stmt) → map statement (map unplaced_statement ss) ≡ map statement ss
statements_printed [] = refl
statements_printed (s ∷ ss) = ap (λ z. z ∷ map statement (map unplaced_statement ss)) (statement_printed s) ∙ ap (λ z. statement s ∷ z) (statements_printed ss)

-- ---- headings and procedures

clause_kept : (word : List ℕ) (o : Option Expr) (rest : List ℕ) → printed.clause word (option_map unplaced o) rest ≡ printed.clause word o rest
clause_kept word None rest = refl
clause_kept word (Some e) rest = ap (λ z. claimed word z rest) (expr_written e)

result_kept : (o : Option PType) (rest : List ℕ) → printed.result_type (option_map unplaced_type o) rest ≡ printed.result_type o rest
result_kept None rest = refl
result_kept (Some t) rest = refl

params_kept : (ps : List Param) (rest : List ℕ) → separated semicolon printed.param (map unplaced_param ps) rest ≡ separated semicolon printed.param ps rest
params_kept ps rest = separated_kept semicolon printed.param unplaced_param (λ p r. refl) ps rest

operation_kept : (word : List ℕ) (h : Heading) (rest : List ℕ) → printed.operation word (unplaced_heading h) rest ≡ printed.operation word h rest
operation_kept word h rest = simp (params_kept, result_kept)

heading_kept : (h : Heading) (rest : List ℕ) → printed.heading (unplaced_heading h) rest ≡ printed.heading h rest
heading_kept h rest = simp (params_kept, result_kept, clause_kept)

variables_kept : (xs : List (List ℕ × PType)) (rest : List ℕ) → each printed.variable (map unplaced_field xs) rest ≡ each printed.variable xs rest
variables_kept xs rest = each_kept printed.variable unplaced_field (λ x r. refl) xs rest

body_kept : (p : Procedure) (rest : List ℕ) → printed.body (unplaced_procedure p) rest ≡ printed.body p rest
body_kept p rest = simp (clause_kept, variables_kept, statements_printed)

local_kept : (l : LocalOp) (rest : List ℕ) → printed.local (unplaced_local l) rest ≡ printed.local l rest
local_kept l rest = simp (params_kept, result_kept, clause_kept, variables_kept, statements_printed)

procedure_kept : (p : Procedure) (rest : List ℕ) → printed.procedure (unplaced_procedure p) rest ≡ printed.procedure p rest
procedure_kept p rest = simp (params_kept, result_kept, clause_kept, variables_kept, statements_printed)

-- ---- facilities, families and representations

argument_kept : (a : FacArg) (rest : List ℕ) → printed.argument (unplaced_argument a) rest ≡ printed.argument a rest
argument_kept (arg.OfType t) rest = refl
argument_kept (arg.Number at k) rest = refl

arguments_kept : (xs : List FacArg) (rest : List ℕ) → printed.facility_arguments (map unplaced_argument xs) rest ≡ printed.facility_arguments xs rest
arguments_kept [] rest = refl
arguments_kept (a ∷ more) rest = ap opens (separated_kept comma printed.argument unplaced_argument argument_kept (a ∷ more) (closes rest))

facility_kept : (f : FacDecl) (rest : List ℕ) → printed.facility (unplaced_facility f) rest ≡ printed.facility f rest
facility_kept f rest = simp arguments_kept

modeled_kept : (f : Family) → modeled (unplaced_family f) ≡ modeled f
unfolding modeled
modeled_kept f = refl

initially_kept : (e : Expr) → initially (unplaced e) ≡ initially e
unfolding initially
initially_kept e = ap (λ z. row (says (codes "initialization") ∷ claimed (codes "ensures") z ∷ [])) (expr_written e)

family_kept : (o : Option Family) (rest : List ℕ) → printed.family (option_map unplaced_family o) rest ≡ printed.family o rest
family_kept None rest = refl
family_kept (Some f) rest =
    ap (λ (z : Piece). z (printed.exemplar f.exemplar (printed.clause (codes "constraint") (option_map unplaced f.constraint) (initially (unplaced f.initial) rest)))) (modeled_kept f)
    ∙ ap (λ z. modeled f (printed.exemplar f.exemplar z)) (clause_kept (codes "constraint") f.constraint (initially (unplaced f.initial) rest))
    ∙ ap (λ (z : Piece). modeled f (printed.exemplar f.exemplar (printed.clause (codes "constraint") f.constraint (z rest)))) (initially_kept f.initial)

fields_kept : (xs : List (List ℕ × PType)) (rest : List ℕ) → each printed.field (map unplaced_field xs) rest ≡ each printed.field xs rest
fields_kept xs rest = each_kept printed.field unplaced_field (λ x r. refl) xs rest

record_kept : (r : Rep) (rest : List ℕ) → record_of (unplaced_rep r) rest ≡ record_of r rest
unfolding record_of
record_kept r rest = simp fields_kept

correspondence_kept : (r : Rep) → correspondence (unplaced_rep r) ≡ correspondence r
unfolding correspondence
correspondence_kept r = ap (λ (z : Written). row (says (codes "correspondence") ∷ dotted (codes "Conc") r.conc ∷ says (codes "=") ∷ z.text ∷ semicolon ∷ [])) (expr_written r.correspondence)

rep_kept : (o : Option Rep) (rest : List ℕ) → printed.representation (option_map unplaced_rep o) rest ≡ printed.representation o rest
rep_kept None rest = refl
rep_kept (Some r) rest =
    record_kept r (claimed (codes "convention") (written (unplaced r.convention)) (correspondence (unplaced_rep r) rest))
    ∙ ap (λ z. record_of r (claimed (codes "convention") z (correspondence (unplaced_rep r) rest))) (expr_written r.convention)
    ∙ ap (λ (z : Piece). record_of r (claimed (codes "convention") (written r.convention) (z rest))) (correspondence_kept r)

-- ---- components

formals_kept : (fs : List Formal) (rest : List ℕ) → printed.formals (map unplaced_formal fs) rest ≡ printed.formals fs rest
formals_kept [] rest = refl
formals_kept (f ∷ fs) rest = ap opens (separated_kept semicolon printed.formal unplaced_formal (λ x r. refl) (f ∷ fs) (closes rest))

headings_kept : (hs : List Heading) (rest : List ℕ) → each printed.heading (map unplaced_heading hs) rest ≡ each printed.heading hs rest
headings_kept hs rest = each_kept printed.heading unplaced_heading heading_kept hs rest

facilities_kept : (fs : List FacDecl) (rest : List ℕ) → each printed.facility (map unplaced_facility fs) rest ≡ each printed.facility fs rest
facilities_kept fs rest = each_kept printed.facility unplaced_facility facility_kept fs rest

locals_kept : (ls : List LocalOp) (rest : List ℕ) → each printed.local (map unplaced_local ls) rest ≡ each printed.local ls rest
locals_kept ls rest = each_kept printed.local unplaced_local local_kept ls rest

procedures_kept : (ps : List Procedure) (rest : List ℕ) → each printed.procedure (map unplaced_procedure ps) rest ≡ each printed.procedure ps rest
procedures_kept ps rest = each_kept printed.procedure unplaced_procedure procedure_kept ps rest

-- The canonical text of a component is that of it without its places.
pub canonical_kept : (c : Component) → canonical (unplaced_component c) ≡ canonical c
canonical_kept (component.Concept c) = simp (formals_kept, clause_kept, family_kept, headings_kept)
canonical_kept (component.Enhancement e) = simp headings_kept
canonical_kept (component.Realization r) = simp (facilities_kept, rep_kept, locals_kept, procedures_kept)
canonical_kept (component.Facility m) = simp (facilities_kept, locals_kept)
