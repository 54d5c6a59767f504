-- The clauses of a component, in the order of its text, with the names that each knows.
use Rattle.std.specs.Prelude.{ℕ, Bool, true, false, List, [], ◌∷◌, ◌++◌, map, Option, None, Some, is_none, if◌then◌else◌}
use Rattle.std.specs.List.{flat_map}
use Rattle.std.specs.Option.{option_map_or}
use Rattle.math_terms.specs.declared.descriptor.Sort.{Sort}
use Rattle.math_terms.specs.Sorts.{b, z}
use Rattle.res_ast.specs.declared.component.Component.{Component}
use Rattle.res_ast.specs.declared.component.Component.TheVariants.{Concept, Enhancement, Realization, Facility}
use Rattle.res_ast.specs.declared.component.Concept.{Concept as Specified}
use Rattle.res_ast.specs.declared.component.Realization.{Realization as Realizing}
use Rattle.res_ast.specs.declared.expression.Expr.{Expr}
use Rattle.res_ast.specs.declared.expression.Form.{Form}
use Rattle.res_ast.specs.declared.expression.Form.TheOpen.{Form-F}
use Rattle.res_ast.specs.declared.expression.Form.TheViews.{out-Expr, out-Form}
use Rattle.res_ast.specs.declared.heading.Heading.{Heading}
use Rattle.res_ast.specs.declared.heading.Mode.{Mode}
use Rattle.res_ast.specs.declared.heading.Mode.TheVariants as mode
use Rattle.res_ast.specs.declared.heading.Param.{Param}
use Rattle.res_ast.specs.declared.heading.PType.{PType}
use Rattle.res_ast.specs.declared.model.Family.{Family}
use Rattle.res_ast.specs.declared.procedure.LocalOp.{LocalOp}
use Rattle.res_ast.specs.declared.procedure.Procedure.{Procedure}
use Rattle.res_ast.specs.declared.procedure.Rep.{Rep}
use Rattle.res_ast.specs.declared.statement.Stmt.{Stmt}
use Rattle.res_ast.specs.declared.statement.Stmt.TheOpen.{Stmt-F}
use Rattle.res_ast.specs.declared.statement.Stmt.TheFolds.{fold-Stmt}
use Rattle.type_inst.specs.declared.types.FormalArg.{FormalArg}
use Rattle.type_inst.specs.declared.types.FormalArg.TheVariants as given
use Rattle.type_inst.specs.declared.types.TypeInst.{TypeInst}
use Rattle.type_inst.specs.declared.types.TypeInst.TheOpen.{TypeInst-F}
use Rattle.type_inst.specs.declared.types.TypeInst.TheViews.{out-TypeInst}
use Rattle.type_inst.specs.Descriptors.{types_from}
use Rattle.facility_bind.specs.declared.scope.Scope.{Scope}
use Rattle.facility_bind.specs.Formals.{declarations, own_concept}
use Rattle.facility_bind.specs.Scopes.{family_type, scope, type_in}
use Rattle.math_types.specs.declared.error.SortError.{SortError}
use Rattle.math_types.specs.declared.known.Known.{Known}
use Rattle.math_types.specs.declared.names.Speech.{Speech}
use Rattle.math_types.specs.declared.names.Speech.TheVariants as speech
use Rattle.math_types.specs.Clauses.{Clause, Group, clause, first_refusal, group}
use Rattle.math_types.specs.Types.{parts, sort}

-- ---- names

-- A value of a type, with its parts. `current` and `old` say whether `x` and `#x` may stand.
unfoldable pub value : Scope → Bool → Bool → List ℕ → TypeInst → Known
value s current old name t = record {
  name = name;
  whole = true;
  current = current;
  old = old;
  sort = sort s.families t;
  parts = parts s.families t;
}

-- an Integer formal
abbrev pub number : List ℕ → Known
number name = record { name = name; whole = true; current = true; old = false; sort = z; parts = [] }

abbrev pub number_of : List ℕ → FormalArg → List Known
number_of name (given.Type t) = []
number_of name (given.Number n) = number name ∷ []

abbrev pub numbers : Scope → List Known
numbers s = flat_map (λ p. number_of p.0 p.1) s.formals

-- ---- headings

-- A requires clause speaks of the incoming value of each parameter that has one.
abbrev pub comes_in : Mode → Bool
comes_in mode.Replaces = false
comes_in _ = true

-- whether an ensures clause speaks of `x`, the outgoing value, and of `#x`, the incoming one
abbrev pub says_current : Mode → Bool
says_current mode.Alters = false
says_current mode.Clears = false
says_current _ = true

abbrev pub says_old : Mode → Bool
says_old mode.Alters = true
says_old mode.Clears = true
says_old mode.Updates = true
says_old _ = false

-- A function's right side and a metric speak of `x` alone, whatever the mode of x.
abbrev pub stands_current : Speech → Mode → Bool
stands_current speech.Requires m = comes_in m
stands_current speech.Ensures m = says_current m
stands_current speech.Value m = true

abbrev pub stands_old : Speech → Mode → Bool
stands_old speech.Requires m = false
stands_old speech.Ensures m = says_old m
stands_old speech.Value m = false

abbrev pub parameter : Scope → Speech → Param → Known
parameter s to p = value s (stands_current to p.mode) (stands_old to p.mode) p.name (type_in s p.ptype)

-- what a clause of an operation knows: its parameters, and then the Integer formals
abbrev pub names : Scope → Speech → Heading → List Known
names s to h = map (parameter s to) h.params ++ numbers s

abbrev pub requires_of : Scope → Heading → Expr → Group
requires_of s h e = group (names s speech.Requires h) (clause b e ∷ [])

-- The ensures clause of a function f is `f = e`, and says that e is the result.
abbrev pub right_in : Expr → Form-F Form Expr → Expr
right_in e (Form-F.Binary o x y) = y
right_in e _ = e

abbrev pub right_side : Expr → Expr
right_side e = right_in e (out-Form (out-Expr e).form)

abbrev pub ensures_for : Scope → Heading → Expr → Option PType → Group
ensures_for s h e None = group (names s speech.Ensures h) (clause b e ∷ [])
ensures_for s h e (Some t) = group (names s speech.Value h) (clause (sort s.families (type_in s t)) (right_side e) ∷ [])

abbrev pub ensures_of : Scope → Heading → Expr → Group
ensures_of s h e = ensures_for s h e h.result

abbrev pub if_there : (Expr → Group) → Option Expr → List Group
if_there f e = option_map_or (λ x. f x ∷ []) e []

abbrev pub heading : Scope → Heading → List Group
heading s h = if_there (requires_of s h) h.requires_clause ++ if_there (ensures_of s h) h.ensures_clause

-- ---- procedures

-- invariants and metrics of loops
abbrev pub in_block : List (List Clause) → List Clause
in_block css = flat_map (λ cs. cs) css

abbrev pub loops_step : Stmt-F (List Clause) → List Clause
loops_step (Stmt-F.If at guard first second) = in_block first ++ in_block second
loops_step (Stmt-F.While at guard places invariant metric body) = clause b invariant ∷ clause z metric ∷ in_block body
loops_step _ = []

abbrev pub loops : Stmt → List Clause
loops s = fold-Stmt (List Clause) loops_step s

-- the fields by which a realization of a concept represents the own family, where it does
abbrev pub Fields : Type 0
Fields = Option (List (List ℕ × Sort))

abbrev pub empty_path : List (List ℕ) → Bool
empty_path [] = true
empty_path _ = false

abbrev pub own_form : TypeInst-F TypeInst → Bool
own_form (TypeInst-F.Family path) = empty_path path
own_form _ = false

abbrev pub is_own : TypeInst → Bool
is_own t = own_form (out-TypeInst t)

-- A parameter of the own family stands by its fields alone.
abbrev pub represented : Fields → Bool → Known → Known
represented (Some fields) true k = record k { whole = false; parts = fields }
represented _ _ k = k

abbrev pub in_loop : Scope → Fields → Param → Known
in_loop s own p = represented own (is_own (type_in s p.ptype)) (value s true true p.name (type_in s p.ptype))

-- a variable, and the result of a function
abbrev pub variable : Scope → List ℕ → PType → Known
variable s name t = value s true false name (type_in s t)

abbrev pub declared : Scope → List ℕ × PType → Known
declared s v = variable s v.0 v.1

abbrev pub result_of : Scope → Heading → List Known
result_of s h = option_map_or (λ t. variable s h.name t ∷ []) h.result []

abbrev pub names_in_loops : Scope → Fields → Procedure → List Known
names_in_loops s own p = map (in_loop s own) p.heading.params ++ result_of s p.heading ++ map (declared s) p.vars ++ numbers s

-- the metric of a procedure that calls itself, and then its loops
abbrev pub metric_of : Scope → Heading → Expr → Group
metric_of s h e = group (names s speech.Value h) (clause z e ∷ [])

abbrev pub loops_of : Scope → Fields → Procedure → Group
loops_of s own p = group (names_in_loops s own p) (in_block (map loops p.body))

abbrev pub procedure : Scope → Fields → Procedure → List Group
procedure s own p = heading s p.heading ++ if_there (metric_of s p.heading) p.metric ++ loops_of s own p ∷ []

-- ---- families

abbrev pub own_family : TypeInst
own_family = family_type []

abbrev pub constraint_of : Option Expr → List Clause
constraint_of e = option_map_or (λ x. clause b x ∷ []) e []

abbrev pub exemplar : Scope → Family → Known
exemplar s f = value s true false f.exemplar own_family

abbrev pub family : Scope → Option Family → List Group
family s None = []
family s (Some f) = group (exemplar s f ∷ numbers s) (constraint_of f.constraint ++ clause b f.initial ∷ []) ∷ []

-- A representation speaks of the fields of the exemplar.
abbrev pub field : Scope → List ℕ × PType → List ℕ × Sort
field s f = (f.0, sort s.families (type_in s f.1))

abbrev pub fields : Scope → Rep → List (List ℕ × Sort)
fields s r = map (field s) r.fields

abbrev pub represents : Scope → Rep → Option Family → List Known
represents s r None = []
represents s r (Some f) = represented (Some (fields s r)) true (exemplar s f) ∷ []

abbrev pub family_in : Option Specified → Option Family
family_in None = None
family_in (Some k) = k.family

abbrev pub represent : Scope → Option Specified → Rep → Group
represent s own r =
    group (represents s r (family_in own) ++ numbers s) (clause b r.convention ∷ clause (sort s.families own_family) r.correspondence ∷ [])

abbrev pub representation : Scope → Option Specified → Option Rep → List Group
representation s own r = option_map_or (λ x. represent s own x ∷ []) r []

abbrev pub own_fields : Scope → Realizing → Fields
own_fields s r = if is_none r.enhancement then Some (option_map_or (fields s) r.rep []) else None

-- ---- components

abbrev pub concept_requires : Scope → Expr → Group
concept_requires s e = group (numbers s) (clause b e ∷ [])

abbrev pub local : Scope → Fields → LocalOp → List Group
local s own l = procedure s own l.procedure

abbrev pub realization : Scope → Option Specified → Realizing → List Group
realization s own r =
    representation s own r.rep ++ flat_map (local s (own_fields s r)) r.locals ++ flat_map (procedure s (own_fields s r)) r.procs

abbrev pub groups_in : Scope → Option Specified → Component → List Group
groups_in s own (Concept k) = if_there (concept_requires s) k.requires_clause ++ family s k.family ++ flat_map (heading s) k.headings
groups_in s own (Enhancement e) = flat_map (heading s) e.headings
groups_in s own (Realization r) = realization s own r
groups_in s own (Facility m) = flat_map (local s None) m.operations

abbrev pub inside : List Component → Component → Scope
inside table c = scope table c (declarations c)

-- the first node without a sort that its place allows, or root of a clause of another sort than it is to have
abbrev pub first_unsorted : List Component → Component → Option SortError
first_unsorted table c = first_refusal (types_from 0 (inside table c).formals) (groups_in (inside table c) (own_concept table c) c)
