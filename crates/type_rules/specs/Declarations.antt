-- The breaches in what a component declares.
use Rattle.std.specs.Prelude.{ℕ, Bool, true, false, not, ◌&&◌, if◌then◌else◌, List, [], ◌∷◌, ◌++◌, take, Option, None, is_none, is_some}
use Rattle.std.specs.List.{enumerate_from, flat_map, list_any, zip}
use Rattle.std.specs.Option.{option_map_or}
use Rattle.std.specs.Str.{bytes_eq}
use Rattle.res_ast.specs.declared.component.Component.{Component}
use Rattle.res_ast.specs.declared.component.Component.TheVariants.{Concept, Enhancement, Realization, Facility}
use Rattle.res_ast.specs.declared.component.Realization.{Realization as Realizing}
use Rattle.res_ast.specs.declared.facility.FacArg.{FacArg}
use Rattle.res_ast.specs.declared.facility.FacArg.TheVariants as arg
use Rattle.res_ast.specs.declared.facility.FacDecl.{FacDecl}
use Rattle.res_ast.specs.declared.heading.Formal.{Formal}
use Rattle.res_ast.specs.declared.heading.Heading.{Heading}
use Rattle.res_ast.specs.declared.model.Family.{Family}
use Rattle.res_ast.specs.declared.model.MPart.{MPart}
use Rattle.res_ast.specs.declared.model.MPart.TheVariants as part
use Rattle.res_ast.specs.declared.procedure.LocalOp.{LocalOp}
use Rattle.res_ast.specs.declared.procedure.Procedure.{Procedure}
use Rattle.res_ast.specs.declared.procedure.Rep.{Rep}
use Rattle.module_table.specs.Tables.{is_array_template}
use Rattle.type_rules.specs.declared.error.ModeError.{ModeError}
use Rattle.type_rules.specs.declared.error.ModeError.TheVariants.{OfType, Missing}
use Rattle.type_rules.specs.Breaches.{refuse}
use Rattle.type_rules.specs.Concepts.{asked, concept_in, declarations}
use Rattle.type_rules.specs.Headings.{against, main, operation, procedure, typed, value_type}
use Rattle.type_rules.specs.Names.{declared_twice, fields_twice, given_twice, parts_twice}
use Rattle.type_rules.specs.Origins.{Scope, is_type_formal, scope, scope_behind}

-- ---- families

-- A name in a model is a type formal, or else refused at the first word of the family.
abbrev pub part_known : Scope → ℕ → MPart → List ModeError
part_known s at (part.Param name) = refuse (not (is_type_formal s name)) (OfType at)
part_known s at p = []

abbrev pub part_breaches : Scope → ℕ → MPart → List ModeError
part_breaches s at p = part_known s at p ++ parts_twice at p

abbrev pub family : Scope → Family → List ModeError
family s f = flat_map (part_breaches s f.at) f.model.parts

-- ---- facilities

-- What is given for a type formal is the type of a value.
abbrev pub argument : List Component → Scope → Bool → Bool × FacArg → List ModeError
argument table s hides (true, arg.OfType t) = value_type table s hides t
argument table s hides (is_type, a) = []

abbrev pub argument_for : List Component → Scope → Bool → Formal × FacArg → List ModeError
argument_for table s hides p = argument table s hides (p.0.is_type, p.1)

-- The first argument of the built-in arrays is the type of their entries.
abbrev pub array_arguments : List Component → Scope → Bool → List FacArg → List ModeError
array_arguments table s hides [] = []
array_arguments table s hides (a ∷ rest) = argument table s hides (true, a)

abbrev pub arguments : List Component → Scope → Bool → FacDecl → List ModeError
arguments table s hides d =
    if is_array_template d.concept then array_arguments table s hides d.args
    else option_map_or (λ k. flat_map (argument_for table s hides) (zip k.formals d.args)) (concept_in table d.concept) []

abbrev pub facility : List Component → Scope → Bool → FacDecl → List ModeError
facility table s hides d = given_twice table d ++ arguments table s hides d

-- A declaration sees those in front of it alone.
abbrev pub facilities : List Component → Component → Bool → List ModeError
facilities table c hides =
    flat_map (λ d. facility table (scope_behind table c (take d.0 (declarations c))) hides d.1) (enumerate_from 0 (declarations c))

-- ---- representations

-- A realization of a concept stands for its family, one of an enhancement for none.
abbrev pub family_of : List Component → Realizing → Option Family
family_of table r = if is_some r.enhancement then None else option_map_or (λ k. k.family) (concept_in table r.concept) None

-- the record has the name of the family, and speaks of its exemplar
abbrev pub stands_for : Rep → Family → Bool
stands_for rep f = bytes_eq f.name rep.name && bytes_eq f.exemplar rep.conc

abbrev pub other_family : List Component → Realizing → Rep → List ModeError
other_family table r rep = refuse (not (option_map_or (stands_for rep) (family_of table r) false)) (OfType rep.at)

abbrev pub representation : List Component → Scope → Realizing → Rep → List ModeError
representation table s r rep =
    other_family table r rep
    ++ fields_twice rep.fields
    ++ flat_map (typed table s (is_none r.enhancement)) rep.fields

-- ---- what is missing

abbrev pub missing_family : Realizing → Family → List ModeError
missing_family r f = refuse (is_none r.rep) (Missing r.end_at f.name)

abbrev pub has_procedure : Realizing → List ℕ → Bool
has_procedure r name = list_any (λ p. bytes_eq name p.heading.name) r.procs

abbrev pub missing_procedure : Realizing → Heading → List ModeError
missing_procedure r h = refuse (not (has_procedure r h.name)) (Missing r.end_at h.name)

-- the family first, then the operations in the order of the headings
abbrev pub missing : List Component → Realizing → List ModeError
missing table r = option_map_or (missing_family r) (family_of table r) [] ++ flat_map (missing_procedure r) (asked table r)

-- ---- components

abbrev pub asked_procedure : List Component → Scope → Realizing → Procedure → List ModeError
asked_procedure table s r p = procedure table s (is_none r.enhancement) p ++ against (asked table r) p.heading

abbrev pub realization : List Component → Scope → Realizing → List ModeError
realization table s r =
    option_map_or (representation table s r) r.rep []
    ++ flat_map (λ l. procedure table s (is_none r.enhancement) l.procedure) r.locals
    ++ flat_map (asked_procedure table s r) r.procs
    ++ missing table r

abbrev pub module_operation : List Component → Scope → LocalOp → List ModeError
module_operation table s l = procedure table s false l.procedure ++ main l.procedure.heading

-- where the family stands for a record: in a realization of its concept
abbrev pub hides_family : Component → Bool
hides_family (Realization r) = is_none r.enhancement
hides_family c = false

abbrev pub parts : List Component → Scope → Component → List ModeError
parts table s (Concept k) = option_map_or (family s) k.family [] ++ flat_map (operation table s) k.headings
parts table s (Enhancement e) = flat_map (operation table s) e.headings
parts table s (Realization r) = realization table s r
parts table s (Facility m) = flat_map (module_operation table s) m.operations

abbrev pub declarations_breaches : List Component → Component → List ModeError
declarations_breaches table c =
    declared_twice table c ++ facilities table c (hides_family c) ++ parts table (scope table c) c
