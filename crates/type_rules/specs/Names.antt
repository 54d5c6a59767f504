-- Which names differ.
use Rattle.std.specs.Prelude.{ℕ, Bool, List, [], ◌∷◌, ◌++◌, map, Option, None, Some, is_some, if◌then◌else◌}
use Rattle.std.specs.List.{list_any}
use Rattle.std.specs.Option.{option_map_or}
use Rattle.std.specs.Str.{bytes_eq}
use Rattle.res_ast.specs.declared.component.Component.{Component}
use Rattle.res_ast.specs.declared.component.Component.TheVariants.{Concept, Enhancement, Realization, Facility}
use Rattle.res_ast.specs.declared.component.Concept.{Concept as Specified}
use Rattle.res_ast.specs.declared.component.Realization.{Realization as Realizing}
use Rattle.res_ast.specs.declared.facility.FacDecl.{FacDecl}
use Rattle.res_ast.specs.declared.heading.Heading.{Heading}
use Rattle.res_ast.specs.declared.heading.PType.{PType}
use Rattle.res_ast.specs.declared.model.Family.{Family}
use Rattle.res_ast.specs.declared.model.MPart.{MPart}
use Rattle.res_ast.specs.declared.model.MPart.TheVariants as part
use Rattle.res_ast.specs.declared.procedure.Procedure.{Procedure}
use Rattle.type_rules.specs.declared.error.ModeError.{ModeError}
use Rattle.type_rules.specs.declared.error.ModeError.TheVariants.{OfType}
use Rattle.type_rules.specs.Breaches.{refuse}
use Rattle.type_rules.specs.Concepts.{concept_headings, concept_in, declarations, given_headings, procedures}
use Rattle.type_rules.specs.Origins.{Scope}

abbrev pub is_among : List ℕ → List (List ℕ) → Bool
is_among name names = list_any (bytes_eq name) names

-- Of some names with their places, which come behind others: one that stood before is refused at its own place.
abbrev pub repeated : List (List ℕ) → List (List ℕ × ℕ) → List ModeError
repeated before [] = []
repeated before (n ∷ ns) = refuse (is_among n.0 before) (OfType n.1) ++ repeated (before ++ n.0 ∷ []) ns

-- ---- what a component declares, and what it sees by the name alone

abbrev pub heading_name : Heading → List ℕ × ℕ
heading_name h = (h.name, h.at)

abbrev pub facility_name : FacDecl → List ℕ × ℕ
facility_name d = (d.name, d.at)

abbrev pub family_name : Option Family → List (List ℕ × ℕ)
family_name None = []
family_name (Some f) = (f.name, f.at) ∷ []

abbrev pub procedure_name : Procedure → List ℕ × ℕ
procedure_name p = heading_name p.heading

abbrev pub declared : Component → List (List ℕ × ℕ)
declared (Concept k) = map (λ f. (f.name, f.at)) k.formals ++ family_name k.family ++ map heading_name k.headings
declared (Enhancement e) = map heading_name e.headings
declared c = map facility_name (declarations c) ++ map procedure_name (procedures c)

-- the formals and the family of a concept
abbrev pub formal_names : Specified → List (List ℕ)
formal_names k = map (λ f. f.name) k.formals

abbrev pub types_seen : Specified → List (List ℕ)
types_seen k = formal_names k ++ map (λ n. n.0) (family_name k.family)

abbrev pub types_of : List Component → List ℕ → List (List ℕ)
types_of table concept = option_map_or types_seen (concept_in table concept) []

-- A realization of an enhancement calls the operations of the concept by their names alone.
abbrev pub operations_seen : List Component → Realizing → List (List ℕ)
operations_seen table r = if is_some r.enhancement then map (λ h. h.name) (concept_headings table r.concept) else []

abbrev pub seen : List Component → Component → List (List ℕ)
seen table (Concept k) = []
seen table (Enhancement e) = types_of table e.concept
seen table (Realization r) = types_of table r.concept ++ operations_seen table r
seen table (Facility m) = []

abbrev pub declared_twice : List Component → Component → List ModeError
declared_twice table c = repeated (seen table c) (declared c)

-- ---- the operations of a facility, the fields of a record, the parts of a product

-- the second of two operations of one name is refused at the declaration of the facility
abbrev pub given_twice : List Component → FacDecl → List ModeError
given_twice table d = repeated [] (map (λ h. (h.name, d.at)) (given_headings table d))

-- a variable or a field, at its type
abbrev pub typed_name : List ℕ × PType → List ℕ × ℕ
typed_name v = (v.0, v.1.at)

abbrev pub fields_twice : List (List ℕ × PType) → List ModeError
fields_twice fields = repeated [] (map typed_name fields)

-- a part of a product, at the first word of the family
abbrev pub parts_twice : ℕ → MPart → List ModeError
parts_twice at (part.Prod names) = repeated [] (map (λ n. (n, at)) names)
parts_twice at p = []

-- ---- the parameters and variables of an operation

-- They differ from the formals and the facilities, and in a function from its name.
abbrev pub function_name : Heading → List (List ℕ)
function_name h = if is_some h.result then h.name ∷ [] else []

abbrev pub taken : Scope → Heading → List (List ℕ)
taken s h = map (λ f. f.name) s.formals ++ map (λ d. d.name) s.facilities ++ function_name h

abbrev pub variables_twice : Scope → Heading → List (List ℕ × PType) → List ModeError
variables_twice s h variables = repeated (taken s h) (map (λ p. (p.name, p.at)) h.params ++ map typed_name variables)
