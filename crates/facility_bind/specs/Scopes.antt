-- What the names of types and of constants mean at a place.
use Rattle.std.specs.Prelude.{ℕ, Bool, false, ◌&&◌, List, [], ◌∷◌, ◌++◌, map, fold, Option, None, Some, is_none, unwrap_or, codes, if◌then◌else◌}
use Rattle.std.specs.List.{find, list_any, zip}
use Rattle.std.specs.Option.{option_map, option_map_or, option_or}
use Rattle.std.specs.Str.{bytes_eq}
use Rattle.math_terms.specs.declared.term.Term.TheOpen.{Term-F}
use Rattle.math_terms.specs.declared.term.Term.TheViews.{roll-Term}
use Rattle.res_ast.specs.declared.component.Component.{Component}
use Rattle.res_ast.specs.declared.component.Concept.{Concept as Specified}
use Rattle.res_ast.specs.declared.facility.FacArg.{FacArg}
use Rattle.res_ast.specs.declared.facility.FacArg.TheVariants as arg
use Rattle.res_ast.specs.declared.facility.FacDecl.{FacDecl}
use Rattle.res_ast.specs.declared.heading.Formal.{Formal}
use Rattle.res_ast.specs.declared.heading.PType.{PType}
use Rattle.res_ast.specs.declared.model.Family.{Family}
use Rattle.type_inst.specs.declared.types.TypeInst.{TypeInst}
use Rattle.type_inst.specs.declared.types.TypeInst.TheOpen.{TypeInst-F}
use Rattle.type_inst.specs.declared.types.TypeInst.TheViews.{roll-TypeInst}
use Rattle.type_inst.specs.declared.types.FormalArg.{FormalArg}
use Rattle.type_inst.specs.declared.types.FormalArg.TheVariants as given
use Rattle.type_inst.specs.declared.types.BoundFamily.{BoundFamily}
use Rattle.module_table.specs.Tables.{is_array_template}
use Rattle.facility_bind.specs.declared.scope.TypeName.{TypeName}
use Rattle.facility_bind.specs.declared.scope.Scope.{Scope}
use Rattle.facility_bind.specs.Formals.{own_concept, concept_in, own_formals}

-- ---- what a name means

abbrev pub integer : TypeInst
integer = roll-TypeInst TypeInst-F.Integer

-- the types that are there without a declaration
unfoldable pub built_in : List ℕ → Option TypeInst
built_in name =
    if bytes_eq name (codes "Integer") then Some integer
    else if bytes_eq name (codes "Boolean") then Some (roll-TypeInst TypeInst-F.Boolean)
    else if bytes_eq name (codes "In_Stream") then Some (roll-TypeInst TypeInst-F.In)
    else if bytes_eq name (codes "Out_Stream") then Some (roll-TypeInst TypeInst-F.Out)
    else None

-- the first formal of this name
abbrev pub formal_in : List (List ℕ × FormalArg) → List ℕ → Option FormalArg
formal_in formals name = option_map (λ p. p.1) (find (λ p. bytes_eq name p.0) formals)

-- the first type that is written so, by itself or behind the name of a facility
abbrev pub is_behind : Option (List ℕ) → Option (List ℕ) → Bool
is_behind None own = is_none own
is_behind (Some facility) own = option_map_or (bytes_eq facility) own false

abbrev pub is_written : Option (List ℕ) → List ℕ → TypeName → Bool
is_written facility name t = is_behind facility t.facility && bytes_eq name t.name

abbrev pub type_among : List TypeName → Option (List ℕ) → List ℕ → Option TypeInst
type_among types facility name = option_map (λ t. t.meaning) (find (is_written facility name) types)

-- A name by itself is that of a formal, of a built-in type, or of the family; behind the name of a facility it is one of its types.
abbrev pub known : Scope → Option (List ℕ) → List ℕ → Option FormalArg
known s None name = option_or (formal_in s.formals name) (option_map given.Type (option_or (built_in name) (type_among s.types None name)))
known s (Some facility) name = option_map given.Type (type_among s.types (Some facility) name)

-- A name that is not known is that of a type, which counts as Integer; so does a constant where a type is asked for.
abbrev pub named : Scope → Option (List ℕ) → List ℕ → FormalArg
named s facility name = unwrap_or (known s facility name) (given.Type integer)

abbrev pub as_type : FormalArg → TypeInst
as_type (given.Type t) = t
as_type (given.Number n) = integer

abbrev pub type_in : Scope → PType → TypeInst
type_in s t = as_type (named s t.facility t.name)

-- ---- what a declaration of a facility makes known

abbrev pub argument : Scope → FacArg → FormalArg
argument s (arg.OfType t) = named s t.facility t.name
argument s (arg.Number at n) = given.Number (roll-Term (Term-F.Num n))

-- what is given for the formals of a concept, as far as formals and arguments go
abbrev pub given_for : Scope → Formal × FacArg → List ℕ × FormalArg
given_for s p = (p.0.name, argument s p.1)

abbrev pub given_to : Scope → List Formal → List FacArg → List (List ℕ × FormalArg)
given_to s formals args = map (given_for s) (zip formals args)

abbrev pub type_name : Option (List ℕ) → List ℕ → TypeInst → TypeName
type_name facility name meaning = record { facility = facility; name = name; meaning = meaning }

-- the type of an array with these entries and of this size; other arguments give none
abbrev pub array_type : List FormalArg → Option TypeInst
array_type (given.Type entry ∷ given.Number size ∷ []) = Some (roll-TypeInst (TypeInst-F.Array entry size))
array_type _ = None

abbrev pub array_name : List ℕ
array_name = codes "Static_Array"

abbrev pub with_array : Scope → List ℕ → Option TypeInst → Scope
with_array s facility None = s
with_array s facility (Some t) = record s { types = s.types ++ type_name (Some facility) array_name t ∷ [] }

-- the family of an instance, under the path of the instance
abbrev pub family_type : List (List ℕ) → TypeInst
family_type path = roll-TypeInst (TypeInst-F.Family path)

abbrev pub bound_family : List (List ℕ) → List (List ℕ × FormalArg) → Family → BoundFamily
bound_family path formals f = record { path = path; family = f; formals = formals }

abbrev pub with_family : Scope → Option (List ℕ) → List (List ℕ) → List (List ℕ × FormalArg) → Option Family → Scope
with_family s facility path formals None = s
with_family s facility path formals (Some f) = record s {
  types = s.types ++ type_name facility f.name (family_type path) ∷ [];
  families = s.families ++ bound_family path formals f ∷ [];
}

abbrev pub with_instance : Scope → FacDecl → Option Specified → Scope
with_instance s d None = s
with_instance s d (Some k) = with_family s (Some d.name) (d.name ∷ []) (given_to s k.formals d.args) k.family

abbrev pub with_types : List Component → Scope → FacDecl → Scope
with_types table s d =
    if is_array_template d.concept then with_array s d.name (array_type (map (argument s) d.args))
    else with_instance s d (concept_in table d.concept)

-- Of two facilities of one name the first is meant.
abbrev pub with_name : Scope → List ℕ → Scope
with_name s name = record s { facilities = s.facilities ++ name ∷ [] }

abbrev pub with_facility : List Component → Scope → FacDecl → Scope
with_facility table s d = if list_any (bytes_eq d.name) s.facilities then s else with_types table (with_name s d.name) d

-- ---- the scopes of a component

abbrev pub formals_alone : List (List ℕ × FormalArg) → Scope
formals_alone formals = record { formals = formals; types = []; families = []; facilities = [] }

-- The formals of the own concept stand for themselves, and its family has no path.
abbrev pub concept_scope : Option Specified → Scope
concept_scope None = formals_alone []
concept_scope (Some k) = with_family (formals_alone (own_formals k.formals)) None [] (own_formals k.formals) k.family

-- what is known behind these declarations of facilities
abbrev pub scope : List Component → Component → List FacDecl → Scope
scope table c ds = fold (with_facility table) (concept_scope (own_concept table c)) ds
