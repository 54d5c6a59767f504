-- Where a type comes from. Two types are the same only where they come from the same declaration.
use Rattle.std.specs.Prelude.{ℕ, Bool, true, false, not, if◌then◌else◌, List, [], Option, None, Some, option_and_then, codes}
use Rattle.std.specs.List.{find}
use Rattle.std.specs.Option.{option_map, option_map_or, option_or}
use Rattle.std.specs.Str.{bytes_eq}
use Rattle.res_ast.specs.declared.component.Component.{Component}
use Rattle.res_ast.specs.declared.component.Concept.{Concept as Specified}
use Rattle.res_ast.specs.declared.facility.FacDecl.{FacDecl}
use Rattle.res_ast.specs.declared.heading.Formal.{Formal as Declared_formal}
use Rattle.res_ast.specs.declared.heading.PType.{PType}
use Rattle.module_table.specs.Tables.{is_array_template}
use Rattle.type_rules.specs.Concepts.{concept_in, declarations, own_concept}

-- A type that is there without a declaration, the family of the own concept, a type formal, or the type of a facility.
pub data Origin : Type 0 where
  Integer : Origin
  Boolean : Origin
  In : Origin
  Out : Origin
  Own : Origin
  Formal : List ℕ → Origin
  Of : List ℕ → Origin

abbrev pub same : Origin → Origin → Bool
same Origin.Integer Origin.Integer = true
same Origin.Boolean Origin.Boolean = true
same Origin.In Origin.In = true
same Origin.Out Origin.Out = true
same Origin.Own Origin.Own = true
same (Origin.Formal a) (Origin.Formal b) = bytes_eq a b
same (Origin.Of a) (Origin.Of b) = bytes_eq a b
same a b = false

-- A type that is not known differs from none.
abbrev pub differ : Option Origin → Option Origin → Bool
differ (Some a) (Some b) = not (same a b)
differ a b = false

-- what is copied and compared
abbrev pub is_scalar : Origin → Bool
is_scalar Origin.Integer = true
is_scalar Origin.Boolean = true
is_scalar o = false

abbrev pub is_stream : Origin → Bool
is_stream Origin.In = true
is_stream Origin.Out = true
is_stream o = false

-- a type that is known, and passes a test
abbrev pub has : (Origin → Bool) → Option Origin → Bool
has test o = option_map_or test o false

abbrev pub is_no_scalar : Option Origin → Bool
is_no_scalar o = has (λ t. not (is_scalar t)) o

-- ---- what is known at a place

-- the formals and the name of the family that a component sees, and the declarations of facilities in front of the place
pub record Scope : Type 0 where
  pub formals : List Declared_formal
  pub family : Option (List ℕ)
  pub facilities : List FacDecl

abbrev pub family_name : Specified → Option (List ℕ)
family_name k = option_map (λ f. f.name) k.family

abbrev pub scope_in : Option Specified → List FacDecl → Scope
scope_in None facilities = record { formals = []; family = None; facilities = facilities }
scope_in (Some k) facilities = record { formals = k.formals; family = family_name k; facilities = facilities }

-- what a component sees behind these declarations, and behind all of its own
abbrev pub scope_behind : List Component → Component → List FacDecl → Scope
scope_behind table c front = scope_in (own_concept table c) front

abbrev pub scope : List Component → Component → Scope
scope table c = scope_behind table c (declarations c)

-- ---- names of types

-- the first formal and the first facility of a name
abbrev pub formal_named : Scope → List ℕ → Option Declared_formal
formal_named s name = find (λ f. bytes_eq name f.name) s.formals

abbrev pub facility_named : Scope → List ℕ → Option FacDecl
facility_named s name = find (λ d. bytes_eq name d.name) s.facilities

abbrev pub is_type_formal : Scope → List ℕ → Bool
is_type_formal s name = option_map_or (λ f. f.is_type) (formal_named s name) false

abbrev pub is_constant : Scope → List ℕ → Bool
is_constant s name = option_map_or (λ f. not f.is_type) (formal_named s name) false

unfoldable pub built_in : List ℕ → Option Origin
built_in name =
    if bytes_eq name (codes "Integer") then Some Origin.Integer
    else if bytes_eq name (codes "Boolean") then Some Origin.Boolean
    else if bytes_eq name (codes "In_Stream") then Some Origin.In
    else if bytes_eq name (codes "Out_Stream") then Some Origin.Out
    else None

unfoldable pub is_array_name : List ℕ → Bool
is_array_name name = bytes_eq name (codes "Static_Array")

abbrev pub own_family : Scope → List ℕ → Option Origin
own_family s name = if option_map_or (bytes_eq name) s.family false then Some Origin.Own else None

-- A name by itself is that of a type formal, of a built-in type, or of the own family.
abbrev pub origin_alone : Scope → List ℕ → Option Origin
origin_alone s name =
    if is_type_formal s name then Some (Origin.Formal name)
    else if is_constant s name then None
    else option_or (built_in name) (own_family s name)

-- A facility gives the family of its concept, and an array facility the type of the arrays.
abbrev pub gives_type : List Component → FacDecl → List ℕ → Bool
gives_type table d name =
    if is_array_template d.concept then is_array_name name
    else option_map_or (bytes_eq name) (option_and_then family_name (concept_in table d.concept)) false

abbrev pub origin_through : List Component → Scope → List ℕ → List ℕ → Option Origin
origin_through table s facility name =
    if option_map_or (λ d. gives_type table d name) (facility_named s facility) false then Some (Origin.Of facility) else None

abbrev pub origin : List Component → Scope → PType → Option Origin
origin table s t = option_map_or (λ facility. origin_through table s facility t.name) t.facility (origin_alone s t.name)
