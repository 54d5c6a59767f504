-- What the names of a body mean, and its places.
use Rattle.std.specs.Prelude.{ℕ, Bool, true, false, not, ◌&&◌, ◌||◌, if◌then◌else◌, List, [], ◌∷◌, ◌++◌, map, Option, None, Some, is_none, is_some, option_and_then}
use Rattle.std.specs.List.{find, list_all, list_any}
use Rattle.std.specs.Option.{option_map, option_map_or}
use Rattle.std.specs.Str.{bytes_eq}
use Rattle.res_ast.specs.declared.component.Component.{Component}
use Rattle.res_ast.specs.declared.component.Component.TheVariants.{Realization}
use Rattle.res_ast.specs.declared.heading.Heading.{Heading}
use Rattle.res_ast.specs.declared.heading.Mode.{Mode}
use Rattle.res_ast.specs.declared.procedure.Procedure.{Procedure}
use Rattle.res_ast.specs.declared.procedure.Rep.{Rep}
use Rattle.res_ast.specs.declared.statement.Place.{Place}
use Rattle.type_rules.specs.Headings.{is_kept}
use Rattle.type_rules.specs.Origins.{Origin, Scope, is_constant, origin, same, scope}
use Rattle.type_modes.specs.Signatures.{Called, operation}

-- A parameter with its mode, the result, a variable, or a field of one of them. A type that is not known is none.
pub record Holder : Type 0 where
  pub mode : Option Mode
  pub origin : Option Origin

abbrev pub holder : Option Mode → Option Origin → Holder
holder mode o = record { mode = mode; origin = o }

-- What the names of a body mean. The fields are those of the own family, where it is represented by a record.
pub record Body : Type 0 where
  pub holders : List (List ℕ × Holder)
  pub fields : Option (List (List ℕ × Option Origin))
  pub constant : List ℕ → Bool
  pub called : Option (List ℕ) → List ℕ → Option Called

-- ---- the names of a procedure

abbrev pub result_holder : List Component → Scope → Heading → List (List ℕ × Holder)
result_holder table s h = option_map_or (λ t. (h.name, holder None (origin table s t)) ∷ []) h.result []

abbrev pub holders : List Component → Scope → Procedure → List (List ℕ × Holder)
holders table s p =
    map (λ q. (q.name, holder (Some q.mode) (origin table s q.ptype))) p.heading.params
    ++ result_holder table s p.heading
    ++ map (λ v. (v.0, holder None (origin table s v.1))) p.vars

abbrev pub field_types : List Component → Scope → Rep → List (List ℕ × Option Origin)
field_types table s rep = map (λ f. (f.0, origin table s f.1)) rep.fields

-- in a realization of a concept
abbrev pub fields : List Component → Scope → Component → Option (List (List ℕ × Option Origin))
fields table s (Realization r) = if is_some r.enhancement then None else option_map (field_types table s) r.rep
fields table s c = None

-- the body of the procedure of number i, from 0
abbrev pub body : List Component → Component → ℕ → Procedure → Body
body table c i p = record {
  holders = holders table (scope table c) p;
  fields = fields table (scope table c) c;
  constant = is_constant (scope table c);
  called = operation table c i;
}

-- ---- places

-- A place is a name, or a field of one.
abbrev pub Spot : Type 0
Spot = List ℕ × Option (List ℕ)

abbrev pub spot : Place → Spot
spot p = (p.base, p.field)

abbrev pub named : {A : Type 0} → List (List ℕ × A) → List ℕ → Option A
named entries name = option_map (λ e. e.1) (find (λ e. bytes_eq name e.0) entries)

abbrev pub is_own : Option Origin → Bool
is_own o = option_map_or (same Origin.Own) o false

-- the fields of a value of the own family; other values have none
abbrev pub fields_of : Body → Holder → Option (List (List ℕ × Option Origin))
fields_of b h = if is_own h.origin then b.fields else None

abbrev pub field_of : Body → Holder → List ℕ → Option Holder
field_of b h name = option_map (holder h.mode) (option_and_then (λ fs. named fs name) (fields_of b h))

-- What stands at a place. Where nothing that is declared stands there, none.
abbrev pub at : Body → Spot → Option Holder
at b (base, None) = named b.holders base
at b (base, Some field) = option_and_then (λ h. field_of b h field) (named b.holders base)

abbrev pub is_changeable : Holder → Bool
is_changeable h = not (option_map_or is_kept h.mode false)

-- Two places overlap where they are the same, or one is a field of the other.
abbrev pub meet : Option (List ℕ) → Option (List ℕ) → Bool
meet (Some f) (Some g) = bytes_eq f g
meet f g = true

abbrev pub overlap : Spot → Spot → Bool
overlap p q = bytes_eq p.0 q.0 && meet p.1 q.1

-- ---- changing lists

-- A listed name stands for all its fields.
abbrev pub covers : Spot → Spot → Bool
covers (base, None) changed = bytes_eq base changed.0
covers (base, Some field) changed = bytes_eq base changed.0 && option_map_or (bytes_eq field) changed.1 false

abbrev pub lists : List Spot → Spot → Bool
lists listed changed = list_any (λ p. covers p changed) listed

-- A value of the own family is listed too where each of its fields is.
abbrev pub lists_fields : Body → List Spot → List ℕ → Bool
lists_fields b listed name =
    option_map_or (list_all (λ f. lists listed (name, Some f.0))) (option_and_then (fields_of b) (named b.holders name)) false

abbrev pub is_listed : Body → List Spot → Spot → Bool
is_listed b listed changed = lists listed changed || (is_none changed.1 && lists_fields b listed changed.0)
