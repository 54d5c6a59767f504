-- Operations as a caller sees them.
use Rattle.std.specs.Prelude.{ℕ, nat_lt, ◌==◌, Bool, true, false, not, ◌&&◌, ◌||◌, if◌then◌else◌, List, [], ◌∷◌, map, take, slice_get, Option, None, Some, is_some, option_and_then, unwrap_or, codes}
use Rattle.std.specs.List.{find, position, zip}
use Rattle.std.specs.Option.{option_map, option_map_or, option_or}
use Rattle.std.specs.Str.{bytes_eq}
use Rattle.res_ast.specs.declared.component.Component.{Component}
use Rattle.res_ast.specs.declared.component.Component.TheVariants.{Realization, Facility}
use Rattle.res_ast.specs.declared.component.Concept.{Concept as Specified}
use Rattle.res_ast.specs.declared.component.Realization.{Realization as Realizing}
use Rattle.res_ast.specs.declared.facility.FacArg.{FacArg}
use Rattle.res_ast.specs.declared.facility.FacArg.TheVariants as arg
use Rattle.res_ast.specs.declared.facility.FacDecl.{FacDecl}
use Rattle.res_ast.specs.declared.heading.Heading.{Heading}
use Rattle.res_ast.specs.declared.heading.Mode.{Mode}
use Rattle.res_ast.specs.declared.heading.Mode.TheVariants as mode
use Rattle.res_ast.specs.declared.heading.PType.{PType}
use Rattle.res_ast.specs.declared.procedure.Procedure.{Procedure}
use Rattle.module_table.specs.Tables.{is_array_template}
use Rattle.type_rules.specs.Concepts.{asked, concept_in, declarations, given_headings, procedures}
use Rattle.type_rules.specs.Headings.{heading_named, is_main}
use Rattle.type_rules.specs.Origins.{Origin, Scope, origin, origin_alone, scope, scope_behind, scope_in}

-- The modes and types of the parameters, and the type of the answer of a function. A type that is not known is none.
pub record Signature : Type 0 where
  pub params : List (Mode × Option Origin)
  pub result : Option Origin

abbrev pub signature : (PType → Option Origin) → Heading → Signature
signature type h = record {
  params = map (λ p. (p.mode, type p.ptype)) h.params;
  result = option_map (λ t. unwrap_or (type t) Origin.Integer) h.result;
}

-- An operation that is called, and whether it may be called there.
pub record Called : Type 0 where
  pub signature : Signature
  pub in_order : Bool

abbrev pub called : Signature → Bool → Called
called s in_order = record { signature = s; in_order = in_order }

-- ---- operations that are there without a declaration

abbrev pub read : Signature
read = record { params = (mode.Replaces, Some Origin.Integer) ∷ (mode.Updates, Some Origin.In) ∷ []; result = None }

abbrev pub write : Signature
write = record { params = (mode.Evaluates, Some Origin.Integer) ∷ (mode.Updates, Some Origin.Out) ∷ []; result = None }

abbrev pub at_end : Signature
at_end = record { params = (mode.Preserves, Some Origin.In) ∷ []; result = Some Origin.Boolean }

abbrev pub remaining : Signature
remaining = record { params = (mode.Preserves, Some Origin.In) ∷ []; result = Some Origin.Integer }

unfoldable pub built_in : List ℕ → Option Signature
built_in name =
    if bytes_eq name (codes "Read") then Some read
    else if bytes_eq name (codes "Write") then Some write
    else if bytes_eq name (codes "At_End") then Some at_end
    else if bytes_eq name (codes "Remaining") then Some remaining
    else None

-- ---- operations of a specification

-- What a type of a specification is outside: a type formal what is given for it, and the family what it is there. One that is not
-- known counts as Integer.
abbrev pub outside : (List ℕ → Option Origin) → Origin → Option Origin → Option Origin
outside formal family None = Some Origin.Integer
outside formal family (Some (Origin.Formal name)) = formal name
outside formal family (Some Origin.Own) = Some family
outside formal family (Some o) = Some o

-- the types of a concept's headings, seen from the concept
abbrev pub inside : Specified → PType → Option Origin
inside k t = if is_some t.facility then None else origin_alone (scope_in (Some k) []) t.name

-- ---- operations through a facility

abbrev pub argument : List Component → Scope → FacArg → Option Origin
argument table s (arg.OfType t) = origin table s t
argument table s (arg.Number at n) = None

-- what a declaration gives for the first formal of this name
abbrev pub given : List Component → Scope → FacDecl → Specified → List ℕ → Option Origin
given table s d k name = option_and_then (λ p. argument table s p.1) (find (λ p. bytes_eq name p.0.name) (zip k.formals d.args))

abbrev pub through : List Component → Scope → FacDecl → Specified → PType → Option Origin
through table s d k t = outside (given table s d k) (Origin.Of d.name) (inside k t)

-- `Swap_Entry(updates A: Static_Array; updates E: Entry; evaluates I: Integer)`
abbrev pub entry : List Component → Scope → List FacArg → Option Origin
entry table s [] = None
entry table s (a ∷ rest) = argument table s a

abbrev pub swap_entry : List Component → Scope → FacDecl → Signature
swap_entry table s d = record {
  params = (mode.Updates, Some (Origin.Of d.name)) ∷ (mode.Updates, entry table s d.args) ∷ (mode.Evaluates, Some Origin.Integer) ∷ [];
  result = None;
}

unfoldable pub is_swap_entry : List ℕ → Bool
is_swap_entry name = bytes_eq name (codes "Swap_Entry")

abbrev pub instance_signature : List Component → Scope → FacDecl → Specified → List ℕ → Option Signature
instance_signature table s d k name = option_map (signature (through table s d k)) (heading_named (given_headings table d) name)

-- A facility gives the operations of its concept and its enhancements, an array facility Swap_Entry.
abbrev pub facility_signature : List Component → Scope → FacDecl → List ℕ → Option Signature
facility_signature table s d name =
    if is_array_template d.concept then (if is_swap_entry name then Some (swap_entry table s d) else None)
    else option_and_then (λ k. instance_signature table s d k name) (concept_in table d.concept)

-- The first facility of the name is meant; its arguments are seen from in front of it.
abbrev pub facility_at : List Component → Component → List ℕ → ℕ → Option Signature
facility_at table c name i =
    option_and_then (λ d. facility_signature table (scope_behind table c (take i (declarations c))) d name) (slice_get (declarations c) i)

abbrev pub behind_facility : List Component → Component → List ℕ → List ℕ → Option Called
behind_facility table c facility name =
    option_map (λ s. called s true) (option_and_then (facility_at table c name) (position (λ d. bytes_eq facility d.name) (declarations c)))

-- ---- operations by their names alone

-- Seen from a realization the formals of its concept and the family stand for themselves.
abbrev pub within : Specified → PType → Option Origin
within k t = outside (λ name. Some (Origin.Formal name)) Origin.Own (inside k t)

abbrev pub specified : List Component → Realizing → List Heading → List ℕ → Option Signature
specified table r headings name =
    option_and_then (λ k. option_map (signature (within k)) (heading_named headings name)) (concept_in table r.concept)

-- An operation that the realization is asked for may not be called. In a realization of an enhancement one of the concept may.
abbrev pub concept_operations : List Component → Realizing → List Heading
concept_operations table r = if is_some r.enhancement then option_map_or (λ k. k.headings) (concept_in table r.concept) [] else []

abbrev pub of_specification : List Component → Component → List ℕ → Option Called
of_specification table (Realization r) name =
    option_or (option_map (λ s. called s false) (specified table r (asked table r) name))
    (option_map (λ s. called s true) (specified table r (concept_operations table r) name))
of_specification table c name = None

-- Of the own operations the first of the name is meant. The procedure of number i, from 0, calls those in front of it, and itself
-- where it has a metric; Main of a module is not called.
abbrev pub is_module : Component → Bool
is_module (Facility m) = true
is_module c = false

abbrev pub may_call : Component → ℕ → Procedure → ℕ → Bool
may_call c i p j = (nat_lt j i || (j == i && is_some p.metric)) && not (is_module c && is_main p.heading.name)

abbrev pub own_at : List Component → Component → ℕ → ℕ → Option Called
own_at table c i j =
    option_map (λ p. called (signature (origin table (scope table c)) p.heading) (may_call c i p j)) (slice_get (procedures c) j)

abbrev pub own_operation : List Component → Component → ℕ → List ℕ → Option Called
own_operation table c i name = option_and_then (own_at table c i) (position (λ p. bytes_eq name p.heading.name) (procedures c))

abbrev pub by_name : List Component → Component → ℕ → List ℕ → Option Called
by_name table c i name =
    option_or (option_map (λ s. called s true) (built_in name)) (option_or (of_specification table c name) (own_operation table c i name))

-- ---- the operation that the procedure of number i calls

abbrev pub operation : List Component → Component → ℕ → Option (List ℕ) → List ℕ → Option Called
operation table c i (Some facility) name = behind_facility table c facility name
operation table c i None name = by_name table c i name
