-- The names of other components that a component has in its text, and what each is to be.
use Rattle.std.specs.Prelude.{ℕ, Bool, true, false, ◌&&◌, not, List, [], ◌∷◌, ◌++◌, map, filter, fold, Option, None, Some, is_none, Result, Ok, Err, if◌then◌else◌}
use Rattle.std.specs.List.{flat_map, list_any}
use Rattle.std.specs.Option.{option_or, option_map_or}
use Rattle.std.specs.Str.{bytes_eq}
use Rattle.res_ast.specs.declared.component.Component.{Component}
use Rattle.res_ast.specs.declared.component.Component.TheVariants.{Concept, Enhancement, Realization, Facility}
use Rattle.res_ast.specs.declared.component.Realization.{Realization as Realizing}
use Rattle.res_ast.specs.declared.facility.FacDecl.{FacDecl}
use Rattle.module_table.specs.declared.error.NameError.{NameError}
use Rattle.module_table.specs.declared.error.NameError.TheVariants.{Unknown, WrongKind}
use Rattle.module_table.specs.Tables.{held, is_array_template}

-- What a component is to be at a slot: anything, a concept, an enhancement for that concept, a realization for that concept and
-- of no enhancement, or a realization for that concept of that enhancement.
pub data Asked : Type 0 where
  Anything : Asked
  AConcept : Asked
  AnEnhancement : List ℕ → Asked
  ARealization : List ℕ → Asked
  ARealizationOf : List ℕ → List ℕ → Asked

abbrev pub suits : Asked → Component → Bool
suits Asked.Anything c = true
suits Asked.AConcept (Concept c) = true
suits (Asked.AnEnhancement concept) (Enhancement e) = bytes_eq concept e.concept
suits (Asked.ARealization concept) (Realization r) = is_none r.enhancement && bytes_eq concept r.concept
suits (Asked.ARealizationOf enhancement concept) (Realization r) = option_map_or (bytes_eq enhancement) r.enhancement false && bytes_eq concept r.concept
suits _ _ = false

-- a name in the text, the place at which it is refused, and what is asked of the component of that name
pub record Slot : Type 0 where
  pub name : List ℕ
  pub at : ℕ
  pub asked : Asked

abbrev pub slot : List ℕ → ℕ → Asked → Slot
slot name at asked = record { name = name; at = at; asked = asked }

-- The slots of a component, in the order of its text: those of its header, the names after `uses`, and those of its declarations
-- of facilities, each with its concept, its realization, and the pairs of an enhancement and its realization.
abbrev pub headed : Realizing → List Slot
headed r = option_map_or (λ e. slot e r.at (Asked.AnEnhancement r.concept) ∷ []) r.enhancement [] ++ slot r.concept r.at Asked.AConcept ∷ []

abbrev pub used : ℕ → List ℕ → Slot
used at name = slot name at Asked.Anything

abbrev pub enhanced : FacDecl → List ℕ × List ℕ → List Slot
enhanced d (e, r) = slot e d.at (Asked.AnEnhancement d.concept) ∷ slot r d.at (Asked.ARealizationOf e d.concept) ∷ []

abbrev pub declared : FacDecl → List Slot
declared d = slot d.concept d.at Asked.AConcept
    ∷ option_map_or (λ r. slot r d.at (Asked.ARealization d.concept) ∷ []) d.realization [] ++ flat_map (enhanced d) d.enhanced

abbrev pub slots : Component → List Slot
slots (Concept c) = map (used c.at) c.uses
slots (Enhancement e) = slot e.concept e.at Asked.AConcept ∷ map (used e.at) e.uses
slots (Realization r) = headed r ++ map (used r.at) r.uses ++ flat_map declared r.facilities
slots (Facility m) = map (used m.at) m.uses ++ flat_map declared m.facilities

-- why the name of a slot is refused, where it is
abbrev pub refusal : Slot → Option Component → Option NameError
refusal s None = Some (Unknown s.name s.at)
refusal s (Some c) = if suits s.asked c then None else Some (WrongKind s.name s.at)

abbrev pub breach : List Component → Slot → Option NameError
breach table s = if is_array_template s.name then None else refusal s (held table s.name)

abbrev pub first_breach : List Component → List Slot → Option NameError
first_breach table [] = None
first_breach table (s ∷ ss) = option_or (breach table s) (first_breach table ss)

-- the names of the slots that ask for a kind, each once
abbrev pub asks_a_kind : Asked → Bool
asks_a_kind Asked.Anything = false
asks_a_kind _ = true

abbrev pub is_listed : Slot → Bool
is_listed s = asks_a_kind s.asked && not (is_array_template s.name)

abbrev pub with_name : List (List ℕ) → List ℕ → List (List ℕ)
with_name names name = if list_any (bytes_eq name) names then names else names ++ name ∷ []

abbrev pub listed : List Slot → List (List ℕ)
listed ss = fold with_name [] (map (λ s. s.name) (filter is_listed ss))

-- the specifications and realizations that a component names, or the first breach in its text
abbrev pub uses_in : List Component → Component → Result (List (List ℕ)) NameError
uses_in table c = option_map_or Err (first_breach table (slots c)) (Ok (listed (slots c)))

-- the same of the component of that name; of a name that is not held none
abbrev pub uses_of : List Component → List ℕ → Result (List (List ℕ)) NameError
uses_of table name = option_map_or (uses_in table) (held table name) (Ok [])
