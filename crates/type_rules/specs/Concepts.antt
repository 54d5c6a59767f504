-- The concept that a component is of, and what a declaration of a facility takes from its concept and its enhancements.
use Rattle.std.specs.Prelude.{ℕ, List, [], ◌++◌, map, Option, None, Some, option_and_then}
use Rattle.std.specs.List.{flat_map}
use Rattle.std.specs.Option.{option_map_or}
use Rattle.res_ast.specs.declared.component.Component.{Component}
use Rattle.res_ast.specs.declared.component.Component.TheVariants.{Concept, Enhancement, Realization, Facility}
use Rattle.res_ast.specs.declared.component.Concept.{Concept as Specified}
use Rattle.res_ast.specs.declared.component.Enhancement.{Enhancement as Enhanced}
use Rattle.res_ast.specs.declared.component.Realization.{Realization as Realizing}
use Rattle.res_ast.specs.declared.facility.FacDecl.{FacDecl}
use Rattle.res_ast.specs.declared.heading.Heading.{Heading}
use Rattle.res_ast.specs.declared.procedure.Procedure.{Procedure}
use Rattle.module_table.specs.Tables.{held}

abbrev pub as_concept : Component → Option Specified
as_concept (Concept c) = Some c
as_concept _ = None

abbrev pub as_enhancement : Component → Option Enhanced
as_enhancement (Enhancement e) = Some e
as_enhancement _ = None

-- the concept and the enhancement of a name
abbrev pub concept_in : List Component → List ℕ → Option Specified
concept_in table name = option_and_then as_concept (held table name)

abbrev pub enhancement_in : List Component → List ℕ → Option Enhanced
enhancement_in table name = option_and_then as_enhancement (held table name)

-- the concept that a component is of: itself, or the one that an enhancement or a realization names; a module is of none
abbrev pub own_concept : List Component → Component → Option Specified
own_concept table (Concept c) = Some c
own_concept table (Enhancement e) = concept_in table e.concept
own_concept table (Realization r) = concept_in table r.concept
own_concept table (Facility m) = None

-- the declarations of facilities, in the order of the text
abbrev pub declarations : Component → List FacDecl
declarations (Realization r) = r.facilities
declarations (Facility m) = m.facilities
declarations _ = []

-- the procedures of a realization or a module, in the order of the text
abbrev pub procedures : Component → List Procedure
procedures (Realization r) = map (λ l. l.procedure) r.locals ++ r.procs
procedures (Facility m) = map (λ l. l.procedure) m.operations
procedures _ = []

-- the headings of a concept and of an enhancement
abbrev pub concept_headings : List Component → List ℕ → List Heading
concept_headings table name = option_map_or (λ k. k.headings) (concept_in table name) []

abbrev pub enhancement_headings : List Component → List ℕ → List Heading
enhancement_headings table name = option_map_or (λ e. e.headings) (enhancement_in table name) []

-- the headings that a realization has procedures for
abbrev pub asked : List Component → Realizing → List Heading
asked table r = option_map_or (enhancement_headings table) r.enhancement (concept_headings table r.concept)

-- the headings that a facility gives, of its concept and of its enhancements; those of the built-in arrays stand in no component
abbrev pub given_headings : List Component → FacDecl → List Heading
given_headings table d = concept_headings table d.concept ++ flat_map (λ p. enhancement_headings table p.0) d.enhanced
