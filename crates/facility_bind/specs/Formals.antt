-- The formals that a component sees: those of the concept that it is of.
use Rattle.std.specs.Prelude.{ℕ, ◌+◌, List, [], ◌∷◌, Option, None, Some, option_and_then, if◌then◌else◌}
use Rattle.math_terms.specs.declared.term.Term.TheOpen.{Term-F}
use Rattle.math_terms.specs.declared.term.Term.TheViews.{roll-Term}
use Rattle.res_ast.specs.declared.component.Component.{Component}
use Rattle.res_ast.specs.declared.component.Component.TheVariants.{Concept, Enhancement, Realization, Facility}
use Rattle.res_ast.specs.declared.component.Concept.{Concept as Specified}
use Rattle.res_ast.specs.declared.component.Enhancement.{Enhancement as Enhanced}
use Rattle.res_ast.specs.declared.facility.FacDecl.{FacDecl}
use Rattle.res_ast.specs.declared.heading.Formal.{Formal}
use Rattle.type_inst.specs.declared.types.FormalArg.{FormalArg}
use Rattle.type_inst.specs.declared.types.FormalArg.TheVariants as given
use Rattle.type_inst.specs.declared.types.TypeInst.TheOpen.{TypeInst-F}
use Rattle.type_inst.specs.declared.types.TypeInst.TheViews.{roll-TypeInst}
use Rattle.module_table.specs.Tables.{held}

abbrev pub as_concept : Component → Option Specified
as_concept (Concept c) = Some c
as_concept _ = None

abbrev pub as_enhancement : Component → Option Enhanced
as_enhancement (Enhancement e) = Some e
as_enhancement _ = None

-- the concept and the enhancement of a name
abbrev pub concept_in : List Component → List ℕ → Option Specified
concept_in table name = option_and_then as_concept (held table name)

abbrev pub enhancement_in : List Component → List ℕ → Option Enhanced
enhancement_in table name = option_and_then as_enhancement (held table name)

-- the concept that a component is of: itself, or the one that an enhancement or a realization names; a module is of none
abbrev pub own_concept : List Component → Component → Option Specified
own_concept table (Concept c) = Some c
own_concept table (Enhancement e) = concept_in table e.concept
own_concept table (Realization r) = concept_in table r.concept
own_concept table (Facility m) = None

-- the declarations of facilities, in the order of the text
abbrev pub declarations : Component → List FacDecl
declarations (Realization r) = r.facilities
declarations (Facility m) = m.facilities
declarations _ = []

-- Seen from its concept, a type formal is the parameter of its number, from 0, and an Integer formal the variable of its number,
-- from 1.
abbrev pub formals_from : ℕ → ℕ → List Formal → List (List ℕ × FormalArg)
formals_from k j [] = []
formals_from k j (f ∷ fs) =
    if f.is_type then (f.name, given.Type (roll-TypeInst (TypeInst-F.Param k))) ∷ formals_from (k + 1) j fs
    else (f.name, given.Number (roll-Term (Term-F.Var j))) ∷ formals_from k (j + 1) fs

abbrev pub own_formals : List Formal → List (List ℕ × FormalArg)
own_formals formals = formals_from 0 1 formals
