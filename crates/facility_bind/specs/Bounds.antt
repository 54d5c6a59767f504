-- What a declaration of a facility binds.
use Rattle.std.specs.Prelude.{ℕ, pos, List, [], ◌∷◌, ◌++◌, map, take, slice_get, true, false, Option, None, Some, Result, Ok, Err, codes, if◌then◌else◌}
use Rattle.std.specs.List.{flat_map}
use Rattle.std.specs.Option.{option_map, option_map_or}
use Rattle.math_terms.specs.declared.term.Term.{Term}
use Rattle.math_terms.specs.declared.term.Term.TheOpen.{Term-F}
use Rattle.math_terms.specs.declared.term.Term.TheViews.{roll-Term}
use Rattle.res_ast.specs.declared.component.Component.{Component}
use Rattle.res_ast.specs.declared.component.Concept.{Concept as Specified}
use Rattle.res_ast.specs.declared.facility.FacDecl.{FacDecl}
use Rattle.res_ast.specs.declared.heading.Heading.{Heading}
use Rattle.res_ast.specs.declared.heading.Mode.TheVariants as mode
use Rattle.res_ast.specs.declared.model.Family.{Family}
use Rattle.type_inst.specs.declared.types.FormalArg.{FormalArg}
use Rattle.type_inst.specs.declared.types.FormalArg.TheVariants as given
use Rattle.type_inst.specs.declared.types.TypeInst.{TypeInst}
use Rattle.type_inst.specs.declared.types.TypeInst.TheOpen.{TypeInst-F}
use Rattle.type_inst.specs.declared.types.TypeInst.TheViews.{roll-TypeInst}
use Rattle.type_inst.specs.Assertions.{zero_term}
use Rattle.module_table.specs.Tables.{is_array_template}
use Rattle.facility_bind.specs.declared.bound.Bound.{Bound}
use Rattle.facility_bind.specs.declared.bound.BoundHeading.{BoundHeading}
use Rattle.facility_bind.specs.declared.error.ArgError.{ArgError}
use Rattle.facility_bind.specs.declared.scope.Scope.{Scope}
use Rattle.facility_bind.specs.Formals.{concept_in, enhancement_in, declarations}
use Rattle.facility_bind.specs.Scopes.{argument, array_name, family_type, formals_alone, given_to, integer, scope, type_in, with_family}
use Rattle.facility_bind.specs.Arguments.{refusal}
use Rattle.facility_bind.specs.Clauses.{behind, clause, ensures_names, integers, requires_names, result_number, variable}

-- ---- instances of concepts

-- What the types of headings mean: the formals are what is given for them, and the family is that of the facility.
unfoldable pub inner : List ℕ → List (List ℕ × FormalArg) → Option Family → Scope
inner facility formals family = with_family (formals_alone formals) None (facility ∷ []) formals family

unfoldable pub heading : Scope → Scope → Option Family → Heading → BoundHeading
heading s inside family h = record {
  name = h.name;
  modes = map (λ p. p.mode) h.params;
  types = map (λ p. type_in inside p.ptype) h.params;
  result = option_map (type_in inside) h.result;
  requires_clause = option_map (clause s inside.formals (result_number h) (requires_names family h)) h.requires_clause;
  ensures_clause = option_map (clause s inside.formals (result_number h) (ensures_names family h)) h.ensures_clause;
}

-- the headings of the concept, and of each enhancement
abbrev pub enhanced : List Component → List ℕ × List ℕ → List Heading
enhanced table p = option_map_or (λ e. e.headings) (enhancement_in table p.0) []

abbrev pub headings : List Component → Specified → FacDecl → List Heading
headings table k d = k.headings ++ flat_map (enhanced table) d.enhanced

abbrev pub own_type : List ℕ → Option Family → List (List ℕ × TypeInst)
own_type facility None = []
own_type facility (Some f) = (f.name, family_type (facility ∷ [])) ∷ []

abbrev pub instance : List Component → Scope → FacDecl → Specified → Bound
instance table s d k =
    let inside : Scope = inner d.name (given_to s k.formals d.args) k.family in
    record {
      requires_clause = option_map (clause s inside.formals 0 []) k.requires_clause;
      headings = map (heading s inside k.family) (headings table k d);
      types = own_type d.name k.family;
    }

-- ---- arrays

abbrev pub part : Term → Term → Term → Term
part i j s = roll-Term (Term-F.Part i j s)

abbrev pub join : Term → Term → Term
join a b = roll-Term (Term-F.Cat a b)

abbrev pub single : Term → Term
single a = roll-Term (Term-F.Single a)

abbrev pub equal : Term → Term → Term
equal a b = roll-Term (Term-F.Eq a b)

abbrev pub both : Term → Term → Term
both a b = roll-Term (Term-F.And a b)

-- `Swap_Entry(updates A: Static_Array; updates E: Entry; evaluates I: Integer)`: the incoming values are the variables 1 to 3, the
-- outgoing ones 4 to 6.
abbrev pub next : Term
next = roll-Term (Term-F.Add (variable 6) (roll-Term (Term-F.Num (pos 1))))

-- requires 0 <= I and I < Size
abbrev pub within : Term → Term
within size = both (roll-Term (Term-F.LessEq zero_term (variable 3))) (roll-Term (Term-F.Less (variable 3) size))

-- ensures A = Prt_Btwn(0, I, #A) o <#E> o Prt_Btwn(I + 1, Size, #A) and <E> = Prt_Btwn(I, I + 1, #A)
abbrev pub entries_after : Term → Term
entries_after size = join (join (part zero_term (variable 6) (variable 1)) (single (variable 2))) (part next size (variable 1))

abbrev pub swapped : Term → Term
swapped size = both (equal (variable 4) (entries_after size)) (equal (single (variable 5)) (part (variable 6) next (variable 1)))

-- the size, behind the seven variables of the operation
abbrev pub size_behind : Scope → Term → Term
size_behind s size = behind 7 (integers s) size

abbrev pub array_of_entries : TypeInst → Term → TypeInst
array_of_entries entry size = roll-TypeInst (TypeInst-F.Array entry size)

abbrev pub swap_entry : Scope → TypeInst → Term → BoundHeading
swap_entry s entry size = record {
  name = codes "Swap_Entry";
  modes = mode.Updates ∷ mode.Updates ∷ mode.Evaluates ∷ [];
  types = array_of_entries entry size ∷ entry ∷ integer ∷ [];
  result = None;
  requires_clause = Some (within (size_behind s size));
  ensures_clause = Some (swapped (size_behind s size));
}

abbrev pub nothing : Bound
nothing = record { requires_clause = None; headings = []; types = [] }

abbrev pub array_of : Scope → TypeInst → Term → Bound
array_of s entry size = record {
  requires_clause = None;
  headings = swap_entry s entry size ∷ [];
  types = (array_name, array_of_entries entry size) ∷ [];
}

abbrev pub array : Scope → List FormalArg → Bound
array s (given.Type entry ∷ given.Number size ∷ []) = array_of s entry size
array s _ = nothing

-- ---- declarations

abbrev pub unless : Option ArgError → Bound → Result Bound ArgError
unless None b = Ok b
unless (Some e) b = Err e

abbrev pub bound_instance : List Component → Scope → FacDecl → Option Specified → Result Bound ArgError
bound_instance table s d None = Ok nothing
bound_instance table s d (Some k) = unless (refusal s (map (λ f. f.is_type) k.formals) d) (instance table s d k)

-- A declaration sees what is known in front of it.
abbrev pub bound_in : List Component → Scope → FacDecl → Result Bound ArgError
bound_in table s d =
    if is_array_template d.concept then unless (refusal s (true ∷ false ∷ []) d) (array s (map (argument s) d.args))
    else bound_instance table s d (concept_in table d.concept)

-- the declaration of that number, from 0; where there is none, nothing is bound
abbrev pub bound : List Component → Component → ℕ → Result Bound ArgError
bound table c n =
    option_map_or (λ d. bound_in table (scope table c (take n (declarations c))) d) (slice_get (declarations c) n) (Ok nothing)
