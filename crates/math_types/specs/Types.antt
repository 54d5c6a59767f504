-- The sorts of types, and the parts that their values have.
use Rattle.std.specs.Prelude.{ℕ, ◌-◌, Bool, false, List, [], ◌∷◌, ◌++◌, length, slice_get, if◌then◌else◌}
use Rattle.std.specs.List.{find, zip}
use Rattle.std.specs.Option.{option_map_or}
use Rattle.std.specs.Str.{bytes_eq}
use Rattle.math_terms.specs.declared.descriptor.Sort.{Sort}
use Rattle.math_terms.specs.declared.descriptor.Sort.TheOpen.{Sort-F}
use Rattle.math_terms.specs.declared.descriptor.Sort.TheViews.{out-Sort}
use Rattle.math_terms.specs.Kinds.{sort_of_desc}
use Rattle.res_ast.specs.declared.model.MPart.{MPart}
use Rattle.res_ast.specs.declared.model.MPart.TheVariants as part
use Rattle.type_inst.specs.declared.types.BoundFamily.{BoundFamily}
use Rattle.type_inst.specs.declared.types.FormalArg.{FormalArg}
use Rattle.type_inst.specs.declared.types.FormalArg.TheVariants as given
use Rattle.type_inst.specs.declared.types.TypeInst.{TypeInst}
use Rattle.type_inst.specs.declared.types.TypeInst.TheOpen.{TypeInst-F}
use Rattle.type_inst.specs.declared.types.TypeInst.TheViews.{out-TypeInst}
use Rattle.type_inst.specs.Descriptors.{desc, same_path}

-- the sort of the values of a type
unfoldable pub sort : List BoundFamily → TypeInst → Sort
sort families t = sort_of_desc (desc families t)

-- ---- the names of parts

abbrev pub Names : Type 0
Names = List (List ℕ)

-- the first family of a path among those of which the names of parts are known
abbrev pub names_among : List BoundFamily → List Names → List (List ℕ) → Names
names_among [] known path = []
names_among (f ∷ fs) [] path = []
names_among (f ∷ fs) (ns ∷ nss) path = if same_path f.path path then ns else names_among fs nss path

-- the values of a family alone have parts
abbrev pub names_with : List BoundFamily → List Names → TypeInst-F TypeInst → Names
names_with families known (TypeInst-F.Family path) = names_among families known path
names_with families known _ = []

-- the type that is given for a type formal
abbrev pub is_type_of : List ℕ → List ℕ × FormalArg → Bool
is_type_of name (n, given.Type t) = bytes_eq n name
is_type_of name (n, given.Number k) = false

abbrev pub names_given : List BoundFamily → List Names → FormalArg → Names
names_given families known (given.Type t) = names_with families known (out-TypeInst t)
names_given families known (given.Number k) = []

-- A product has names. A model that is a type formal has those of what is given for it.
abbrev pub names_of_model : List BoundFamily → List Names → List (List ℕ × FormalArg) → MPart → Names
names_of_model families known formals (part.Prod names) = names
names_of_model families known formals (part.Param name) =
    option_map_or (λ p. names_given families known p.1) (find (is_type_of name) formals) []
names_of_model families known formals _ = []

abbrev pub names_of : List BoundFamily → List Names → BoundFamily → Names
names_of families known f =
    option_map_or (names_of_model families known f.formals) (slice_get f.family.model.parts (length f.family.model.parts - 1)) []

-- Each family stands on those before it.
abbrev pub names_from : List BoundFamily → List Names → List BoundFamily → List Names
names_from families known [] = known
names_from families known (f ∷ fs) = names_from families (known ++ names_of families known f ∷ []) fs

abbrev pub part_names : List BoundFamily → TypeInst → Names
part_names families t = names_with families (names_from families [] families) (out-TypeInst t)

-- ---- parts

abbrev pub sorts_of_parts : Sort-F Sort → List Sort
sorts_of_parts (Sort-F.Tup ss) = ss
sorts_of_parts _ = []

-- the parts of the values of a type, with their sorts
unfoldable pub parts : List BoundFamily → TypeInst → List (List ℕ × Sort)
parts families t = zip (part_names families t) (sorts_of_parts (out-Sort (sort families t)))
