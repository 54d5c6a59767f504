-- A table is the list of its components, in their order of arrival. No two of them have one name.
use Rattle.std.specs.Prelude.{ℕ, Bool, ◌||◌, List, [], ◌∷◌, ◌++◌, Option, is_some, Result, Ok, Err, codes, if◌then◌else◌}
use Rattle.std.specs.List.{find}
use Rattle.std.specs.Str.{bytes_eq}
use Rattle.res_ast.specs.declared.component.Component.{Component}
use Rattle.res_ast.specs.declared.component.Component.TheVariants.{Concept, Enhancement, Realization, Facility}
use Rattle.module_table.specs.declared.error.NameError.{NameError}
use Rattle.module_table.specs.declared.error.NameError.TheVariants.{Duplicate}

abbrev pub name_of : Component → List ℕ
name_of (Concept c) = c.name
name_of (Enhancement e) = e.name
name_of (Realization r) = r.name
name_of (Facility m) = m.name

-- the component of that name
abbrev pub held : List Component → List ℕ → Option Component
held table name = find (λ c. bytes_eq name (name_of c)) table

-- the concept of arrays, which is there without a component
unfoldable pub is_array_template : List ℕ → Bool
is_array_template name = bytes_eq name (codes "Static_Array_Template")

-- no further component may have this name
abbrev pub is_taken : List Component → List ℕ → Bool
is_taken table name = is_array_template name || is_some (held table name)

-- the table with a further component, which comes last
abbrev pub added : List Component → Component → Result (List Component) NameError
added table c = if is_taken table (name_of c) then Err (Duplicate (name_of c)) else Ok (table ++ c ∷ [])
