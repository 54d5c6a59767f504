-- What is wrong with a component over a table that holds it: its names, the arguments of its declarations, the sorts of its clauses, its
-- types and modes. The first that is wrong is what is refused.
use Rattle.std.specs.Prelude.{ℕ, ◌+◌, List, [], ◌∷◌, length, map, Option, None, Some, option_map, Result, Ok, Err}
use Rattle.std.specs.List.{range_with_len}
use Rattle.std.specs.Option.{option_or}
use Rattle.res_ast.specs.declared.component.Component.{Component}
use Rattle.module_table.specs.declared.error.NameError.{NameError}
use Rattle.module_table.specs.Tables.{added}
use Rattle.module_table.specs.Slots.{uses_in}
use Rattle.facility_bind.specs.declared.bound.Bound.{Bound}
use Rattle.facility_bind.specs.declared.error.ArgError.{ArgError}
use Rattle.facility_bind.specs.Bounds.{bound}
use Rattle.facility_bind.specs.Formals.{declarations}
use Rattle.math_types.specs.Components.{first_unsorted}
use Rattle.type_modes.specs.Modes.{first_breach}
use Rattle.component_checks.specs.declared.mistake.Mistake.{Mistake}
use Rattle.component_checks.specs.declared.mistake.Mistake.TheVariants as mistake

abbrev pub in_names : Result (List (List ℕ)) NameError → Option Mistake
in_names (Ok names) = None
in_names (Err e) = Some (mistake.Names e)

-- the declarations in the order of the text
abbrev pub in_args : Result Bound ArgError → Option Mistake
in_args (Ok b) = None
in_args (Err e) = Some (mistake.Args e)

abbrev pub first : List (Option Mistake) → Option Mistake
first [] = None
first (m ∷ ms) = option_or m (first ms)

abbrev pub in_declarations : List Component → Component → Option Mistake
in_declarations table c = first (map (λ n. in_args (bound table c n)) (range_with_len 0 (length (declarations c))))

-- the first mistake of a component over a table
abbrev pub mistake_in : List Component → Component → Option Mistake
mistake_in table c =
    option_or (in_names (uses_in table c))
    (option_or (in_declarations table c)
    (option_or (option_map mistake.Sorts (first_unsorted table c)) (option_map mistake.Modes (first_breach table c))))

-- The same of a component that is alone: its table holds nothing else.
abbrev pub alone_in : Component → Result (List Component) NameError → Option Mistake
alone_in c (Ok table) = mistake_in table c
alone_in c (Err e) = Some (mistake.Names e)

abbrev pub mistake_alone : Component → Option Mistake
mistake_alone c = alone_in c (added [] c)

-- the mistake of the component of a file that has one
abbrev pub mistake_of : List Component → Option Mistake
mistake_of (c ∷ []) = mistake_alone c
mistake_of cs = None
