-- What a walk over a term answers that looks for its sort.
use Rattle.std.specs.Prelude.{◌≡◌, ℕ, ◌+◌, List, Option, Some, None, is_none, map, Result, Ok, Err}
use Rattle.std.specs.List.{position_from}
use Rattle.math_terms.specs.declared.descriptor.Sort.{Sort}
use Rattle.math_terms.specs.declared.name.TermError.{TermError}
use Rattle.math_terms.specs.declared.name.TermError.TheVariants.{TooLarge, SortClash, NoMemory}
use Rattle.math_terms.specs.declared.sorts.Sorted.{Sorted}
use Rattle.math_terms.specs.declared.sorts.SortedParts.{SortedParts}
use Rattle.math_terms.specs.Sorts.{Sorting, all_sorts, orders}

-- why a walk ends that passes nodes of these sorts, the first of which has the number `start`
abbrev pub IsClash : ℕ → List (Option Sort) → TermError → Type 0
IsClash start order TooLarge = ⊥
IsClash start order (SortClash node) = position_from is_none start order ≡ Some node
IsClash start order NoMemory = Unit {0}

-- what is answered for a term with n nodes, the first of which has the number `start`
abbrev pub IsWalk : ℕ → ℕ → Sorting → Result Sorted TermError → Type 0
IsWalk start n p (Ok found) =
    (p.0 ≡ Some found.sort) × (position_from is_none start p.1 ≡ None) × (found.next ≡ start + n)
IsWalk start n p (Err e) = IsClash start p.1 e

-- the same for terms one after the other
abbrev pub IsWalkOfAll : ℕ → ℕ → List Sorting → Result SortedParts TermError → Type 0
IsWalkOfAll start n ps (Ok found) =
    (all_sorts (map (λ p. p.0) ps) ≡ Some found.sorts) × (position_from is_none start (orders ps) ≡ None) × (found.next ≡ start + n)
IsWalkOfAll start n ps (Err e) = IsClash start (orders ps) e

-- what is answered for a node with this number
abbrev pub numbered : Option Sort → ℕ → Result Sorted TermError
numbered (Some s) node = Ok (record { sort = s; next = node + 1 })
numbered None node = Err (SortClash node)
