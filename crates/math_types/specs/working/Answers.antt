-- Answers of functions that may end for want of memory.
use Rattle.std.specs.Prelude.{◌≡◌, ◌⊎◌, Result, Ok, Err, MatchResult}
use Rattle.math_types.specs.declared.error.SortError.{SortError}
use Rattle.math_types.specs.declared.error.SortError.TheVariants.{NoMemory}

abbrev pub IsAnswer : {A : Type 0} → Result A SortError → Result A SortError → Type 0
IsAnswer found result = MatchResult result (λ x. found ≡ Ok x) (λ e. (e ≡ NoMemory) ⊎ (found ≡ Err e))
