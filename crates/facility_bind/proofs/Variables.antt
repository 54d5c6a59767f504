-- Lists of variables.
use Rattle.std.proofs.Common.{◌≡◌, refl, ℕ, ◌+◌, [], ◌∷◌, ◌++◌}
use Rattle.std.proofs.lemmas.List.FromFn.{map-range_with_len_more}
use Rattle.facility_bind.specs.Clauses.{variable, variables}

pub variables_more : (first k : ℕ) → variables first (k + 1) ≡ variables first k ++ variable (first + k) ∷ []
variables_more first k = map-range_with_len_more variable first k (first + k) refl
