-- The first mistake in the arguments of declarations, from one of them on.
use Rattle.std.proofs.Common.{◌≡◌, ℕ, suc, ◌+◌, ◌<◌, ◌-◌, ap, ◌∙◌, length, List, map, Option, None, arith}
use Rattle.std.specs.List.{range_with_len}
use Rattle.std.specs.Option.{option_or}
use Rattle.res_ast.specs.declared.component.Component.{Component}
use Rattle.facility_bind.specs.Bounds.{bound}
use Rattle.facility_bind.specs.Formals.{declarations}
use Rattle.component_checks.specs.declared.mistake.Mistake.{Mistake}
use Rattle.component_checks.specs.Checks.{first, in_args, in_declarations}

-- those of so many declarations
abbrev of_those : List Component → Component → ℕ → ℕ → Option Mistake
of_those table c k n = first (map (λ i. in_args (bound table c i)) (range_with_len k n))

abbrev pub from : List Component → Component → ℕ → Option Mistake
from table c k = of_those table c k (length (declarations c) - k)

pub from_more : (table : List Component) (c : Component) (k : ℕ) → k < length (declarations c) → from table c k ≡ option_or (in_args (bound table c k)) (from table c (k + 1))
from_more table c k h =
    let n : length (declarations c) - k ≡ suc (length (declarations c) - (k + 1)) = omega arith in
    ap (λ m. of_those table c k m) n

-- behind a declaration without a mistake
pub past : (table : List Component) (c : Component) (k : ℕ) → in_declarations table c ≡ from table c k → k < length (declarations c) → in_args (bound table c k) ≡ None → in_declarations table c ≡ from table c (k + 1)
past table c k so h none = so ∙ from_more table c k h ∙ ap (λ m. option_or m (from table c (k + 1))) none
