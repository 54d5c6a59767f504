-- What an answer of `linear` shows.
use Rattle.std.specs.Prelude.{ℤ, List, Option, Some, None}
use Rattle.num_theory.specs.declared.table.LinearForm.{LinearForm}
use Rattle.num_theory.specs.Linear.{Product}

-- a linear form that there may be, as products and constant
abbrev pub linear_shown : Option LinearForm → Option (List Product × ℤ)
linear_shown None = None
linear_shown (Some f) = Some (f.products, f.constant)
