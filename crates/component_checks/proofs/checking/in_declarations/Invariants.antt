use Rattle.std.specs.Prelude.{◌≡◌, length}
use Rattle.facility_bind.specs.Formals.{declarations}
use Rattle.component_checks.specs.Checks.{in_declarations}
use Rattle.component_checks.proofs.Declared.{from}
use Rattle.component_checks.proofs.checking.in_declarations.Given as goal

-- no declaration so far has a mistake
abbrev pub invariant-loop-number : goal.invariant-loop-number
invariant-loop-number l = (in_declarations l.table l.c ≡ from l.table l.c l.number) × (l.number-end ≡ length (declarations l.c))
