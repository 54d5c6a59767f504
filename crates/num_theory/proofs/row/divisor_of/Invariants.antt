use Rattle.std.proofs.Common.{◌≡◌, take, fold, unsigned_abs}
use Rattle.num_theory.specs.Rows.{gcd}
use Rattle.num_theory.proofs.row.divisor_of.Given as goal

abbrev pub invariant-loop-number : goal.invariant-loop-number
invariant-loop-number l = l.common ≡ fold (λ g z. gcd g (unsigned_abs z)) 0 (take l.number-index l.coefficients)
