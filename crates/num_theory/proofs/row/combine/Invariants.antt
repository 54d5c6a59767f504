use Rattle.std.proofs.Common.{◌≡◌, ℕ, ◌<◌, get_or, pos, true}
use Rattle.num_theory.specs.Rows.{narrow}
use Rattle.num_theory.proofs.Combining.{combined_at}
use Rattle.num_theory.proofs.row.combine.Given as goal

abbrev pub invariant-loop-k : goal.invariant-loop-k
invariant-loop-k l = record {
  written : (j : ℕ) → j < l.k → get_or l.out j (pos 0) ≡ combined_at l.p l.a l.q l.b j;
  small : (j : ℕ) → j < l.k → narrow (combined_at l.p l.a l.q l.b j) ≡ true;
}
