use Rattle.std.proofs.Common.{◌≡◌, ◌+◌, ◌-◌, All}
use Rattle.linear_prover.specs.Elimination.{eliminate_from}
use Rattle.linear_prover.specs.working.Eliminating.{IsRow}
use Rattle.linear_prover.proofs.elimination.eliminate_all.Given as goal

abbrev pub invariant-loop-atom : goal.invariant-loop-atom
invariant-loop-atom l = record {
  rows : All (λ r. IsRow (l.atoms + 1) r.1) l.hand.rows.items;
  same : eliminate_from l.n (l.atoms - l.atom) l.atom l.hand.rows.items l.hand.made.items ≡ eliminate_from l.n l.atoms 0 l.initial.hand.rows.items l.initial.hand.made.items;
}
