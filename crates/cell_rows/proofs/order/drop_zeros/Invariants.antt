use Rattle.std.proofs.Common.{not}
use Rattle.std.proofs.lemmas.List.Filters.{FiltersInPlace}
use Rattle.num_theory.specs.Number.{is_zero}
use Rattle.cell_rows.proofs.order.drop_zeros.Given as goal

abbrev pub invariant-loop-k : goal.invariant-loop-k
invariant-loop-k l = FiltersInPlace (λ m. not (is_zero m.0)) l.initial.marks l.marks l.kept l.k
