use Rattle.std.proofs.Common.{◌+◌, inl, inr, sum, map, ⊎_elim, arith}
use Rattle.math_terms.specs.Terms.{nodes}
use Rattle.cell_rows.proofs.Matrix.{on_err}
use Rattle.cell_rows.proofs.Rooms.{small_sequent}
use Rattle.cell_rows.proofs.sequent.CellSequent.is_refuted.Goals as goal

pub returns-in_default-clause-short : goal.returns-in_default-clause-short
returns-in_default-clause-short c = λ hs g h.
    inl (c.in_default.ensures.short hs g (sum (map nodes hs) + nodes g) h (small_sequent hs g) c.requires.many)

pub returns-clause-short : goal.returns-clause-short
returns-clause-short c = λ hs g h.
    let short = c.is_refuted.ensures.short hs g (sum (map nodes hs) + nodes g) (record { sequent_stands = h; atoms_stand = c.in-Some.ensures.atoms hs g h }) (small_sequent hs g) in
    on_err c.is_refuted.result (⊎_elim (λ l. inl (omega (arith, l, c.in-Some.ensures.room.1))) (λ l. inr l)) short
