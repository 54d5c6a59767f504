use Rattle.std.proofs.Common.{◌<◌, length, arith}
use Rattle.num_theory.specs.Table.{facts_of}
use Rattle.cell_rows.specs.working.Atoms.{with_row}
use Rattle.cell_rows.specs.RowsStand.{fact_row}
use Rattle.cell_rows.proofs.Bounded.{fact_within}
use Rattle.cell_rows.proofs.Crowded.{tame_row}
use Rattle.cell_rows.proofs.Numbered.{is_got}
use Rattle.cell_rows.proofs.Tamed.{as_short}
use Rattle.cell_rows.proofs.gathering.add_facts.Goals as goal

pub returns-in_err-count-clause-short : goal.returns-in_err-count-clause-short
returns-in_err-count-clause-short c = λ t ts size h s tame few room.
    let count = c.count_facts-facts.ensures.count t h in
    let some : 0 < length (facts_of t) = omega (arith, count, c.if-facts-eq0.false) in
    let first = is_got (facts_of t) 0 some in
    rw c.from_residual.ensures (c.in_err-count.ensures.short t first.0 ts size h first.1 s tame few room)

pub returns-clause-short : goal.returns-clause-short
returns-clause-short c = λ t ts size h s tame few room.
    let count = c.count_facts-facts.ensures.count t h in
    let two : 1 < length (facts_of t) = omega (arith, count, c.if-facts-eq0.false, c.if-facts-eq1.false) in
    let first = is_got (facts_of t) 0 (omega arith) in
    let second = is_got (facts_of t) 1 two in
    let standing = c.in_ok-count.ensures.added t first.0 ts h first.1 s in
    let tame_first = tame_row size ts (fact_row first.0) (fact_within size t 0 first.0 few first.1) tame in
    as_short c.add_fact-2.result (length c.add_fact.new.sheet.marks.items) (length c.args.sheet.now.marks.items) size c.in_ok-count.ensures.room.1
    (c.add_fact-2.ensures.short t second.0 (with_row ts (fact_row first.0)) size h second.1 standing tame_first few (omega arith))
