use Rattle.std.proofs.Common.{◌≡◌, ◌∙◌, sym}
use Rattle.term_cells.proofs.Falling.{byte_reads, same_reads}
use Rattle.term_cells.proofs.cells.Cells.next_byte.Goals as goal

pub returns-in-Some-clause-reads : goal.returns-in-Some-clause-reads
returns-in-Some-clause-reads c = λ text reads.
    byte_reads c.args.self.now.0 c.loop-byte.reading c.take_byte.new.self text c.in-Some.byte c.in-Some.ensures.bytes c.take_byte.ensures.frames c.take_byte.ensures.same (c.loop-byte.invariant.same_text text reads)

pub returns-then-not-advance-clause-reads : goal.returns-then-not-advance-clause-reads
returns-then-not-advance-clause-reads c = λ text reads.
    let same : c.take_byte.new.self.2 ≡ c.loop-byte.reading.2 = sym c.in_default.ensures.bytes in
    c.if-not-advance.ensures.reads text (same ∙ c.in_default.ensures.end)
    (same_reads c.args.self.now.0 c.loop-byte.reading c.take_byte.new.self text c.take_byte.ensures.frames c.take_byte.ensures.same same (c.loop-byte.invariant.same_text text reads))
