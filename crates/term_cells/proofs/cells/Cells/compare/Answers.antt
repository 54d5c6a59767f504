use Rattle.std.proofs.Common.{◌∙◌, sym, ap}
use Rattle.num_theory.specs.Linear.{text_before}
use Rattle.term_cells.proofs.Falling.{order_by_first, order_by_rest}
use Rattle.term_cells.proofs.cells.Cells.compare.Goals as goal

pub returns-in_default-next_byte-clause-order : goal.returns-in_default-next_byte-clause-order
returns-in_default-next_byte-clause-order c = λ x y left right.
    let rests = c.bytes.invariant.rests x y left right in
    let one = c.in-Some.ensures.reads rests.0 rests.2 in
    let none = c.in_default-next_byte.ensures.reads rests.1 rests.3 in
    sym (rests.4 ∙ (λ i. text_before (one.1 i) (none i)))

pub returns-then-a-b-clause-order : goal.returns-then-a-b-clause-order
returns-then-a-b-clause-order c = λ x y left right.
    let rests = c.bytes.invariant.rests x y left right in
    let one = c.in-Some.ensures.reads rests.0 rests.2 in
    let other = c.in-Some-next_byte.ensures.reads rests.1 rests.3 in
    sym (rests.4 ∙ (λ i. text_before (one.1 i) (other.1 i)) ∙ order_by_first c.in-Some.a c.in-Some-next_byte.b one.0 other.0 c.if-a-b.true)

pub bytes-preserved : goal.bytes-preserved
bytes-preserved c = record {
  left_room = c.next_byte.ensures.room ∙ c.bytes.invariant.left_room;
  right_room = c.next_byte-in-Some.ensures.room ∙ c.bytes.invariant.right_room;
  rests = λ x y left right.
      let rests = c.bytes.invariant.rests x y left right in
      let one = c.in-Some.ensures.reads rests.0 rests.2 in
      let other = c.in-Some-next_byte.ensures.reads rests.1 rests.3 in
      (one.0, other.0, one.2, other.2, rests.4 ∙ (λ i. text_before (one.1 i) (other.1 i)) ∙ order_by_rest c.in-Some.a c.in-Some-next_byte.b one.0 other.0 c.if-a-b.false);
}

pub returns-clause-order : goal.returns-clause-order
returns-clause-order c = λ x y left right.
    let rests = c.bytes.invariant.rests x y left right in
    let none = c.in_default.ensures.reads rests.0 rests.2 in
    sym (rests.4 ∙ ap (λ r. text_before r rests.1) none)
