use Rattle.std.proofs.Common.{◌≡◌, ◌∙◌, ap, refl, length, w64, arith, rules}
use Rattle.std.specs.Fmt.{signed_decimal}
use Rattle.std.proofs.lemmas.Int.{to_z-of_z}
use Rattle.term_cells.specs.working.Reading.{State}
use Rattle.term_cells.proofs.Falling.{nothing_left, bytes_fall, no_child_falls, child_falls, bytes_go_on, child_goes_on, child_is_below, done_falls}
use Rattle.term_cells.proofs.cells.Cells.advance.Goals as goal

pub returns-in_default-clause-reads : goal.returns-in_default-clause-reads
returns-in_default-clause-reads c = λ text e reads. nothing_left c.args.self.now.0 c.args.reading.now text c.in_default.ensures.end e reads

pub returns-in-Done-clause-falls : goal.returns-in-Done-clause-falls
returns-in-Done-clause-falls c = λ e h. done_falls c.args.reading.now c.pop.new.self c.in-Some.frame c.in-Some.ensures.frames c.pop.ensures.pending

pub returns-in-Mark-clause-falls : goal.returns-in-Mark-clause-falls
returns-in-Mark-clause-falls c = λ e h.
    let bytes : c.say.new.self.2 ≡ c.in-Mark.mark.now = ap (λ (s : State). s.2) c.say.ensures in
    bytes_fall c.args.reading.now c.pop.new.self c.push.new.self c.in-Some.frame c.after.result c.in-Some.ensures.frames e c.after.ensures c.push.ensures.pushed c.push.ensures.full
    c.say.new.self c.in-Mark.ensures.within.0 (ap (λ (s : State). s.0) c.say.ensures) (omega (arith, c.in-Mark.ensures.within.1, ap length bytes))

pub returns-in-Mark-clause-reads : goal.returns-in-Mark-clause-reads
returns-in-Mark-clause-reads c = λ text e reads.
    bytes_go_on c.args.reading.now c.pop.new.self c.push.new.self c.in-Some.frame c.after.result c.in-Some.ensures.frames e c.after.ensures c.push.ensures.pushed c.push.ensures.full
    c.args.self.now.0 text reads c.pop.ensures.same c.push.ensures.same
    c.say.new.self c.in-Mark.mark.now c.in-Mark.ensures.piece (ap (λ (s : State). s.0) c.say.ensures) (ap (λ (s : State). s.1) c.say.ensures) (ap (λ (s : State). s.2) c.say.ensures)

pub returns-in-Number-clause-falls : goal.returns-in-Number-clause-falls
returns-in-Number-clause-falls c = λ e h.
    bytes_fall c.args.reading.now c.pop.new.self c.push-in-Number.new.self c.in-Some.frame c.after-in-Number.result c.in-Some.ensures.frames e c.after-in-Number.ensures c.push-in-Number.ensures.pushed c.push-in-Number.ensures.full
    c.say_number.new.self c.in-Number.ensures.within (ap (λ (s : State). s.0) c.say_number.ensures.digits) c.say_number.ensures.short

pub returns-in-Number-clause-reads : goal.returns-in-Number-clause-reads
returns-in-Number-clause-reads c = λ text e reads.
    let digits : c.say_number.new.self.2 ≡ signed_decimal c.in-Number.number = ap (λ (s : State). s.2) c.say_number.ensures.digits ∙ ap signed_decimal (to_z-of_z w64 c.in-Number.number (search rules)) in
    bytes_go_on c.args.reading.now c.pop.new.self c.push-in-Number.new.self c.in-Some.frame c.after-in-Number.result c.in-Some.ensures.frames e c.after-in-Number.ensures c.push-in-Number.ensures.pushed c.push-in-Number.ensures.full
    c.args.self.now.0 text reads c.pop.ensures.same c.push-in-Number.ensures.same
    c.say_number.new.self (signed_decimal c.in-Number.number) c.in-Number.ensures.piece (ap (λ (s : State). s.0) c.say_number.ensures.digits) (ap (λ (s : State). s.1) c.say_number.ensures.digits) digits

pub returns-then-place-frame-clause-falls : goal.returns-then-place-frame-clause-falls
returns-then-place-frame-clause-falls c = λ e h.
    child_falls c.args.reading.now c.pop.new.self c.push-in-Child.new.self c.in-Some.frame c.after-in-Child.result c.in-Some.ensures.frames e c.after-in-Child.ensures c.push-in-Child.ensures.pushed c.push-in-Child.ensures.full
    c.push-then-place-frame.new.self c.in-Child.place c.in-Child.wrapped c.in-Child.ensures.within c.if-place-frame.true c.push-in-Child.ensures.same c.push-then-place-frame.ensures.pushed c.push-then-place-frame.ensures.full
    (c.push-then-place-frame.ensures.pending ∙ c.push-in-Child.ensures.pending ∙ c.pop.ensures.pending ∙ e)

pub returns-then-place-frame-clause-reads : goal.returns-then-place-frame-clause-reads
returns-then-place-frame-clause-reads c = λ text e reads.
    child_goes_on c.args.reading.now c.pop.new.self c.push-in-Child.new.self c.in-Some.frame c.after-in-Child.result c.in-Some.ensures.frames e c.after-in-Child.ensures c.push-in-Child.ensures.pushed c.push-in-Child.ensures.full
    c.args.self.now.0 text reads c.pop.ensures.same c.push-in-Child.ensures.same
    c.push-then-place-frame.new.self c.in-Child.place c.in-Child.wrapped c.in-Child.ensures.piece c.push-then-place-frame.ensures.pushed c.push-then-place-frame.ensures.same
    (c.push-then-place-frame.ensures.pending ∙ c.push-in-Child.ensures.pending ∙ c.pop.ensures.pending ∙ e)

pub returns-else-place-frame-clause-falls : goal.returns-else-place-frame-clause-falls
returns-else-place-frame-clause-falls c = λ e h.
    no_child_falls c.args.reading.now c.pop.new.self c.push-in-Child.new.self c.in-Some.frame c.after-in-Child.result c.in-Some.ensures.frames e c.after-in-Child.ensures c.push-in-Child.ensures.pushed c.push-in-Child.ensures.full
    c.push-in-Child.new.self c.in-Child.ensures.within refl (c.push-in-Child.ensures.pending ∙ c.pop.ensures.pending ∙ e)

pub returns-else-place-frame-clause-reads : goal.returns-else-place-frame-clause-reads
returns-else-place-frame-clause-reads c = λ text e reads.
    let below = child_is_below c.args.reading.now c.pop.new.self c.push-in-Child.new.self c.in-Some.frame c.after-in-Child.result c.in-Some.ensures.frames e c.after-in-Child.ensures c.push-in-Child.ensures.pushed c.push-in-Child.ensures.full
    c.args.self.now.0 text reads c.pop.ensures.same c.push-in-Child.ensures.same c.in-Child.place c.in-Child.wrapped c.in-Child.ensures.piece in
    absurd (omega arith)
