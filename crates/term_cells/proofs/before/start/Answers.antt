use Rattle.std.proofs.Common.{◌≡◌, ◌∙◌, ◌<◌, ap, [], ◌∷◌, false, length, arith}
use Rattle.term_cells.proofs.Falling.{first_frame, starts_reading}
use Rattle.term_cells.specs.working.Reading.{State}
use Rattle.term_cells.proofs.before.start.Goals as goal

pub returns-clause-reads : goal.returns-clause-reads
returns-clause-reads c = λ cells t h l.
    let mid = c.clear.new.self in
    let none : mid.0 ≡ [] = ap (λ (s : State). s.0) c.clear.ensures in
    let room : mid.1 ≡ c.args.reading.now.1 = ap (λ (s : State). s.1) c.clear.ensures in
    let empty : mid.2 ≡ [] = ap (λ (s : State). s.2) c.clear.ensures in
    let fits : length mid.0 < mid.1 = omega (arith, ap length none, room) in
    let frames : c.push.new.self.0 ≡ first_frame c.args.place false ∷ [] = c.push.ensures.pushed fits ∙ ap (λ fs. first_frame c.args.place false ∷ fs) none in
    starts_reading cells c.push.new.self t c.args.place h (omega (arith, c.push.ensures.same, room)) frames (c.push.ensures.pending ∙ empty)
