use Rattle.std.proofs.Common.{◌≡◌, ◌∙◌, true, false, ap, not, sym}
use Rattle.std.specs.Prelude.{is_some}
use Rattle.type_rules.specs.declared.error.ModeError.TheVariants.{Changing}
use Rattle.type_rules.specs.Breaches.{least_of, refuse}
use Rattle.type_modes.specs.Places.{at}
use Rattle.type_modes.specs.working.Seen.{seen_holder, seen_loop, seen_spot}
use Rattle.type_modes.proofs.Noting.{mapped_some, noted_away, noted_here}
use Rattle.type_modes.proofs.changes.Loop.note_changed.Goals as goal

pub returns-then-is_none : goal.returns-then-is_none
returns-then-is_none c =
    let l = seen_loop c.args.self.now in
    let s = seen_spot c.args.spot in
    let none : is_some (at l.body s) ≡ false = ap is_some (sym c.at.ensures) ∙ mapped_some seen_holder c.at.result ∙ c.is_none.ensures ∙ ap not c.if-is_none.true in
    noted_away l c.args.least.now s none

pub returns : goal.returns
returns c =
    let l = seen_loop c.args.self.now in
    let s = seen_spot c.args.spot in
    let some : is_some (at l.body s) ≡ true = ap is_some (sym c.at.ensures) ∙ mapped_some seen_holder c.at.result ∙ c.is_none.ensures ∙ ap not c.if-is_none.false in
    c.note_if.ensures
    ∙ ap (λ b. least_of c.args.least.now (refuse (not b) (Changing l.at s.0))) c.is_listed-is_listed.ensures
    ∙ noted_here l c.args.least.now s some
