use Rattle.std.proofs.Common.{subst, sym}
use Rattle.resolve_cli.specs.declared.status.Status.TheVariants as status
use Rattle.resolve_cli.specs.Resolves.{Noted}
use Rattle.resolve_cli.specs.Texts.{note_of}
use Rattle.resolve_cli.proofs.notes.note_input.Goals as goal

pub returns-in-Failed : goal.returns-in-Failed
returns-in-Failed g c =
    subst (λ e. Noted (g.N.Sink.held c.args.notes.now) (g.N.Sink.held c.note.new.notes) (g.N.Sink.faults c.args.notes.now) (g.N.Sink.faults c.note.new.notes) (note_of (status.BadInput e))) (sym c.in-Failed.is) c.note.ensures

pub returns-in-TooLong : goal.returns-in-TooLong
returns-in-TooLong g c =
    subst (λ e. Noted (g.N.Sink.held c.args.notes.now) (g.N.Sink.held c.note-in-TooLong.new.notes) (g.N.Sink.faults c.args.notes.now) (g.N.Sink.faults c.note-in-TooLong.new.notes) (note_of (status.BadInput e))) (sym c.in-TooLong.is) c.note-in-TooLong.ensures

pub returns-in-NoNumber : goal.returns-in-NoNumber
returns-in-NoNumber g c =
    subst (λ e. Noted (g.N.Sink.held c.args.notes.now) (g.N.Sink.held c.note_number.new.notes) (g.N.Sink.faults c.args.notes.now) (g.N.Sink.faults c.note_number.new.notes) (note_of (status.BadInput e))) (sym c.in-NoNumber.is) c.note_number.ensures

pub returns-in-TooMany : goal.returns-in-TooMany
returns-in-TooMany g c =
    subst (λ e. Noted (g.N.Sink.held c.args.notes.now) (g.N.Sink.held c.note_number-in-TooMany.new.notes) (g.N.Sink.faults c.args.notes.now) (g.N.Sink.faults c.note_number-in-TooMany.new.notes) (note_of (status.BadInput e))) (sym c.in-TooMany.is) c.note_number-in-TooMany.ensures

pub returns-in-NoMemory : goal.returns-in-NoMemory
returns-in-NoMemory g c =
    subst (λ e. Noted (g.N.Sink.held c.args.notes.now) (g.N.Sink.held c.note-in-NoMemory.new.notes) (g.N.Sink.faults c.args.notes.now) (g.N.Sink.faults c.note-in-NoMemory.new.notes) (note_of (status.BadInput e))) (sym c.in-NoMemory.is) c.note-in-NoMemory.ensures
