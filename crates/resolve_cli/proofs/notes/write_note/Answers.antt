use Rattle.std.proofs.Common.{subst, sym, ap, ◌∙◌}
use Rattle.resolve_cli.specs.declared.status.Status.TheVariants as status
use Rattle.resolve_cli.proofs.Ended.{one_error}
use Rattle.resolve_cli.specs.Resolves.{Noted}
use Rattle.resolve_cli.specs.Texts.{note_of}
use Rattle.resolve_cli.proofs.notes.write_note.Goals as goal

pub returns-in-NotFound : goal.returns-in-NotFound
returns-in-NotFound g c =
    subst (λ s. Noted (g.N.Sink.held c.args.notes.now) (g.N.Sink.held c.note_name.new.notes) (g.N.Sink.faults c.args.notes.now) (g.N.Sink.faults c.note_name.new.notes) (note_of s)) (sym c.in-NotFound.is) c.note_name.ensures

pub returns-in-ShelfFault : goal.returns-in-ShelfFault
returns-in-ShelfFault g c =
    subst (λ s. Noted (g.N.Sink.held c.args.notes.now) (g.N.Sink.held c.note-in-ShelfFault.new.notes) (g.N.Sink.faults c.args.notes.now) (g.N.Sink.faults c.note-in-ShelfFault.new.notes) (note_of s)) (sym c.in-ShelfFault.is) c.note-in-ShelfFault.ensures

pub returns-in-FileTooLong : goal.returns-in-FileTooLong
returns-in-FileTooLong g c =
    subst (λ s. Noted (g.N.Sink.held c.args.notes.now) (g.N.Sink.held c.note_name-in-FileTooLong.new.notes) (g.N.Sink.faults c.args.notes.now) (g.N.Sink.faults c.note_name-in-FileTooLong.new.notes) (note_of s)) (sym c.in-FileTooLong.is) c.note_name-in-FileTooLong.ensures

pub returns-in-BadInput : goal.returns-in-BadInput
returns-in-BadInput g c =
    subst (λ s. Noted (g.N.Sink.held c.args.notes.now) (g.N.Sink.held c.note_input.new.notes) (g.N.Sink.faults c.args.notes.now) (g.N.Sink.faults c.note_input.new.notes) (note_of s)) (sym c.in-BadInput.is) c.note_input.ensures

pub returns-in-StepsSpent : goal.returns-in-StepsSpent
returns-in-StepsSpent g c =
    subst (λ s. Noted (g.N.Sink.held c.args.notes.now) (g.N.Sink.held c.note_number.new.notes) (g.N.Sink.faults c.args.notes.now) (g.N.Sink.faults c.note_number.new.notes) (note_of s)) (sym c.in-StepsSpent.is) c.note_number.ensures

pub returns-in-SourceFault : goal.returns-in-SourceFault
returns-in-SourceFault g c =
    subst (λ s. Noted (g.N.Sink.held c.args.notes.now) (g.N.Sink.held c.note-in-SourceFault.new.notes) (g.N.Sink.faults c.args.notes.now) (g.N.Sink.faults c.note-in-SourceFault.new.notes) (note_of s)) (sym c.in-SourceFault.is) c.note-in-SourceFault.ensures

pub returns-in-LinkRefused-CodeTooLong : goal.returns-in-LinkRefused-CodeTooLong
returns-in-LinkRefused-CodeTooLong g c =
    subst (λ s. Noted (g.N.Sink.held c.args.notes.now) (g.N.Sink.held c.note-in-LinkRefused-CodeTooLong.new.notes) (g.N.Sink.faults c.args.notes.now) (g.N.Sink.faults c.note-in-LinkRefused-CodeTooLong.new.notes) (note_of s)) (sym (c.in-LinkRefused-CodeTooLong.is ∙ ap (λ e. status.LinkRefused e) (one_error c.in-LinkRefused-CodeTooLong.field-0))) c.note-in-LinkRefused-CodeTooLong.ensures
