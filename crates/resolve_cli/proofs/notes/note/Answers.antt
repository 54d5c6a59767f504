use Rattle.std.proofs.Common.{◌++◌, ◌∷◌, []}
use Rattle.resolve_cli.proofs.Growing.{noted}
use Rattle.resolve_cli.proofs.notes.note.Goals as goal

pub returns : goal.returns
returns g c =
    noted c.write_rest.result (g.N.Sink.held c.args.notes.now) (g.N.Sink.held c.write_rest.new.notes) (g.N.Sink.faults c.args.notes.now) (g.N.Sink.faults c.write_rest.new.notes) (c.args.text.now ++ 10 ∷ []) c.write_rest.ensures.never_falls c.write_rest.ensures.appended c.write_rest.ensures.prefix c.write_rest.ensures.failed
