use Rattle.std.proofs.Common.{◌++◌, ◌∷◌, [], subst}
use Rattle.resolve_cli.specs.Resolves.{Noted}
use Rattle.resolve_cli.proofs.Growing.{noted}
use Rattle.resolve_cli.proofs.notes.note_name.Goals as goal

pub returns : goal.returns
returns g c =
    subst (λ name. Noted (g.N.Sink.held c.args.notes.now) (g.N.Sink.held c.write_line.new.notes) (g.N.Sink.faults c.args.notes.now) (g.N.Sink.faults c.write_line.new.notes) (c.args.front.now ++ (name ++ 10 ∷ []))) c.bytes.ensures (noted c.write_line.result (g.N.Sink.held c.args.notes.now) (g.N.Sink.held c.write_line.new.notes) (g.N.Sink.faults c.args.notes.now) (g.N.Sink.faults c.write_line.new.notes) (c.args.front.now ++ (c.bytes.result.now ++ 10 ∷ [])) c.write_line.ensures.never_falls c.write_line.ensures.appended c.write_line.ensures.prefix c.write_line.ensures.failed)
