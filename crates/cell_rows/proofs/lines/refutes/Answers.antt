use Rattle.std.proofs.Common.{sym, ap}
use Rattle.num_theory.specs.Lines.{is_refuted, with_lines}
use Rattle.cell_rows.proofs.Ending.{all_made}
use Rattle.cell_rows.proofs.lines.refutes.Goals as goal

pub returns-in-Ok-Some-clause-exact : goal.returns-in-Ok-Some-clause-exact
returns-in-Ok-Some-clause-exact c = λ rows h.
    let found = rw c.in-Ok-Some.field-0-is at (c.in-Ok-Some.ensures.replayed rows h) in
    all_made c.args.width (with_lines c.args.lines.now rows) c.in-Ok-Some.total c.replay.new.places c.clashes.result found c.clashes.ensures

pub returns-in-Ok-None-clause-exact : goal.returns-in-Ok-None-clause-exact
returns-in-Ok-None-clause-exact c = λ rows h.
    sym (ap is_refuted (rw c.in-Ok-None.field-0-is at (c.in-Ok-None.ensures.replayed rows h)))
