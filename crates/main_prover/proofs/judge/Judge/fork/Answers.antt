use Rattle.main_prover.specs.working.Making.{guard_made}
use Rattle.main_prover.specs.working.Points.{point_of}
use Rattle.main_prover.proofs.Going.{memory_stops_in}
use Rattle.main_prover.proofs.judge.Judge.fork.Goals as goal

pub returns-in_err-forked : goal.returns-in_err-forked
returns-in_err-forked c =
    memory_stops_in c.args.m.now (guard_made c.args.g.now (point_of c.args.path.now)).conditions c.args.self.now _ c.from_residual-in_err-forked.result (c.from_residual-in_err-forked.ensures).1
