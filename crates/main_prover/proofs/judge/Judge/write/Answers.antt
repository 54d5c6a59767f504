use Rattle.main_prover.specs.working.Making.{expr_made}
use Rattle.main_prover.specs.working.Points.{point_of}
use Rattle.main_prover.proofs.Going.{memory_stops_in}
use Rattle.main_prover.proofs.judge.Judge.write.Goals as goal

pub returns-in_err-write : goal.returns-in_err-write
returns-in_err-write c =
    memory_stops_in c.args.m.now (expr_made c.args.e.now (point_of c.args.path.now)).conditions c.args.self.now _ c.from_residual-in_err-write.result (c.from_residual-in_err-write.ensures).1
