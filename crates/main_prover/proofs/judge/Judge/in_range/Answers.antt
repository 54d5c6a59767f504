use Rattle.main_prover.specs.working.Points.{point_of}
use Rattle.main_prover.proofs.Going.{memory_sum}
use Rattle.main_prover.proofs.judge.Judge.in_range.Goals as goal

pub returns-in_err-goal : goal.returns-in_err-goal
returns-in_err-goal c = memory_sum c.args.m.now c.args.at (point_of c.args.path.now) c.args.t c.args.self.now c.args.self.now c.from_residual.result (c.from_residual.ensures).1
