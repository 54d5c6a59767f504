use Rattle.main_prover.proofs.Going.{memory_judges}
use Rattle.main_prover.proofs.judge.Judge.end.Goals as goal

pub returns-in_err-goal : goal.returns-in_err-goal
returns-in_err-goal c = memory_judges c.args.m.now _ c.args.self.now c.args.self.now c.from_residual.result (c.from_residual.ensures).1
