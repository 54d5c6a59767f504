use Rattle.std.proofs.Common.{[], ◌∷◌}
use Rattle.vc_sequents.specs.declared.sequent.VcKind.TheVariants as kinds
use Rattle.main_prover.specs.working.Making.{condition_at}
use Rattle.main_prover.specs.working.Points.{point_of}
use Rattle.main_prover.specs.working.Remaining.{readable}
use Rattle.main_prover.proofs.Going.{memory_stops_in}
use Rattle.main_prover.proofs.judge.Judge.read.Goals as goal

pub returns-in_err-goal : goal.returns-in_err-goal
returns-in_err-goal c =
    memory_stops_in c.args.m.now (condition_at kinds.Requires c.args.at (point_of c.args.path.now) (readable (point_of c.args.path.now)) ∷ []) c.args.self.now _ c.from_residual.result (c.from_residual.ensures).1

pub returns-in_err-read : goal.returns-in_err-read
returns-in_err-read c =
    memory_stops_in c.args.m.now (condition_at kinds.Requires c.args.at (point_of c.args.path.now) (readable (point_of c.args.path.now)) ∷ []) c.args.self.now _ c.from_residual-in_err-read.result (c.from_residual-in_err-read.ensures).1
