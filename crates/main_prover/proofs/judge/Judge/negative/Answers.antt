use Rattle.std.proofs.Common.{pos}
use Rattle.main_vcs.specs.Terms.{num, sub}
use Rattle.main_prover.specs.working.Points.{point_of}
use Rattle.main_prover.proofs.Going.{after_ok, memory_sum}
use Rattle.main_prover.proofs.judge.Judge.negative.Goals as goal

pub returns-in_err-t : goal.returns-in_err-t
returns-in_err-t c =
    after_ok c.args.m.now c.args.a c.in_ok-a.a _ _ c.in_ok-a.was
    (memory_sum c.args.m.now c.args.at (point_of c.args.path.now) (sub (num (pos 0)) c.in_ok-a.a) c.args.self.now _ _ (c.from_residual-in_err-t.ensures).1)
