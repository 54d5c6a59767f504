use Rattle.std.proofs.Common.{refl}
use Rattle.main_prover.specs.working.Making.{condition_at}
use Rattle.main_prover.specs.working.Points.{point_of}
use Rattle.main_prover.proofs.Going.{memory_judges, collected_goes, proved_judges}
use Rattle.main_prover.proofs.judge.Judge.judge.Goals as goal

pub returns-in_err-number : goal.returns-in_err-number
returns-in_err-number c = memory_judges c.args.m.now _ c.args.self.now c.args.self.now c.from_residual.result (c.from_residual.ensures).1

pub returns-in_err-sequent : goal.returns-in_err-sequent
returns-in_err-sequent c = memory_judges c.args.m.now _ c.args.self.now c.args.self.now c.from_residual-in_err-sequent.result (c.from_residual-in_err-sequent.ensures).1

pub returns-in_err-collect-in-Collect : goal.returns-in_err-collect-in-Collect
returns-in_err-collect-in-Collect c = memory_judges c.args.m.now _ c.args.self.now c.collect.new.self c.from_residual-in_err-collect-in-Collect.result (c.from_residual-in_err-collect-in-Collect.ensures).1

pub returns-in_ok-collect-in-Collect : goal.returns-in_ok-collect-in-Collect
returns-in_ok-collect-in-Collect c =
    collected_goes c.args.m.now (condition_at c.args.kind c.args.at (point_of c.args.path.now) c.args.goal) c.args.self.now c.collect.new.self c.in_ok-number.number c.in_ok-sequent.sequent
    c.in-Collect.is c.in_ok-number.ensures c.in_ok-sequent.ensures c.in_ok-collect-in-Collect.ensures

pub returns-in-Prove : goal.returns-in-Prove
returns-in-Prove c =
    proved_judges c.args.m.now (condition_at c.args.kind c.args.at (point_of c.args.path.now) c.args.goal) c.args.self.now c.prove.new.self (record { number = c.in_ok-number.number; kind = c.args.kind; at = c.args.at }) c.in_ok-sequent.sequent c.prove.result
    c.in-Prove.is c.in_ok-number.ensures refl refl c.in_ok-sequent.ensures c.prove.ensures
