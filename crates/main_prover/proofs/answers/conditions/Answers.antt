use Rattle.main_vcs.specs.Walk.{conditions_of}
use Rattle.main_prover.proofs.Going.{collected_all}
use Rattle.main_prover.proofs.answers.conditions.Goals as goal

pub returns-in-Ok : goal.returns-in-Ok
returns-in-Ok c = collected_all c.args.m.now (conditions_of c.args.m.now) c.new-judge.result c.run.new.self (c.new-judge.ensures c.args.m.now) c.in-Ok.ensures
