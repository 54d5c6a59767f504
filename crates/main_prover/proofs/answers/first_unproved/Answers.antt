use Rattle.main_vcs.specs.Walk.{conditions_of}
use Rattle.main_prover.proofs.Going.{proved_all, first_among, first_unproved_of}
use Rattle.main_prover.proofs.answers.first_unproved.Goals as goal

pub returns-in-Ok : goal.returns-in-Ok
returns-in-Ok c = proved_all c.args.m.now (conditions_of c.args.m.now) c.new-judge.result c.run.new.self (c.new-judge.ensures c.args.m.now) c.in-Ok.ensures

pub returns-in-Err-Unproved : goal.returns-in-Err-Unproved
returns-in-Err-Unproved c =
    first_unproved_of c.args.m.now c.in-Err-Unproved.u
    (first_among c.args.m.now (conditions_of c.args.m.now) c.new-judge.result c.in-Err-Unproved.field-0 c.in-Err-Unproved.u (c.new-judge.ensures c.args.m.now) c.in-Err-Unproved.field-0-is c.in-Err-Unproved.ensures)
