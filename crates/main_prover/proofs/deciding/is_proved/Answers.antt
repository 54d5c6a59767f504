use Rattle.std.proofs.Common.{subst}
use Rattle.vc_prover.specs.Refusal.{IsProveRefusal}
use Rattle.main_prover.proofs.Counted.{found_decides, open_decides}
use Rattle.main_prover.proofs.deciding.is_proved.Goals as goal
use Rattle.main_prover.proofs.deciding.is_proved.Goals.{in-Ok, in-Err-Open, in-Err-NoMemory}

pub returns : goal.returns
returns c =
    elim c.match-checked_certificate.branch [
      | in-Ok w ↦ rw w.result-is (found_decides c.args.m.now c.args.kind c.args.s.now w.in-Ok.field-0.steps (w.in-Ok.ensures).found)
      | in-Err-Open w ↦ rw w.result-is (open_decides c.args.m.now c.args.kind c.args.s.now w.is_computed.result (subst (IsProveRefusal c.args.s.now) w.in-Err-Open.field-0-is (w.in-Err-Open.ensures).refused) w.is_computed.ensures)
      | in-Err-NoMemory w ↦ rw w.result-is tt
    ]
