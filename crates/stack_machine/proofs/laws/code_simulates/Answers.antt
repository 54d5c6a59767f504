use Rattle.stack_machine.proofs.Simulated.{simulates_lem}
use Rattle.stack_machine.proofs.laws.code_simulates.Goals as goal

pub returns : goal.returns
returns c = simulates_lem
