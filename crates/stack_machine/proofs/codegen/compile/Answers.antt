use Rattle.std.proofs.lemmas.Result.{IfOk-weaker}
use Rattle.stack_machine.proofs.Simulated.{compiled_simulates}
use Rattle.stack_machine.proofs.codegen.compile.Goals as goal

pub returns-clause-simulates : goal.returns-clause-simulates
returns-clause-simulates c =
    IfOk-weaker c.compile_main.result _ _ (λ image is p formed input. compiled_simulates c.args.l.now c.in-Some.main.now p image c.in-Some.ensures.value is formed input) c.compile_main.ensures.code
