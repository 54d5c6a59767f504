use Rattle.std.proofs.Common.{◌∙◌, ap, IsTrue, Some}
use Rattle.std.proofs.lemmas.Result.{IfOk-weaker}
use Rattle.num_theory.specs.Lines.{refutes}
use Rattle.linear_prover.specs.declared.elimination.Multipliers.{Multipliers}
use Rattle.linear_prover.proofs.Refuting.{first_refutes, later_refutes}
use Rattle.linear_prover.proofs.elimination.refute.Goals as goal

pub returns-in-Some-clause-refutes : goal.returns-in-Some-clause-refutes
returns-in-Some-clause-refutes c =
    IfOk-weaker c.alone.result _ (λ (m : Multipliers). IsTrue (refutes c.args.table.now.rows m.lines))
    (λ m is. first_refutes c.args.table.now c.as_slice.result.now m.lines c.requires c.as_slice.ensures (ap Some is ∙ c.in-Some.ensures)) c.alone.ensures.line

pub returns-in-None-clause-refutes : goal.returns-in-None-clause-refutes
returns-in-None-clause-refutes c =
    IfOk-weaker c.search.result _ (λ (m : Multipliers). IsTrue (refutes c.args.table.now.rows m.lines))
    (λ m is. later_refutes c.args.table.now m.lines c.requires is) c.search.ensures.lines
