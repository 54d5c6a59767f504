use Rattle.math_terms.proofs.Evaluations.{equation_answer}
use Rattle.math_terms.proofs.evaluation.computed.Goals as goal

pub returns-in-Eq : goal.returns-in-Eq
returns-in-Eq c = λ not_cat. equation_answer c.args.op c.args.a.now c.args.b.now c.same.result c.in-Eq.is c.same.ensures
