use Rattle.math_terms.proofs.Evaluations.{reverse_answer}
use Rattle.math_terms.proofs.evaluation.apply_unary.Goals as goal

pub returns-in_ok-reversed-in-Reverse : goal.returns-in_ok-reversed-in-Reverse
returns-in_ok-reversed-in-Reverse c =
    reverse_answer c.args.op c.args.a c.entries_of-in-Reverse.result c.in_ok-reversed-in-Reverse.field-0 c.in-Reverse.is
    c.entries_of-in-Reverse.ensures c.in_ok-reversed-in-Reverse.ensures
