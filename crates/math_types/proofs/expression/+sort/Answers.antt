use Rattle.std.proofs.Common.{sym, subst}
use Rattle.math_types.specs.Expressions.{Formed}
use Rattle.math_types.specs.working.Answers.{IsAnswer}
use Rattle.math_types.proofs.Calls.{call_checked}
use Rattle.math_types.proofs.expression.+sort.Goals as goal

pub form_sort-returns-in-Call : goal.form_sort-returns-in-Call
form_sort-returns-in-Call t c =
    subst (λ (r : Formed). IsAnswer r c.call.result)
    (sym (call_checked c.args.known.now c.args.types.now c.args.form.now c.in-Call.facility c.in-Call.name c.in-Call.args c.in-Call.is)) c.call.ensures
