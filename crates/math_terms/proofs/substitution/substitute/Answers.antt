use Rattle.std.proofs.Common.{◌∙◌, ap}
use Rattle.math_terms.specs.Descriptors.{value}
use Rattle.math_terms.proofs.Putting.{value_in_put}
use Rattle.math_terms.proofs.substitution.substitute.Goals as goal

pub returns-in-Ok-clause-value : goal.returns-in-Ok-clause-value
returns-in-Ok-clause-value c I w = ap (value I w) c.in-Ok.ensures ∙ value_in_put c.args.v c.args.by.now c.args.t.now I w
