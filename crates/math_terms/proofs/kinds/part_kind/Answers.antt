use Rattle.std.proofs.Common.{◌∙◌, sym, ap, []}
use Rattle.math_terms.specs.declared.descriptor.Sort.TheVariants.{rolls-Any}
use Rattle.math_terms.specs.Kinds.{or_any}
use Rattle.math_terms.proofs.kinds.part_kind.Goals as goal

pub returns-in-Some : goal.returns-in-Some
returns-in-Some c = ap or_any (c.in-Some.ensures [])

pub returns-in-None : goal.returns-in-None
returns-in-None c = sym rolls-Any ∙ ap or_any (c.in-None.ensures [])
