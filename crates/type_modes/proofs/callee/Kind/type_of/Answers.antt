use Rattle.std.proofs.Common.{◌∙◌, ap, sym}
use Rattle.type_modes.specs.working.Found as found
use Rattle.type_modes.proofs.callee.Kind.type_of.Goals as goal

pub returns-in-Through : goal.returns-in-Through
returns-in-Through c = c.through.ensures ∙ ap (λ k. found.type_of k c.args.ptype.now) (sym c.in-Through.is)
