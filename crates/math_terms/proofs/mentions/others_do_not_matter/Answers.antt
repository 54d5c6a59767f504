use Rattle.math_terms.proofs.Mentioned.{others_do_not_matter}
use Rattle.math_terms.proofs.mentions.others_do_not_matter.Goals as goal

pub returns : goal.returns
returns c = others_do_not_matter
