use Rattle.ll_grammar.proofs.Unique.{one_derivation}
use Rattle.ll_grammar.proofs.laws.one_derivation.Goals as goal

pub returns : goal.returns
returns c = one_derivation
