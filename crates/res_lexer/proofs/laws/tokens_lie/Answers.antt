use Rattle.res_lexer.proofs.Readings.{tokens_lie}
use Rattle.res_lexer.proofs.laws.tokens_lie.Goals as goal

pub returns : goal.returns
returns c = tokens_lie c.identifier_laws.ensures.stands
