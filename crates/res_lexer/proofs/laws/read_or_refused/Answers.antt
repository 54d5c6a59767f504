use Rattle.res_lexer.proofs.Readings.{read_or_refused}
use Rattle.res_lexer.proofs.laws.read_or_refused.Goals as goal

pub returns : goal.returns
returns c = read_or_refused
