use Rattle.res_lexer.proofs.Readings.{one_refusal}
use Rattle.res_lexer.proofs.laws.one_refusal.Goals as goal

pub returns : goal.returns
returns c = one_refusal
