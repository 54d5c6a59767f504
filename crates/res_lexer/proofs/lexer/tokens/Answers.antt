use Rattle.res_lexer.proofs.Readings.{only_reading, only_refusal}
use Rattle.res_lexer.proofs.lexer.tokens.Goals as goal

pub returns-clause-only : goal.returns-clause-only
returns-clause-only c = only_reading c.args.bytes.now c.read.result c.read.ensures.found c.read.ensures.refused

pub returns-clause-refused_only : goal.returns-clause-refused_only
returns-clause-refused_only c = only_refusal c.args.bytes.now c.read.result c.read.ensures.found c.read.ensures.refused
