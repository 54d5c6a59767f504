use Rattle.module_parser.proofs.Spelled.{not_refused, one_list, one_refusal}
use Rattle.module_parser.proofs.reading.one_spelling.Goals as goal

pub returns-clause-one : goal.returns-clause-one
returns-clause-one c = one_list

pub returns-clause-read : goal.returns-clause-read
returns-clause-read c = not_refused c.one_answer.ensures.text

pub returns-clause-refused : goal.returns-clause-refused
returns-clause-refused c = one_refusal c.one_answer.ensures.refusal
