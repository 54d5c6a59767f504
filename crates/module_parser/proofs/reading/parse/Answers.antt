use Rattle.module_parser.proofs.Spelled.{only}
use Rattle.module_parser.proofs.reading.parse.Goals as goal

pub returns-clause-only : goal.returns-clause-only
returns-clause-only c = only c.one_spelling.ensures.one c.one_spelling.ensures.read c.args.bytes.now c.read_file.result c.read_file.ensures.read c.read_file.ensures.refused
