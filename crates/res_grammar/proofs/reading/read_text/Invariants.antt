use Rattle.res_grammar.specs.Language.{language_certificate}
use Rattle.res_grammar.proofs.reading.read_text.Given as goal

abbrev pub ghost-read_with : goal.ghost-read_with
ghost-read_with a = language_certificate
