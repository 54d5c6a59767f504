use Rattle.std.proofs.Common.{◌≡◌, drop}
use Rattle.ll_grammar.specs.Grammar.{built}
use Rattle.expr_parser.specs.Built.{no_token}
use Rattle.module_parser.specs.Stacks.{outset}
use Rattle.module_parser.specs.Spelling.{files}
use Rattle.module_parser.proofs.reading.build.Given as goal

abbrev pub invariant-loop-step : goal.invariant-loop-step
invariant-loop-step l = built files (drop l.step-index l.moves) l.left (record { last = l.last; state = l.state }) ≡ built files l.moves l.tokens (record { last = no_token; state = outset })
