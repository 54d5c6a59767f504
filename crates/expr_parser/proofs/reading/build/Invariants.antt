use Rattle.std.proofs.Common.{◌≡◌, drop}
use Rattle.ll_grammar.specs.Grammar.{built}
use Rattle.expr_parser.specs.Actions.{no_operands}
use Rattle.expr_parser.specs.Built.{expressions, no_token}
use Rattle.expr_parser.proofs.reading.build.Given as goal

abbrev pub invariant-loop-step : goal.invariant-loop-step
invariant-loop-step l = built expressions (drop l.step-index l.moves) l.left (record { last = l.last; state = l.state }) ≡ built expressions l.moves l.tokens (record { last = no_token; state = no_operands })
