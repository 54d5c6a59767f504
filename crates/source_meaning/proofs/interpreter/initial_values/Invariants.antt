use Rattle.std.proofs.Common.{◌≡◌, take}
use Rattle.source_meaning.specs.Meaning.{initial_values}
use Rattle.source_meaning.proofs.interpreter.initial_values.Given as goal

abbrev pub invariant-loop-number : goal.invariant-loop-number
invariant-loop-number l = l.values ≡ initial_values l.types (take l.number-index l.locals)
