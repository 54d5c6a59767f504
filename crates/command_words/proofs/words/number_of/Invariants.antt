use Rattle.std.specs.Prelude.{◌≡◌, take}
use Rattle.std.specs.Str.Parse.{digits_value}
use Rattle.command_words.proofs.words.number_of.Given as goal

abbrev pub invariant-loop-digit : goal.invariant-loop-digit
invariant-loop-digit l = l.number ≡ digits_value 10 (take l.digit-index l.digits)
