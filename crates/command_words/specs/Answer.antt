-- What `read_command` answers.
use Rattle.std.specs.Prelude.{◌≡◌, List, Option, Some, None}
use Rattle.command_words.specs.declared.words.Command.{Command}
use Rattle.command_words.specs.declared.words.Command.TheVariants as command
use Rattle.command_words.specs.Words as spec
use Rattle.command_words.specs.Words.{Word}

-- The answer is the command that the words say.
abbrev pub IsCommand : Option Command → List Word → Type 0
IsCommand None words = spec.read_words words ≡ None
IsCommand (Some (command.Run file steps)) words = spec.command words ≡ Some (spec.Run file.now steps)
IsCommand (Some command.Other) words = spec.command words ≡ Some spec.Other
