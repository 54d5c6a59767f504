-- The line that each status writes on notes.
use Rattle.std.specs.Prelude.{ℕ, List, [], ◌∷◌, ◌++◌, codes, decimal}
use Rattle.edge_io.specs.declared.numbers.InputError.{InputError}
use Rattle.edge_io.specs.declared.numbers.InputError.TheVariants as error
use Rattle.resolve_cli.specs.declared.status.LinkError.TheVariants as link
use Rattle.resolve_cli.specs.declared.status.Status.{Status}
use Rattle.resolve_cli.specs.declared.status.Status.TheVariants as status

-- what is wrong with an input, with its place where it has one
abbrev pub input_text : InputError → List ℕ
input_text error.Failed = codes "Failed"
input_text error.TooLong = codes "TooLong"
input_text (error.NoNumber at) = codes "NoNumber at " ++ decimal at
input_text (error.TooMany at) = codes "TooMany at " ++ decimal at
input_text error.NoMemory = codes "NoMemory"

-- What notes grows by: the line of the status and LF, and nothing where the command was carried out.
abbrev pub note_of : Status → List ℕ
note_of status.Done = []
note_of (status.Refused line) = line ++ 10 ∷ []
note_of status.BadWords = codes "bad words" ++ 10 ∷ []
note_of (status.NotFound name) = codes "not found: " ++ (name ++ 10 ∷ [])
note_of status.ShelfFault = codes "shelf fault" ++ 10 ∷ []
note_of (status.LinkRefused link.CodeTooLong) = codes "link refused: CodeTooLong" ++ 10 ∷ []
note_of (status.BadInput e) = codes "bad input: " ++ (input_text e ++ 10 ∷ [])
note_of status.SourceFault = codes "source fault" ++ 10 ∷ []
note_of status.SinkFault = codes "sink fault" ++ 10 ∷ []
note_of (status.StepsSpent steps) = codes "steps spent: " ++ (decimal steps ++ 10 ∷ [])
note_of status.NoMemory = codes "no memory" ++ 10 ∷ []
note_of (status.FileTooLong name) = codes "file too long: " ++ (name ++ 10 ∷ [])
note_of status.NotBuilt = codes "not built" ++ 10 ∷ []
