-- The number of each status, which is the exit status of the program.
use Rattle.std.specs.Prelude.{ℕ}
use Rattle.resolve_cli.specs.declared.status.Status.{Status}
use Rattle.resolve_cli.specs.declared.status.Status.TheVariants as status

abbrev pub number_of : Status → ℕ
number_of status.Done = 0
number_of (status.Refused line) = 1
number_of status.BadWords = 2
number_of (status.NotFound name) = 3
number_of status.ShelfFault = 4
number_of (status.LinkRefused e) = 6
number_of (status.BadInput e) = 7
number_of status.SourceFault = 8
number_of status.SinkFault = 9
number_of (status.StepsSpent steps) = 10
number_of status.NoMemory = 12
number_of (status.FileTooLong name) = 13
number_of status.NotBuilt = 15
