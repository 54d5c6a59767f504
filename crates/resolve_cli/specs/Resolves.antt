-- What the top call leaves: on out, on notes, of the input and of the files.
use Rattle.std.specs.Prelude.{◌≡◌, ◌≢◌, ℕ, ◌+◌, ◌≤◌, ◌⊎◌, List, [], Option, Bool, IsTrue}
use Rattle.edge_io.specs.declared.numbers.InputError.TheVariants as error
use Rattle.edge_io.specs.Faults.{Rose}
use Rattle.edge_io.specs.Files.{Files, SameFiles}
use Rattle.edge_io.specs.Held.{Grew, GrewByPrefix}
use Rattle.edge_io.specs.Numbers.{HadLeft, LacksFirst, NothingLeft, most_text_bytes}
use Rattle.command_words.specs.Words.{Word}
use Rattle.resolve_cli.specs.declared.status.Status.{Status}
use Rattle.resolve_cli.specs.declared.status.Status.TheVariants as status
use Rattle.resolve_cli.specs.Answer.{Answers}

-- Notes got a text; where their own count of faults rose, some first bytes of it. The count never falls.
pub record Noted (old new : Option (List ℕ)) (before now : ℕ) (text : List ℕ) : Type 0 where
  pub never_falls : before ≤ now
  pub got : Grew old new text ⊎ (Rose before now × GrewByPrefix old new text)

-- what may come before an answer is known: a fault of what is read, or want of memory
abbrev pub IsBeforeAnswer : Status → Type 0
IsBeforeAnswer s = (s ≡ status.ShelfFault) ⊎ ((s ≡ status.SourceFault) ⊎ (s ≡ status.NoMemory))

-- what may come while out is written
abbrev pub IsCut : Status → Type 0
IsCut s = (s ≡ status.SinkFault) ⊎ (s ≡ status.NoMemory)

-- What is done where these are the answers. The status is an answer's, and out got its bytes; or no answer is known yet, and out got
-- nothing; or an answer was cut, and out got some first bytes of it.
pub data Answered (answers : Status → List ℕ → Type 0) (s : Status) (old new : Option (List ℕ)) : Type 0 where
  answer : (out : List ℕ) → answers s out → Grew old new out → Answered answers s old new
  unanswered : IsBeforeAnswer s → Grew old new [] → Answered answers s old new
  cut : IsCut s → (t : Status) (out : List ℕ) → answers t out → GrewByPrefix old new out → Answered answers s old new

-- The same over some input, which is what the source had left where it tells.
abbrev pub SomeAnswer : (List ℕ → Status → List ℕ → Type 0) → Option (List ℕ) → Status → Option (List ℕ) → Option (List ℕ) → Type 0
SomeAnswer answers left s old new = (input : List ℕ) × HadLeft left input × Answered (answers input) s old new

-- What the words did: over some files, which are the shelf's where it tells, and some input, which is what the source had left where it
-- tells, this is done.
pub record DidAnswer (words : List Word) (tells : Bool) (shelf : Files) (left : Option (List ℕ)) (s : Status) (old new : Option (List ℕ)) : Type 0 where
  pub files : Files
  pub input : List ℕ
  pub saw : IsTrue tells → SameFiles shelf files
  pub had : HadLeft left input
  pub did : Answered (Answers words files input) s old new

-- The count of faults of an end of the call never falls, and the status that tells of such a fault comes only where it rose.
pub record Counted (fault s : Status) (before now : ℕ) : Type 0 where
  pub never_falls : before ≤ now
  pub told : s ≡ fault → Rose before now

-- how a text is refused
abbrev pub IsTextRefusal : Status → Type 0
IsTextRefusal s = ((line : List ℕ) × (s ≡ status.Refused line)) ⊎ (s ≡ status.NoMemory)

-- statuses that stand before the input in the order of work
abbrev pub IsBeforeInput : Status → Type 0
IsBeforeInput status.Done = ⊥
IsBeforeInput (status.Refused line) = Unit {0}
IsBeforeInput status.BadWords = Unit {0}
IsBeforeInput (status.NotFound name) = Unit {0}
IsBeforeInput status.ShelfFault = Unit {0}
IsBeforeInput (status.LinkRefused e) = Unit {0}
IsBeforeInput (status.BadInput e) = ⊥
IsBeforeInput status.SourceFault = ⊥
IsBeforeInput status.SinkFault = ⊥
IsBeforeInput (status.StepsSpent steps) = ⊥
IsBeforeInput status.NoMemory = ⊥
IsBeforeInput (status.FileTooLong name) = Unit {0}
IsBeforeInput status.NotBuilt = Unit {0}

-- statuses at which the input was read to its end
abbrev pub IsAfterInput : Status → Type 0
IsAfterInput status.Done = Unit {0}
IsAfterInput (status.Refused line) = ⊥
IsAfterInput status.BadWords = ⊥
IsAfterInput (status.NotFound name) = ⊥
IsAfterInput status.ShelfFault = ⊥
IsAfterInput (status.LinkRefused e) = ⊥
IsAfterInput (status.BadInput e) = e ≢ error.TooLong
IsAfterInput status.SourceFault = ⊥
IsAfterInput status.SinkFault = Unit {0}
IsAfterInput (status.StepsSpent steps) = Unit {0}
IsAfterInput status.NoMemory = ⊥
IsAfterInput (status.FileTooLong name) = ⊥
IsAfterInput status.NotBuilt = ⊥

-- What the call leaves of the input: all of it where it did not come to it, nothing where it read it to its end, and where the input is
-- too long what follows the first byte that it may not have.
pub record Left (s : Status) (old new : Option (List ℕ)) (before now : ℕ) : Type 0 where
  pub same : IsBeforeInput s → new ≡ old
  pub same_faults : IsBeforeInput s → now ≡ before
  pub none : IsAfterInput s → NothingLeft old new
  pub too_long : s ≡ status.BadInput error.TooLong → LacksFirst old new (most_text_bytes + 1)

-- The words have at most one answer over the files and the input.
abbrev pub OneAnswer : Type 0
OneAnswer =
    (words : List Word) (files : Files) (input : List ℕ) (s t : Status) (o p : List ℕ) → Answers words files input s o → Answers words files input t p → (s ≡ t) × (o ≡ p)
