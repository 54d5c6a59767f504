-- What the reader of the words keeps, and what it answers.
use Rattle.std.specs.Prelude.{◌≡◌, ◌≢◌, ℕ, Bool, List, [], ◌∷◌, length, Option, Some, None, codes, ◌||◌, ◌++◌}
use Rattle.command_words.specs.declared.words.Command.{Command}
use Rattle.command_words.specs.declared.words.Command.TheVariants as command
use Rattle.command_words.specs.declared.words.Verb.{Verb}
use Rattle.command_words.specs.declared.words.Verb.TheVariants.{Verify, Prove, Vcs, Code, Run, Gen}
use Rattle.command_words.specs.declared.words.OptionName.{OptionName}
use Rattle.command_words.specs.declared.words.OptionName.TheVariants.{Choice, Certs, Out, Steps}
use Rattle.command_words.specs.declared.words.Piece.{Piece}
use Rattle.command_words.specs.declared.words.Piece.TheVariants as piece
use Rattle.command_words.specs.declared.words.Limit.{Limit}
use Rattle.command_words.specs.declared.words.Limit.TheVariants as limit
use Rattle.command_words.specs.declared.words.Options.{Options}
use Rattle.command_words.specs.declared.words.State.{State}
use Rattle.command_words.specs.declared.words.Summary.{Summary}
use Rattle.std.specs.Borrow.{Bor}
use Rattle.res_lexer.specs.Tokens.{same_bytes}
use Rattle.command_words.specs.Words as spec
use Rattle.command_words.specs.Words.{Word, is_among, all_differ, good_values, names_of, gathered, option_text}

abbrev pub verb_word : Verb → Word
verb_word Verify = codes "verify"
verb_word Prove = codes "prove"
verb_word Vcs = codes "vcs"
verb_word Code = codes "code"
verb_word Run = codes "run"
verb_word Gen = codes "gen"

abbrev pub option_word : OptionName → Word
option_word Choice = codes "choice"
option_word Certs = codes "certs"
option_word Out = codes "out"
option_word Steps = codes "steps"

-- the options of a verb
abbrev pub options_for : Verb → List Word
options_for Verify = codes "certs" ∷ []
options_for Prove = codes "out" ∷ []
options_for Vcs = []
options_for Code = codes "choice" ∷ codes "certs" ∷ []
options_for Run = codes "choice" ∷ codes "certs" ∷ codes "steps" ∷ []
options_for Gen = []

-- the answer says what a word says
abbrev pub IsPiece : Option Piece → Option spec.Piece → Type 0
IsPiece None p = p ≡ None
IsPiece (Some piece.Further) p = p ≡ Some spec.Further
IsPiece (Some (piece.Whole option value)) p = p ≡ Some (spec.Whole (option_word option) value.now)
IsPiece (Some (piece.Waits option)) p = p ≡ Some (spec.Waits (option_word option))

-- what the options so far say of the number of instructions: nothing, this by the one option, or more than one option or another one
abbrev pub IsLimit : Limit → List (Word × Word) → Type 0
IsLimit limit.Default os = os ≡ []
IsLimit (limit.Steps value) os = os ≡ (codes "steps", value.now) ∷ []
IsLimit limit.Other os = (spec.steps_of os ≡ None) × (os ≢ [])

abbrev pub has_option : Options → OptionName → Bool
has_option s Choice = s.choice
has_option s Certs = s.certs
has_option s Out = s.out
has_option s Steps = s.steps

-- the options with one more
pub record AddsOption (s : Options) (option : OptionName) (t : Options) : Type 0 where
  pub choice : t.choice ≡ (s.choice || same_bytes (codes "choice") (option_word option))
  pub certs : t.certs ≡ (s.certs || same_bytes (codes "certs") (option_word option))
  pub out : t.out ≡ (s.out || same_bytes (codes "out") (option_word option))
  pub steps : t.steps ≡ (s.steps || same_bytes (codes "steps") (option_word option))

-- which of the options stand among these names
pub record AreOptions (names : List Word) (s : Options) : Type 0 where
  pub choice : s.choice ≡ is_among (codes "choice") names
  pub certs : s.certs ≡ is_among (codes "certs") names
  pub out : s.out ≡ is_among (codes "out") names
  pub steps : s.steps ≡ is_among (codes "steps") names

-- the first of the further words
abbrev pub IsFirst : Option (Bor (List ℕ)) → List Word → Type 0
IsFirst None fs = fs ≡ []
IsFirst (Some f) fs = (others : List Word) × (fs ≡ f.now ∷ others)

-- The summary of these options and further words.
pub record IsSummary (os : List (Word × Word)) (fs : List Word) (s : Summary) : Type 0 where
  pub options : AreOptions (names_of os) s.options
  pub differ : s.differ ≡ all_differ (names_of os)
  pub good : s.good ≡ good_values os
  pub limit : IsLimit s.limit os
  pub further : s.further ≡ length fs
  pub first : IsFirst s.first fs

-- options and further words before others
abbrev pub prepended : List (Word × Word) → List Word → Option (List (Word × Word) × List Word) → Option (List (Word × Word) × List Word)
prepended os fs None = None
prepended os fs (Some r) = Some (os ++ r.0, fs ++ r.1)

abbrev pub waiting_word : Option OptionName → Option Word
waiting_word None = None
waiting_word (Some option) = Some (option_word option)

-- The words are these options and further words, and then what is still to read.
pub record IsState (names words rest : List Word) (s : State) : Type 0 where
  pub os : List (Word × Word)
  pub fs : List Word
  pub reads : gathered names None words ≡ prepended os fs (gathered names (waiting_word s.waiting) rest)
  pub sums : IsSummary os fs s.summary

-- after one more word
abbrev pub StepsTo : List Word → List Word → List Word → Option State → Type 0
StepsTo names words rest None = gathered names None words ≡ None
StepsTo names words rest (Some s) = IsState names words rest s

-- The options and further words that are summed up.
pub record SumsUp (names words : List Word) (s : Summary) : Type 0 where
  pub os : List (Word × Word)
  pub fs : List Word
  pub reads : gathered names None words ≡ Some (os, fs)
  pub sums : IsSummary os fs s

-- The answer sums up the options and further words of these words, if they have a reading.
abbrev pub Gathers : List Word → List Word → Option Summary → Type 0
Gathers names words None = gathered names None words ≡ None
Gathers names words (Some s) = SumsUp names words s

-- The answer is this command.
abbrev pub Says : Command → spec.Command → Type 0
Says (command.Run file steps) c = c ≡ spec.Run file.now steps
Says command.Other c = c ≡ spec.Other
