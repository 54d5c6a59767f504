-- From each stage of an answer to the next.
use Rattle.std.proofs.Common.{◌≡◌, ◌∙◌, sym, ap, refl, subst, ℕ, ◌+◌, ◌<◌, ◌≤◌, List, [], length, Option, Some, None, Result, Ok, Err, inr, arith, Bool, true, false, replicate}
use Rattle.std.specs.Prelude.{IsTrue, IfOk, MatchResult}
use Rattle.std.proofs.lemmas.Bool.{true≢false}
use Rattle.std.proofs.Math.ListN.{length-replicate}
use Rattle.math_terms.specs.declared.name.NoMemory.{NoMemory}
use Rattle.edge_io.specs.Files.{Files, SameFiles, most_bytes}
use Rattle.edge_io.specs.Held.{Grew}
use Rattle.edge_io.specs.Numbers.{HadLeft}
use Rattle.command_words.specs.Words.{Run, Word, command}
use Rattle.resolve_cli.specs.declared.status.Status.{Status}
use Rattle.resolve_cli.specs.declared.status.Status.TheVariants as status
use Rattle.resolve_cli.specs.Answer as stage
use Rattle.resolve_cli.specs.Answer.{Answers, FileAnswer, most_component_bytes}
use Rattle.resolve_cli.specs.Resolves.{Answered, DidAnswer, IsBeforeAnswer, SomeAnswer, answer, cut, unanswered}

-- the answers of one kind are answers of another
abbrev pub Within : (Status → List ℕ → Type 0) → (Status → List ℕ → Type 0) → Type 0
Within A B = (s : Status) (out : List ℕ) → A s out → B s out

pub answered_within : (A B : Status → List ℕ → Type 0) → Within A B → (s : Status) (old new : Option (List ℕ)) → Answered A s old new → Answered B s old new
answered_within A B to s old new (answer out a grew) = answer out (to s out a) grew
answered_within A B to s old new (unanswered is grew) = unanswered is grew
answered_within A B to s old new (cut is t out a front) = cut is t out (to t out a) front

pub some_within : (A B : List ℕ → Status → List ℕ → Type 0) → ((input : List ℕ) → Within (A input) (B input)) → (left : Option (List ℕ)) (s : Status) (old new : Option (List ℕ)) → SomeAnswer A left s old new → SomeAnswer B left s old new
some_within A B to left s old new (input, had, answered) = (input, had, answered_within (A input) (B input) (to input) s old new answered)

-- some input, which is what is left where that is told
pub some_input : (left : Option (List ℕ)) → (input : List ℕ) × HadLeft left input
some_input None = ([], tt)
some_input (Some bytes) = (bytes, refl)

-- an answer without bytes, whatever the input
pub nothing_written : (A : List ℕ → Status → List ℕ → Type 0) (left : Option (List ℕ)) (s : Status) (held : Option (List ℕ)) → ((input : List ℕ) → A input s []) → Grew held held [] → SomeAnswer A left s held held
nothing_written A left s held a grew = let some = some_input left in (some.0, some.1, answer [] (a some.0) grew)

pub nothing_known : (A : List ℕ → Status → List ℕ → Type 0) (left : Option (List ℕ)) (s : Status) (held : Option (List ℕ)) → IsBeforeAnswer s → Grew held held [] → SomeAnswer A left s held held
nothing_known A left s held is grew = let some = some_input left in (some.0, some.1, unanswered is grew)

-- a status with a line or a name, or want of memory
pub named_answered : (f : List ℕ → Status) (A : List ℕ → Status → List ℕ → Type 0) (left held : Option (List ℕ)) (name : Result (List ℕ) NoMemory) (s : Status) (text : List ℕ) → MatchResult name (λ l. s ≡ f l) (λ _. s ≡ status.NoMemory) → IfOk name (λ l. l ≡ text) → ((input : List ℕ) → A input (f text) []) → Grew held held [] → SomeAnswer A left s held held
named_answered f A left held (Ok l) s text is named a grew =
    nothing_written A left s held (λ input. subst (λ t. A input t []) (sym (is ∙ ap f named)) (a input)) grew
named_answered f A left held (Err e) s text is named a grew = nothing_known A left s held (inr (inr is)) grew

pub refused_answered : (A : List ℕ → Status → List ℕ → Type 0) (left held : Option (List ℕ)) (line : Result (List ℕ) NoMemory) (s : Status) (text : List ℕ) → MatchResult line (λ l. s ≡ status.Refused l) (λ _. s ≡ status.NoMemory) → IfOk line (λ l. l ≡ text) → ((input : List ℕ) → A input (status.Refused text) []) → Grew held held [] → SomeAnswer A left s held held
refused_answered = named_answered (λ l. status.Refused l)

-- files that have this one under every name, where the shelf does not tell
abbrev files_seen : Bool → Files → Option (List ℕ) → Files
files_seen true shelf file = shelf
files_seen false shelf file = λ name. file

files_saw : (tells : Bool) (shelf : Files) (file : Option (List ℕ)) → IsTrue tells → SameFiles shelf (files_seen tells shelf file)
files_saw true shelf file = λ t name. refl
files_saw false shelf file = λ t. absurd (true≢false (sym t))

file_seen : (tells : Bool) (shelf : Files) (file : Option (List ℕ)) (name : List ℕ) → (IsTrue tells → shelf name ≡ file) → files_seen tells shelf file name ≡ file
file_seen true shelf file name is = is refl
file_seen false shelf file name is = refl

-- From what a file answers, which is the shelf's where it tells, to what the words answer.
pub words_answered : (words : List Word) (tells : Bool) (shelf : Files) (left : Option (List ℕ)) (s : Status) (old new : Option (List ℕ)) (name : List ℕ) (file : Option (List ℕ)) (A : List ℕ → Status → List ℕ → Type 0) → (IsTrue tells → shelf name ≡ file) → ((files : Files) → files name ≡ file → (input : List ℕ) → Within (A input) (Answers words files input)) → SomeAnswer A left s old new → DidAnswer words tells shelf left s old new
words_answered words tells shelf left s old new name file A is to (input, had, answered) =
    let files = files_seen tells shelf file in
    record {
      files = files;
      input = input;
      saw = files_saw tells shelf file;
      had = had;
      did = answered_within (A input) (Answers words files input) (to files (file_seen tells shelf file name is) input) s old new answered;
    }

-- what the words answer where their file is not there
abbrev pub NotThere : List ℕ → List ℕ → Status → List ℕ → Type 0
NotThere name input s out = (s ≡ status.NotFound name) × (out ≡ [])

pub words_missing : (words : List Word) (files : Files) (name : List ℕ) (steps : ℕ) (input : List ℕ) → command words ≡ Some (Run name steps) → files name ≡ None → Within (NotThere name input) (Answers words files input)
words_missing words files name steps input says missing s out (is, none) = stage.no_file name steps says missing is none

-- what the words answer where they run a file
pub words_run : (words : List Word) (files : Files) (name bytes : List ℕ) (steps : ℕ) (input : List ℕ) → command words ≡ Some (Run name steps) → files name ≡ Some bytes → Within (FileAnswer name bytes steps input) (Answers words files input)
words_run words files name bytes steps input says holds s out a = stage.file name steps bytes says holds a

-- where the file could not be read
pub words_unread : (words : List Word) (tells : Bool) (shelf : Files) (left : Option (List ℕ)) (s : Status) (held : Option (List ℕ)) → Grew held held [] → IsBeforeAnswer s → DidAnswer words tells shelf left s held held
words_unread words tells shelf left s held grew is =
    let some = some_input left in record { files = shelf; input = some.0; saw = λ t name. refl; had = some.1; did = unanswered is grew }

-- what the words answer by themselves
pub words_alone : (words : List Word) (tells : Bool) (shelf : Files) (left : Option (List ℕ)) (s : Status) (held : Option (List ℕ)) → ((input : List ℕ) → Answers words shelf input s []) → Grew held held [] → DidAnswer words tells shelf left s held held
words_alone words tells shelf left s held a grew =
    let some = some_input left in record { files = shelf; input = some.0; saw = λ t name. refl; had = some.1; did = answer [] (a some.0) grew }

-- a file that is too long for the shelf is too long for a component
pub component_below : most_component_bytes ≤ most_bytes
unfolding most_component_bytes
component_below = omega arith

pub longest_file : (name : List ℕ) → (bytes : List ℕ) × (most_component_bytes < length bytes)
longest_file name = (replicate (most_component_bytes + 1) 0, omega (arith, length-replicate {A = ℕ} (most_component_bytes + 1) 0))

-- A file that the shelf answers as too long.
pub shelf_too_long : (words : List Word) (tells : Bool) (shelf : Files) (left : Option (List ℕ)) (s : Status) (held : Option (List ℕ)) (name : List ℕ) (steps : ℕ) (named : Result (List ℕ) NoMemory) → command words ≡ Some (Run name steps) → (IsTrue tells → (bytes : List ℕ) × (shelf name ≡ Some bytes) × (most_bytes < length bytes)) → MatchResult named (λ l. s ≡ status.FileTooLong l) (λ _. s ≡ status.NoMemory) → IfOk named (λ l. l ≡ name) → Grew held held [] → DidAnswer words tells shelf left s held held
shelf_too_long words true shelf left s held name steps named says long is same grew =
    let h = long refl in
    words_answered words true shelf left s held held name (Some h.0) (FileAnswer name h.0 steps) (λ t. h.1) (λ files holds input. words_run words files name h.0 steps input says holds) (named_answered (λ l. status.FileTooLong l) (FileAnswer name h.0 steps) left held named s name is same (λ input. stage.long (omega (arith, h.2, component_below)) refl refl) grew)
shelf_too_long words false shelf left s held name steps named says long is same grew =
    let some = longest_file name in
    words_answered words false shelf left s held held name (Some some.0) (FileAnswer name some.0 steps) (λ t. absurd (true≢false (sym t))) (λ files holds input. words_run words files name some.0 steps input says holds) (named_answered (λ l. status.FileTooLong l) (FileAnswer name some.0 steps) left held named s name is same (λ input. stage.long some.1 refl refl) grew)
