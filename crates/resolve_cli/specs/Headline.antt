-- The headline: what an answer that is a run says of the text, of its code, and of the bytes.
use Rattle.std.specs.Prelude.{◌≡◌, ◌≢◌, ℕ, ◌*◌, ℤ, ◌⊎◌, List, [], Some, None, Ok, IsSome}
use Rattle.std.specs.List.{AllByRecursion}
use Rattle.edge_io.specs.Files.{Files}
use Rattle.edge_io.specs.Numbers.{reading}
use Rattle.res_ast.specs.declared.component.Component.{Component}
use Rattle.module_parser.specs.Spelling.{Spells}
use Rattle.source_meaning.specs.declared.trace.Trace.{Trace}
use Rattle.source_meaning.specs.Trace.{trace_of}
use Rattle.stack_machine.specs.Lines.{lines}
use Rattle.stack_machine.specs.Machine.{State, after}
use Rattle.stack_machine.specs.Simulation.{IsFront}
use Rattle.main_form.specs.declared.module.Module.{Module}
use Rattle.main_form.specs.declared.file.Shape.TheVariants as shape
use Rattle.main_form.specs.Shape.{shape_of}
use Rattle.component_checks.specs.Checks.{mistake_of}
use Rattle.main_vcs.specs.Events.{IsGood}
use Rattle.main_vcs.specs.Linking.{main_of}
use Rattle.main_vcs.specs.Soundness.{Allows, IsInput, IsValidCondition}
use Rattle.main_vcs.specs.Walk.{conditions_of}
use Rattle.command_words.specs.Words.{Word, Run, command}
use Rattle.resolve_cli.specs.declared.status.Status.{Status}
use Rattle.resolve_cli.specs.declared.status.Status.TheVariants as status
use Rattle.resolve_cli.specs.Answer.{Answers, image_of, linked_of}

-- what a module means on an input with so much fuel: how its run ends, its events and its output
abbrev pub meaning_of : Module → List ℤ → ℕ → Trace
meaning_of m input fuel = trace_of (linked_of m) (main_of m) input fuel

-- The text spells components, and these are a module without a mistake in its names, arguments, sorts, types and modes, whose conditions are
-- all valid. On every input of at most 65,535 numbers of 64 bits the machine is never stuck on its image; after n steps it has written a
-- front of what the module means with fuel 2 * n; wherever it halts it has written what Main allows; and all events of what the module means
-- are good.
pub record IsRight (bytes : List ℕ) (m : Module) : Type 0 where
  pub components : List Component
  pub spells : Spells bytes components
  pub is : shape_of components ≡ shape.Module m
  pub without_mistake : mistake_of components ≡ None
  pub valid : AllByRecursion IsValidCondition (conditions_of m)
  pub never_stuck : (input : List ℤ) → IsInput input → (n : ℕ) → IsSome (after (image_of m) input n)
  pub front : (input : List ℤ) → IsInput input → (n : ℕ) (s : State) → after (image_of m) input n ≡ Some s → IsFront s.output (meaning_of m input (2 * n)).output
  pub allowed : (input : List ℤ) → IsInput input → (n : ℕ) (s : State) → after (image_of m) input n ≡ Some s → s.frames ≡ [] → Allows m.claim s.output
  pub good : (input : List ℤ) → IsInput input → (fuel : ℕ) → AllByRecursion (IsGood m input) (meaning_of m input fuel).events

-- Where a run stands after so many steps: at Done it is over, and Main allows what it has written; where the steps are spent it goes on.
pub data StandsAt (s : Status) (m : Module) (steps : ℕ) (t : State) : Type 0 where
  over : s ≡ status.Done → t.frames ≡ [] → Allows m.claim t.output → StandsAt s m steps t
  goes_on : s ≡ status.StepsSpent steps → t.frames ≢ [] → StandsAt s m steps t

-- The words run a file, whose text is right; the numbers are those of the input; on them the machine comes to a state after so many
-- steps as the words allow; it stands there as the status says, and the bytes are the lines of what it has written.
pub record RunsRight (words : List Word) (files : Files) (input : List ℕ) (s : Status) (out : List ℕ) : Type 0 where
  pub name : List ℕ
  pub steps : ℕ
  pub bytes : List ℕ
  pub spelled : Module
  pub numbers : List ℤ
  pub state : State
  pub says : command words ≡ Some (Run name steps)
  pub holds : files name ≡ Some bytes
  pub right : IsRight bytes spelled
  pub reads : reading input ≡ Ok numbers
  pub reached : after (image_of spelled) numbers steps ≡ Some state
  pub stands : StandsAt s spelled steps state
  pub written : out ≡ lines state.output

-- how a run ends that is not cut
abbrev pub IsRunEnd : Status → Type 0
IsRunEnd s = (s ≡ status.Done) ⊎ ((n : ℕ) × (s ≡ status.StepsSpent n))

-- Every answer that is Done, or that the steps are spent, runs right.
abbrev pub Headline : Type 0
Headline = (words : List Word) (files : Files) (input : List ℕ) (s : Status) (out : List ℕ) → Answers words files input s out → IsRunEnd s → RunsRight words files input s out
