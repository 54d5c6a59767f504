-- What an answer of a run says.
use Rattle.std.proofs.Common.{◌≡◌, sym, refl, subst, ℕ, ℤ, List, Some, None, inl, inr}
use Rattle.edge_io.specs.Files.{Files}
use Rattle.stack_machine.specs.Lines.{lines}
use Rattle.stack_machine.specs.Machine.{State, after}
use Rattle.main_form.specs.declared.module.Module.{Module}
use Rattle.main_form.specs.declared.file.Shape.TheVariants as shape
use Rattle.main_form.specs.Shape.{BuiltIsFormed, shape_of}
use Rattle.res_ast.specs.declared.component.Component.{Component}
use Rattle.module_parser.specs.Spelling.{Spells}
use Rattle.component_checks.specs.Checks.{mistake_of}
use Rattle.main_vcs.specs.Events.{EventsAreGood}
use Rattle.main_vcs.specs.Soundness.{IsInput}
use Rattle.command_words.specs.Words.{Run, Word, command}
use Rattle.resolve_cli.specs.declared.status.LinkError.{LinkError}
use Rattle.resolve_cli.specs.declared.status.LinkError.TheVariants.{CodeTooLong}
use Rattle.resolve_cli.specs.declared.status.Status.{Status}
use Rattle.resolve_cli.specs.declared.status.Status.TheVariants as status
use Rattle.resolve_cli.specs.Answer as stage
use Rattle.resolve_cli.specs.Answer.{Answers, ComponentsAnswer, FileAnswer, ModuleAnswer, RunAnswer, TextAnswer, image_of}
use Rattle.resolve_cli.specs.Headline as headline
use Rattle.resolve_cli.specs.Headline.{Headline, IsRight, IsRunEnd, RunsRight, StandsAt}
use Rattle.resolve_cli.proofs.Inputs.{is_input}
use Rattle.resolve_cli.proofs.Right.{RunLaws, right}

pub one_error : (e : LinkError) → e ≡ CodeTooLong
one_error CodeTooLong = refl

-- the statuses of runs that were not cut
abbrev IsRun : Status → Type 0
IsRun status.Done = Unit {0}
IsRun (status.StepsSpent steps) = Unit {0}
IsRun _ = ⊥

is_run : (s : Status) → IsRunEnd s → IsRun s
is_run s (inl is) = subst IsRun (sym is) tt
is_run s (inr (n, is)) = subst IsRun (sym is) tt

-- where a run stands
abbrev Stands : Module → List ℤ → ℕ → Status → List ℕ → Type 0
Stands m numbers steps s out = (t : State) × (after (image_of m) numbers steps ≡ Some t) × StandsAt s m steps t × (out ≡ lines t.output)

run_stands : (bytes : List ℕ) (m : Module) (numbers : List ℤ) (steps : ℕ) (s : Status) (out : List ℕ) → IsRight bytes m → IsInput numbers → RunAnswer m numbers steps s out → Stands m numbers steps s out
run_stands bytes m numbers steps s out right input (stage.halted t reached over is lined) =
    (t, reached, headline.over is over (right.allowed numbers input steps t reached over), lined)
run_stands bytes m numbers steps s out right input (stage.spent t reached goes is lined) = (t, reached, headline.goes_on is goes, lined)

module _ (formed : BuiltIsFormed) (laws : RunLaws) (good : EventsAreGood) (words : List Word) (files : Files) (input : List ℕ) (s : Status) (out : List ℕ) (run : IsRun s) where
  module_runs : (name : List ℕ) (steps : ℕ) (bytes : List ℕ) (cs : List Component) (m : Module) → command words ≡ Some (Run name steps) → files name ≡ Some bytes → Spells bytes cs → shape_of cs ≡ shape.Module m → mistake_of cs ≡ None → ModuleAnswer m steps input s out → RunsRight words files input s out
  module_runs name steps bytes cs m says holds spells of without (stage.unproved u first is nothing) = absurd (subst IsRun is run)
  module_runs name steps bytes cs m says holds spells of without (stage.too_long accepted long is nothing) = absurd (subst IsRun is run)
  module_runs name steps bytes cs m says holds spells of without (stage.bad_input built e fails is nothing) = absurd (subst IsRun is run)
  module_runs name steps bytes cs m says holds spells of without (stage.ran built numbers reads a) =
      let rights = right laws m (formed cs m of) built.accepted good bytes cs spells of without in
      let at = run_stands bytes m numbers steps s out rights (is_input input numbers reads) a in
      record { name = name; steps = steps; bytes = bytes; spelled = m; numbers = numbers; state = at.0; says = says; holds = holds; right = rights; reads = reads; reached = at.1; stands = at.2; written = at.3 }

  components_run : (name : List ℕ) (steps : ℕ) (bytes : List ℕ) (cs : List Component) → command words ≡ Some (Run name steps) → files name ≡ Some bytes → Spells bytes cs → ComponentsAnswer cs steps input s out → RunsRight words files input s out
  components_run name steps bytes cs says holds spells (stage.unbuilt component at not is nothing) = absurd (subst IsRun is run)
  components_run name steps bytes cs says holds spells (stage.mistaken m e of wrong is nothing) = absurd (subst IsRun is run)
  components_run name steps bytes cs says holds spells (stage.checked m of without a) = module_runs name steps bytes cs m says holds spells of without a

  text_runs : (name : List ℕ) (steps : ℕ) (bytes : List ℕ) → command words ≡ Some (Run name steps) → files name ≡ Some bytes → TextAnswer name bytes steps input s out → RunsRight words files input s out
  text_runs name steps bytes says holds (stage.lexical e refuses is nothing) = absurd (subst IsRun is run)
  text_runs name steps bytes says holds (stage.syntax_error e refused is nothing) = absurd (subst IsRun is run)
  text_runs name steps bytes says holds (stage.spelled cs spells a) = components_run name steps bytes cs says holds spells a

  file_runs : (name : List ℕ) (steps : ℕ) (bytes : List ℕ) → command words ≡ Some (Run name steps) → files name ≡ Some bytes → FileAnswer name bytes steps input s out → RunsRight words files input s out
  file_runs name steps bytes says holds (stage.long many is nothing) = absurd (subst IsRun is run)
  file_runs name steps bytes says holds (stage.short few a) = text_runs name steps bytes says holds a

  words_run : Answers words files input s out → RunsRight words files input s out
  words_run (stage.no_reading none is nothing) = absurd (subst IsRun is run)
  words_run (stage.not_built other is nothing) = absurd (subst IsRun is run)
  words_run (stage.no_file name steps says missing is nothing) = absurd (subst IsRun is run)
  words_run (stage.file name steps bytes says holds a) = file_runs name steps bytes says holds a

pub answers_run_right : BuiltIsFormed → RunLaws → EventsAreGood → Headline
answers_run_right formed laws good words files input s out a end = words_run formed laws good words files input s out (is_run s end) a
