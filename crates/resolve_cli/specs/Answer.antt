-- What a command answers: its status and the bytes for out, in the order of work.
use Rattle.std.specs.Prelude.{◌≡◌, ◌≢◌, ℕ, ℤ, ◌<◌, ◌≤◌, List, [], ◌∷◌, length, Some, None, Ok, Err}
use Rattle.std.specs.List.{AllByRecursion}
use Rattle.edge_io.specs.declared.numbers.InputError.{InputError}
use Rattle.edge_io.specs.Files.{Files}
use Rattle.edge_io.specs.Numbers.{reading}
use Rattle.res_lexer.specs.declared.token.LexError.{LexError}
use Rattle.res_lexer.specs.Tokens.{Refuses}
use Rattle.res_ast.specs.declared.component.Component.{Component}
use Rattle.expr_parser.specs.declared.syntax.SyntaxError.{SyntaxError}
use Rattle.module_parser.specs.Spelling.{IsRefused, Spells}
use Rattle.source_meaning.specs.declared.linked.Linked.{Linked}
use Rattle.source_meaning.specs.declared.linked.TypeForm.TheVariants as type
use Rattle.stack_machine.specs.declared.image.Image.{Image}
use Rattle.stack_machine.specs.Code.{code_of}
use Rattle.stack_machine.specs.Lines.{lines}
use Rattle.stack_machine.specs.Machine.{State, after}
use Rattle.stack_machine.specs.Refusal.{most_instructions}
use Rattle.main_form.specs.declared.module.Module.{Module}
use Rattle.main_form.specs.declared.file.Shape.TheVariants as shape
use Rattle.main_form.specs.Shape.{shape_of}
use Rattle.component_checks.specs.declared.mistake.Mistake.{Mistake}
use Rattle.component_checks.specs.Checks.{mistake_of}
use Rattle.main_vcs.specs.Linking.{main_of}
use Rattle.main_vcs.specs.Walk.{conditions_of}
use Rattle.main_prover.specs.declared.proving.Unproved.{Unproved}
use Rattle.main_prover.specs.Proving.{IsFirstUnproved, IsProved}
use Rattle.command_words.specs.Words.{Word, Other, Run, command, read_words}
use Rattle.resolve_cli.specs.declared.status.LinkError.TheVariants.{CodeTooLong}
use Rattle.resolve_cli.specs.declared.status.Status.{Status}
use Rattle.resolve_cli.specs.declared.status.Status.TheVariants as status
use Rattle.report_lines.specs.Lines.{lex_line, mistake_line, not_built_line, syntax_line, unproved_line}

-- A module as a linked program, and its code.
abbrev pub linked_of : Module → Linked
linked_of m = record { instances = []; types = type.Int ∷ type.Bool ∷ []; procs = main_of m ∷ []; main = 0 }

abbrev pub image_of : Module → Image
image_of m = code_of (linked_of m) (main_of m)

-- all conditions of a module count as proved
abbrev pub IsAccepted : Module → Type 0
IsAccepted m = AllByRecursion (IsProved m) (conditions_of m)

-- The module is accepted, and its code is not too long.
pub record IsBuilt (m : Module) : Type 0 where
  pub accepted : IsAccepted m
  pub short : length (image_of m).code ≤ most_instructions

-- What the machine answers on a module's image, after so many instructions.
pub data RunAnswer (m : Module) (numbers : List ℤ) (steps : ℕ) (s : Status) (out : List ℕ) : Type 0 where
  halted : (t : State) → after (image_of m) numbers steps ≡ Some t → t.frames ≡ [] → s ≡ status.Done → out ≡ lines t.output → RunAnswer m numbers steps s out
  spent : (t : State) → after (image_of m) numbers steps ≡ Some t → t.frames ≢ [] → s ≡ status.StepsSpent steps → out ≡ lines t.output → RunAnswer m numbers steps s out

-- What a module answers: its first unproved condition, that its code is too long, what is wrong with the input, or its run.
pub data ModuleAnswer (m : Module) (steps : ℕ) (input : List ℕ) (s : Status) (out : List ℕ) : Type 0 where
  unproved : (u : Unproved) → IsFirstUnproved m u → s ≡ status.Refused (unproved_line m.name u.number u.kind u.at) → out ≡ [] → ModuleAnswer m steps input s out
  too_long : IsAccepted m → most_instructions < length (image_of m).code → s ≡ status.LinkRefused CodeTooLong → out ≡ [] → ModuleAnswer m steps input s out
  bad_input : IsBuilt m → (e : InputError) → reading input ≡ Err e → s ≡ status.BadInput e → out ≡ [] → ModuleAnswer m steps input s out
  ran : IsBuilt m → (numbers : List ℤ) → reading input ≡ Ok numbers → RunAnswer m numbers steps s out → ModuleAnswer m steps input s out

-- What components answer: they are not of the form that is built; or they are a module, with a mistake in its names, arguments, sorts, types
-- or modes, or without one.
pub data ComponentsAnswer (cs : List Component) (steps : ℕ) (input : List ℕ) (s : Status) (out : List ℕ) : Type 0 where
  unbuilt : (component : List ℕ) (at : ℕ) → shape_of cs ≡ shape.NotBuilt component at → s ≡ status.Refused (not_built_line component at) → out ≡ [] → ComponentsAnswer cs steps input s out
  mistaken : (m : Module) (e : Mistake) → shape_of cs ≡ shape.Module m → mistake_of cs ≡ Some e → s ≡ status.Refused (mistake_line m.name e) → out ≡ [] → ComponentsAnswer cs steps input s out
  checked : (m : Module) → shape_of cs ≡ shape.Module m → mistake_of cs ≡ None → ModuleAnswer m steps input s out → ComponentsAnswer cs steps input s out

-- What a file's text answers, under the name of the file: it has no tokens, its tokens are refused, or it spells components.
pub data TextAnswer (name bytes : List ℕ) (steps : ℕ) (input : List ℕ) (s : Status) (out : List ℕ) : Type 0 where
  lexical : (e : LexError) → Refuses bytes e → s ≡ status.Refused (lex_line name e) → out ≡ [] → TextAnswer name bytes steps input s out
  syntax_error : (e : SyntaxError) → IsRefused bytes e → s ≡ status.Refused (syntax_line name e) → out ≡ [] → TextAnswer name bytes steps input s out
  spelled : (cs : List Component) → Spells bytes cs → ComponentsAnswer cs steps input s out → TextAnswer name bytes steps input s out

-- the most bytes of a component's file
unfoldable pub most_component_bytes : ℕ
most_component_bytes = 1048576

-- What a file answers that has these bytes.
pub data FileAnswer (name bytes : List ℕ) (steps : ℕ) (input : List ℕ) (s : Status) (out : List ℕ) : Type 0 where
  long : most_component_bytes < length bytes → s ≡ status.FileTooLong name → out ≡ [] → FileAnswer name bytes steps input s out
  short : length bytes ≤ most_component_bytes → TextAnswer name bytes steps input s out → FileAnswer name bytes steps input s out

-- What a command answers over these files and this input. Faults of the outside and want of memory are no answers.
pub data Answers (words : List Word) (files : Files) (input : List ℕ) (s : Status) (out : List ℕ) : Type 0 where
  no_reading : read_words words ≡ None → s ≡ status.BadWords → out ≡ [] → Answers words files input s out
  not_built : command words ≡ Some Other → s ≡ status.NotBuilt → out ≡ [] → Answers words files input s out
  no_file : (name : List ℕ) (steps : ℕ) → command words ≡ Some (Run name steps) → files name ≡ None → s ≡ status.NotFound name → out ≡ [] → Answers words files input s out
  file : (name : List ℕ) (steps : ℕ) (bytes : List ℕ) → command words ≡ Some (Run name steps) → files name ≡ Some bytes → FileAnswer name bytes steps input s out → Answers words files input s out
