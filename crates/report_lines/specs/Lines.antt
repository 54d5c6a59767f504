-- The lines of reports: why a file or a component is refused.
use Rattle.std.specs.Prelude.{ℕ, List, [], ◌∷◌, ◌++◌, Option, None, Some, codes, decimal}
use Rattle.res_lexer.specs.declared.token.LexError.{LexError}
use Rattle.res_lexer.specs.declared.token.LexError.TheVariants.{BadByte, OpenComment, LongName, BigLiteral, NoMemory}
use Rattle.expr_parser.specs.declared.syntax.SyntaxError.{SyntaxError}
use Rattle.expr_parser.specs.declared.syntax.SyntaxKind.{SyntaxKind}
use Rattle.expr_parser.specs.declared.syntax.SyntaxKind.TheVariants as syntax_error
use Rattle.module_table.specs.declared.error.NameError.{NameError}
use Rattle.module_table.specs.declared.error.NameError.TheVariants as name_error
use Rattle.facility_bind.specs.declared.error.ArgError.{ArgError}
use Rattle.facility_bind.specs.declared.error.ArgError.TheVariants as arg_error
use Rattle.math_types.specs.declared.error.SortError.{SortError}
use Rattle.math_types.specs.declared.error.SortError.TheVariants as sort_error
use Rattle.type_rules.specs.declared.error.ModeError.{ModeError}
use Rattle.type_rules.specs.declared.error.ModeError.TheVariants as mode_error
use Rattle.component_checks.specs.declared.mistake.Mistake.{Mistake}
use Rattle.component_checks.specs.declared.mistake.Mistake.TheVariants as mistake
use Rattle.vc_sequents.specs.declared.sequent.VcKind.{VcKind}
use Rattle.vc_sequents.specs.declared.sequent.VcKind.TheVariants as vc_kind

-- `refused NAME: KIND at N`
abbrev pub refused_line : List ℕ → List ℕ → ℕ → List ℕ
refused_line name kind at = codes "refused " ++ (name ++ (codes ": " ++ (kind ++ (codes " at " ++ decimal at))))

abbrev pub lex_kind : LexError → List ℕ
lex_kind (BadByte at) = codes "BadByte"
lex_kind (OpenComment at) = codes "OpenComment"
lex_kind (LongName at) = codes "LongName"
lex_kind (BigLiteral at) = codes "BigLiteral"
lex_kind NoMemory = codes "NoMemory"

abbrev pub lex_place : LexError → ℕ
lex_place (BadByte at) = at
lex_place (OpenComment at) = at
lex_place (LongName at) = at
lex_place (BigLiteral at) = at
lex_place NoMemory = 0

-- a text without tokens, under the name of its file
abbrev pub lex_line : List ℕ → LexError → List ℕ
lex_line file e = refused_line file (lex_kind e) (lex_place e)

abbrev pub syntax_kind : SyntaxKind → List ℕ
syntax_kind syntax_error.Expected = codes "Expected"
syntax_kind syntax_error.TooDeep = codes "TooDeep"
syntax_kind syntax_error.EndName = codes "EndName"
syntax_kind syntax_error.NoMemory = codes "NoMemory"

-- a text whose tokens are refused, under the name of its file
abbrev pub syntax_line : List ℕ → SyntaxError → List ℕ
syntax_line file e = refused_line file (syntax_kind e.kind) e.at

-- a component of another form, under its own name
abbrev pub not_built_line : List ℕ → ℕ → List ℕ
not_built_line component at = refused_line component (codes "NotBuilt") at

-- What is told of a mistake: its kind, the name that it tells, and its place, where it has them.
pub record Told : Type 0 where
  pub kind : List ℕ
  pub name : Option (List ℕ)
  pub at : Option ℕ

abbrev pub tells : List ℕ → Option (List ℕ) → Option ℕ → Told
tells kind name at = record { kind = kind; name = name; at = at }

abbrev pub name_told : NameError → Told
name_told (name_error.Duplicate name) = tells (codes "Duplicate") (Some name) None
name_told (name_error.Unknown name at) = tells (codes "Unknown") (Some name) (Some at)
name_told (name_error.WrongKind name at) = tells (codes "WrongKind") (Some name) (Some at)
name_told name_error.NoMemory = tells (codes "NoMemory") None None

abbrev pub arg_told : ArgError → Told
arg_told (arg_error.ArgCount at) = tells (codes "ArgCount") None (Some at)
arg_told (arg_error.ArgKind at) = tells (codes "ArgKind") None (Some at)
arg_told arg_error.NoMemory = tells (codes "NoMemory") None None

abbrev pub sort_told : SortError → Told
sort_told (sort_error.Sort at) = tells (codes "Sort") None (Some at)
sort_told sort_error.NoMemory = tells (codes "NoMemory") None None

abbrev pub mode_told : ModeError → Told
mode_told (mode_error.OfType at) = tells (codes "Type") None (Some at)
mode_told (mode_error.Mode at) = tells (codes "Mode") None (Some at)
mode_told (mode_error.Repeated at) = tells (codes "Repeated") None (Some at)
mode_told (mode_error.Changing at name) = tells (codes "Changing") (Some name) (Some at)
mode_told (mode_error.Order at) = tells (codes "Order") None (Some at)
mode_told (mode_error.Stream at) = tells (codes "Stream") None (Some at)
mode_told (mode_error.MainHeading at) = tells (codes "MainHeading") None (Some at)
mode_told (mode_error.Missing at name) = tells (codes "Missing") (Some name) (Some at)
mode_told mode_error.NoMemory = tells (codes "NoMemory") None None

abbrev pub told : Mistake → Told
told (mistake.Names e) = name_told e
told (mistake.Args e) = arg_told e
told (mistake.Sorts e) = sort_told e
told (mistake.Modes e) = mode_told e

-- `refused NAME: KIND NAME at N`, without the name or the place that is not told
abbrev pub with_name : Option (List ℕ) → List ℕ
with_name None = []
with_name (Some name) = codes " " ++ name

abbrev pub with_place : Option ℕ → List ℕ
with_place None = []
with_place (Some at) = codes " at " ++ decimal at

abbrev pub told_line : List ℕ → Told → List ℕ
told_line component t = codes "refused " ++ (component ++ (codes ": " ++ (t.kind ++ (with_name t.name ++ with_place t.at))))

-- a component with a mistake, under its own name
abbrev pub mistake_line : List ℕ → Mistake → List ℕ
mistake_line component m = told_line component (told m)

-- the kinds of conditions
abbrev pub kind_text : VcKind → List ℕ
kind_text vc_kind.Facility = codes "facility"
kind_text vc_kind.Constraint = codes "constraint"
kind_text vc_kind.InitConvention = codes "init_convention"
kind_text vc_kind.InitEnsures = codes "init_ensures"
kind_text vc_kind.Requires = codes "requires"
kind_text vc_kind.Range = codes "range"
kind_text vc_kind.Divisor = codes "divisor"
kind_text vc_kind.Entry = codes "entry"
kind_text vc_kind.Keep = codes "keep"
kind_text vc_kind.Progress = codes "progress"
kind_text vc_kind.Metric = codes "metric"
kind_text vc_kind.Ensures = codes "ensures"
kind_text vc_kind.ModeExit = codes "mode_exit"
kind_text vc_kind.Convention = codes "convention"

-- an unproved condition of Main, under the name of the module: `refused NAME: Unproved NAME.Main.K KIND at N`
abbrev pub unproved_kind : List ℕ → ℕ → VcKind → List ℕ
unproved_kind name number kind = codes "Unproved " ++ (name ++ (codes ".Main." ++ (decimal number ++ (codes " " ++ kind_text kind))))

abbrev pub unproved_line : List ℕ → ℕ → VcKind → ℕ → List ℕ
unproved_line name number kind at = refused_line name (unproved_kind name number kind) at
