-- The arguments of a declaration against the formals of its concept.
use Rattle.std.specs.Prelude.{ℕ, ◌==◌, Bool, true, false, not, List, length, Option, None, Some, if◌then◌else◌}
use Rattle.std.specs.Bool.{beq}
use Rattle.std.specs.List.{find, zip}
use Rattle.std.specs.Option.{option_map}
use Rattle.res_ast.specs.declared.facility.FacArg.{FacArg}
use Rattle.res_ast.specs.declared.facility.FacArg.TheVariants as arg
use Rattle.res_ast.specs.declared.facility.FacDecl.{FacDecl}
use Rattle.type_inst.specs.declared.types.FormalArg.{FormalArg}
use Rattle.type_inst.specs.declared.types.FormalArg.TheVariants as given
use Rattle.facility_bind.specs.declared.scope.Scope.{Scope}
use Rattle.facility_bind.specs.declared.error.ArgError.{ArgError}
use Rattle.facility_bind.specs.declared.error.ArgError.TheVariants.{ArgCount, ArgKind}
use Rattle.facility_bind.specs.Scopes.{argument}

-- A literal is a number, and so is the name of an Integer formal; any other name is a type, known or not.
abbrev pub is_type : FormalArg → Bool
is_type (given.Type t) = true
is_type (given.Number n) = false

-- the first word of an argument
abbrev pub place : FacArg → ℕ
place (arg.OfType t) = t.at
place (arg.Number at n) = at

-- an argument of another kind than its formal, which is a type or a number
abbrev pub misfits : Scope → Bool × FacArg → Bool
misfits s p = not (beq p.0 (is_type (argument s p.1)))

abbrev pub first_misfit : Scope → List Bool → List FacArg → Option ℕ
first_misfit s kinds args = option_map (λ p. place p.1) (find (misfits s) (zip kinds args))

abbrev pub kind_refusal : Option ℕ → Option ArgError
kind_refusal None = None
kind_refusal (Some at) = Some (ArgKind at)

-- The number of the arguments comes before their kinds.
abbrev pub refusal : Scope → List Bool → FacDecl → Option ArgError
refusal s kinds d = if length d.args == length kinds then kind_refusal (first_misfit s kinds d.args) else Some (ArgCount d.at)
