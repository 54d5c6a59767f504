-- Arguments and kinds, as far as both go.
use Rattle.std.proofs.Common.{◌≡◌, refl, Bool, List, [], ◌∷◌, length, ◌<◌, None, arith}
use Rattle.res_ast.specs.declared.facility.FacArg.{FacArg}
use Rattle.facility_bind.specs.declared.scope.Scope.{Scope}
use Rattle.facility_bind.specs.Arguments.{first_misfit}

-- no arguments, no misfit
pub no_misfit : (s : Scope) (kinds : List Bool) (args : List FacArg) → length args < 1 → None ≡ first_misfit s kinds args
no_misfit s [] args h = refl
no_misfit s (k ∷ ks) [] h = refl
no_misfit s (k ∷ ks) (a ∷ more) h = absurd (omega (arith, h))
