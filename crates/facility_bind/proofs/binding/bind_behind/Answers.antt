use Rattle.std.proofs.Common.{◌≡◌, ◌⊎◌, subst, Ok, Err, MatchResult}
use Rattle.facility_bind.specs.declared.error.ArgError.TheVariants.{NoMemory}
use Rattle.facility_bind.specs.declared.scope.Scope.{Scope}
use Rattle.facility_bind.specs.Bounds.{bound_in}
use Rattle.facility_bind.proofs.binding.bind_behind.Goals as goal

pub returns : goal.returns
returns c =
    subst (λ (s : Scope). MatchResult c.bind_in.result (λ b. bound_in c.args.table.now s c.args.declaration.now ≡ Ok b) (λ e. (e ≡ NoMemory) ⊎ (bound_in c.args.table.now s c.args.declaration.now ≡ Err e))) c.in_ok-scope.ensures c.bind_in.ensures
