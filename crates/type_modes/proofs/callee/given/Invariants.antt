use Rattle.std.proofs.Common.{◌≡◌, drop}
use Rattle.std.specs.List.{find, zip}
use Rattle.std.specs.Str.{bytes_eq}
use Rattle.res_ast.specs.declared.facility.FacArg.{FacArg}
use Rattle.res_ast.specs.declared.heading.Formal.{Formal}
use Rattle.type_modes.proofs.callee.given.Given as goal

abbrev pub invariant-loop-k : goal.invariant-loop-k
invariant-loop-k l =
    find (λ (p : Formal × FacArg). bytes_eq l.name p.0.name) (zip l.formals l.args) ≡ find (λ (p : Formal × FacArg). bytes_eq l.name p.0.name) (zip (drop l.k l.formals) (drop l.k l.args))
