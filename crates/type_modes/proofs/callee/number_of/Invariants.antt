use Rattle.std.proofs.Common.{◌≡◌, ◌+◌, drop}
use Rattle.std.specs.List.{position_or_len}
use Rattle.std.specs.Str.{bytes_eq}
use Rattle.res_ast.specs.declared.procedure.Procedure.{Procedure}
use Rattle.type_rules.specs.Concepts.{procedures}
use Rattle.type_modes.proofs.callee.number_of.Given as goal

abbrev pub invariant-loop-k : goal.invariant-loop-k
invariant-loop-k l =
    let named = λ (p : Procedure). bytes_eq l.name p.heading.name in
    position_or_len named (procedures l.component) ≡ l.k + position_or_len named (drop l.k (procedures l.component))
