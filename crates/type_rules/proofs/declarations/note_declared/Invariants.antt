use Rattle.std.proofs.Common.{◌≡◌, ℕ, List, drop, take}
use Rattle.std.specs.List.{enumerate_from, flat_map}
use Rattle.std.specs.Option.{option_copied}
use Rattle.res_ast.specs.declared.facility.FacDecl.{FacDecl}
use Rattle.type_rules.specs.Breaches.{least_of}
use Rattle.type_rules.specs.declared.error.ModeError.{ModeError}
use Rattle.type_rules.specs.Declarations.{facility}
use Rattle.type_rules.specs.Origins.{scope_in}
use Rattle.type_rules.proofs.declarations.note_declared.Given as goal

abbrev pub invariant-loop-index : goal.invariant-loop-index
invariant-loop-index l =
    let rule : ℕ × FacDecl → List ModeError = λ d. facility l.table (scope_in (option_copied l.concept) (take d.0 l.declarations)) l.hides d.1 in
    least_of l.least (flat_map rule (enumerate_from l.index (drop l.index l.declarations))) ≡ least_of l.initial.least (flat_map rule (enumerate_from 0 l.declarations))
