use Rattle.std.proofs.Common.{◌≡◌, map, take}
use Rattle.type_inst.specs.Assertions.{assertion, names_in}
use Rattle.type_inst.proofs.assertion.+term.Given as goal

abbrev pub invariant-terms_of-loop-e : goal.invariant-terms_of-loop-e
invariant-terms_of-loop-e l = l.out ≡ map (assertion (names_in l.meanings l.types)) (take l.e-index l.exprs)
