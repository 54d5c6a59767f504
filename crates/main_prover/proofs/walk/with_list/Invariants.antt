use Rattle.std.proofs.Common.{◌≡◌, map, take}
use Rattle.main_prover.proofs.walk.with_list.Given as goal

abbrev pub invariant-loop-list : goal.invariant-loop-list
invariant-loop-list l = map (λ xs. xs.now) l.out.items ≡ map (λ xs. xs.now) (take l.list-index l.lists)
