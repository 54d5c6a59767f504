use Rattle.std.proofs.Common.{◌≡◌, map, take}
use Rattle.main_vcs.specs.Linking.{linked_stmt}
use Rattle.main_prover.proofs.link.+statement.Given as goal

abbrev pub invariant-linked_stmts-loop-x : goal.invariant-linked_stmts-loop-x
invariant-linked_stmts-loop-x l = l.out ≡ map linked_stmt (take l.x-index l.xs)
