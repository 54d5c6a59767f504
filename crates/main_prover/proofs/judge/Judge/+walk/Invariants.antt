use Rattle.std.proofs.Common.{ℕ, ◌+◌, ◌*◌, map}
use Rattle.std.specs.Prelude.{sum}
use Rattle.main_prover.specs.working.Remaining.{stmt_count}
use Rattle.main_prover.specs.working.Remaining.{weights}
use Rattle.main_prover.proofs.judge.Judge.+walk.Given as goal

abbrev pub decreases-walk : goal.decreases-walk
decreases-walk l = weights (map (λ xs. xs.now) l.todo.items) + 1

abbrev pub decreases-go_on : goal.decreases-go_on
decreases-go_on l = weights (map (λ xs. xs.now) l.todo.items) + 2

abbrev pub decreases-step : goal.decreases-step
decreases-step l = weights (map (λ xs. xs.now) l.todo.items) + 8 * stmt_count l.x.now

abbrev pub decreases-one_path : goal.decreases-one_path
decreases-one_path l = weights (map (λ xs. xs.now) l.todo.now) + 8 * sum (map stmt_count l.xs.now) + 3

abbrev pub decreases-two_paths : goal.decreases-two_paths
decreases-two_paths l = weights (map (λ xs. xs.now) l.todo.items) + 8 * sum (map stmt_count l.a.now) + 8 * sum (map stmt_count l.b.now) + 4
