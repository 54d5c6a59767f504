use Rattle.std.proofs.Common.{ℕ, List, subst, sym}
use Rattle.term_cells.specs.Placed.{AllStand}
use Rattle.cert_check.proofs.Walks.{linear_told}
use Rattle.cert_check.proofs.path.Path.allows_linear.Goals as goal

pub returns-in-Ok-clause-exact : goal.returns-in-Ok-clause-exact
returns-in-Ok-clause-exact c = λ s same standing.
    let all = subst (λ (ps : List ℕ). AllStand c.args.self.now.cells.0 s.hyps ps) (sym c.from.ensures) standing.hyps_stand in
    linear_told c.args.vars.now s same c.args.rows.now c.args.lines.now c.in-Ok.holds (c.in-Ok.ensures.exact s.hyps s.goal (record { hyps_stand = all; goal_stands = standing.goal_stands }))
