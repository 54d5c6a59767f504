use Rattle.std.proofs.Common.{ℕ, List, subst, sym}
use Rattle.cert_check.specs.working.Path.{StandsIn}
use Rattle.cert_check.proofs.Walks.{hyp_gives}
use Rattle.cert_check.proofs.path.Path.allows.Goals as goal

pub returns-in-Hyp-clause-exact : goal.returns-in-Hyp-clause-exact
returns-in-Hyp-clause-exact c = λ s same standing unsplit.
    let here = subst (λ (ps : List ℕ). StandsIn c.args.self.now.cells.0 ps c.args.goal s) (sym c.from-hyps.ensures) standing in
    hyp_gives s c.args.self.now.cells.0 c.from-hyps.result.now c.args.goal here c.args.step.now c.in-Hyp.k c.in-Hyp.is c.allows_hyp.result c.allows_hyp.ensures
