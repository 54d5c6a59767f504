use Rattle.std.proofs.Common.{ap, ℕ, List}
use Rattle.cert_check.proofs.Opening.{loaded}
use Rattle.cert_check.proofs.path.Path.load.Goals as goal

pub returns-clause-standing : goal.returns-clause-standing
returns-clause-standing c =
    loaded c.standing_lasts.ensures c.load_all.new.self.cells c.load.new.self _ c.load.ensures.grown c.truncate-2.new.self.0 c.load_all.new.self.places.0 (ap (λ (p : List ℕ × ℕ). p.0) c.truncate-2.ensures)
    c.args.s.now c.as_slice.result.now c.as_slice.ensures c.in_ok-load_all.ensures.standing c.load.result c.load.ensures.standing
