use Rattle.std.proofs.Common.{length}
use Rattle.cell_rules.proofs.rewriting.Rule.+rewrite.Given as goal

abbrev pub decreases-rewrite : goal.decreases-rewrite
decreases-rewrite l = length l.position.now
