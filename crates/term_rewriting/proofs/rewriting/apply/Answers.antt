use Rattle.std.proofs.Common.{rules}
use Rattle.term_rewriting.specs.Rewriting.{used}
use Rattle.term_rewriting.proofs.Truths.{truths_kept}
use Rattle.term_rewriting.proofs.rewriting.apply.Goals as goal

pub returns-clause-exact : goal.returns-clause-exact
returns-clause-exact c = search rules

pub returns-clause-truth : goal.returns-clause-truth
returns-clause-truth c = λ answered.
    truths_kept c.rules_keep_truth.ensures c.args.vars.now c.args.rule (used c.args.rule c.args.with c.args.hyps.now) c.args.position.now c.args.f.now c.rewrite.result (returns-clause-exact c answered)
