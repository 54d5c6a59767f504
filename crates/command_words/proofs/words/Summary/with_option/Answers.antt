use Rattle.std.proofs.Common.{not, refl, ap, ◌∙◌}
use Rattle.command_words.proofs.Gathering.{and-when, and-unless, summary-option}
use Rattle.command_words.proofs.words.Summary.with_option.Goals as goal
use Rattle.command_words.proofs.words.Summary.with_option.Goals.{then-self, else-self, then-self-2, else-self-2}

pub returns-clause-more : goal.returns-clause-more
returns-clause-more c =
    λ os fs sums. summary-option
    os
    fs
    c.args.self
    _
    c.args.option
    c.args.value.now
    c.is_good_value-good.result
    c.is_good_value-good.ensures
    c.with.ensures
    (elim c.if-self.branch [ then-self w ↦ and-when _ _ _ w.if-self.true (w.result-is ∙ ap not c.has-again.ensures) | else-self w ↦ and-unless _ _ _ w.if-self.false w.result-is ])
    (elim c.if-self-2.branch [ then-self-2 w ↦ and-when _ _ _ w.if-self-2.true w.result-is | else-self-2 w ↦ and-unless _ _ _ w.if-self-2.false w.result-is ])
    (c.with-2.ensures os sums.limit)
    refl
    refl
    sums
