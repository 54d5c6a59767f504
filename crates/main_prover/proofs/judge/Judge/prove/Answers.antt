use Rattle.std.proofs.Common.{refl, sym, ◌∙◌}
use Rattle.std.proofs.lemmas.Bool.{false≢true}
use Rattle.main_prover.proofs.judge.Judge.prove.Goals as goal

pub returns-else-branch : goal.returns-else-branch
returns-else-branch c =
    (refl, λ d k s p. absurd (false≢true (sym c.if-branch.false ∙ (c.in_ok-is_proved.ensures d k s).1 p)))
