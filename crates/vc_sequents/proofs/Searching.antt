-- The search for the formula that is split.
use Rattle.std.proofs.Common.{◌≡◌, ◌∙◌, ap, ℕ, suc, ◌+◌, ◌-◌, ◌<◌, List, length, None, Some, arith}
use Rattle.vc_sequents.specs.declared.sequent.Sequent.{Sequent}
use Rattle.vc_sequents.specs.Splitting.{or_next, split_from, split_goal, split_hypothesis, split_of}

from_step : (s : Sequent) (k : ℕ) → k < length s.hyps → split_from k (length s.hyps - k) s ≡ or_next (split_hypothesis s k) (split_from (k + 1) (length s.hyps - (k + 1)) s)
from_step s k h =
    let e : length s.hyps - k ≡ suc (length s.hyps - (k + 1)) = omega arith in
    ap (λ n. split_from k n s) e

-- a hypothesis that is reached and gives something
pub split_at_hypothesis : (s : Sequent) (k : ℕ) (ss : List Sequent) →
    split_of s ≡ split_from k (length s.hyps - k) s → k < length s.hyps → split_hypothesis s k ≡ Some ss → split_of s ≡ Some ss
split_at_hypothesis s k ss reached within e =
    reached ∙ from_step s k within ∙ ap (λ o. or_next o (split_from (k + 1) (length s.hyps - (k + 1)) s)) e

-- a hypothesis that is reached and gives nothing
pub split_behind_hypothesis : (s : Sequent) (k : ℕ) →
    split_of s ≡ split_from k (length s.hyps - k) s → k < length s.hyps → split_hypothesis s k ≡ None → split_of s ≡ split_from (k + 1) (length s.hyps - (k + 1)) s
split_behind_hypothesis s k reached within e =
    reached ∙ from_step s k within ∙ ap (λ o. or_next o (split_from (k + 1) (length s.hyps - (k + 1)) s)) e

-- the goal, where no hypothesis gives anything
pub split_at_goal : (s : Sequent) (k : ℕ) → split_of s ≡ split_from k (length s.hyps - k) s → length s.hyps ≡ k → split_of s ≡ split_goal s
split_at_goal s k reached e =
    let z : length s.hyps - k ≡ 0 = omega arith in
    reached ∙ ap (λ m. split_from k m s) z
