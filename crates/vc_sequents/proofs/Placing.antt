-- Hypotheses with formulas in the place of one.
use Rattle.std.proofs.Common.{◌≡◌, ap, refl, ℕ, zero, suc, ◌+◌, ◌<◌, List, [], ◌∷◌, ◌++◌, length, take, drop, arith, add-one}
use Rattle.math_terms.specs.declared.term.Term.{Term}
use Rattle.vc_sequents.specs.Splitting.{in_place}

placed : (k : ℕ) (new hyps : List Term) → k < length hyps → in_place k new hyps ≡ (take k hyps ++ new) ++ drop (suc k) hyps
placed k new [] h = absurd (omega arith)
placed zero new (f ∷ fs) h = refl
placed (suc k) new (f ∷ fs) h = ap (λ gs. f ∷ gs) (placed k new fs (omega arith))

-- those before the place, the new ones, and those behind
pub in_place-parts : (k : ℕ) (new hyps : List Term) → k < length hyps → in_place k new hyps ≡ (take k hyps ++ new) ++ drop (k + 1) hyps
in_place-parts k new hyps h = rw add-one (placed k new hyps h)
