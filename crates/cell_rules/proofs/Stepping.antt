-- A step down a position.
use Rattle.std.proofs.Common.{◌≡◌, ◌∙◌, ap, ℕ, suc, ◌-◌, ◌≤◌, List, ◌∷◌, Some, slice_get, arith}
use Rattle.std.specs.Prelude.{option_and_then, option_map}
use Rattle.math_terms.specs.declared.term.Term.{Term}
use Rattle.math_terms.specs.declared.term.Term.TheViews.{out-Term}
use Rattle.math_terms.specs.Heads.{children}
use Rattle.str_theory.specs.Positions.{around, given_at}
use Rattle.str_theory.specs.Rules.{Given}

pub given_below : (position : List ℕ) (first : ℕ) (below : List ℕ) (k : ℕ) (rule : Term → Given) (t u : Term) → position ≡ first ∷ below → 1 ≤ first → k ≡ first - 1 → slice_get (children (out-Term t)) k ≡ Some u
    → given_at position rule t ≡ option_map (around k (out-Term t)) (given_at below rule u)
given_below position first below k rule t u e low is f =
    let same : first ≡ suc k = omega (arith, low, is) in
    ap (λ ps. given_at ps rule t) (e ∙ ap (λ n. n ∷ below) same) ∙ ap (λ o. option_and_then (λ child. option_map (around k (out-Term t)) (given_at below rule child)) o) f
