-- What a rule gives at a position of a term.
use Rattle.std.specs.Prelude.{ℕ, zero, suc, List, [], ◌∷◌, None, option_and_then, option_map, slice_get}
use Rattle.math_terms.specs.declared.term.Term.{Term}
use Rattle.math_terms.specs.declared.term.Term.TheOpen.{Term-F}
use Rattle.math_terms.specs.declared.term.Term.TheViews.{roll-Term, out-Term}
use Rattle.math_terms.specs.Heads.{children}
use Rattle.math_terms.specs.Positions.{with_child}
use Rattle.str_theory.specs.Rules.{Given}

-- what a rule gives at a child, with the node around it
abbrev pub around : ℕ → Term-F Term → Term × List Term → Term × List Term
around k x r = (roll-Term (with_child k r.0 x), r.1)

-- The whole term, with what the rule gives in the place of the node at the position, and the side conditions.
abbrev pub given_at : List ℕ → (Term → Given) → Term → Given
given_at [] rule t = rule t
given_at (zero ∷ ps) rule t = None
given_at (suc k ∷ ps) rule t =
    option_and_then (λ child. option_map (around k (out-Term t)) (given_at ps rule child)) (slice_get (children (out-Term t)) k)
