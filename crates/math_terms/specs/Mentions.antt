-- Which variables stand in a term.
use Rattle.std.specs.Prelude.{◌≡◌, ℕ, ◌==◌, Bool, false}
use Rattle.std.specs.List.{list_any}
use Rattle.math_terms.specs.declared.term.Term.{Term}
use Rattle.math_terms.specs.declared.term.Term.TheOpen.{Term-F}
use Rattle.math_terms.specs.declared.term.Term.TheFolds.{fold-Term}
use Rattle.math_terms.specs.Heads.{children}
use Rattle.math_terms.specs.Meaning.{Valuation}
use Rattle.math_terms.specs.Descriptors.{Interpretation, value}

abbrev pub mentions_step : ℕ → Term-F Bool → Bool
mentions_step v (Term-F.Var k) = k == v
mentions_step v x = list_any (λ p. p) (children x)

-- variable v stands somewhere in the term
abbrev pub mentions : ℕ → Term → Bool
mentions v t = fold-Term Bool (mentions_step v) t

-- What is not mentioned does not matter: the value is the same under valuations that agree elsewhere.
abbrev pub OthersDoNotMatter : Type 0
OthersDoNotMatter =
    (v : ℕ) (t : Term) → mentions v t ≡ false → (I : Interpretation) (w u : Valuation) → ((k : ℕ) → (k == v) ≡ false → w k ≡ u k) → value I w t ≡ value I u t
