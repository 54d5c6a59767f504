-- How much room a certificate needs.
use Rattle.std.specs.Prelude.{ℕ, ◌+◌, ◌*◌, max, List, [], ◌∷◌, ◌++◌, length, map, sum, Option, Some, None}
use Rattle.math_terms.specs.Terms.{nodes}
use Rattle.vc_sequents.specs.declared.sequent.Sequent.{Sequent}
use Rattle.cert_form.specs.declared.cert.Step.{Step}
use Rattle.cert_form.specs.declared.cert.Step.TheVariants as step
use Rattle.cert_check.specs.Legality.{gives}

-- a sequent that still stands, with the nodes of the sequents above it, up to the root
abbrev pub Standing : Type 0
Standing = ℕ × Sequent

abbrev pub sequent_nodes : Sequent → ℕ
sequent_nodes s = sum (map nodes s.hyps) + nodes s.goal

-- the nodes on the path to a sequent, its own among them
abbrev pub path_nodes : Standing → ℕ
path_nodes p = p.0 + sequent_nodes p.1

-- 64 for each row that a step names or appends
abbrev pub row_room : Step → ℕ
row_room step.Same = 0
row_room (step.Hyp k) = 0
row_room (step.Absurd k) = 0
row_room (step.Clash k l) = 0
row_room (step.Linear rows lines) = 64 * (length rows + length lines)
row_room (step.Split k n) = 0
row_room (step.Subst k) = 0
row_room (step.Rewrite formula position rule with sides) = 0

abbrev pub below : Standing → Option (List Sequent) → (List Standing → ℕ) → ℕ
below p None go = 0
below p (Some ss) go = go (map (λ s. (path_nodes p, s)) ss)

-- The greatest need of the steps, up to and with the first that is not allowed. A step that is left over or missing needs nothing.
abbrev pub need_from : List Step → List Standing → ℕ
need_from [] ps = 0
need_from (st ∷ sts) [] = 0
need_from (st ∷ sts) (p ∷ ps) = max (path_nodes p + row_room st) (below p (gives st p.1) (λ new. need_from sts (new ++ ps)))

abbrev pub need_of : List Step → Sequent → ℕ
need_of steps s = need_from steps ((0, s) ∷ [])
