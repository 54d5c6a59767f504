-- When a sequent is valid.
use Rattle.std.specs.Prelude.{ℕ, ◌+◌, Bool, true, ◌&&◌, List, [], ◌∷◌, IsTrue}
use Rattle.std.specs.List.{list_all}
use Rattle.math_terms.specs.declared.term.Term.{Term}
use Rattle.math_terms.specs.declared.descriptor.Desc.{Desc}
use Rattle.math_terms.specs.Meaning.{Valuation}
use Rattle.math_terms.specs.Descriptors.{Interpretation, IsInterpretation, holds, member}

-- the variables from number k on lie in these descriptors
abbrev pub lies_from : Interpretation → Valuation → ℕ → List Desc → Bool
lies_from I w k [] = true
lies_from I w k (d ∷ ds) = member I w d (w k) && lies_from I w (k + 1) ds

-- For every interpretation of the type parameters, and every valuation that lies in the descriptors of the
-- variables, which are numbered from 1: if all hypotheses are true, then the goal is.
abbrev pub IsValid : ℕ → List Desc → List Term → Term → Type 0
IsValid params vars hyps goal =
    (I : Interpretation) → IsInterpretation params I → (w : Valuation) → IsTrue (lies_from I w 1 vars) → IsTrue (list_all (holds I w) hyps) → IsTrue (holds I w goal)
