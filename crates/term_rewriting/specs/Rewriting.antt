-- What a rule gives at a position of a formula.
use Rattle.std.specs.Prelude.{ℕ, ◌==◌, List, map, Option, Some, None, IfSome, IsTrue, if◌then◌else◌}
use Rattle.math_terms.specs.declared.descriptor.Desc.{Desc}
use Rattle.math_terms.specs.declared.name.Name.{Name}
use Rattle.math_terms.specs.declared.name.TermError.{TermError}
use Rattle.math_terms.specs.declared.term.Term.{Term}
use Rattle.math_terms.specs.Descriptors.{Interpretation, IsInterpretation}
use Rattle.math_terms.specs.Kinding.{IsFormula}
use Rattle.math_terms.specs.Meaning.{Valuation}
use Rattle.math_terms.specs.Positions.{numbered}
use Rattle.math_terms.specs.Terms.{IsSizeRefusal, nodes}
use Rattle.math_terms.specs.Validity.{lies_from}
use Rattle.term_cells.specs.KindShown.{sorts_of_vars}
use Rattle.str_theory.specs.Laws.{Keeps}
use Rattle.str_theory.specs.Positions.{given_at}
use Rattle.str_theory.specs.Rules.{Given, rule}

-- The hypothesis that a rule uses, by its number from 1: rule 22 alone uses one.
abbrev pub used : ℕ → ℕ → List Term → Option Term
used r with hyps = if r == 22 then numbered with hyps else None

-- What rule r gives at a position, and which side conditions come with it.
abbrev pub rewritten : List (Name × Desc) → ℕ → List Term → ℕ → List ℕ → Term → Given
rewritten vars r hyps with position f = given_at position (rule (sorts_of_vars vars) (used r with hyps) r) f

-- Why a rewriting is refused: the new formula has more than 10,000 nodes, or memory has run out.
abbrev pub IsRewritingRefusal : TermError → Given → Type 0
IsRewritingRefusal e None = IsSizeRefusal e 0
IsRewritingRefusal e (Some new) = IsSizeRefusal e (nodes new.0)

-- Wherever the variables lie in their descriptors, and the formula and the used fact are formulas there, the new formula has the
-- truth of the old one where its side conditions and the fact are true.
abbrev pub KeepsTruth : List (Name × Desc) → Option Term → Term → Term × List Term → Type 0
KeepsTruth vars fact f new =
    (params : ℕ) (I : Interpretation) → IsInterpretation params I → (w : Valuation) → IsTrue (lies_from I w 1 (map (λ v. v.1) vars)) →
    IfSome fact (IsFormula I w) → IsFormula I w f → Keeps I w fact f new.0 new.1
