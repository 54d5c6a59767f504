-- When a condition counts as proved, by its kind and its goal.
use Rattle.std.specs.Prelude.{◌≡◌, ◌≤◌}
use Rattle.math_terms.specs.declared.term.Term.{Term}
use Rattle.math_terms.specs.Terms.{nodes, put}
use Rattle.vc_sequents.specs.declared.sequent.VcKind.{VcKind}
use Rattle.vc_sequents.specs.declared.sequent.VcKind.TheVariants as kind
use Rattle.main_form.specs.declared.module.Module.{Module}
use Rattle.main_vcs.specs.Terms.{empty_string}
use Rattle.main_prover.specs.Proving.{IsChain, IsTrueFormula}

abbrev pub IsTrueAtEnd : Term → Type 0
IsTrueAtEnd goal = (nodes goal ≤ 10000) × IsTrueFormula (put 2 empty_string goal)

abbrev pub IsComputedGoal : Module → VcKind → Term → Type 0
IsComputedGoal m k goal = (k ≡ kind.Ensures) × IsChain m.claim × IsTrueAtEnd goal
