-- What the walk of a substitution puts for a variable, and how many nodes a filling makes.
use Rattle.std.specs.Prelude.{ℕ, ◌+◌, min, List, Option, Some, None, slice_get}
use Rattle.math_terms.specs.declared.descriptor.Desc.{Desc}
use Rattle.math_terms.specs.declared.descriptor.Shape.TheViews.{out-Desc}
use Rattle.math_terms.specs.declared.insertion.Source.{Source}
use Rattle.math_terms.specs.declared.insertion.Source.TheVariants.{Given, Filled}
use Rattle.math_terms.specs.declared.term.Term.{Term}
use Rattle.math_terms.specs.declared.term.Term.TheOpen.{Term-F}
use Rattle.math_terms.specs.declared.term.Term.TheFolds.{fold-Term}
use Rattle.math_terms.specs.Positions.{numbered}
use Rattle.math_terms.specs.Terms.{count_up_to, nodes, nodes_step}
use Rattle.math_terms.specs.Filling.{filled}

abbrev pub meant : Source → Term
meant (Given t) = t.now
meant (Filled t vars descs) = filled vars.now descs.now t.now

-- how many nodes a term has when it is filled, where the count stops at most + 1
abbrev pub variable_count : ℕ → Option Term → ℕ
variable_count most None = min 1 (most + 1)
variable_count most (Some t) = min (nodes t) (most + 1)

abbrev pub initial_count : ℕ → Option Desc → ℕ → ℕ
initial_count most None n = min (1 + n) (most + 1)
initial_count most (Some d) n = count_up_to 0 n most (out-Desc d).initial

abbrev pub filled_count_step : ℕ → List Term → List Desc → Term-F ℕ → ℕ
filled_count_step most vars descs (Term-F.Var k) = variable_count most (numbered k vars)
filled_count_step most vars descs (Term-F.Initial k n) = initial_count most (slice_get descs k) n
filled_count_step most vars descs x = min (nodes_step x) (most + 1)

abbrev pub filled_count : ℕ → List Term → List Desc → Term → ℕ
filled_count most vars descs t = fold-Term ℕ (filled_count_step most vars descs) t
