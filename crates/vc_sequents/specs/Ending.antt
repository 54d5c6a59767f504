-- How much work a sequent may give: each split leaves less of it.
use Rattle.std.specs.Prelude.{◌≡◌, ℕ, zero, suc, ◌+◌, ◌*◌, ◌<◌, ◌≤◌, List, length, sum_by, Some}
use Rattle.math_terms.specs.declared.term.Term.{Term}
use Rattle.math_terms.specs.declared.term.Term.TheOpen.{Term-F}
use Rattle.math_terms.specs.declared.term.Term.TheFolds.{fold-Term}
use Rattle.vc_sequents.specs.declared.sequent.Sequent.{Sequent}
use Rattle.vc_sequents.specs.Splitting.{split_at}

-- What a formula gives weighs less than the formula.
abbrev pub weight_step : Term-F ℕ → ℕ
weight_step (Term-F.Truth b) = 1
weight_step (Term-F.Eq a b) = 2 * a + 2 * b + 5
weight_step (Term-F.Less a b) = 1
weight_step (Term-F.LessEq a b) = 1
weight_step (Term-F.Not a) = 2 * a + 2
weight_step (Term-F.And a b) = 2 * a + b + 5
weight_step (Term-F.Or a b) = 2 * a + b + 5
weight_step (Term-F.Implies a b) = 2 * a + b + 3
weight_step x = 0

abbrev pub weight : Term → ℕ
weight t = fold-Term ℕ weight_step t

-- the weight of a sequent
abbrev pub size : Sequent → ℕ
size s = sum_by weight s.hyps + weight s.goal

-- a power of three
unfoldable pub tripled : ℕ → ℕ
tripled zero = 1
tripled (suc n) = 3 * tripled n

-- the work that a sequent may give
unfoldable pub work : Sequent → ℕ
work s = tripled (size s)

-- Each sequent is some work, and one of its formulas gives at most two, which are less work together.
pub record SplitsEnd : Type 0 where
  pub some : (s : Sequent) → 1 ≤ work s
  pub few : (s : Sequent) (k : ℕ) (ss : List Sequent) → split_at k s ≡ Some ss → length ss ≤ 2
  pub less : (s : Sequent) (k : ℕ) (ss : List Sequent) → split_at k s ≡ Some ss → sum_by work ss < work s
