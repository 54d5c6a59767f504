-- How many nodes the formulas of a split have at least.
use Rattle.std.proofs.Common.{◌≡◌, sym, ap, refl, subst, ℕ, zero, suc, ◌+◌, ◌<◌, ◌≤◌, List, [], ◌∷◌, length, take, drop, arith}
use Rattle.std.specs.List.{sum_by}
use Rattle.std.proofs.lemmas.List.Sums.{sum_by-cons, sum_by-append, sum-map}
use Rattle.math_terms.specs.declared.term.Term.{Term}
use Rattle.math_terms.specs.declared.term.Term.TheOpen.{Term-F}
use Rattle.math_terms.specs.declared.term.Term.TheViews.{out-Term}
use Rattle.math_terms.specs.declared.term.Term.TheFolds.{fold_out-Term, map-Term}
use Rattle.math_terms.specs.Terms.{nodes, nodes_step}
use Rattle.term_cells.specs.declared.cell.Cell.{Cell}
use Rattle.vc_sequents.specs.declared.sequent.Sequent.{Sequent}
use Rattle.vc_sequents.specs.Splitting as rule
use Rattle.vc_sequents.specs.Splitting.{GoalCase, in_place, with_case, with_goal_case}
use Rattle.cert_check.specs.declared.cases.Part.{Part}
use Rattle.cert_check.specs.declared.cases.Part.TheVariants.{At, Truth, Not, Two, OfNegations, AndNot}
use Rattle.cert_check.specs.working.Cases.{PartIs, made}
use Rattle.cert_check.specs.Need.{sequent_nodes}
use Rattle.term_cells.specs.Placed.{AllStand}
use Rattle.cert_check.proofs.Sizes.{not_nodes, and_nodes}

step_some : (x : Term-F ℕ) → 1 ≤ nodes_step x
step_some (Term-F.Num n) = omega arith
step_some x = omega arith

pub some_node : (t : Term) → 1 ≤ nodes t
some_node t = subst (λ n. 1 ≤ n) (sym (fold_out-Term ℕ nodes_step t)) (step_some (map-Term Term ℕ nodes (out-Term t)))

-- No more cells are made for a formula than it has nodes.
pub part_made : (cells : List Cell) (x : Part) (t : Term) → PartIs cells x t → made x ≤ nodes t
part_made cells (At p) t h = omega arith
part_made cells (Truth b) t h = some_node t
part_made cells (Not p) t h = some_node t
part_made cells (Two k p q) t h = some_node t
part_made cells (OfNegations k p q) t h = omega (arith, h.4.4, not_nodes h.0, not_nodes h.1)
part_made cells (AndNot p q) t h = omega (arith, ap nodes h.4, and_nodes h.0 (rule.not h.1), not_nodes h.1)

-- each formula has a node at least
pub counted : (ts : List Term) → length ts ≤ sum_by nodes ts
counted [] = omega arith
counted (t ∷ ts) = omega (arith, some_node t, sum_by-cons nodes t ts, counted ts)

pub one_total : (t : Term) (ts : List Term) → ts ≡ t ∷ [] → nodes t ≡ sum_by nodes ts
one_total t ts e = omega (arith, ap (sum_by nodes) e, sum_by-cons nodes t [])

pub two_total : (t u : Term) (ts : List Term) → ts ≡ t ∷ u ∷ [] → nodes t + nodes u ≡ sum_by nodes ts
two_total t u ts e = omega (arith, ap (sum_by nodes) e, sum_by-cons nodes t (u ∷ []), sum_by-cons nodes u [])

pub only_total : (t : Term) (g : GoalCase) → g ≡ ([], t) → nodes t ≡ sum_by nodes g.0 + nodes g.1
only_total t g e = omega (arith, ap (λ (x : GoalCase). sum_by nodes x.0) e, ap (λ (x : GoalCase). nodes x.1) e)

pub goal_total : (t u : Term) (g : GoalCase) → g ≡ (t ∷ [], u) → nodes t + nodes u ≡ sum_by nodes g.0 + nodes g.1
goal_total t u g e = omega (arith, ap (λ (x : GoalCase). sum_by nodes x.0) e, ap (λ (x : GoalCase). nodes x.1) e, sum_by-cons nodes t [])

pub in_place_total : (new : List Term) (k : ℕ) (hs : List Term) → k < length hs →
    sum_by nodes (take k hs) + sum_by nodes new + sum_by nodes (drop (suc k) hs) ≡ sum_by nodes (in_place k new hs)
in_place_total new k [] few = absurd (omega arith)
in_place_total new zero (h ∷ hs) few = omega (arith, sum_by-append nodes new hs)
in_place_total new (suc k) (h ∷ hs) few =
    omega (arith, sum_by-cons nodes h (take k hs), sum_by-cons nodes h (in_place k new hs), in_place_total new k hs (omega arith))

pub stand_counted : (cells : List Cell) (ts : List Term) (ps : List ℕ) → AllStand cells ts ps → length ps ≡ length ts
stand_counted cells [] [] h = refl
stand_counted cells [] (p ∷ ps) h = absurd h
stand_counted cells (t ∷ ts) [] h = absurd h
stand_counted cells (t ∷ ts) (p ∷ ps) h = omega (arith, stand_counted cells ts ps h.1)

pub sequent_total : (s : Sequent) → sum_by nodes s.hyps + nodes s.goal ≡ sequent_nodes s
sequent_total s = omega (arith, sum-map nodes s.hyps)

pub case_total : (s : Sequent) (k : ℕ) (ts : List Term) → sum_by nodes (in_place k ts s.hyps) + nodes s.goal ≡ sequent_nodes (with_case s k ts)
case_total s k ts = sequent_total (with_case s k ts)

pub goal_case_total : (s : Sequent) (g : GoalCase) → sum_by nodes s.hyps + (sum_by nodes g.0 + nodes g.1) ≡ sequent_nodes (with_goal_case s g)
goal_case_total s g = omega (arith, sum_by-append nodes s.hyps g.0, sequent_total (with_goal_case s g))
