-- Two lists of parts side by side.
use Rattle.std.specs.Prelude.{◌≡◌, ℕ, ◌<◌, ◌⊎◌, true, List, [], ◌∷◌, Option, Some, None, Result, Ok, Err, length, map}
use Rattle.math_terms.specs.declared.term.Term.{Term}
use Rattle.term_cells.specs.declared.cell.Cell.{Cell}
use Rattle.term_cells.specs.Standing.{parts_stand, stands}
use Rattle.math_terms.specs.Terms.{nodes}
use Rattle.str_theory.specs.Rules.{Given, equal_parts, s31}
use Rattle.cell_rules.specs.declared.pairs.Heads.{Heads}
use Rattle.cell_rules.specs.declared.pairs.Pair.{Pair}
use Rattle.cell_rules.specs.declared.pairs.Pair.TheVariants as pair
use Rattle.cell_rules.specs.declared.rewritten.Full.{Full}

-- the first parts of both, and the rests
pub record HeadsAre (cells : List Cell) (left : ℕ) (ts us : List Term) (h : Heads) : Type 0 where
  pub first : Term
  pub firsts : List Term
  pub second : Term
  pub seconds : List Term
  pub left_is : ts ≡ first ∷ firsts
  pub right_is : us ≡ second ∷ seconds
  pub first_stands : stands cells first h.left ≡ true
  pub second_stands : stands cells second h.right ≡ true
  pub left_below : h.left_rest < left
  pub right_limit : ℕ
  pub left_stands : parts_stand cells (map (stands cells) firsts) h.left_rest left ≡ true
  pub right_stands : parts_stand cells (map (stands cells) seconds) h.right_rest right_limit ≡ true

-- both end, one alone ends, or both go on
abbrev pub PairIs : List Cell → ℕ → List Term → List Term → Pair → Type 0
PairIs cells left ts us pair.Ends = (ts ≡ []) × (us ≡ [])
PairIs cells left ts us pair.Uneven = ((t : Term) × (rest : List Term) × (ts ≡ t ∷ rest) × (us ≡ [])) ⊎ ((u : Term) × (rest : List Term) × (ts ≡ []) × (us ≡ u ∷ rest))
PairIs cells left ts us (pair.Heads h) = HeadsAre cells left ts us h

-- The formula that is given stands at the place; it has no side conditions.
abbrev pub FormulaStands : List Cell → Given → Result (Option ℕ) Full → Type 0
FormulaStands cells g (Ok None) = g ≡ None
FormulaStands cells g (Ok (Some p)) = (t : Term) × (g ≡ Some (t, [])) × (stands cells t p ≡ true)
FormulaStands cells g (Err e) = Unit {0}

-- whether a term is an equation of two tuples, and where their lists of parts are
abbrev pub TuplesAre : List Cell → Term → Option (ℕ × ℕ) → Type 0
TuplesAre cells t None = s31 t ≡ None
TuplesAre cells t (Some p) =
    (ts : List Term) × (us : List Term) × ((m : ℕ) × (parts_stand cells (map (stands cells) ts) p.0 m ≡ true)) × ((n : ℕ) × (parts_stand cells (map (stands cells) us) p.1 n ≡ true))
    × (s31 t ≡ equal_parts ts us) × (length ts < nodes t)
