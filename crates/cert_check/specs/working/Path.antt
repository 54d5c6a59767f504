-- How formulas in cells show a sequent.
use Rattle.std.specs.Prelude.{◌≡◌, ℕ, suc, ◌+◌, ◌<◌, ◌≤◌, Bool, true, List, ◌++◌, length, Option, None, Some, slice_get}
use Rattle.math_terms.specs.declared.term.Term.{Term}
use Rattle.term_cells.specs.declared.cell.Cell.{Cell}
use Rattle.term_cells.specs.Placed.{AllStand}
use Rattle.term_cells.specs.Standing.{stands}
use Rattle.vc_sequents.specs.declared.sequent.Sequent.{Sequent}

-- the k-th entry, counted from 1
abbrev pub named : {A : Type 0} → List A → ℕ → Option A
named xs ℕ.zero = None
named xs (suc k) = slice_get xs k

-- an answer is that of a test of the term at a place
abbrev pub TestOfTerm : List Cell → ℕ → (Term → Bool) → Bool → Type 0
TestOfTerm cells p test answer = (t : Term) → stands cells t p ≡ true → answer ≡ test t

-- A sequent whose formulas stand in cells: its hypotheses at places, and its goal at a place.
pub record StandsIn (cells : List Cell) (hyps : List ℕ) (goal : ℕ) (s : Sequent) : Type 0 where
  pub hyps_stand : AllStand cells s.hyps hyps
  pub goal_stands : stands cells s.goal goal ≡ true

-- Places come last, or there is too little room for them.
abbrev pub Puts : {A : Type 0} → List ℕ × ℕ → List ℕ × ℕ → List ℕ → Option A → Type 0
Puts old new ps None = (old.1 < length old.0 + length ps) × (new.1 ≡ old.1) × (length old.0 ≤ length new.0)
Puts old new ps (Some u) = new ≡ (old.0 ++ ps, old.1)

-- The places of these terms come last.
abbrev pub Adds : List ℕ → List ℕ → List Cell → List Term → Type 0
Adds old new cells ts = (ps : List ℕ) × (new ≡ old ++ ps) × AllStand cells ts ps
