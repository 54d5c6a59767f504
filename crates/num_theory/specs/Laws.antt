-- What linear forms, rows and lines mean.
use Rattle.std.specs.Prelude.{◌≡◌, ℕ, ℤ, pos, ◌+ℤ◌, ◌*ℤ◌, int_le, List, [], ◌∷◌, length, Some, slice_index_or, IsTrue}
use Rattle.std.specs.List.{list_all, AllByRecursion}
use Rattle.math_terms.specs.declared.name.Line.{Line}
use Rattle.math_terms.specs.declared.name.RowName.{RowName}
use Rattle.math_terms.specs.declared.descriptor.Sort.{Sort}
use Rattle.math_terms.specs.declared.term.Term.{Term}
use Rattle.math_terms.specs.Values.{number}
use Rattle.math_terms.specs.Meaning.{Valuation}
use Rattle.math_terms.specs.Descriptors.{Interpretation, holds, value}
use Rattle.num_theory.specs.Lines.{refutes, row_holds}
use Rattle.num_theory.specs.Linear.{Product, linear_of}
use Rattle.num_theory.specs.Naming.{linear_test}
use Rattle.num_theory.specs.Table.{IsFew, IsTable, Sum, gathered, num, rows_of, table_of}

-- the sum of coefficients times the numbers of their atoms
abbrev pub sum_of_products : Interpretation → Valuation → List Product → ℤ
sum_of_products I w [] = pos 0
sum_of_products I w (p ∷ ps) = p.0 *ℤ number (value I w p.1) +ℤ sum_of_products I w ps

-- A term's linear form has the term's number under every interpretation and valuation.
abbrev pub FormsKeepValues : Type 0
FormsKeepValues =
    (t : Term) (products : List Product) (constant : ℤ) → linear_of t ≡ Some (products, constant) → (I : Interpretation) (w : Valuation) → number (value I w t) ≡ sum_of_products I w products +ℤ constant

-- what a sum says: it is at least 0
abbrev pub SumHolds : Interpretation → Valuation → Sum → Type 0
SumHolds I w s = IsTrue (int_le (pos 0) (sum_of_products I w s.products +ℤ s.constant))

-- what the atoms of a table are worth, by their places
abbrev pub worth : Interpretation → Valuation → List Term → ℕ → ℤ
worth I w atoms k = number (value I w (slice_index_or atoms k (num (pos 0))))

-- Rows over atoms are true wherever all these formulas are, under every interpretation and valuation.
abbrev pub RowsAreTrue : List Term → List Term → List (List ℤ) → Type 0
RowsAreTrue formulas atoms rows =
    (I : Interpretation) (w : Valuation) → IsTrue (list_all (holds I w) formulas) → IsTrue (list_all (row_holds (worth I w atoms)) rows)

-- The rows of formulas are true wherever the formulas are.
abbrev pub RowsFollow : Type 0
RowsFollow =
    (most : ℕ) (vars : List Sort) (formulas : List Term) → RowsAreTrue formulas (gathered most vars formulas).atoms (rows_of (gathered most vars formulas))

-- Where formulas make few atoms and rows, these are a table that can be refuted.
abbrev pub RowsFit : Type 0
RowsFit = (most : ℕ) (vars : List Sort) (formulas : List Term) → IsFew (gathered most vars formulas) → IsTable (table_of (gathered most vars formulas))

-- Rows of one length that lines refute are not all true, whatever the atoms are worth.
abbrev pub RefutedRowsClash : Type 0
RefutedRowsClash =
    (n : ℕ) (f : ℕ → ℤ) (rows : List (List ℤ)) (lines : List Line) → AllByRecursion (λ row. length row ≡ n) rows → IsTrue (refutes rows lines) → IsTrue (list_all (row_holds f) rows) → ⊥

-- Where named rows of a sequent are refuted, its goal is true wherever its hypotheses are.
abbrev pub LinearTestsAreSound : Type 0
LinearTestsAreSound =
    (vars : List Sort) (hyps : List Term) (goal : Term) (names : List RowName) (lines : List Line) → IsTrue (linear_test vars hyps goal names lines) → (I : Interpretation) (w : Valuation) → IsTrue (list_all (holds I w) hyps) → IsTrue (holds I w goal)
