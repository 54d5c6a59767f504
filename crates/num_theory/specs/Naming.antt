-- The rows of a sequent by their names, and when lines refute the named ones.
use Rattle.std.specs.Prelude.{ℕ, suc, ◌^◌, ◌==◌, leb, Bool, true, false, ◌&&◌, List, [], ◌∷◌, ◌++◌, length, map, Option, Some, None, option_and_then, if◌then◌else◌}
use Rattle.std.specs.List.{filter, list_any}
use Rattle.math_terms.specs.declared.name.Line.{Line}
use Rattle.math_terms.specs.declared.name.RowName.{RowName}
use Rattle.math_terms.specs.declared.name.RowName.TheVariants.{Hyp, Second, Atom, Goal}
use Rattle.math_terms.specs.declared.descriptor.Sort.{Sort}
use Rattle.math_terms.specs.declared.term.Term.{Term}
use Rattle.math_terms.specs.declared.term.Term.TheOpen.{Term-F}
use Rattle.math_terms.specs.declared.term.Term.TheViews.{roll-Term, out-Term}
use Rattle.math_terms.specs.Heads.{same_term}
use Rattle.num_theory.specs.Lines.{refutes}
use Rattle.num_theory.specs.Table.{Gathered, Sum, gathered, row_of}

-- the negated goal, where the goal is `<` or `<=`
abbrev pub negated_goal : Term → List Term
negated_goal f = at (out-Term f)
  where
    at : Term-F Term → List Term
    at (Term-F.Less a b) = roll-Term (Term-F.LessEq b a) ∷ []
    at (Term-F.LessEq a b) = roll-Term (Term-F.Less b a) ∷ []
    at x = []

-- No certificate comes to as many atoms.
unfoldable pub most_atoms : ℕ
most_atoms = 2 ^ 32

-- the rows of the hypotheses and the negated goal, with the facts on all their atoms
abbrev pub rows_at_hand : List Sort → List Term → Term → Gathered
rows_at_hand vars hyps goal = gathered most_atoms vars (hyps ++ negated_goal goal)

-- The row of the negated goal, the last formula, has a name of its own.
abbrev pub name_among : ℕ → RowName → RowName
name_among hyps (Hyp k) = if k == suc hyps then Goal else Hyp k
name_among hyps (Second k) = Second k
name_among hyps (Atom k) = Atom k
name_among hyps Goal = Goal

abbrev pub same_name : RowName → RowName → Bool
same_name (Hyp j) (Hyp k) = j == k
same_name (Second j) (Second k) = j == k
same_name (Atom j) (Atom k) = j == k
same_name Goal Goal = true
same_name m n = false

abbrev pub find_row : ℕ → RowName → List Sum → Option Sum
find_row hyps name [] = None
find_row hyps name (s ∷ ss) = if same_name name (name_among hyps s.name) then Some s else find_row hyps name ss

-- the named rows, where all are there
abbrev pub find_rows : ℕ → List Sum → List RowName → Option (List Sum)
find_rows hyps sums [] = Some []
find_rows hyps sums (n ∷ ns) = option_and_then (λ s. option_and_then (λ ss. Some (s ∷ ss)) (find_rows hyps sums ns)) (find_row hyps n sums)

-- an atom has a coefficient other than 0 in one of these rows
abbrev pub occurs : List Sum → Term → Bool
occurs named t = list_any (λ s. list_any (λ p. same_term t p.1) s.products) named

-- the atoms that occur, in their order
abbrev pub columns : List Term → List Sum → List Term
columns atoms named = filter (occurs named) atoms

-- At most 63 atoms occur in the named rows, and with the lines they end in a contradiction. The named rows stand reduced.
abbrev pub rows_refute : List Term → List Line → List Sum → Bool
rows_refute atoms lines named = leb (length (columns atoms named)) 63 && refutes (map (row_of (columns atoms named)) named) lines

abbrev pub refuted_by : List Term → List Line → Option (List Sum) → Bool
refuted_by atoms lines None = false
refuted_by atoms lines (Some named) = rows_refute atoms lines named

-- The named rows of a sequent, of its hypotheses, the facts on their atoms and its negated goal, are refuted by the lines.
abbrev pub linear_test : List Sort → List Term → Term → List RowName → List Line → Bool
linear_test vars hyps goal names lines = refuted_by (rows_at_hand vars hyps goal).atoms lines (find_rows (length hyps) (rows_at_hand vars hyps goal).sums names)
