-- The first rows of linear arithmetic: those of formulas, and those of the facts on their atoms.
use Rattle.std.specs.Prelude.{◌≡◌, ℕ, zero, suc, ◌+◌, ◌<◌, ◌≤◌, ◌⊎◌, ℤ, pos, negsuc, ◌+ℤ◌, ◌&&◌, List, [], ◌∷◌, ◌++◌, length, map, Option, Some, None, slice_get, IsTrue, if◌then◌else◌}
use Rattle.std.specs.List.{AllByRecursion, list_any}
use Rattle.math_terms.specs.declared.name.RowName.{RowName}
use Rattle.math_terms.specs.declared.name.RowName.TheVariants.{Hyp, Second, Atom}
use Rattle.num_theory.specs.declared.table.RowError.{RowError}
use Rattle.num_theory.specs.declared.table.RowError.TheVariants.{TooMany, NoMemory}
use Rattle.num_theory.specs.declared.table.RowTable.{RowTable}
use Rattle.math_terms.specs.declared.descriptor.Sort.{Sort}
use Rattle.math_terms.specs.declared.term.Term.{Term}
use Rattle.math_terms.specs.declared.term.Term.TheOpen.{Term-F}
use Rattle.math_terms.specs.declared.term.Term.TheViews.{roll-Term, out-Term}
use Rattle.math_terms.specs.Heads.{same_term}
use Rattle.math_terms.specs.Sorts.{is_z}
use Rattle.math_terms.specs.Kinds.{kind}
use Rattle.num_theory.specs.Rows.{all_narrow, narrow, reduced}
use Rattle.num_theory.specs.Linear.{Product, linear_of}

-- A row with its name, before its atoms have columns: the sum of the products and the constant is at least 0.
pub record Sum : Type 0 where
  pub name : RowName
  pub products : List Product
  pub constant : ℤ

-- the row of a form with a number added to its constant, where there is one and its constant is narrow
abbrev pub sums_of_form : RowName → ℤ → Option (List Product × ℤ) → List Sum
sums_of_form name shift None = []
sums_of_form name shift (Some f) =
    if narrow (f.1 +ℤ shift) then record { name = name; products = f.0; constant = f.1 +ℤ shift } ∷ [] else []

-- the row of `left <= right`, and with -1 that of `left < right`: right minus left
abbrev pub difference : RowName → ℤ → Term → Term → List Sum
difference name shift left right = sums_of_form name shift (linear_of (roll-Term (Term-F.Sub right left)))

-- the two rows of an equation of numbers
abbrev pub sums_of_equation : List Sort → ℕ → Term → Term → List Sum
sums_of_equation vars k a b =
    if is_z (kind vars a) && is_z (kind vars b) then difference (Hyp k) (pos 0) a b ++ difference (Second k) (pos 0) b a else []

-- The rows of formula k. A formula that compares nothing gives none.
abbrev pub sums_at : List Sort → ℕ → Term-F Term → List Sum
sums_at vars k (Term-F.LessEq a b) = difference (Hyp k) (pos 0) a b
sums_at vars k (Term-F.Less a b) = difference (Hyp k) (negsuc 0) a b
sums_at vars k (Term-F.Eq a b) = sums_of_equation vars k a b
sums_at vars k x = []

abbrev pub sums_of : List Sort → ℕ → Term → List Sum
sums_of vars k f = sums_at vars k (out-Term f)

-- the rows of formulas that are numbered from k on
abbrev pub sums_from : List Sort → ℕ → List Term → List Sum
sums_from vars k [] = []
sums_from vars k (f ∷ fs) = sums_of vars k f ++ sums_from vars (k + 1) fs

-- atoms in the order in which they first occur
abbrev pub with_atom : List Term → Term → List Term
with_atom atoms t = if list_any (same_term t) atoms then atoms else atoms ++ t ∷ []

abbrev pub with_atoms : List Term → List Product → List Term
with_atoms atoms [] = atoms
with_atoms atoms (p ∷ ps) = with_atoms (with_atom atoms p.1) ps

abbrev pub atoms_of : List Term → List Sum → List Term
atoms_of atoms [] = atoms
atoms_of atoms (s ∷ ss) = atoms_of (with_atoms atoms s.products) ss

abbrev pub num : ℤ → Term
num n = roll-Term (Term-F.Num n)

abbrev pub less_eq : Term → Term → Term
less_eq a b = roll-Term (Term-F.LessEq a b)

-- n * q
abbrev pub multiple_of : ℤ → Term → Term
multiple_of n q = roll-Term (Term-F.Mul (num n) q)

-- n * q + n - 1
abbrev pub last_of : ℤ → Term → Term
last_of n q = roll-Term (Term-F.Sub (roll-Term (Term-F.Add (multiple_of n q) (num n))) (num (pos 1)))

-- n * q <= t and t <= n * q + n - 1, for the quotient q of t by a literal n
abbrev pub quotient_facts : ℤ → Term → Term → List Term
quotient_facts n q t = less_eq (multiple_of n q) t ∷ less_eq t (last_of n q) ∷ []

-- The facts on an atom: a length is not negative, and a quotient by a literal above 0 is rounded down.
abbrev pub facts_by : Term → Term → ℤ → List Term
facts_by atom t (pos (suc n)) = quotient_facts (pos (suc n)) atom t
facts_by atom t n = []

abbrev pub facts_over : Term → Term → Term-F Term → List Term
facts_over atom t (Term-F.Num n) = facts_by atom t n
facts_over atom t x = []

abbrev pub facts_at : Term → Term-F Term → List Term
facts_at atom (Term-F.Len s) = less_eq (num (pos 0)) atom ∷ []
facts_at atom (Term-F.Div t n) = facts_over atom t (out-Term n)
facts_at atom x = []

abbrev pub facts_of : Term → List Term
facts_of atom = facts_at atom (out-Term atom)

-- the row of a fact, which is `left <= right`
abbrev pub sums_of_fact_at : ℕ → Term-F Term → List Sum
sums_of_fact_at k (Term-F.LessEq a b) = difference (Atom k) (pos 0) a b
sums_of_fact_at k x = []

abbrev pub sums_of_fact : ℕ → Term → List Sum
sums_of_fact k f = sums_of_fact_at k (out-Term f)

-- the rows of facts that are numbered from k on
abbrev pub sums_of_facts : ℕ → List Term → List Sum
sums_of_facts k [] = []
sums_of_facts k (f ∷ fs) = sums_of_fact k f ++ sums_of_facts (k + 1) fs

-- atoms in order, rows in order, and how many facts there are
pub record Gathered : Type 0 where
  pub atoms : List Term
  pub sums : List Sum
  pub facts : ℕ

-- with the facts of one atom; new atoms in them come last
abbrev pub with_facts : Gathered → Term → Gathered
with_facts g atom = add (facts_of atom) (sums_of_facts (g.facts + 1) (facts_of atom))
  where
    add : List Term → List Sum → Gathered
    add facts sums = record { atoms = atoms_of g.atoms sums; sums = g.sums ++ sums; facts = g.facts + length facts }

abbrev pub go_on : Gathered → Option Term → (Term → Gathered) → Gathered
go_on g None next = g
go_on g (Some atom) next = next atom

-- with the facts of the atoms from place i on, those of new atoms among them, of so many atoms at most
unfoldable pub with_all_facts : ℕ → ℕ → Gathered → Gathered
with_all_facts zero i g = g
with_all_facts (suc most) i g = go_on g (slice_get g.atoms i) (λ atom. with_all_facts most (i + 1) (with_facts g atom))

-- the rows of formulas numbered from 1, then those of the facts of at most so many atoms
abbrev pub gathered : ℕ → List Sort → List Term → Gathered
gathered most vars formulas = with_all_facts most 0 (begun (sums_from vars 1 formulas))
  where
    begun : List Sum → Gathered
    begun sums = record { atoms = atoms_of [] sums; sums = sums; facts = 0 }

-- the coefficient of an atom, 0 where it is not there
abbrev pub coefficient : Term → List Product → ℤ
coefficient t [] = pos 0
coefficient t (p ∷ ps) = if same_term t p.1 then p.0 else coefficient t ps

-- a row with a column for each atom, reduced
abbrev pub row_of : List Term → Sum → List ℤ
row_of atoms s = reduced (map (λ t. coefficient t s.products) atoms ++ s.constant ∷ [])

abbrev pub rows_of : Gathered → List (List ℤ)
rows_of g = map (row_of g.atoms) g.sums

abbrev pub names_of : Gathered → List RowName
names_of g = map (λ s. s.name) g.sums

abbrev pub table_of : Gathered → RowTable
table_of g = record { atoms = g.atoms; rows = rows_of g; names = names_of g }

abbrev pub IsFew : Gathered → Type 0
IsFew g = (length g.atoms ≤ 63) × (length g.sums ≤ 256)

-- more than 63 atoms or more than 256 rows
abbrev pub IsTooMany : Gathered → Type 0
IsTooMany g = (63 < length g.atoms) ⊎ (256 < length g.sums)

-- why there is no table
abbrev pub IsRowRefusal : RowError → Gathered → Type 0
IsRowRefusal TooMany g = IsTooMany g
IsRowRefusal NoMemory g = Unit {0}

-- A table that can be refuted: at most 63 atoms and 256 rows; each row has one number more than there are atoms, and none
-- of magnitude 2 ^ 31.
pub record IsTable (t : RowTable) : Type 0 where
  pub atoms : length t.atoms ≤ 63
  pub rows : length t.rows ≤ 256
  pub widths : AllByRecursion (λ row. length row ≡ length t.atoms + 1) t.rows
  pub numbers : AllByRecursion (λ row. IsTrue (all_narrow row)) t.rows
