-- The search: a sequent is closed where it can be, and else split.
use Rattle.std.specs.Prelude.{◌≡◌, ℕ, zero, suc, ◌+◌, ◌-◌, ◌==◌, ltb, leb, Bool, false, ◌&&◌, ◌||◌, List, [], ◌∷◌, ◌++◌, length, map, Option, Some, None, slice_get, if◌then◌else◌}
use Rattle.std.specs.List.{list_all, list_any}
use Rattle.math_terms.specs.declared.name.Line.{Line}
use Rattle.math_terms.specs.declared.name.RowName.{RowName}
use Rattle.math_terms.specs.declared.term.Term.{Term}
use Rattle.math_terms.specs.Heads.{same_term}
use Rattle.num_theory.specs.Table.{Gathered, Sum, gathered, rows_of}
use Rattle.num_theory.specs.Naming.{name_among, negated_goal}
use Rattle.linear_prover.specs.Elimination.{refutation}
use Rattle.vc_sequents.specs.declared.sequent.Sequent.{Sequent}
use Rattle.vc_sequents.specs.Splitting.{sorts_of, split_at}
use Rattle.cert_form.specs.declared.cert.Step.{Step}
use Rattle.cert_form.specs.declared.cert.Step.TheVariants as step
use Rattle.cert_check.specs.Legality.{is_false, is_identity, is_negation_of, is_small, is_true, small_split}

abbrev pub or_else : {A : Type 0} → Option A → Option A → Option A
or_else None later = later
or_else (Some x) later = Some x

-- the number of the first formula that passes, counted from k
abbrev pub first_from : ℕ → (Term → Bool) → List Term → Option ℕ
first_from k test [] = None
first_from k test (f ∷ fs) = if test f then Some k else first_from (k + 1) test fs

abbrev pub mapped : {A B : Type 0} → (A → B) → Option A → Option B
mapped f None = None
mapped f (Some x) = Some (f x)

abbrev pub by_same : Sequent → Option Step
by_same s = if is_true s.goal || is_identity s.goal then Some step.Same else None

abbrev pub by_hypothesis : Sequent → Option Step
by_hypothesis s = mapped (λ k. step.Hyp k) (first_from 1 (same_term s.goal) s.hyps)

abbrev pub by_absurd : Sequent → Option Step
by_absurd s = mapped (λ k. step.Absurd k) (first_from 1 is_false s.hyps)

-- the lowest hypothesis that is the negation of another one, and the lowest such other
abbrev pub clash_from : ℕ → List Term → List Term → Option Step
clash_from l all [] = None
clash_from l all (g ∷ gs) =
    or_else (mapped (λ k. step.Clash k l) (first_from 1 (λ f. is_negation_of f g) all)) (clash_from (l + 1) all gs)

abbrev pub by_clash : Sequent → Option Step
by_clash s = clash_from 1 s.hyps s.hyps

-- the table of the hypotheses and the negated goal
abbrev pub table_of : Sequent → Gathered
table_of s = gathered 64 (sorts_of s) (s.hyps ++ negated_goal s.goal)

-- at most 63 atoms and 256 rows
abbrev pub is_table : Gathered → Bool
is_table g = leb (length g.atoms) 63 && leb (length g.sums) 256

-- row k of n first rows is in a line
abbrev pub is_used : ℕ → List Line → Bool
is_used k lines = list_any (λ l. (l.i == k) || (l.j == k)) lines

-- the numbers from k on, up to n in all, of the first rows that are used
abbrev pub used_from : ℕ → ℕ → List Line → List ℕ
used_from k zero lines = []
used_from k (suc n) lines = if is_used k lines then k ∷ used_from (k + 1) n lines else used_from (k + 1) n lines

-- the place of a number in a list, from 1
abbrev pub place_of : ℕ → List ℕ → ℕ
place_of k [] = 0
place_of k (m ∷ ms) = if m == k then 1 else place_of k ms + 1

-- how a row is called over the used ones: n are the first rows
abbrev pub called : ℕ → List ℕ → ℕ → ℕ
called n used k = if leb k n then place_of k used else (k - n) + length used

abbrev pub called_line : ℕ → List ℕ → Line → Line
called_line n used l = record { p = l.p; i = called n used l.i; q = l.q; j = called n used l.j }

-- the names of rows of a table by their numbers, from 1; the negated goal has a name of its own
abbrev pub names_at : Sequent → List Sum → List ℕ → List RowName
names_at s sums [] = []
names_at s sums (zero ∷ ks) = names_at s sums ks
names_at s sums (suc k ∷ ks) = add (slice_get sums k) (names_at s sums ks)
  where
    add : Option Sum → List RowName → List RowName
    add None names = names
    add (Some r) names = name_among (length s.hyps) r.name ∷ names

-- one line alone, of one row
abbrev pub is_alone : List Line → Bool
is_alone [] = false
is_alone (l ∷ []) = l.i == l.j
is_alone (l ∷ m ∷ ls) = false

-- A first row that refutes is named alone; else the rows from which the refuting one comes, and its lines over these.
abbrev pub linear_step_of : Sequent → ℕ → List Sum → List Line → Step
linear_step_of s n sums lines =
    if is_alone lines then step.Linear (names_at s sums (used_from 1 n lines)) []
    else step.Linear (names_at s sums (used_from 1 n lines)) (map (called_line n (used_from 1 n lines)) lines)

abbrev pub by_rows : Sequent → Gathered → Option Step
by_rows s g = if is_table g then mapped (linear_step_of s (length g.sums) g.sums) (refutation (length g.atoms) (rows_of g)) else None

abbrev pub by_linear : Sequent → Option Step
by_linear s = by_rows s (table_of s)

-- how a sequent is closed
abbrev pub closing : Sequent → Option Step
closing s = or_else (by_same s) (or_else (by_hypothesis s) (or_else (by_absurd s) (or_else (by_clash s) (by_linear s))))

-- a formula that gives something, with what it gives: the lowest hypothesis, or else the goal
abbrev pub split_from : ℕ → ℕ → Sequent → Option (ℕ × List Sequent)
split_from k zero s = mapped (λ ss. (0, ss)) (split_at 0 s)
split_from k (suc n) s = or_else (mapped (λ ss. (k, ss)) (split_at k s)) (split_from (k + 1) n s)

abbrev pub splitting : Sequent → Option (ℕ × List Sequent)
splitting s = split_from 1 (length s.hyps) s

-- the most branch ends
unfoldable pub most_ends : ℕ
most_ends = 64

abbrev pub with_step : Step → Option (List Step) → Option (List Step)
with_step x None = None
with_step x (Some xs) = Some (x ∷ xs)

-- A sequent is closed where fewer than so many ends came before, or else split into small formulas, and is open otherwise.
abbrev pub go_on : Sequent → ℕ → Option Step → Option (ℕ × List Sequent) → Option (List Step) → (List Sequent → Option (List Step)) → Option (List Step)
go_on s ends (Some x) split closed opened = if ltb ends most_ends then with_step x closed else None
go_on s ends None None closed opened = None
go_on s ends None (Some c) closed opened = if small_split s c.0 then with_step (step.Split c.0 (length c.1)) (opened c.1) else None

-- The steps for sequents that stand, after so many branch ends, with so much fuel: none where one stays open, where there are more
-- than 64 ends, where a split makes a formula that is too large, or where the fuel is spent.
abbrev pub steps_for : ℕ → ℕ → List Sequent → Option (List Step)
steps_for zero ends ss = None
steps_for (suc fuel) ends [] = Some []
steps_for (suc fuel) ends (s ∷ ss) =
    go_on s ends (closing s) (splitting s) (steps_for fuel (ends + 1) ss) (λ new. steps_for fuel ends (new ++ ss))

-- all formulas of a sequent are small
abbrev pub is_small_sequent : Sequent → Bool
is_small_sequent s = list_all is_small s.hyps && is_small s.goal

abbrev pub search : ℕ → Sequent → Option (List Step)
search fuel s = if is_small_sequent s then steps_for fuel 0 (s ∷ []) else None

-- A sequent is in the class where some fuel suffices; these are its steps.
abbrev pub IsFound : Sequent → List Step → Type 0
IsFound s steps = (fuel : ℕ) × (search fuel s ≡ Some steps)

abbrev pub IsOpen : Sequent → Type 0
IsOpen s = (fuel : ℕ) → search fuel s ≡ None
