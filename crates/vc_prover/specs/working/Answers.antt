-- What the code answers on its way.
use Rattle.std.specs.Prelude.{◌≡◌, ◌<◌, ◌≤◌, ℕ, ◌+◌, true, false, List, [], ◌∷◌, ◌++◌, length, map, reverse, MatchOption, if◌then◌else◌}
use Rattle.math_terms.specs.declared.name.Line.{Line}
use Rattle.math_terms.specs.declared.name.RowName.{RowName}
use Rattle.num_theory.specs.declared.table.RowTable.{RowTable}
use Rattle.num_theory.specs.Naming.{name_among}
use Rattle.num_theory.specs.Table.{Gathered, IsTable, names_of, rows_of}
use Rattle.vc_sequents.specs.declared.sequent.Sequent.{Sequent}
use Rattle.cert_form.specs.declared.cert.Step.{Step}
use Rattle.cert_form.specs.declared.cert.Step.TheVariants as step
use Rattle.cert_check.specs.Legality.{small_split}
use Rattle.vc_prover.specs.declared.search.Done.{Done}
use Rattle.vc_prover.specs.declared.search.ProveError.{ProveError}
use Rattle.vc_prover.specs.declared.search.ProveError.TheVariants.{Open, NoMemory}
use Rattle.vc_prover.specs.Search.{called_line, closing, is_alone, is_used, most_ends, splitting, used_from}

-- what stands where lines use a number; these count from k
abbrev pub chosen : {A : Type 0} → ℕ → List A → List Line → List A
chosen k [] lines = []
chosen k (x ∷ xs) lines = if is_used k lines then x ∷ chosen (k + 1) xs lines else chosen (k + 1) xs lines

-- the step of lines over rows with these names
abbrev pub lines_over : List RowName → List Line → List Line
lines_over names lines = if is_alone lines then [] else map (called_line (length names) (used_from 1 (length names) lines)) lines

abbrev pub step_by : ℕ → List RowName → List Line → Step
step_by hyps names lines = step.Linear (map (name_among hyps) (chosen 1 names lines)) (lines_over names lines)

-- the rows of what is gathered, where it is few
pub record IsTableOf (g : Gathered) (t : RowTable) : Type 0 where
  pub atoms : t.atoms ≡ g.atoms
  pub rows : t.rows ≡ rows_of g
  pub names : t.names ≡ names_of g
  pub few : IsTable t

-- a step closes the next sequent, as one of the branch ends
pub record Closes (x : Step) (todo : List Sequent) (done : Done) (todo' : List Sequent) (done' : Done) : Type 0 where
  pub few : done.ends < most_ends
  pub todo_stays : todo' ≡ todo
  pub added : done'.steps ≡ done.steps ++ x ∷ []
  pub counted : done'.ends ≡ done.ends + 1

-- it is split into small formulas, and the parts stand on top
pub record Splits (next : Sequent) (todo : List Sequent) (done : Done) (todo' : List Sequent) (done' : Done) (c : ℕ × List Sequent) : Type 0 where
  pub small : small_split next c.0 ≡ true
  pub put : reverse todo' ≡ c.1 ++ reverse todo
  pub added : done'.steps ≡ done.steps ++ step.Split c.0 (length c.1) ∷ []
  pub ends_stay : done'.ends ≡ done.ends

-- what is done with a sequent that is not closed
abbrev pub Opens : Sequent → List Sequent → Done → List Sequent → Done → Type 0
Opens next todo done todo' done' = MatchOption (splitting next) ⊥ (Splits next todo done todo' done')

-- it gives nothing, or too large formulas
abbrev pub IsNotSplit : Sequent → Type 0
IsNotSplit next = MatchOption (splitting next) (Unit {0}) (λ c. small_split next c.0 ≡ false)

-- What is done with the next sequent.
abbrev pub IsStep : Sequent → List Sequent → Done → List Sequent → Done → Type 0
IsStep next todo done todo' done' = MatchOption (closing next) (Opens next todo done todo' done') (λ x. Closes x todo done todo' done')

-- Why nothing is done: the next sequent is closed after as many ends as there may be, or it is not split.
abbrev pub IsStepRefusal : Sequent → Done → ProveError → Type 0
IsStepRefusal next done Open = MatchOption (closing next) (IsNotSplit next) (λ x. most_ends ≤ done.ends)
IsStepRefusal next done NoMemory = Unit {0}
