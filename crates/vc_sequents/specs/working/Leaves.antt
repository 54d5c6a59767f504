-- A step of the work that gives the leaves, where the last of what is to be done comes first.
use Rattle.std.specs.Prelude.{◌≡◌, ◌≤◌, List, [], ◌∷◌, ◌++◌, length, reverse, MatchOption, None}
use Rattle.vc_sequents.specs.declared.sequent.Sequent.{Sequent}
use Rattle.vc_sequents.specs.declared.sequent.SplitError.{SplitError}
use Rattle.vc_sequents.specs.declared.sequent.SplitError.TheVariants.{TooManyCases, NoMemory}
use Rattle.vc_sequents.specs.Splitting.{split_of}

-- a sequent that gives nothing is another leaf, one of at most 64
pub record AddsLeaf (next : Sequent) (todo done todo' done' : List Sequent) : Type 0 where
  pub todo_stays : todo' ≡ todo
  pub added : done' ≡ done ++ next ∷ []
  pub few : length done' ≤ 64

-- parts of a sequent stand on top
pub record PutsParts (todo done todo' done' parts : List Sequent) : Type 0 where
  pub put : reverse todo' ≡ parts ++ reverse todo
  pub done_stays : done' ≡ done

-- What is done with the next sequent.
abbrev pub IsStep : Sequent → List Sequent → List Sequent → List Sequent → List Sequent → Type 0
IsStep next todo done todo' done' = MatchOption (split_of next) (AddsLeaf next todo done todo' done') (PutsParts todo done todo' done')

-- Why nothing is done: the next sequent is a leaf, and there are 64 before it.
abbrev pub IsStepRefusal : Sequent → List Sequent → SplitError → Type 0
IsStepRefusal next done TooManyCases = (split_of next ≡ None) × (64 ≤ length done)
IsStepRefusal next done NoMemory = Unit {0}
