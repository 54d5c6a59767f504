-- What splitting keeps.
use Rattle.std.specs.Prelude.{◌≡◌, ◌<◌, ℕ, ◌↔◌, List, length, Some}
use Rattle.std.specs.List.{AllByRecursion}
use Rattle.vc_sequents.specs.declared.sequent.Sequent.{Sequent}
use Rattle.vc_sequents.specs.declared.sequent.SplitError.{SplitError}
use Rattle.vc_sequents.specs.declared.sequent.SplitError.TheVariants.{TooManyCases, NoMemory}
use Rattle.vc_sequents.specs.Splitting.{IsValidSequent, Leaves, split_at}

-- A sequent is valid exactly where all sequents are that one of its formulas gives.
abbrev pub SplitsKeepValidity : Type 0
SplitsKeepValidity = (s : Sequent) (k : ℕ) (ss : List Sequent) → split_at k s ≡ Some ss → IsValidSequent s ↔ AllByRecursion IsValidSequent ss

-- A sequent has one list of leaves.
abbrev pub OneLeafList : Type 0
OneLeafList = (s : Sequent) (ls ms : List Sequent) → Leaves s ls → Leaves s ms → ls ≡ ms

-- There are leaves, one list of them, and they are all valid exactly where the sequent is.
abbrev pub AreLeaves : Sequent → List Sequent → Type 0
AreLeaves s ls = Leaves s ls × (IsValidSequent s ↔ AllByRecursion IsValidSequent ls)

-- Why there are no leaves: there would be more than 64.
abbrev pub IsSplitRefusal : Sequent → SplitError → Type 0
IsSplitRefusal s TooManyCases = (ls : List Sequent) × Leaves s ls × (64 < length ls)
IsSplitRefusal s NoMemory = Unit {0}
