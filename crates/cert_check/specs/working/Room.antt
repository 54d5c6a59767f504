-- How many nodes a path has room for and holds.
use Rattle.std.specs.Prelude.{◌≡◌, ℕ, ◌+◌, ◌*◌, ◌^◌, ◌<◌, ◌≤◌, List, ◌∷◌, drop, length, Option, Some, None, Result, Ok, Err}
use Rattle.cert_form.specs.declared.cert.Step.{Step}
use Rattle.cert_check.specs.declared.path.Path.{Path}
use Rattle.cert_check.specs.declared.walk.Stop.{Stop}
use Rattle.cert_check.specs.declared.walk.Stop.TheVariants.{Illegal, Full}
use Rattle.cert_check.specs.Need.{Standing, need_from}

-- room for as many nodes as the sheet has: two cells and a place for each
pub record HasRoom (p : Path) : Type 0 where
  pub cells : p.cells.1 ≡ 2 * p.sheet
  pub places : p.places.1 ≡ p.sheet
  pub few : p.sheet < 2 ^ 31

-- no more is held than two cells and a place for each of so many nodes
pub record Holds (p : Path) (n : ℕ) : Type 0 where
  pub room : HasRoom p
  pub cells : length p.cells.0 ≤ 2 * n
  pub places : length p.places.0 ≤ n

-- so many nodes are held then, or there is room for fewer
abbrev pub Ends : {A : Type 0} → Path → Path → ℕ → Option A → Type 0
Ends old new n None = old.sheet < n
Ends old new n (Some x) = Holds new n

-- so many nodes more are held then, or there is room for fewer
abbrev pub Takes : {A : Type 0} → Path → Path → ℕ → Option A → Type 0
Takes old new more r = (n : ℕ) → Holds old n → Ends old new (n + more) r

-- Whatever sequents stand behind it: what the steps up to a number leave needs no more, or the steps need more than there is room for.
abbrev pub Needs : List Step → ℕ → Standing → ℕ → Result ℕ Stop → Type 0
Needs steps at p room (Ok next) = (rest : List Standing) → need_from (drop next steps) rest ≤ need_from (drop at steps) (p ∷ rest)
Needs steps at p room (Err (Illegal k)) = Unit {0}
Needs steps at p room (Err Full) = (rest : List Standing) → room < need_from (drop at steps) (p ∷ rest)
