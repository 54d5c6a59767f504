-- The statements that are left, as the walk has them.
use Rattle.std.specs.Prelude.{ℕ, suc, ◌+◌, ◌*◌, pos, List, [], ◌∷◌, map, sum, Option, Some, None}
use Rattle.math_terms.specs.declared.term.Term.{Term}
use Rattle.main_form.specs.declared.module.Stmt.{Stmt}
use Rattle.main_form.specs.declared.module.Stmt.TheOpen.{Stmt-F}
use Rattle.main_form.specs.declared.module.Stmt.TheFolds.{fold-Stmt}
use Rattle.main_vcs.specs.Terms.{num, len, below}
use Rattle.main_vcs.specs.Walk.{Path}

-- how many statements there are, those inside others among them
abbrev pub stmt_count_step : Stmt-F ℕ → ℕ
stmt_count_step (Stmt-F.Read at k) = 1
stmt_count_step (Stmt-F.Write e) = 1
stmt_count_step (Stmt-F.Assign k e) = 1
stmt_count_step (Stmt-F.If g a b) = suc (sum a + sum b)

abbrev pub stmt_count : Stmt → ℕ
stmt_count x = fold-Stmt ℕ stmt_count_step x

-- that there is a number to be read
abbrev pub readable : Path → Term
readable p = below (num (pos 0)) (len p.input)

-- how far the walk has to go at most
abbrev pub weights : List (List Stmt) → ℕ
weights [] = 0
weights (xs ∷ xss) = 1 + 8 * sum (map stmt_count xs) + weights xss
