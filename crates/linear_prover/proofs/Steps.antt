-- One step of elimination.
use Rattle.std.proofs.Common.{◌≡◌, ℕ, ◌+◌, ◌<◌, ◌≤◌, true, false, List, [], ◌∷◌, ◌++◌, length, ℤ, Some, arith}
use Rattle.std.proofs.lemmas.Bool.Decides.{nat_tests}
use Rattle.num_theory.specs.Lines.{is_contradiction}
use Rattle.linear_prover.specs.declared.rows_in_hand.Combination.{Combination}
use Rattle.linear_prover.specs.Elimination.{Numbered, Going, Refuted, Over, most_rows, with_row}

pub with_row-full : (n : ℕ) (c : Combination) (rows : List Numbered) (made : List Combination) (row : List ℤ) → 4096 ≤ length rows →
    with_row n c rows made (Some row) ≡ Over
unfolding most_rows
with_row-full n c rows made row full = grind (arith, nat_tests)

pub with_row-contradiction : (n : ℕ) (c : Combination) (rows : List Numbered) (made : List Combination) (row : List ℤ) → length rows < 4096 →
    is_contradiction row ≡ true → with_row n c rows made (Some row) ≡ Refuted (made ++ c ∷ [])
unfolding most_rows
with_row-contradiction n c rows made row room is = grind (arith, nat_tests)

pub with_row-more : (n : ℕ) (c : Combination) (rows : List Numbered) (made : List Combination) (row : List ℤ) → length rows < 4096 →
    is_contradiction row ≡ false → with_row n c rows made (Some row) ≡ Going (rows ++ (n + length made, row) ∷ []) (made ++ c ∷ [])
unfolding most_rows
with_row-more n c rows made row room is = grind (arith, nat_tests)
