-- Rows that end in a contradiction, and lines that refute rows.
use Rattle.std.proofs.Common.{◌≡◌, ◌∙◌, sym, ap, refl, ℕ, suc, ◌-◌, ℤ, Bool, false, List, [], ◌∷◌, length, map, take, slice_get, Option, Some, None, Ok, arith}
use Rattle.std.proofs.lemmas.List.{take_all}
use Rattle.num_theory.specs.Lines.{ends_in_contradiction, is_contradiction, is_refuted}
use Rattle.cell_rows.specs.working.RowsIn.{LinesFound, RowsIn}

module _ (width : ℕ) where
  no_end : (places : List (List ℤ)) → slice_get places (length places - 1) ≡ None → ends_in_contradiction (map (take width) places) ≡ false
  no_end [] e = refl
  no_end (p ∷ []) e = cc
  no_end (p ∷ q ∷ ps) e =
      let one : suc (suc (length ps)) - 1 ≡ suc (suc (length ps) - 1) = omega arith in
      no_end (q ∷ ps) (ap (slice_get (p ∷ q ∷ ps)) (sym one) ∙ e)

  ends_at : (places : List (List ℤ)) (row : List ℤ) → slice_get places (length places - 1) ≡ Some row → ends_in_contradiction (map (take width) places) ≡ is_contradiction (take width row)
  ends_at [] row e = cc
  ends_at (p ∷ []) row e =
      let same : p ≡ row = cc in
      ap (λ r. is_contradiction (take width r)) same
  ends_at (p ∷ q ∷ ps) row e =
      let one : suc (suc (length ps)) - 1 ≡ suc (suc (length ps) - 1) = omega arith in
      ends_at (q ∷ ps) row (ap (slice_get (p ∷ q ∷ ps)) (sym one) ∙ e)

  all_of : (rows places : List (List ℤ)) → RowsIn width (length places) rows places → map (take width) places ≡ rows
  all_of rows places h = ap (map (take width)) (sym (take_all (length places) places (omega arith))) ∙ h

  pub no_clash : (rows places : List (List ℤ)) → RowsIn width (length places) rows places → slice_get places (length places - 1) ≡ None → false ≡ ends_in_contradiction rows
  no_clash rows places h e = sym (no_end places e) ∙ ap ends_in_contradiction (all_of rows places h)

  pub clash : (rows places : List (List ℤ)) (row : List ℤ) → RowsIn width (length places) rows places → slice_get places (length places - 1) ≡ Some row → is_contradiction (take width row) ≡ ends_in_contradiction rows
  clash rows places row h e = sym (ends_at places row e) ∙ ap ends_in_contradiction (all_of rows places h)

  -- all lines made rows
  pub all_made : (o : Option (List (List ℤ))) (total : ℕ) (places : List (List ℤ)) (b : Bool) → LinesFound width o (Ok (Some total)) places →
      ((rows : List (List ℤ)) → RowsIn width (length (take total places)) rows (take total places) → b ≡ ends_in_contradiction rows) → b ≡ is_refuted o
  all_made o total places b h f =
      f h.0 (ap (map (take width)) (take_all (length (take total places)) (take total places) (omega arith)) ∙ h.2) ∙ sym (ap is_refuted h.1)
