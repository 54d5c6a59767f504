-- One turn of each loop over rows, or over atoms.
use Rattle.std.proofs.Common.{◌≡◌, ◌∙◌, sym, ap, subst, ℕ, suc, ◌+◌, ◌-◌, ◌<◌, List, [], ◌∷◌, ◌++◌, length, get_or, take, ℤ, Some, arith}
use Rattle.std.specs.List.{All}
use Rattle.std.proofs.lemmas.List.{length-take-le, take_more}
use Rattle.std.proofs.lemmas.List.Elements.{All-push, All-filter}
use Rattle.linear_prover.specs.declared.rows_in_hand.Combination.{Combination}
use Rattle.linear_prover.specs.Elimination.{Numbered, Going, combination, eliminate, eliminate_from, going, is_without, numbered_from}
use Rattle.linear_prover.specs.working.Eliminating.{IsRow}
use Rattle.linear_prover.proofs.Going.{Keeps, keeps_eliminate, row_of}
use Rattle.linear_prover.proofs.Reducing.{IsRow-sum_of}

numbered_push : (m : ℕ) (rows : List (List ℤ)) (row : List ℤ) → numbered_from m (rows ++ row ∷ []) ≡ numbered_from m rows ++ (m + length rows, row) ∷ []
numbered_push m [] row = ap (λ g. (g, row) ∷ []) (omega arith)
numbered_push m (r ∷ rows) row =
    ap (λ rs. (m, r) ∷ rs) (numbered_push (m + 1) rows row ∙ ap (λ g. numbered_from (m + 1) rows ++ (g, row) ∷ []) (omega arith))

-- one more row with its number
pub numbered_turn : (rows : List (List ℤ)) (at : ℕ) (d : List ℤ) (before after : List Numbered) → at < length rows → before ≡ numbered_from 0 (take at rows) →
    after ≡ before ++ (at, get_or rows at d) ∷ [] → after ≡ numbered_from 0 (take (at + 1) rows)
numbered_turn rows at d before after within so_far push =
    let long : 0 + length (take at rows) ≡ at = omega (arith, length-take-le at rows (omega arith)) in
    push ∙ (ap (λ rs. rs ++ (at, get_or rows at d) ∷ []) so_far
    ∙ (ap (λ g. numbered_from 0 (take at rows) ++ (g, get_or rows at d) ∷ []) (sym long)
    ∙ (sym (numbered_push 0 (take at rows) (get_or rows at d)) ∙ ap (numbered_from 0) (sym (take_more rows at d within)))))

-- one more atom
pub atom_turn : (n atoms k : ℕ) (rows more : List Numbered) (made then : List Combination) → k < atoms → eliminate n k rows made ≡ Going more then →
    eliminate_from n (atoms - (k + 1)) (k + 1) more then ≡ eliminate_from n (atoms - k) k rows made
atom_turn n atoms k rows more made then within goes =
    let next : atoms - k ≡ suc (atoms - (k + 1)) = omega arith in
    sym (ap (λ m. eliminate_from n m k rows made) next ∙ ap (λ s. going s (eliminate_from n (atoms - (k + 1)) (k + 1))) goes)

module _ (width : ℕ) where
  abbrev AreRows : List Numbered → List Combination → Type 0
  AreRows rows made = All (λ r. IsRow width r.1) rows

  abbrev IsWide : List Combination → Numbered → Type 0
  IsWide made r = IsRow width r.1

  abbrev Ends : List Combination → Type 0
  Ends made = Unit {0}

  rows_more : (n k : ℕ) (a b : Numbered) (rows : List Numbered) (made : List Combination) (row : List ℤ) → IsWide made a → IsWide made b → AreRows rows made → row_of k a b ≡ Some row →
      length rows < 4096 → AreRows (rows ++ (n + length made, row) ∷ []) (made ++ combination k a b ∷ [])
  rows_more n k a b rows made row first second all is room =
      All-push (λ r. IsRow width r.1) rows (n + length made, row) all (IsRow-sum_of width (combination k a b).p a.1 (combination k a b).q b.1 row first second is)

  rows_keep : (n k : ℕ) (rows : List Numbered) (made : List Combination) → AreRows rows made → Keeps AreRows IsWide Ends made (eliminate n k rows made)
  rows_keep n k rows made all =
      keeps_eliminate n AreRows IsWide Ends (rows_more n) (λ k a b rows made row first second all is room ends. tt) (λ c made r h. h) k rows made all
      (All-filter (is_without k) (λ r. IsRow width r.1) rows all)

  -- rows of one width stay so
  pub rows_turn : (n k : ℕ) (rows more : List Numbered) (made then : List Combination) → All (λ r. IsRow width r.1) rows → eliminate n k rows made ≡ Going more then →
      All (λ r. IsRow width r.1) more
  rows_turn n k rows more made then all goes =
      let kept : Keeps AreRows IsWide Ends made (Going more then) = subst (Keeps AreRows IsWide Ends made) goes (rows_keep n k rows made all) in
      kept.0
