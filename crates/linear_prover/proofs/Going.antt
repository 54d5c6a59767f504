-- What each combination keeps, elimination keeps.
use Rattle.std.proofs.Common.{◌≡◌, sym, subst, refl, ℕ, ◌+◌, ◌<◌, true, List, [], ◌∷◌, ◌++◌, length, ℤ, Option, Some, None, ⊎_elim}
use Rattle.std.specs.List.{All, filter}
use Rattle.std.proofs.lemmas.Bool.{cases_lt, cases_Bool}
use Rattle.std.proofs.lemmas.List.Elements.{All-head, All-tail, All-weaker, All-filter}
use Rattle.num_theory.specs.Lines.{is_contradiction, sum_of}
use Rattle.linear_prover.specs.declared.rows_in_hand.Combination.{Combination}
use Rattle.linear_prover.specs.Elimination.{Numbered, Search, Going, Refuted, Over, combination, combine_all, combine_one, combine_two, eliminate, going, is_above, is_below, is_without, with_row}
use Rattle.linear_prover.proofs.Steps.{with_row-full, with_row-contradiction, with_row-more}

-- the row of the combination of two rows at an atom
abbrev pub row_of : ℕ → Numbered → Numbered → Option (List ℤ)
row_of k a b = sum_of (combination k a b).p a.1 (combination k a b).q b.1

-- I holds of the rows in hand and the combinations so far, R of each row beside the combinations, and Z at a contradiction.
module _ (I : List Numbered → List Combination → Type 0) (R : List Combination → Numbered → Type 0) (Z : List Combination → Type 0) where
  abbrev pub Keeps : List Combination → Search → Type 0
  Keeps before (Going rows made) = I rows made × ((r : Numbered) → R before r → R made r)
  Keeps before (Refuted made) = Z made
  Keeps before Over = Unit {0}

  -- a search that goes on
  pub keeps_going : (before : List Combination) (s : Search) (next : List Numbered → List Combination → Search) → Keeps before s →
      ((rows : List Numbered) (made : List Combination) → I rows made → ((r : Numbered) → R before r → R made r) → Keeps made (next rows made)) → Keeps before (going s next)
  keeps_going before (Going rows made) next h step = later before made (next rows made) h.1 (step rows made h.0 h.1)
    where
      later : (first then : List Combination) (s : Search) → ((r : Numbered) → R first r → R then r) → Keeps then s → Keeps first s
      later first then (Going rows made) all h = (h.0, λ r at. h.1 r (all r at))
      later first then (Refuted made) all h = h
      later first then Over all h = tt
  keeps_going before (Refuted made) next h step = h
  keeps_going before Over next h step = tt

module _ (n : ℕ) (I : List Numbered → List Combination → Type 0) (R : List Combination → Numbered → Type 0) (Z : List Combination → Type 0)
    (more : (k : ℕ) (a b : Numbered) (rows : List Numbered) (made : List Combination) (row : List ℤ) → R made a → R made b → I rows made → row_of k a b ≡ Some row →
    length rows < 4096 → I (rows ++ (n + length made, row) ∷ []) (made ++ combination k a b ∷ []))
    (last : (k : ℕ) (a b : Numbered) (rows : List Numbered) (made : List Combination) (row : List ℤ) → R made a → R made b → I rows made → row_of k a b ≡ Some row →
    length rows < 4096 → is_contradiction row ≡ true → Z (made ++ combination k a b ∷ []))
    (grows : (c : Combination) (made : List Combination) (r : Numbered) → R made r → R (made ++ c ∷ []) r) where
  keeps_row : (k : ℕ) (a b : Numbered) (rows : List Numbered) (made : List Combination) (row : List ℤ) → R made a → R made b → I rows made → row_of k a b ≡ Some row →
      Keeps I R Z made (with_row n (combination k a b) rows made (Some row))
  keeps_row k a b rows made row first second all is =
      ⊎_elim
      (λ room. ⊎_elim
      (λ ends. subst (Keeps I R Z made) (sym (with_row-contradiction n (combination k a b) rows made row room ends)) (last k a b rows made row first second all is room ends))
      (λ goes. subst (Keeps I R Z made) (sym (with_row-more n (combination k a b) rows made row room goes))
      (more k a b rows made row first second all is room, λ r h. grows (combination k a b) made r h))
      (cases_Bool (is_contradiction row)))
      (λ full. subst (Keeps I R Z made) (sym (with_row-full n (combination k a b) rows made row full)) tt)
      (cases_lt (length rows) 4096)

  keeps_option : (k : ℕ) (a b : Numbered) (rows : List Numbered) (made : List Combination) (o : Option (List ℤ)) → R made a → R made b → I rows made → row_of k a b ≡ o →
      Keeps I R Z made (with_row n (combination k a b) rows made o)
  keeps_option k a b rows made None first second all is = (all, λ r h. h)
  keeps_option k a b rows made (Some row) first second all is = keeps_row k a b rows made row first second all is

  keeps_two : (k : ℕ) (a b : Numbered) (rows : List Numbered) (made : List Combination) → R made a → R made b → I rows made → Keeps I R Z made (combine_two n k a b rows made)
  keeps_two k a b rows made first second all = keeps_option k a b rows made (row_of k a b) first second all refl

  keeps_one : (k : ℕ) (a : Numbered) (bs : List Numbered) (rows : List Numbered) (made : List Combination) → R made a → All (R made) bs → I rows made →
      Keeps I R Z made (combine_one n k a bs rows made)
  keeps_one k a [] rows made first below all = (all, λ r h. h)
  keeps_one k a (b ∷ bs) rows made first below all =
      keeps_going I R Z made (combine_two n k a b rows made) (combine_one n k a bs) (keeps_two k a b rows made first (All-head (R made) b bs below) all)
      (λ rows' made' all' later. keeps_one k a bs rows' made' (later a first) (All-weaker (R made) (R made') later bs (All-tail (R made) b bs below)) all')

  keeps_all : (k : ℕ) (above below : List Numbered) (rows : List Numbered) (made : List Combination) → All (R made) above → All (R made) below → I rows made →
      Keeps I R Z made (combine_all n k above below rows made)
  keeps_all k [] below rows made up down all = (all, λ r h. h)
  keeps_all k (a ∷ above) below rows made up down all =
      keeps_going I R Z made (combine_one n k a below rows made) (combine_all n k above below) (keeps_one k a below rows made (All-head (R made) a above up) down all)
      (λ rows' made' all' later. keeps_all k above below rows' made' (All-weaker (R made) (R made') later above (All-tail (R made) a above up)) (All-weaker (R made) (R made') later below down) all')

  pub keeps_eliminate : (k : ℕ) (rows : List Numbered) (made : List Combination) → All (R made) rows → I (filter (is_without k) rows) made → Keeps I R Z made (eliminate n k rows made)
  keeps_eliminate k rows made each all =
      keeps_all k (filter (is_above k) rows) (filter (is_below k) rows) (filter (is_without k) rows) made
      (All-filter (is_above k) (R made) rows each) (All-filter (is_below k) (R made) rows each) all
