-- Products that stand in cells, one after another.
use Rattle.std.proofs.Common.{◌≡◌, ◌∙◌, sym, ap, refl, ℕ, zero, suc, ◌+◌, ◌<◌, ◌≤◌, Bool, true, false, not, cond, ◌&&◌, ◌↔◌, List, [], ◌∷◌, ◌++◌, length, map, get_or, set, take, drop, if◌then◌else◌, arith}
use Rattle.std.specs.List.{position_or_len, list_all}
use Rattle.std.proofs.lemmas.Bool.{false≢true}
use Rattle.math_terms.specs.declared.term.Term.{Term}
use Rattle.math_terms.specs.Heads.{same_term}
use Rattle.math_terms.proofs.SameTerms.{same_term_decides}
use Rattle.num_theory.specs.declared.number.Number.{Number}
use Rattle.num_theory.specs.Linear.{RawProduct, add_product, made, scaled}
use Rattle.num_theory.specs.Number.{is_narrow, product, sum}
use Rattle.num_theory.proofs.Adding.{has}
use Rattle.term_cells.specs.declared.cell.Cell.{Cell}
use Rattle.term_cells.specs.Standing.{stands}
use Rattle.cell_rows.specs.declared.forms.CellForm.{CellForm}
use Rattle.cell_rows.specs.Forms.{Mark, RawStand, FormStands, scaled_mark}

module _ (cells : List Cell) where
  pub marks_counted : (ps : List RawProduct) (ms : List Mark) → RawStand cells ps ms → length ps ≡ length ms
  marks_counted [] [] h = refl
  marks_counted [] (m ∷ ms) h = absurd h
  marks_counted (p ∷ ps) [] h = absurd h
  marks_counted (p ∷ ps) (m ∷ ms) h = ap suc (marks_counted ps ms h.2)

  -- a test of coefficients sees the same in both
  pub tested : (test : Number → Bool) (ps : List RawProduct) (ms : List Mark) → RawStand cells ps ms → list_all (λ (m : Mark). test m.0) ms ≡ list_all (λ (p : RawProduct). test p.0) ps
  tested test [] [] h = refl
  tested test [] (m ∷ ms) h = absurd h
  tested test (p ∷ ps) [] h = absurd h
  tested test (p ∷ ps) (m ∷ ms) h = λ i. test (h.0 i) && tested test ps ms h.2 i

  pub all_scaled : (k : Number) (ps : List RawProduct) (ms : List Mark) → RawStand cells ps ms → RawStand cells (map (scaled k) ps) (map (scaled_mark k) ms)
  all_scaled k [] [] h = tt
  all_scaled k [] (m ∷ ms) h = absurd h
  all_scaled k (p ∷ ps) [] h = absurd h
  all_scaled k (p ∷ ps) (m ∷ ms) h = (ap (product k) h.0, h.1, all_scaled k ps ms h.2)

  -- an answer on one pair of places is that on the terms
  pub same_is : (b : Bool) (t u : Term) → (b ≡ true) ↔ (t ≡ u) → b ≡ same_term t u
  same_is b t u h = agree b (same_term t u) (λ e. (same_term_decides t u).1 (h.0 e)) (λ e. h.1 ((same_term_decides t u).0 e))
    where
      agree : (b s : Bool) → (b ≡ true → s ≡ true) → (s ≡ true → b ≡ true) → b ≡ s
      agree true s f g = sym (f refl)
      agree false true f g = g refl
      agree false false f g = refl

  -- The product at a place.
  pub stands_at : (ps : List RawProduct) (ms : List Mark) → RawStand cells ps ms → (k : ℕ) → k < length ms → (d : Mark) →
      (p : RawProduct) × (drop k ps ≡ p ∷ drop (k + 1) ps) × ((get_or ms k d).0 ≡ p.0) × (stands cells p.1 (get_or ms k d).1 ≡ true)
  stands_at [] [] h k l d = absurd (omega arith)
  stands_at [] (m ∷ ms) h k l d = absurd h
  stands_at (p ∷ ps) [] h k l d = absurd h
  stands_at (p ∷ ps) (m ∷ ms) h zero l d = (p, refl, h.0, h.1)
  stands_at (p ∷ ps) (m ∷ ms) h (suc k) l d =
      let r = stands_at ps ms h.2 k (omega arith) d in
      let one_more : suc (k + 1) ≡ suc k + 1 = omega arith in
      (r.0, r.1 ∙ ap (λ n. r.0 ∷ drop n (p ∷ ps)) one_more, r.2, r.3)

  module _ (t : Term) where
    -- going past one product, which is of the atom or not
    pub passes : (ps : List RawProduct) (ms : List Mark) → RawStand cells ps ms → (k : ℕ) → k < length ms → (d : Mark) → (b : Bool) →
        ((u : Term) → stands cells u (get_or ms k d).1 ≡ true → (b ≡ true) ↔ (t ≡ u)) → k ≤ position_or_len (has t) ps →
        ((b ≡ true → k ≡ position_or_len (has t) ps) × (b ≡ false → k + 1 ≤ position_or_len (has t) ps))
    passes [] [] h k l d b same from = absurd (omega arith)
    passes [] (m ∷ ms) h k l d b same from = absurd h
    passes (p ∷ ps) [] h k l d b same from = absurd h
    passes (p ∷ ps) (m ∷ ms) h zero l d b same from = first b (same_term t p.1) (same_is b t p.1 (same p.1 h.1))
      where
        first : (b s : Bool) → b ≡ s → (b ≡ true → 0 ≡ cond (not s) (1 + position_or_len (has t) ps) 0) × (b ≡ false → 0 + 1 ≤ cond (not s) (1 + position_or_len (has t) ps) 0)
        first true true e = (λ f. refl, λ f. absurd (false≢true (sym f)))
        first true false e = absurd (false≢true (sym e))
        first false true e = absurd (false≢true e)
        first false false e = (λ f. absurd (false≢true f), λ f. omega arith)
    passes (p ∷ ps) (m ∷ ms) h (suc k) l d b same from = later (same_term t p.1) from (λ g. passes ps ms h.2 k (omega arith) d b same g)
      where
        later : (s : Bool) → suc k ≤ cond (not s) (1 + position_or_len (has t) ps) 0 →
            (k ≤ position_or_len (has t) ps → (b ≡ true → k ≡ position_or_len (has t) ps) × (b ≡ false → k + 1 ≤ position_or_len (has t) ps)) →
            (b ≡ true → suc k ≡ cond (not s) (1 + position_or_len (has t) ps) 0) × (b ≡ false → suc k + 1 ≤ cond (not s) (1 + position_or_len (has t) ps) 0)
        later true g rest = absurd (omega arith)
        later false g rest =
            let r = rest (omega arith) in
            (λ e. omega (arith, r.0 e), λ e. omega (arith, r.1 e))

    pub position_inside : (ps : List RawProduct) → position_or_len (has t) ps ≤ length ps
    position_inside [] = omega arith
    position_inside (p ∷ ps) = by_test (same_term t p.1) (position_inside ps)
      where
        by_test : (s : Bool) → position_or_len (has t) ps ≤ length ps → cond (not s) (1 + position_or_len (has t) ps) 0 ≤ suc (length ps)
        by_test true r = omega arith
        by_test false r = omega arith

    module _ (c : Number) where
      -- a product is added to the one at its atom's place
      pub added_at : (ps : List RawProduct) (ms : List Mark) → RawStand cells ps ms → (k : ℕ) → k ≡ position_or_len (has t) ps → k < length ms → (d : Mark) (n : Number) →
          n ≡ sum (get_or ms k d).0 c → RawStand cells (add_product (c, t) ps) (set ms k (n, (get_or ms k d).1))
      added_at [] [] h k e l d n is = absurd (omega arith)
      added_at [] (m ∷ ms) h k e l d n is = absurd h
      added_at (p ∷ ps) [] h k e l d n is = absurd h
      added_at (p ∷ ps) (m ∷ ms) h k e l d n is = by_test (same_term t p.1) k e l is (λ j f g i. added_at ps ms h.2 j f g d n i)
        where
          by_test : (s : Bool) (k : ℕ) → k ≡ cond (not s) (1 + position_or_len (has t) ps) 0 → k < suc (length ms) → n ≡ sum (get_or (m ∷ ms) k d).0 c →
              ((j : ℕ) → j ≡ position_or_len (has t) ps → j < length ms → n ≡ sum (get_or ms j d).0 c → RawStand cells (add_product (c, t) ps) (set ms j (n, (get_or ms j d).1))) →
              RawStand cells (if s then (sum p.0 c, p.1) ∷ ps else p ∷ add_product (c, t) ps) (set (m ∷ ms) k (n, (get_or (m ∷ ms) k d).1))
          by_test true zero e l is rest = (is ∙ ap (λ z. sum z c) h.0, h.1, h.2)
          by_test true (suc k) e l is rest = absurd (omega arith)
          by_test false zero e l is rest = absurd (omega arith)
          by_test false (suc k) e l is rest = (h.0, h.1, rest k (omega arith) (omega arith) is)

      -- or it comes last
      pub added_last : (at : ℕ) → stands cells t at ≡ true → (ps : List RawProduct) (ms : List Mark) → RawStand cells ps ms → length ms ≤ position_or_len (has t) ps →
          RawStand cells (add_product (c, t) ps) (ms ++ (c, at) ∷ [])
      added_last at s [] [] h past = (refl, s, tt)
      added_last at s [] (m ∷ ms) h past = absurd h
      added_last at s (p ∷ ps) [] h past = absurd h
      added_last at s (p ∷ ps) (m ∷ ms) h past = by_test (same_term t p.1) past (λ f. added_last at s ps ms h.2 f)
        where
          by_test : (s : Bool) → suc (length ms) ≤ cond (not s) (1 + position_or_len (has t) ps) 0 →
              (length ms ≤ position_or_len (has t) ps → RawStand cells (add_product (c, t) ps) (ms ++ (c, at) ∷ [])) →
              RawStand cells (if s then (sum p.0 c, p.1) ∷ ps else p ∷ add_product (c, t) ps) (m ∷ (ms ++ (c, at) ∷ []))
          by_test true past rest = absurd (omega arith)
          by_test false past rest = (h.0, h.1, rest (omega arith))

  pub made_stands : (parts : Bool) (ps : List RawProduct) (constant : Number) (most : ℕ) (raw : CellForm) (marks : List Mark) → RawStand cells ps (take raw.count marks) → raw.count ≤ most →
      raw.constant ≡ constant → raw.is_narrow ≡ (parts && list_all (λ (m : Mark). is_narrow m.0) (take raw.count marks) && is_narrow constant) → FormStands cells (made parts ps constant) most raw marks
  made_stands parts ps constant most raw marks h few is narrow_is = record {
    products_stand = h;
    constant_is = is;
    narrow_is = narrow_is ∙ (λ i. parts && tested is_narrow ps (take raw.count marks) h i && is_narrow constant);
    few = few;
  }
