-- How many different atoms can stand in cells, and lists of them that stay tame.
use Rattle.std.proofs.Common.{◌≡◌, ◌∙◌, sym, ap, refl, ℕ, ◌<◌, ◌≤◌, ◌==◌, Bool, true, false, ◌||◌, List, [], ◌∷◌, ◌++◌, length, take, Option, Some, None, IfNone, if◌then◌else◌, arith}
use Rattle.std.specs.Cmp.{IsEquivalence}
use Rattle.std.specs.List.{AllByRecursion, IsDistinct, list_any}
use Rattle.std.proofs.lemmas.Bool.{eqb-true, false≢true, ne_eqb}
use Rattle.std.proofs.lemmas.Map.Keys.{IsDistinct-push}
use Rattle.std.proofs.lemmas.Map.Steps.{length-le_from_distinct_below}
use Rattle.math_terms.specs.declared.term.Term.{Term}
use Rattle.math_terms.specs.Heads.{same_term}
use Rattle.math_terms.specs.Terms.{nodes}
use Rattle.math_terms.proofs.SameTerms.{same_term_decides}
use Rattle.num_theory.specs.Linear.{Product}
use Rattle.num_theory.specs.Table.{with_atom, with_atoms}
use Rattle.term_cells.specs.declared.cell.Cell.{Cell}
use Rattle.term_cells.specs.Standing.{stands}
use Rattle.term_cells.proofs.Lasting.{stands_inside}
use Rattle.term_cells.proofs.Telling.{stands_tells}
use Rattle.cell_rows.specs.declared.difference.CellRow.{CellRow}
use Rattle.term_cells.specs.Placed.{AllStand}
use Rattle.cell_rows.specs.working.Atoms.{AtomsOrShort, with_fact_rows, with_row}
use Rattle.cell_rows.specs.Forms.{Mark, ProductsStand}
use Rattle.cell_rows.specs.RowsStand.{Row, RowStands, fact_row}
use Rattle.cell_rows.specs.working.Small.{Small}
use Rattle.cell_rows.specs.working.Tame.{Tame}
use Rattle.cell_rows.proofs.Bounded.{SmallFacts, SmallProducts, SmallRow}
use Rattle.cell_rows.proofs.Places.{atoms_counted, atoms_push}

same_term_equivalence : IsEquivalence same_term
same_term_equivalence = record {
  refl = λ t. (same_term_decides t t).1 refl;
  symm = λ t u. both (same_term t u) (same_term u t) (λ e. (same_term_decides u t).1 (sym ((same_term_decides t u).0 e))) (λ e. (same_term_decides t u).1 (sym ((same_term_decides u t).0 e)));
  congr = λ t u v e. ap (λ x. same_term x v) ((same_term_decides t u).0 e);
}
  where
    both : (b s : Bool) → (b ≡ true → s ≡ true) → (s ≡ true → b ≡ true) → b ≡ s
    both true s f g = sym (f refl)
    both false true f g = g refl
    both false false f g = refl

module _ (cells : List Cell) where
  -- different terms stand at different places
  first_apart : (t : Term) (p : ℕ) → stands cells t p ≡ true → (ts : List Term) (ps : List ℕ) → AllStand cells ts ps → AllByRecursion (λ u. same_term t u ≡ false) ts → AllByRecursion (λ q. (p == q) ≡ false) ps
  first_apart t p s [] [] h d = tt
  first_apart t p s [] (q ∷ ps) h d = absurd h
  first_apart t p s (u ∷ ts) [] h d = absurd h
  first_apart t p s (u ∷ ts) (q ∷ ps) h d = (
    ne_eqb p q (λ e. false≢true (sym d.0 ∙ (same_term_decides t u).1 (stands_tells cells t u p s (ap (stands cells u) e ∙ h.0)))),
    first_apart t p s ts ps h.1 d.1,
  )

  places_apart : (ts : List Term) (ps : List ℕ) → AllStand cells ts ps → IsDistinct same_term ts → IsDistinct (λ p q. p == q) ps
  unfolding IsDistinct
  places_apart [] [] h d = tt
  places_apart [] (p ∷ ps) h d = absurd h
  places_apart (t ∷ ts) [] h d = absurd h
  places_apart (t ∷ ts) (p ∷ ps) h d = (first_apart t p h.0 ts ps h.1 d.0, places_apart ts ps h.1 d.1)

  -- and at places of cells
  places_within : (ts : List Term) (ps : List ℕ) → AllStand cells ts ps → (q : ℕ) → list_any (λ p. q == p) ps ≡ true → q < length cells
  places_within [] [] h q e = absurd (false≢true e)
  places_within [] (p ∷ ps) h q e = absurd h
  places_within (t ∷ ts) [] h q e = absurd h
  places_within (t ∷ ts) (p ∷ ps) h q e = by_test (q == p) refl e (places_within ts ps h.1 q)
    where
      by_test : (b : Bool) → (q == p) ≡ b → (b || list_any (λ x. q == x) ps) ≡ true → (list_any (λ x. q == x) ps ≡ true → q < length cells) → q < length cells
      by_test true is f rest = stands_inside cells t q (ap (stands cells t) (eqb-true q p is) ∙ h.0)
      by_test false is f rest = rest f

  -- so there are no more of them than cells
  pub not_crowded : (ts : List Term) (ps : List ℕ) → AllStand cells ts ps → IsDistinct same_term ts → length ts ≤ length cells
  not_crowded ts ps h d = omega (arith, atoms_counted cells ts ps h, length-le_from_distinct_below ps (length cells) (places_apart ts ps h d) (places_within ts ps h))

  -- where atoms stand, those of a row stand with them
  abbrev StandSomewhere : List Term → Type 0
  StandSomewhere ts = (ps : List ℕ) × AllStand cells ts ps

  atom_somewhere : (ts : List Term) (t : Term) (p : ℕ) → stands cells t p ≡ true → StandSomewhere ts → StandSomewhere (with_atom ts t)
  atom_somewhere ts t p s h = by_test (list_any (same_term t) ts)
    where
      by_test : (b : Bool) → StandSomewhere (if b then ts else ts ++ t ∷ [])
      by_test true = h
      by_test false = (h.0 ++ p ∷ [], atoms_push cells ts h.0 t p h.1 s)

  atoms_somewhere : (ts : List Term) (ps : List Product) (ms : List Mark) → ProductsStand cells ps ms → StandSomewhere ts → StandSomewhere (with_atoms ts ps)
  atoms_somewhere ts [] ms s h = h
  atoms_somewhere ts (p ∷ ps) [] s h = absurd s
  atoms_somewhere ts (p ∷ ps) (m ∷ ms) s h = atoms_somewhere (with_atom ts p.1) ps ms s.2 (atom_somewhere ts p.1 m.1 s.1 h)

  row_somewhere : (ts : List Term) (r : Option Row) (raw : Option CellRow) (marks : List Mark) → RowStands cells r raw marks → StandSomewhere ts → StandSomewhere (with_row ts r)
  row_somewhere ts None raw marks s h = h
  row_somewhere ts (Some r) None marks s h = absurd s
  row_somewhere ts (Some r) (Some raw) marks s h = atoms_somewhere ts r.0 (take raw.count marks) s.0 h

-- tame atoms with more of them
distinct_atom : (ts : List Term) (t : Term) → IsDistinct same_term ts → IsDistinct same_term (with_atom ts t)
distinct_atom ts t d = by_test (list_any (same_term t) ts) refl
  where
    by_test : (b : Bool) → list_any (same_term t) ts ≡ b → IsDistinct same_term (if b then ts else ts ++ t ∷ [])
    by_test true e = d
    by_test false e = IsDistinct-push same_term_equivalence ts t d e

small_push : (most : ℕ) (ts : List Term) (t : Term) → nodes t ≤ most → Small most ts → Small most (ts ++ t ∷ [])
small_push most [] t l h = (l, tt)
small_push most (u ∷ ts) t l h = (h.0, small_push most ts t l h.1)

small_atom : (most : ℕ) (ts : List Term) (t : Term) → nodes t ≤ most → Small most ts → Small most (with_atom ts t)
small_atom most ts t l h = by_test (list_any (same_term t) ts)
  where
    by_test : (b : Bool) → Small most (if b then ts else ts ++ t ∷ [])
    by_test true = h
    by_test false = small_push most ts t l h

module _ (most : ℕ) where
  pub tame_none : Tame most []
  unfolding IsDistinct
  tame_none = record { distinct = tt; small = tt }

  tame_atoms : (ts : List Term) (ps : List Product) → SmallProducts most ps → Tame most ts → Tame most (with_atoms ts ps)
  tame_atoms ts [] s h = h
  tame_atoms ts (p ∷ ps) s h = tame_atoms (with_atom ts p.1) ps s.1 (record { distinct = distinct_atom ts p.1 h.distinct; small = small_atom most ts p.1 s.0 h.small })

  pub tame_row : (ts : List Term) (r : Option Row) → SmallRow most r → Tame most ts → Tame most (with_row ts r)
  tame_row ts None s h = h
  tame_row ts (Some r) s h = tame_atoms ts r.0 s h

  pub tame_facts : (ts fs : List Term) → SmallFacts most fs → Tame most ts → Tame most (with_fact_rows ts fs)
  tame_facts ts [] s h = h
  tame_facts ts (f ∷ fs) s h = tame_facts (with_row ts (fact_row f)) fs s.1 (tame_row ts (fact_row f) s.0 h)

-- So a row's atoms find places, where there are as many as cells.
pub row_places : (cells : List Cell) (ts : List Term) (ps : List ℕ) (r : Option Row) (raw : Option CellRow) (marks : List Mark) (most : ℕ) → AllStand cells ts ps → RowStands cells r raw marks → SmallRow most r → Tame most ts →
    (o : Option ℕ) (places : List ℕ) → AtomsOrShort cells (with_row ts r) o places → length cells ≤ length places → (A : Type 0) → IfNone o A
row_places cells ts ps r raw marks most h s small tame (Some n) places a l A = tt
row_places cells ts ps r raw marks most h s small tame None places a l A =
    let there = row_somewhere cells ts r raw marks s (ps, h) in
    absurd (omega (arith, a, not_crowded cells (with_row ts r) there.0 there.1 (tame_row most ts r small tame).distinct))
