-- Where named rows are refuted, the goal is true wherever the hypotheses are.
use Rattle.std.proofs.Common.{◌≡◌, ◌∙◌, sym, ap, refl, suc, ℤ, int_le, int_lt, Bool, true, false, leb, List, [], ◌∷◌, ◌++◌, length, map, Option, Some, None, arith}
use Rattle.std.specs.List.{AllByRecursion, list_all}
use Rattle.std.specs.Option.{IfSome}
use Rattle.std.proofs.lemmas.Bool.{and_from, and_parts}
use Rattle.std.proofs.lemmas.Int.{ints}
use Rattle.std.proofs.lemmas.List.{length-append, length-map}
use Rattle.std.proofs.lemmas.List.Folds.{list_all-append}
use Rattle.math_terms.specs.declared.descriptor.Sort.{Sort}
use Rattle.math_terms.specs.declared.name.Line.{Line}
use Rattle.math_terms.specs.declared.name.RowName.{RowName}
use Rattle.math_terms.specs.declared.term.Term.{Term}
use Rattle.math_terms.specs.declared.term.Term.TheOpen.{Term-F}
use Rattle.math_terms.specs.declared.term.Term.TheViews.{roll-Term, out-Term, roll-out-Term}
use Rattle.math_terms.specs.declared.term.Term.TheFolds.{map-Term}
use Rattle.math_terms.specs.Descriptors.{Interpretation, holds, starts_in, value}
use Rattle.math_terms.specs.Laws.{EqualityIsSameness, SameTermsAreEqual}
use Rattle.math_terms.specs.Meaning.{Valuation, value_step}
use Rattle.math_terms.specs.Values.{Val, number, truth}
use Rattle.num_theory.specs.Laws.{LinearTestsAreSound, worth}
use Rattle.num_theory.specs.Lines.{refutes, row_holds}
use Rattle.num_theory.specs.Naming.{columns, find_rows, linear_test, most_atoms, negated_goal, refuted_by, rows_at_hand}
use Rattle.num_theory.specs.Table.{Sum, coefficient, row_of}
use Rattle.num_theory.proofs.Refuting.{length-reduced, refuted_rows_clash}
use Rattle.num_theory.proofs.RowMeaning.{found_rows_hold, holds_at}

-- rows over columns have one length
length-row_of : (atoms : List Term) (s : Sum) → length (row_of atoms s) ≡ suc (length atoms)
length-row_of atoms s =
    let numbers : List ℤ = map (λ t. coefficient t s.products) atoms in
    length-reduced (numbers ++ s.constant ∷ [])
    ∙ omega (arith, length-append numbers (s.constant ∷ []), length-map atoms (λ t. coefficient t s.products))

rows_long : (atoms : List Term) (ss : List Sum) → AllByRecursion (λ row. length row ≡ suc (length atoms)) (map (row_of atoms) ss)
rows_long atoms [] = tt
rows_long atoms (s ∷ ss) = (length-row_of atoms s, rows_long atoms ss)

not_less : (x y : ℤ) → int_lt x y ≡ false → int_le y x ≡ true
not_less x y h = grind (arith, ints)

not_less_eq : (x y : ℤ) → int_le x y ≡ false → int_lt y x ≡ true
not_less_eq x y h = grind (arith, ints)

module _ (law : SameTermsAreEqual) (equality : EqualityIsSameness) (I : Interpretation) (w : Valuation) where
  abbrev hold : List Term → Bool
  hold fs = list_all (holds I w) fs

  refuted : (atoms : List Term) (lines : List Line) (o : Option (List Sum)) → refuted_by atoms lines o ≡ true →
      IfSome o (λ named. list_all (row_holds (worth I w (columns atoms named))) (map (row_of (columns atoms named)) named) ≡ true) → ⊥
  refuted atoms lines None test found = cc
  refuted atoms lines (Some named) test found =
      let rows : List (List ℤ) = map (row_of (columns atoms named)) named in
      refuted_rows_clash (suc (length (columns atoms named))) (worth I w (columns atoms named)) rows lines (rows_long (columns atoms named) named)
      (and_parts (leb (length (columns atoms named)) 63) (refutes rows lines) test).1 found

  -- one formula that is true, by its outermost form
  alone : (x : Term-F Term) → truth (value_step (starts_in I) w (map-Term Term Val (value I w) x)) ≡ true → hold (roll-Term x ∷ []) ≡ true
  alone x h = and_from (holds I w (roll-Term x)) true (holds_at law equality I w x ∙ h) refl

  negated_at : (t : Term) (x : Term-F Term) → out-Term t ≡ x → holds I w (roll-Term x) ≡ false → hold (negated_goal t) ≡ true
  negated_at t (Term-F.Less a b) is h = rw is (alone (Term-F.LessEq b a) (not_less (number (value I w a)) (number (value I w b)) (sym (holds_at law equality I w (Term-F.Less a b)) ∙ h)))
  negated_at t (Term-F.LessEq a b) is h = rw is (alone (Term-F.Less b a) (not_less_eq (number (value I w a)) (number (value I w b)) (sym (holds_at law equality I w (Term-F.LessEq a b)) ∙ h)))
  negated_at t x is h = rw is refl

  negated_holds : (goal : Term) → holds I w goal ≡ false → hold (negated_goal goal) ≡ true
  negated_holds goal h = negated_at goal (out-Term goal) refl (ap (holds I w) (roll-out-Term goal) ∙ h)

  sound_test : (vars : List Sort) (hyps : List Term) (goal : Term) (names : List RowName) (lines : List Line) → linear_test vars hyps goal names lines ≡ true →
      hold hyps ≡ true → holds I w goal ≡ true
  sound_test vars hyps goal names lines test h = by_goal (holds I w goal) refl
    where
      by_goal : (b : Bool) → holds I w goal ≡ b → b ≡ true
      by_goal true is = refl
      by_goal false is =
          let negated : List Term = negated_goal goal in
          let all : hold (hyps ++ negated) ≡ true = list_all-append (holds I w) hyps negated ∙ and_from (hold hyps) (hold negated) h (negated_holds goal is) in
          absurd (refuted (rows_at_hand vars hyps goal).atoms lines (find_rows (length hyps) (rows_at_hand vars hyps goal).sums names) test
          (found_rows_hold law equality I w most_atoms vars (hyps ++ negated) all (length hyps) names))

pub linear_tests_are_sound : SameTermsAreEqual → EqualityIsSameness → LinearTestsAreSound
linear_tests_are_sound law equality vars hyps goal names lines test I w h = sound_test law equality I w vars hyps goal names lines test h
