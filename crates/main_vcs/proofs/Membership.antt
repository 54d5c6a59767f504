-- Numbers of 64 bits lie in the descriptor of integers, and lists of them in that of streams.
use Rattle.std.proofs.Common.{◌≡◌, ◌∙◌, ap, refl, subst, ℕ, ◌+◌, ℤ, pos, Bool, true, ◌&&◌, List, [], ◌∷◌, ◌++◌, length, map, arith}
use Rattle.std.specs.Prelude.{IsTrue}
use Rattle.std.specs.List.{list_all, AllByRecursion}
use Rattle.std.proofs.lemmas.Bool.{and_parts, and_from}
use Rattle.math_terms.specs.declared.descriptor.Desc.{Desc}
use Rattle.math_terms.specs.declared.descriptor.Shape.TheOpen.{Shape-F}
use Rattle.math_terms.specs.declared.descriptor.Shape.TheViews.{roll-Shape}
use Rattle.math_terms.specs.declared.descriptor.Shape.TheFolds.{fold-roll-Shape, fold-roll-Desc}
use Rattle.math_terms.specs.Values.{Val, Num, truth, entries}
use Rattle.math_terms.specs.Meaning.{Valuation, set_to}
use Rattle.math_terms.specs.Descriptors.{Interpretation, holds, member, lies_in, starts_in, shape_step, member_step}
use Rattle.math_terms.specs.Validity.{lies_from}
use Rattle.source_meaning.specs.Meaning.{is_word}
use Rattle.main_vcs.specs.Terms.{num, var, empty_string, equal, in_bounds, true_formula, integer, stream}
use Rattle.main_vcs.specs.Soundness.{numbers}
use Rattle.main_vcs.proofs.TermValues.{entries_of, var_value, true_value, bounds_value}

module _ (I : Interpretation) (u : Valuation) where
  word_in_integer : (n : ℤ) → is_word n ≡ true → member I u integer (Num n) ≡ true
  word_in_integer n h =
      let v = set_to 0 (Num n) u in
      ap (λ f. f (Num n)) (fold-roll-Desc (Val → Bool) (Val → Bool) (shape_step (lies_in I)) (member_step (starts_in I) u) (record { shape = roll-Shape Shape-F.Z; constraint = in_bounds (var 0); initial = equal (var 0) (num (pos 0)) }))
      ∙ ap (λ f. f (Num n) && holds I v (in_bounds (var 0))) (fold-roll-Shape (Val → Bool) (Val → Bool) (shape_step (lies_in I)) (member_step (starts_in I) u) Shape-F.Z)
      ∙ ap truth (bounds_value I v (var 0) n (var_value I v 0))
      ∙ h

  words_in_integer : (ns : List ℤ) → AllByRecursion (λ n. IsTrue (is_word n)) ns → list_all (member I u integer) (map Num ns) ≡ true
  words_in_integer [] h = refl
  words_in_integer (n ∷ ns) h = and_from (member I u integer (Num n)) (list_all (member I u integer) (map Num ns)) (word_in_integer n h.0) (words_in_integer ns h.1)

  words_in_stream : (ns : List ℤ) → AllByRecursion (λ n. IsTrue (is_word n)) ns → member I u stream (numbers ns) ≡ true
  words_in_stream ns h =
      let v = set_to 0 (numbers ns) u in
      ap (λ f. f (numbers ns)) (fold-roll-Desc (Val → Bool) (Val → Bool) (shape_step (lies_in I)) (member_step (starts_in I) u) (record { shape = roll-Shape (Shape-F.Str integer); constraint = true_formula; initial = equal (var 0) empty_string }))
      ∙ ap (λ f. f (numbers ns) && holds I v true_formula) (fold-roll-Shape (Val → Bool) (Val → Bool) (shape_step (lies_in I)) (member_step (starts_in I) u) (Shape-F.Str integer))
      ∙ ap (λ b. list_all (member I u integer) (entries (numbers ns)) && b) (ap truth (true_value I v))
      ∙ ap (λ vs. list_all (member I u integer) vs && true) (entries_of ns)
      ∙ ap (λ b. b && true) (words_in_integer ns h)

  pub in_integer : (v : Val) (n : ℤ) → v ≡ Num n → is_word n ≡ true → member I u integer v ≡ true
  in_integer v n e h = ap (member I u integer) e ∙ word_in_integer n h

  pub in_stream : (v : Val) (ns : List ℤ) → v ≡ numbers ns → AllByRecursion (λ n. IsTrue (is_word n)) ns → member I u stream v ≡ true
  in_stream v ns e h = ap (member I u stream) e ∙ words_in_stream ns h

  -- variables after one another
  pub lies_more : (k : ℕ) (ds es : List Desc) → lies_from I u k ds ≡ true → lies_from I u (k + length ds) es ≡ true → lies_from I u k (ds ++ es) ≡ true
  lies_more k [] es h j = let e : k + 0 ≡ k = omega arith in subst (λ n. lies_from I u n es ≡ true) e j
  lies_more k (d ∷ ds) es h j =
      let p = and_parts (member I u d (u k)) (lies_from I u (k + 1) ds) h in
      let e : k + length (d ∷ ds) ≡ k + 1 + length ds = omega arith in
      and_from (member I u d (u k)) (lies_from I u (k + 1) (ds ++ es)) p.0 (lies_more (k + 1) ds es p.1 (subst (λ n. lies_from I u n es ≡ true) e j))
