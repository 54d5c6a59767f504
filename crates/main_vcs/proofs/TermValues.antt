-- The values of the terms that conditions are made of.
use Rattle.std.proofs.Common.{◌≡◌, ◌∙◌, sym, ap, refl, ℕ, ℤ, pos, negsuc, ◌+ℤ◌, ◌-ℤ◌, Bool, true, not, ◌&&◌, ◌||◌, List, [], ◌∷◌, ◌++◌, length, map}
use Rattle.std.specs.Prelude.{int_lt, int_le}
use Rattle.std.specs.Ordering.{int_eq}
use Rattle.std.proofs.lemmas.Bool.{and_from}
use Rattle.std.proofs.lemmas.Bool.Decides.{Decides-int_eq}
use Rattle.std.proofs.lemmas.List.{map-append, length-map}
use Rattle.math_terms.specs.declared.term.Term.{Term}
use Rattle.math_terms.specs.declared.term.Term.TheOpen.{Term-F}
use Rattle.math_terms.specs.declared.term.Term.TheFolds.{fold-roll-Term}
use Rattle.math_terms.specs.Values.{Val, Num, Truth, vals_of, list_of, string, number, truth, entries, same, same_all}
use Rattle.math_terms.specs.Meaning.{Valuation, value_step}
use Rattle.math_terms.specs.Descriptors.{Interpretation, value, starts_in}
use Rattle.source_meaning.specs.Meaning.{is_word}
use Rattle.main_vcs.specs.Terms.{num, var, min_int, max_int, empty_string, single, cat, len, add, sub, equal, below, at_most, both, either, negated, true_formula, in_bounds}
use Rattle.main_vcs.specs.Soundness.{numbers}

list_of-vals_of : (vs : List Val) → list_of (vals_of vs) ≡ vs
list_of-vals_of [] = refl
list_of-vals_of (v ∷ vs) = ap (λ us. v ∷ us) (list_of-vals_of vs)

-- a list of numbers is the same as itself
pub numbers_same : (ns : List ℤ) → same (numbers ns) (numbers ns) ≡ true
numbers_same [] = refl
numbers_same (n ∷ ns) = and_from (int_eq n n) (same_all (vals_of (map Num ns)) (vals_of (map Num ns))) ((Decides-int_eq n n).1 refl) (numbers_same ns)

pub entries_of : (ns : List ℤ) → entries (numbers ns) ≡ map Num ns
entries_of ns = list_of-vals_of (map Num ns)

module _ (I : Interpretation) (u : Valuation) where
  pub num_value : (n : ℤ) → value I u (num n) ≡ Num n
  num_value n = fold-roll-Term Val (value_step (starts_in I) u) (Term-F.Num n)

  pub var_value : (k : ℕ) → value I u (var k) ≡ u k
  var_value k = fold-roll-Term Val (value_step (starts_in I) u) (Term-F.Var k)

  pub min_value : value I u min_int ≡ Num (negsuc 9223372036854775807)
  min_value = fold-roll-Term Val (value_step (starts_in I) u) Term-F.MinInt

  pub max_value : value I u max_int ≡ Num (pos 9223372036854775807)
  max_value = fold-roll-Term Val (value_step (starts_in I) u) Term-F.MaxInt

  pub true_value : value I u true_formula ≡ Truth true
  true_value = fold-roll-Term Val (value_step (starts_in I) u) (Term-F.Truth true)

  module _ (a b : Term) (m n : ℤ) (p : value I u a ≡ Num m) (q : value I u b ≡ Num n) where
    pub add_value : value I u (add a b) ≡ Num (m +ℤ n)
    add_value = fold-roll-Term Val (value_step (starts_in I) u) (Term-F.Add a b) ∙ (λ i. Num (number (p i) +ℤ number (q i)))

    pub sub_value : value I u (sub a b) ≡ Num (m -ℤ n)
    sub_value = fold-roll-Term Val (value_step (starts_in I) u) (Term-F.Sub a b) ∙ (λ i. Num (number (p i) -ℤ number (q i)))

    pub below_value : value I u (below a b) ≡ Truth (int_lt m n)
    below_value = fold-roll-Term Val (value_step (starts_in I) u) (Term-F.Less a b) ∙ (λ i. Truth (int_lt (number (p i)) (number (q i))))

    pub at_most_value : value I u (at_most a b) ≡ Truth (int_le m n)
    at_most_value = fold-roll-Term Val (value_step (starts_in I) u) (Term-F.LessEq a b) ∙ (λ i. Truth (int_le (number (p i)) (number (q i))))

  module _ (a b : Term) (x y : Bool) (p : value I u a ≡ Truth x) (q : value I u b ≡ Truth y) where
    pub both_value : value I u (both a b) ≡ Truth (x && y)
    both_value = fold-roll-Term Val (value_step (starts_in I) u) (Term-F.And a b) ∙ (λ i. Truth (truth (p i) && truth (q i)))

    pub either_value : value I u (either a b) ≡ Truth (x || y)
    either_value = fold-roll-Term Val (value_step (starts_in I) u) (Term-F.Or a b) ∙ (λ i. Truth (truth (p i) || truth (q i)))

  pub negated_value : (a : Term) (x : Bool) → value I u a ≡ Truth x → value I u (negated a) ≡ Truth (not x)
  negated_value a x p = fold-roll-Term Val (value_step (starts_in I) u) (Term-F.Not a) ∙ (λ i. Truth (not (truth (p i))))

  pub equal_value : (a b : Term) (v w : Val) → value I u a ≡ v → value I u b ≡ w → value I u (equal a b) ≡ Truth (same v w)
  equal_value a b v w p q = fold-roll-Term Val (value_step (starts_in I) u) (Term-F.Eq a b) ∙ (λ i. Truth (same (p i) (q i)))

  pub bounds_value : (a : Term) (n : ℤ) → value I u a ≡ Num n → value I u (in_bounds a) ≡ Truth (is_word n)
  bounds_value a n p =
      both_value (at_most min_int a) (at_most a max_int) _ _
      (at_most_value min_int a _ n min_value p)
      (at_most_value a max_int n _ p max_value)

  pub empty_value : value I u empty_string ≡ numbers []
  empty_value = fold-roll-Term Val (value_step (starts_in I) u) Term-F.Empty

  pub single_value : (a : Term) (n : ℤ) → value I u a ≡ Num n → value I u (single a) ≡ numbers (n ∷ [])
  single_value a n p = fold-roll-Term Val (value_step (starts_in I) u) (Term-F.Single a) ∙ (λ i. string (p i ∷ []))

  pub len_value : (a : Term) (ns : List ℤ) → value I u a ≡ numbers ns → value I u (len a) ≡ Num (pos (length ns))
  len_value a ns p =
      fold-roll-Term Val (value_step (starts_in I) u) (Term-F.Len a)
      ∙ (λ i. Num (pos (length (entries (p i)))))
      ∙ ap (λ vs. Num (pos (length vs))) (entries_of ns)
      ∙ ap (λ k. Num (pos k)) (length-map ns Num)

  pub cat_value : (a b : Term) (ms ns : List ℤ) → value I u a ≡ numbers ms → value I u b ≡ numbers ns → value I u (cat a b) ≡ numbers (ms ++ ns)
  cat_value a b ms ns p q =
      fold-roll-Term Val (value_step (starts_in I) u) (Term-F.Cat a b)
      ∙ (λ i. string (entries (p i) ++ entries (q i)))
      ∙ (λ i. string (entries_of ms i ++ entries_of ns i))
      ∙ ap string (sym (map-append Num ms ns))
