-- A linear form as a term.
use Rattle.std.proofs.Common.{◌≡◌, ◌∙◌, sym, ap, refl, ℤ, pos, ◌+ℤ◌, ◌*ℤ◌, Bool, true, false, not, List, [], ◌∷◌, Option, Some, None, arith}
use Rattle.std.specs.Prelude.{option_and_then, if◌then◌else◌}
use Rattle.std.specs.Ordering.{int_eq}
use Rattle.std.proofs.lemmas.Int.{ints}
use Rattle.math_terms.specs.declared.descriptor.Sort.{Sort}
use Rattle.math_terms.specs.declared.term.Term.{Term}
use Rattle.math_terms.specs.declared.term.Term.TheOpen.{Term-F}
use Rattle.math_terms.specs.declared.term.Term.TheViews.{roll-Term, out-Term, roll-out-Term}
use Rattle.math_terms.specs.Heads.{same_term}
use Rattle.math_terms.specs.Laws.{EqualityIsSameness}
use Rattle.math_terms.specs.Sorts.{z}
use Rattle.math_terms.specs.Values.{Val, Num, Truth, Str, Tup, is_number, number}
use Rattle.math_terms.specs.Meaning.{Valuation}
use Rattle.math_terms.specs.Descriptors.{Interpretation, value}
use Rattle.num_theory.specs.Laws.{FormsKeepValues, sum_of_products}
use Rattle.num_theory.specs.Linear.{Product, linear_of}
use Rattle.str_theory.specs.Forms.{add, arithmetic_form, is_arithmetic, mul, num, when}
use Rattle.math_terms.specs.Kinding.{HasKind, Kinding, kinding}
use Rattle.str_theory.specs.Rules.{form_term, gives, plus_constant, product_term, s1, sum_onto}
use Rattle.str_theory.proofs.Kinded.{is_number_of, kinding_roll, make_add, make_arithmetic, make_num}
use Rattle.str_theory.proofs.Telling.{when_tells}
use Rattle.str_theory.proofs.Worth.{int, int_add, int_num, value_roll}
use Rattle.str_theory.proofs.Keeping.{IsRewriting, IsSound, as_kind, plain}
use Rattle.str_theory.proofs.Atoms.{AreInts, linear_ints}

number_whole : (v : Val) → is_number v ≡ true → v ≡ Num (number v)
number_whole (Num n) h = refl
number_whole (Truth c) h = cc
number_whole (Str vs) h = cc
number_whole (Tup vs) h = cc

module _ (vars : List Sort) (I : Interpretation) (w : Valuation) (used : Option Term) (equality : EqualityIsSameness) (forms : FormsKeepValues) where
  int_equal : (m n : ℤ) → int_eq m n ≡ true → m ≡ n
  int_equal m n h = ap number ((equality (Num m) (Num n)).0 h)

  int_mul : (a c : Term) → int I w (mul a c) ≡ int I w a *ℤ int I w c
  int_mul a c = ap number (value_roll I w (Term-F.Mul a c))

  product_value : (p : Product) → int I w (product_term p) ≡ p.0 *ℤ int I w p.1
  product_value p = by_one (int_eq p.0 (pos 1)) refl
    where
      by_one : (c : Bool) → int_eq p.0 (pos 1) ≡ c → int I w (if c then p.1 else mul (num p.0) p.1) ≡ p.0 *ℤ int I w p.1
      by_one true e = once (int I w p.1) ∙ ap (λ m. m *ℤ int I w p.1) (sym (int_equal p.0 (pos 1) e))
        where
          once : (x : ℤ) → x ≡ pos 1 *ℤ x
          once x = omega (arith, ints)
      by_one false e = int_mul (num p.0) p.1 ∙ ap (λ m. m *ℤ int I w p.1) (int_num I w p.0)

  sum_value : (t : Term) (ps : List Product) → int I w (sum_onto t ps) ≡ int I w t +ℤ sum_of_products I w ps
  sum_value t [] = nothing_more (int I w t)
    where
      nothing_more : (x : ℤ) → x ≡ x +ℤ pos 0
      nothing_more x = omega (arith, ints)
  sum_value t (p ∷ ps) =
      sum_value (add t (product_term p)) ps
      ∙ ap (λ m. m +ℤ sum_of_products I w ps) (int_add I w t (product_term p) ∙ ap (λ m. int I w t +ℤ m) (product_value p))
      ∙ together (int I w t) (p.0 *ℤ int I w p.1) (sum_of_products I w ps)
    where
      together : (x y k : ℤ) → (x +ℤ y) +ℤ k ≡ x +ℤ (y +ℤ k)
      together x y k = omega (arith, ints)

  constant_value : (t : Term) (n : ℤ) → int I w (plus_constant t n) ≡ int I w t +ℤ n
  constant_value t n = by_zero (int_eq n (pos 0)) refl
    where
      by_zero : (c : Bool) → int_eq n (pos 0) ≡ c → int I w (if c then t else add t (num n)) ≡ int I w t +ℤ n
      by_zero true e =
          let none : n ≡ pos 0 = int_equal n (pos 0) e in
          more (int I w t) n none
        where
          more : (x y : ℤ) → y ≡ pos 0 → x ≡ x +ℤ y
          more x y h = omega (arith, ints)
      by_zero false e = int_add I w t (num n) ∙ ap (λ m. int I w t +ℤ m) (int_num I w n)

  form_value : (ps : List Product) (n : ℤ) → int I w (form_term ps n) ≡ sum_of_products I w ps +ℤ n
  form_value [] n = int_num I w n ∙ alone n
    where
      alone : (x : ℤ) → x ≡ pos 0 +ℤ x
      alone x = omega (arith, ints)
  form_value (p ∷ ps) n =
      constant_value (sum_onto (product_term p) ps) n
      ∙ ap (λ m. m +ℤ n) (sum_value (product_term p) ps ∙ ap (λ m. m +ℤ sum_of_products I w ps) (product_value p))

  -- its kind
  product_kind : (p : Product) → HasKind I w p.1 z → HasKind I w (product_term p) z
  product_kind p h = by_one (int_eq p.0 (pos 1))
    where
      by_one : (c : Bool) → HasKind I w (if c then p.1 else mul (num p.0) p.1) z
      by_one true = h
      by_one false = (make_arithmetic I w (num p.0) p.1 (make_num I w p.0) h).1

  sum_kind : (t : Term) (ps : List Product) → HasKind I w t z → AreInts I w ps → HasKind I w (sum_onto t ps) z
  sum_kind t [] h k = h
  sum_kind t (p ∷ ps) h k = sum_kind (add t (product_term p)) ps (make_add I w t (product_term p) h (product_kind p k.0)) k.1

  form_kind : (ps : List Product) (n : ℤ) → AreInts I w ps → HasKind I w (form_term ps n) z
  form_kind [] n h = make_num I w n
  form_kind (p ∷ ps) n h = by_zero (int_eq n (pos 0))
    where
      by_zero : (c : Bool) → HasKind I w (if c then sum_onto (product_term p) ps else add (sum_onto (product_term p) ps) (num n)) z
      by_zero true = sum_kind (product_term p) ps (product_kind p h.0) h.1
      by_zero false = make_add I w (sum_onto (product_term p) ps) (num n) (sum_kind (product_term p) ps (product_kind p h.0) h.1) (make_num I w n)

  -- arithmetic gives numbers
  arithmetic_kind : (x : Term-F Kinding) → (s : Sort) → (y : Term-F Term) → arithmetic_form y ≡ true → (kinding I w (roll-Term y)).0 ≡ z
  arithmetic_kind x s (Term-F.Add a c) h = ap (λ (p : Kinding). p.0) (kinding_roll I w (Term-F.Add a c))
  arithmetic_kind x s (Term-F.Sub a c) h = ap (λ (p : Kinding). p.0) (kinding_roll I w (Term-F.Sub a c))
  arithmetic_kind x s (Term-F.Mul a c) h = ap (λ (p : Kinding). p.0) (kinding_roll I w (Term-F.Mul a c))
  arithmetic_kind x s (Term-F.Mod a c) h = ap (λ (p : Kinding). p.0) (kinding_roll I w (Term-F.Mod a c))
  arithmetic_kind x s y h = cc

  whole_number : (t : Term) → HasKind I w t z → value I w t ≡ Num (int I w t)
  whole_number t h = number_whole (value I w t) (is_number_of I w t h)

  pub s1_keeps : IsSound vars I w used s1
  s1_keeps t s r h g =
      let p = when_tells (is_arithmetic t) _ r g in
      by_form (linear_of t) refl p.0 p.1
    where
      by_form : (o : Option (List Product × ℤ)) → linear_of t ≡ o → is_arithmetic t ≡ true
          → option_and_then (λ (f : List Product × ℤ). when (not (same_term (form_term f.0 f.1) t)) (gives (form_term f.0 f.1))) o ≡ Some r → IsRewriting vars I w used t s r
      by_form None e a g = cc
      by_form (Some f) e a g =
          let q = when_tells (not (same_term (form_term f.0 f.1) t)) (gives (form_term f.0 f.1)) r g in
          let same_sort : z ≡ s = sym (arithmetic_kind (Term-F.Num (pos 0)) z (out-Term t) a) ∙ ap (λ u. (kinding I w u).0) (roll-out-Term t) ∙ ap (λ (p : Kinding). p.0) h in
          let ht : HasKind I w t z = as_kind vars I w used t s z h (sym same_sort) in
          let x : Term = form_term f.0 f.1 in
          let hx : HasKind I w x z = form_kind f.0 f.1 (linear_ints I w t f.0 f.1 ht e) in
          plain vars I w used t x s r (as_kind vars I w used x z s hx same_sort)
          (whole_number x hx
          ∙ ap Num (form_value f.0 f.1 ∙ sym (forms t f.0 f.1 e I w))
          ∙ sym (whole_number t ht)) q.1
