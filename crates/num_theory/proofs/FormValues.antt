-- The number of a term is what its form is worth.
use Rattle.std.proofs.Common.{◌≡◌, ◌∙◌, sym, ap, refl, subst, ℕ, zero, suc, int_lt, ℤ, pos, negsuc, ◌+ℤ◌, ◌-ℤ◌, ◌*ℤ◌, Bool, true, false, ◌&&◌, List, [], ◌∷◌, map, Option, Some, None, if◌then◌else◌, arith}
use Rattle.std.specs.Int.{int_div_euclid, int_rem_euclid}
use Rattle.std.proofs.lemmas.Bool.{and_parts, lt-ltb}
use Rattle.std.proofs.lemmas.Int.{ints}
use Rattle.std.proofs.Math.IntN.{*ℤ_comm}
use Rattle.math_terms.specs.declared.term.Term.{Term}
use Rattle.math_terms.specs.declared.term.Term.TheOpen.{Term-F}
use Rattle.math_terms.specs.declared.term.Term.TheViews.{roll-Term, out-Term, roll-out-Term}
use Rattle.math_terms.specs.declared.term.Term.TheFolds.{map-Term, fold-roll-Term, ind-Term}
use Rattle.math_terms.specs.Descriptors.{Interpretation, starts_in, value}
use Rattle.math_terms.specs.Laws.{SameTermsAreEqual}
use Rattle.math_terms.specs.Meaning.{Valuation, value_step}
use Rattle.math_terms.specs.Values.{Val, number, quotient, remainder}
use Rattle.num_theory.specs.declared.number.Number.{Number}
use Rattle.num_theory.specs.declared.number.Number.TheVariants.{Exact}
use Rattle.num_theory.specs.Number.{exact, is_narrow, product, sum}
use Rattle.num_theory.specs.Linear.{Form, Product, add_products, atom_form, constant_form, exact_product, formed, is_constant, linear_of, minus_one, multiple, plus, product_form, remainder_by, remainder_over, scaled, shown, times}
use Rattle.num_theory.specs.Laws.{FormsKeepValues, sum_of_products}
use Rattle.std.specs.Option.{IfSome}
use Rattle.num_theory.specs.declared.table.LinearForm.{LinearForm}
use Rattle.num_theory.specs.Shown.{linear_shown}
use Rattle.num_theory.specs.working.Making.{IsWellMade}
use Rattle.num_theory.proofs.Forming.{form_at, form_other, formed_first, is_other, product_atom, remainder_above, remainder_at}
use Rattle.num_theory.proofs.Integers.{exact_sum, exact_times, remainder_is, sum_times}
use Rattle.num_theory.proofs.Sums.{IsDistinct, adds_value, distinct_adds, distinct_scaled, open_all, scaled_value, shown_value, zero_value}
use Rattle.num_theory.proofs.WellMade.{form_well, made_parts, made_well}

above_zero : {A : Type 0} (n : ℕ) (x y : A) → (if int_lt (pos 0) (pos (suc n)) then x else y) ≡ x
above_zero n x y = rw (lt-ltb 0 (suc n) (omega arith)) refl

module _ (law : SameTermsAreEqual) (I : Interpretation) (w : Valuation) where
  abbrev worth_of : Term → ℤ
  worth_of t = number (value I w t)

  -- what a form is worth
  abbrev form_worth : Form → ℤ
  form_worth f = sum_of_products I w (map exact_product f.products) +ℤ exact f.constant

  plus_value : (f g : Form) → IsWellMade f → IsWellMade g → IsDistinct g.products → (plus f g).is_narrow ≡ true →
      form_worth (plus f g) ≡ form_worth f +ℤ form_worth g
  plus_value f g well_f well_g distinct small =
      let both = and_parts f.is_narrow g.is_narrow (made_parts (f.is_narrow && g.is_narrow) (add_products f.products g.products) (sum f.constant g.constant) small) in
      let in_f = well_f both.0 in
      let in_g = well_g both.1 in
      (λ i. adds_value law I w f.products g.products in_g.0 distinct (open_all f.products g.products in_f.0) i +ℤ exact_sum f.constant g.constant in_f.1 in_g.1 i)
      ∙ around (sum_of_products I w (map exact_product f.products)) (sum_of_products I w (map exact_product g.products)) (exact f.constant) (exact g.constant)
    where
      around : (x y z v : ℤ) → (x +ℤ y) +ℤ (z +ℤ v) ≡ (x +ℤ z) +ℤ (y +ℤ v)
      around x y z v = omega (arith, ints)

  times_value : (k : Number) (f : Form) → IsWellMade f → is_narrow k ≡ true → f.is_narrow ≡ true → form_worth (times k f) ≡ exact k *ℤ form_worth f
  times_value k f well_f small narrow_f =
      let in_f = well_f narrow_f in
      (λ i. scaled_value I w k f.products small in_f.0 i +ℤ exact_times k f.constant small in_f.1 i)
      ∙ sym (sum_times (exact k) (sum_of_products I w (map exact_product f.products)) (exact f.constant))

  multiple_value : (f g : Form) → IsWellMade f → IsWellMade g → (multiple f g).is_narrow ≡ true → form_worth (multiple f g) ≡ exact f.constant *ℤ form_worth g
  multiple_value f g well_f well_g small =
      let both = and_parts f.is_narrow g.is_narrow (made_parts (f.is_narrow && g.is_narrow) (times f.constant g).products (times f.constant g).constant small) in
      times_value f.constant g well_g (well_f both.0).1 both.1

  -- a form without products is worth its constant
  constant_value : (f : Form) → is_constant f ≡ true → form_worth f ≡ exact f.constant
  constant_value f zeros = ap (λ x. x +ℤ exact f.constant) (zero_value I w f.products zeros) ∙ none (exact f.constant)
    where
      none : (x : ℤ) → pos 0 +ℤ x ≡ x
      none x = omega (arith, ints)

  atom_value : (t : Term) → form_worth (atom_form t) ≡ worth_of t
  atom_value t = one (worth_of t)
    where
      one : (x : ℤ) → (pos 1 *ℤ x +ℤ pos 0) +ℤ pos 0 ≡ x
      one x = omega (arith, ints)

  -- the products are of distinct atoms, and a narrow form is worth the number of its term
  Sound : Term → Type 0
  Sound t = IsDistinct (formed t).1.products × ((formed t).1.is_narrow ≡ true → worth_of t ≡ form_worth (formed t).1)

  abbrev Known : Type 0
  Known = (t : Term) × Sound t

  abbrev bare : Term-F Known → Term-F Term
  bare y = map-Term Known Term (λ e. e.0) y

  -- the same of a form for a term
  FitsForm : Term → Form → Type 0
  FitsForm t f = IsDistinct f.products × (f.is_narrow ≡ true → worth_of t ≡ form_worth f)

  sound_by : (t : Term) (f : Form) → (formed t).1 ≡ f → FitsForm t f → Sound t
  unfolding Sound FitsForm
  sound_by t f is fits = subst (FitsForm t) (sym is) fits

  fits_atom : (t : Term) → FitsForm t (atom_form t)
  unfolding FitsForm
  fits_atom t = ((tt, tt), λ small. sym (atom_value t))

  sound_other : (x : Term-F Term) → is_other x ≡ true → Sound (roll-Term x)
  sound_other x other = sound_by (roll-Term x) (atom_form (roll-Term x)) (form_other x (roll-Term x) refl other) (fits_atom (roll-Term x))

  -- the number of a term with this node at its head
  worth_at : (x : Term-F Term) → worth_of (roll-Term x) ≡ number (value_step (starts_in I) w (map-Term Term Val (value I w) x))
  worth_at x = ap number (fold-roll-Term Val (value_step (starts_in I) w) x)

  sound_number : (n : ℤ) → Sound (roll-Term (Term-F.Num n))
  unfolding FitsForm
  sound_number n =
      let t : Term = roll-Term (Term-F.Num n) in
      sound_by t (constant_form n) (form_at (Term-F.Num n) t refl) (tt, λ small. worth_at (Term-F.Num n) ∙ none n)
    where
      none : (x : ℤ) → x ≡ pos 0 +ℤ x
      none x = omega (arith, ints)

  sound_sum : (a b : Known) → Sound (roll-Term (Term-F.Add a.0 b.0))
  unfolding Sound FitsForm
  sound_sum a b =
      let f : Form = (formed a.0).1 in
      let g : Form = (formed b.0).1 in
      let t : Term = roll-Term (Term-F.Add a.0 b.0) in
      sound_by t (plus f g) (form_at (Term-F.Add a.0 b.0) t refl) (
        distinct_adds law f.products g.products a.1.0,
        λ small.
            let both = and_parts f.is_narrow g.is_narrow (made_parts (f.is_narrow && g.is_narrow) (add_products f.products g.products) (sum f.constant g.constant) small) in
            worth_at (Term-F.Add a.0 b.0) ∙ (λ i. a.1.1 both.0 i +ℤ b.1.1 both.1 i)
            ∙ sym (plus_value f g (form_well a.0) (form_well b.0) b.1.0 small),
      )

  -- the form of a negated term
  abbrev negated : Form → Form
  negated g = times minus_one g

  sound_difference : (a b : Known) → Sound (roll-Term (Term-F.Sub a.0 b.0))
  unfolding Sound FitsForm
  sound_difference a b =
      let f : Form = (formed a.0).1 in
      let g : Form = (formed b.0).1 in
      let t : Term = roll-Term (Term-F.Sub a.0 b.0) in
      sound_by t (plus f (negated g)) (form_at (Term-F.Sub a.0 b.0) t refl) (
        distinct_adds law f.products (negated g).products a.1.0,
        λ small.
            let both = and_parts f.is_narrow (negated g).is_narrow (made_parts (f.is_narrow && (negated g).is_narrow) (add_products f.products (negated g).products) (sum f.constant (negated g).constant) small) in
            let inner = made_parts g.is_narrow (map (scaled minus_one) g.products) (product minus_one g.constant) both.1 in
            worth_at (Term-F.Sub a.0 b.0) ∙ (λ i. a.1.1 both.0 i -ℤ b.1.1 inner i)
            ∙ negate (form_worth f) (form_worth g)
            ∙ ap (λ x. form_worth f +ℤ x) (sym (times_value minus_one g (form_well b.0) refl inner))
            ∙ sym (plus_value f (negated g) (form_well a.0) (made_well g.is_narrow (map (scaled minus_one) g.products) (product minus_one g.constant)) (distinct_scaled minus_one g.products b.1.0) small),
      )
    where
      negate : (x y : ℤ) → x -ℤ y ≡ x +ℤ negsuc 0 *ℤ y
      negate x y = omega (arith, ints)

  fits_multiple : (a b : Known) (t : Term) → worth_of t ≡ worth_of a.0 *ℤ worth_of b.0 → is_constant (formed a.0).1 ≡ true → FitsForm t (multiple (formed a.0).1 (formed b.0).1)
  unfolding Sound FitsForm
  fits_multiple a b t is zeros =
      let f : Form = (formed a.0).1 in
      let g : Form = (formed b.0).1 in (
        distinct_scaled f.constant g.products b.1.0,
        λ small.
            let both = and_parts f.is_narrow g.is_narrow (made_parts (f.is_narrow && g.is_narrow) (times f.constant g).products (times f.constant g).constant small) in
            is ∙ (λ i. (a.1.1 both.0 ∙ constant_value f zeros) i *ℤ b.1.1 both.1 i)
            ∙ sym (multiple_value f g (form_well a.0) (form_well b.0) small),
      )

  sound_product : (a b : Known) → Sound (roll-Term (Term-F.Mul a.0 b.0))
  sound_product a b =
      let t : Term = roll-Term (Term-F.Mul a.0 b.0) in
      sound_by t (product_form (formed a.0) (formed b.0)) (form_at (Term-F.Mul a.0 b.0) t refl)
      (by_tests (is_constant (formed b.0).1) (is_constant (formed a.0).1) refl refl)
    where
      by_tests : (x y : Bool) → is_constant (formed b.0).1 ≡ x → is_constant (formed a.0).1 ≡ y → FitsForm (roll-Term (Term-F.Mul a.0 b.0)) (product_form (formed a.0) (formed b.0))
      by_tests true y e f =
          subst (FitsForm (roll-Term (Term-F.Mul a.0 b.0))) (ap (λ z. if z then multiple (formed b.0).1 (formed a.0).1 else (if is_constant (formed a.0).1 then multiple (formed a.0).1 (formed b.0).1 else atom_form (roll-Term (Term-F.Mul (formed a.0).0 (formed b.0).0)))) (sym e))
          (fits_multiple b a (roll-Term (Term-F.Mul a.0 b.0)) (worth_at (Term-F.Mul a.0 b.0) ∙ *ℤ_comm (worth_of a.0) (worth_of b.0)) e)
      by_tests false true e f =
          subst (FitsForm (roll-Term (Term-F.Mul a.0 b.0)))
          (λ i. if sym e i then multiple (formed b.0).1 (formed a.0).1 else (if sym f i then multiple (formed a.0).1 (formed b.0).1 else atom_form (roll-Term (Term-F.Mul (formed a.0).0 (formed b.0).0))))
          (fits_multiple a b (roll-Term (Term-F.Mul a.0 b.0)) (worth_at (Term-F.Mul a.0 b.0)) f)
      by_tests false false e f =
          subst (FitsForm (roll-Term (Term-F.Mul a.0 b.0))) (sym (product_atom a.0 b.0 (roll-Term (Term-F.Mul a.0 b.0)) refl f e)) (fits_atom (roll-Term (Term-F.Mul a.0 b.0)))

  fits_remainder : (a b : Known) (n : ℕ) → b.0 ≡ roll-Term (Term-F.Num (pos (suc n))) →
      FitsForm (roll-Term (Term-F.Mod a.0 b.0)) (plus (formed a.0).1 (multiple (negated (constant_form (pos (suc n)))) (atom_form (roll-Term (Term-F.Div a.0 b.0)))))
  unfolding Sound FitsForm
  fits_remainder a b n at =
      let m : ℤ = pos (suc n) in
      let f : Form = (formed a.0).1 in
      let k : Form = constant_form m in
      let q : Form = atom_form (roll-Term (Term-F.Div a.0 b.0)) in
      let g : Form = multiple (negated k) q in (
        distinct_adds law f.products g.products a.1.0,
        λ small.
            let both = and_parts f.is_narrow g.is_narrow (made_parts (f.is_narrow && g.is_narrow) (add_products f.products g.products) (sum f.constant g.constant) small) in
            let parts = and_parts (negated k).is_narrow q.is_narrow (made_parts ((negated k).is_narrow && q.is_narrow) (times (negated k).constant q).products (times (negated k).constant q).constant both.1) in
            let inner = made_parts k.is_narrow [] (product minus_one (Exact m)) parts.0 in
            let narrow_m = (made_well true [] (Exact m) inner).1 in
            let divisor : worth_of b.0 ≡ m = ap worth_of at ∙ worth_at (Term-F.Num m) in
            worth_at (Term-F.Mod a.0 b.0)
            ∙ ap (λ y. remainder (worth_of a.0) y) divisor
            ∙ above_zero n (int_rem_euclid (worth_of a.0) m) (pos 0)
            ∙ remainder_is (worth_of a.0) n
            ∙ (λ i. a.1.1 both.0 i +ℤ (negsuc 0 *ℤ m) *ℤ sym (worth_at (Term-F.Div a.0 b.0) ∙ ap (λ y. quotient (worth_of a.0) y) divisor ∙ above_zero n (int_div_euclid (worth_of a.0) m) (pos 0)) i)
            ∙ (λ i. form_worth f +ℤ sym (exact_times minus_one (Exact m) refl narrow_m) i *ℤ sym (atom_value (roll-Term (Term-F.Div a.0 b.0))) i)
            ∙ ap (λ x. form_worth f +ℤ x) (sym (multiple_value (negated k) q (made_well k.is_narrow [] (product minus_one (Exact m))) (made_well true ((Exact (pos 1), roll-Term (Term-F.Div a.0 b.0)) ∷ []) (Exact (pos 0))) both.1))
            ∙ sym (plus_value f g (form_well a.0) (made_well ((negated k).is_narrow && q.is_narrow) (times (negated k).constant q).products (times (negated k).constant q).constant) (tt, tt) small),
      )

  fits_mod : (a b : Known) → FitsForm (roll-Term (Term-F.Mod a.0 b.0)) (atom_form (roll-Term (Term-F.Mod (formed a.0).0 (formed b.0).0)))
  fits_mod a b =
      subst (FitsForm (roll-Term (Term-F.Mod a.0 b.0))) (λ i. atom_form (roll-Term (Term-F.Mod (sym (formed_first a.0) i) (sym (formed_first b.0) i))))
      (fits_atom (roll-Term (Term-F.Mod a.0 b.0)))

  fits_by : (a b : Known) (n : ℤ) → b.0 ≡ roll-Term (Term-F.Num n) → FitsForm (roll-Term (Term-F.Mod a.0 b.0)) (remainder_by (formed a.0) (formed b.0) n)
  fits_by a b (pos zero) at = fits_mod a b
  fits_by a b (pos (suc n)) at =
      subst (FitsForm (roll-Term (Term-F.Mod a.0 b.0))) (sym (remainder_above a.0 b.0 n at)) (fits_remainder a b n at)
  fits_by a b (negsuc n) at = fits_mod a b

  fits_over : (a b : Known) (x : Term-F Term) → b.0 ≡ roll-Term x → FitsForm (roll-Term (Term-F.Mod a.0 b.0)) (remainder_over (formed a.0) (formed b.0) x)
  fits_over a b (Term-F.Num n) at = fits_by a b n at
  fits_over a b x at = fits_mod a b

  sound_remainder : (a b : Known) → Sound (roll-Term (Term-F.Mod a.0 b.0))
  sound_remainder a b =
      let t : Term = roll-Term (Term-F.Mod a.0 b.0) in
      let x : Term-F Term = out-Term b.0 in
      sound_by t (remainder_over (formed a.0) (formed b.0) x)
      (form_at (Term-F.Mod a.0 b.0) t refl ∙ remainder_at a.0 b.0 x (sym (roll-out-Term b.0)))
      (fits_over a b x (sym (roll-out-Term b.0)))

  node_sound : (y : Term-F Known) → Sound (roll-Term (bare y))
  node_sound (Term-F.Num n) = sound_number n
  node_sound (Term-F.Add a b) = sound_sum a b
  node_sound (Term-F.Sub a b) = sound_difference a b
  node_sound (Term-F.Mul a b) = sound_product a b
  node_sound (Term-F.Mod a b) = sound_remainder a b
  node_sound y = sound_other (bare y) refl

  pub form_sound : (t : Term) → IsDistinct (formed t).1.products × ((formed t).1.is_narrow ≡ true → number (value I w t) ≡ sum_of_products I w (map exact_product (formed t).1.products) +ℤ exact (formed t).1.constant)
  unfolding Sound
  form_sound = ind-Term Sound (λ x y is. subst (λ z. Sound (roll-Term z)) is (node_sound y))

-- a linear form where there is one
abbrev pub shown_if : Bool → List Product × ℤ → Option (List Product × ℤ)
shown_if b f = if b then Some f else None

pub forms_keep_values : SameTermsAreEqual → FormsKeepValues
forms_keep_values law t products constant is I w =
    by_test (formed t).1.is_narrow refl is
  where
    by_test : (b : Bool) → (formed t).1.is_narrow ≡ b → shown_if b (shown (formed t).1.products, exact (formed t).1.constant) ≡ Some (products, constant) →
        number (value I w t) ≡ sum_of_products I w products +ℤ constant
    by_test true e same =
        let left : List Product × ℤ = (shown (formed t).1.products, exact (formed t).1.constant) in
        let right : List Product × ℤ = (products, constant) in
        let pairs : left ≡ right = cc in
        (form_sound law I w t).1 e
        ∙ ap (λ x. x +ℤ exact (formed t).1.constant) (sym (shown_value I w (formed t).1.products))
        ∙ ap (λ (p : List Product × ℤ). sum_of_products I w p.0 +ℤ p.1) pairs
    by_test false e same = cc

-- the same of a linear form of the code
pub shown_forms_keep_values : FormsKeepValues → (t : Term) (form : Option LinearForm) → linear_shown form ≡ linear_of t →
    IfSome form (λ f. (I : Interpretation) (w : Valuation) → number (value I w t) ≡ sum_of_products I w f.products +ℤ f.constant)
shown_forms_keep_values keeps t None is = tt
shown_forms_keep_values keeps t (Some f) is = λ I w. keeps t f.products f.constant (sym is) I w
