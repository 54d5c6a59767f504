-- The form of a term by its head.
use Rattle.std.proofs.Common.{◌≡◌, ◌∙◌, sym, ap, refl, subst, ℕ, zero, suc, ℤ, pos, negsuc, ◌≤ℤ◌, ◌<ℤ◌, Bool, true, false, arith}
use denote.Ref.{Bor}
use Rattle.std.proofs.lemmas.Int.{ints}
use Rattle.math_terms.specs.declared.term.Term.{Term}
use Rattle.math_terms.specs.declared.term.Term.TheOpen.{Term-F}
use Rattle.math_terms.specs.declared.term.Term.TheViews.{roll-Term, out-Term, out-roll-Term}
use Rattle.math_terms.specs.declared.term.Term.TheFolds.{map-Term, ind-Term}
use Rattle.math_terms.specs.declared.view.Binary.{Binary}
use Rattle.math_terms.specs.declared.view.Unary.{Unary}
use Rattle.math_terms.specs.declared.view.View.{View}
use Rattle.math_terms.specs.Views.{binary_node, unary_node, node_of}
use Rattle.num_theory.specs.Linear.{Formed, formed, form_step, rebuilt, atom_form, constant_form, minus_one, plus, times, multiple, product_form, is_constant, remainder_by, remainder_over, remainder_form}
use Rattle.num_theory.proofs.Heads.{fold_at, map-map}

Rebuilds : Term → Type 0
Rebuilds t = (formed t).0 ≡ t

step : Term-F Formed → Formed
step x = (rebuilt x, form_step x)

children_rebuilt : (y : Term-F ((t : Term) × Rebuilds t)) →
    map-Term Formed Term (λ p. p.0) (map-Term Term Formed formed (map-Term ((t : Term) × Rebuilds t) Term (λ e. e.0) y))
    ≡ map-Term ((t : Term) × Rebuilds t) Term (λ e. e.0) y
unfolding Rebuilds
children_rebuilt y =
    map-map formed (λ (p : Formed). p.0) (map-Term ((t : Term) × Rebuilds t) Term (λ e. e.0) y)
    ∙ map-map (λ (e : (t : Term) × Rebuilds t). e.0) (λ t. (formed t).0) y
    ∙ (λ i. map-Term ((t : Term) × Rebuilds t) Term (λ e. e.1 i) y)

-- a term with its form has the term first
pub formed_first : (t : Term) → (formed t).0 ≡ t
unfolding Rebuilds
formed_first = ind-Term Rebuilds (λ x y is.
    ap (λ (p : Formed). p.0) (fold_at (λ z. (rebuilt z, form_step z)) x (roll-Term x) refl)
    ∙ ap roll-Term (subst (λ z. map-Term Formed Term (λ p. p.0) (map-Term Term Formed formed z) ≡ z) is (children_rebuilt y)))

-- the form of a term with this node at its head
pub form_at : (x : Term-F Term) (t : Term) → t ≡ roll-Term x → (formed t).1 ≡ form_step (map-Term Term Formed formed x)
form_at x t is = ap (λ (p : Formed). p.1) (fold_at (λ z. (rebuilt z, form_step z)) x t is)

rebuilt_all : (x : Term-F Term) (t : Term) → t ≡ roll-Term x → rebuilt (map-Term Term Formed formed x) ≡ t
rebuilt_all x t is = sym (ap (λ (p : Formed). p.0) (fold_at (λ z. (rebuilt z, form_step z)) x t is)) ∙ formed_first t

-- whether a node is neither a number nor a sum, a difference, a product or a remainder
abbrev pub is_other : {A : Type 0} → Term-F A → Bool
is_other (Term-F.Num n) = false
is_other (Term-F.Add a b) = false
is_other (Term-F.Sub a b) = false
is_other (Term-F.Mul a b) = false
is_other (Term-F.Mod a b) = false
is_other x = true

other_step : (x : Term-F Formed) → is_other x ≡ true → form_step x ≡ atom_form (rebuilt x)
other_step (Term-F.Num n) h = cc
other_step (Term-F.Add a b) h = cc
other_step (Term-F.Sub a b) h = cc
other_step (Term-F.Mul a b) h = cc
other_step (Term-F.Mod a b) h = cc
other_step x h = refl

other_map : {A B : Type 0} (f : A → B) (x : Term-F A) → is_other (map-Term A B f x) ≡ is_other x
other_map f (Term-F.Num n) = refl
other_map f x = refl

pub form_other : (x : Term-F Term) (t : Term) → t ≡ roll-Term x → is_other x ≡ true → (formed t).1 ≡ atom_form t
form_other x t is other =
    form_at x t is
    ∙ other_step (map-Term Term Formed formed x) (other_map formed x ∙ other)
    ∙ ap atom_form (rebuilt_all x t is)

other_one : {A : Type 0} (op : Unary) (a : A) → is_other (unary_node op a) ≡ true
other_one Unary.Len a = refl
other_one op a = refl

pub other_view : (v : View) → ((n : ℤ) → v ≡ View.Num n → ⊥) → ((op : Binary) (a b : Bor Term) → v ≡ View.Two op a b → ⊥) → is_other (node_of v) ≡ true
other_view (View.Num n) no_number no_pair = absurd (no_number n refl)
other_view (View.One op a) no_number no_pair = other_one op a.now
other_view (View.Two op a b) no_number no_pair = absurd (no_pair op a b refl)
other_view v no_number no_pair = refl

pub other_two : {A : Type 0} (op : Binary) (a b : A) → (op ≡ Binary.Add → ⊥) → (op ≡ Binary.Sub → ⊥) → (op ≡ Binary.Mul → ⊥) → (op ≡ Binary.Mod → ⊥) →
    is_other (binary_node op a b) ≡ true
other_two Binary.Add a b no_sum no_difference no_product no_remainder = absurd (no_sum refl)
other_two Binary.Sub a b no_sum no_difference no_product no_remainder = absurd (no_difference refl)
other_two Binary.Mul a b no_sum no_difference no_product no_remainder = absurd (no_product refl)
other_two Binary.Mod a b no_sum no_difference no_product no_remainder = absurd (no_remainder refl)
other_two op a b no_sum no_difference no_product no_remainder = refl

-- a product of forms that both have products is an atom
pub product_atom : (a b t : Term) → t ≡ roll-Term (Term-F.Mul a b) → is_constant (formed a).1 ≡ false → is_constant (formed b).1 ≡ false →
    product_form (formed a) (formed b) ≡ atom_form t
product_atom a b t is first second =
    rw (second, first) (ap atom_form ((λ i. roll-Term (Term-F.Mul (formed_first a i) (formed_first b i))) ∙ sym is))

-- a remainder by a term with this node at its head
pub remainder_at : (a b : Term) (x : Term-F Term) → b ≡ roll-Term x → remainder_form (formed a) (formed b) ≡ remainder_over (formed a) (formed b) x
remainder_at a b x is = ap (λ u. remainder_over (formed a) (formed b) (out-Term u)) (formed_first b ∙ is) ∙ ap (remainder_over (formed a) (formed b)) (out-roll-Term x)

remainder_term : (a b t : Term) → t ≡ roll-Term (Term-F.Mod a b) → atom_form (roll-Term (Term-F.Mod (formed a).0 (formed b).0)) ≡ atom_form t
remainder_term a b t is = ap atom_form ((λ i. roll-Term (Term-F.Mod (formed_first a i) (formed_first b i))) ∙ sym is)

-- a remainder by a number that is not above 0
pub remainder_low : (a b t : Term) (n : ℤ) → t ≡ roll-Term (Term-F.Mod a b) → n ≤ℤ pos 0 → remainder_by (formed a) (formed b) n ≡ atom_form t
remainder_low a b t (pos zero) is low = remainder_term a b t is
remainder_low a b t (pos (suc n)) is low = absurd (omega (arith, ints))
remainder_low a b t (negsuc n) is low = remainder_term a b t is

pub remainder_above : (a b : Term) (n : ℕ) → b ≡ roll-Term (Term-F.Num (pos (suc n))) →
    remainder_by (formed a) (formed b) (pos (suc n)) ≡ plus (formed a).1 (multiple (times minus_one (constant_form (pos (suc n)))) (atom_form (roll-Term (Term-F.Div a b))))
remainder_above a b n is =
    λ i. plus (formed a).1 (multiple (times minus_one (form_at (Term-F.Num (pos (suc n))) b is i)) (atom_form (roll-Term (Term-F.Div (formed_first a i) (formed_first b i)))))

-- a remainder by a number above 0
pub remainder_high : (a b : Term) (n : ℤ) → b ≡ roll-Term (Term-F.Num n) → pos 0 <ℤ n →
    remainder_by (formed a) (formed b) n ≡ plus (formed a).1 (multiple (times minus_one (constant_form n)) (atom_form (roll-Term (Term-F.Div a b))))
remainder_high a b (pos zero) is high = absurd (omega (arith, ints))
remainder_high a b (pos (suc n)) is high = remainder_above a b n is
remainder_high a b (negsuc n) is high = absurd (omega (arith, ints))

-- a remainder by what is no number
remainder_over_other : (a b : Formed) (v : View) → ((n : ℤ) → v ≡ View.Num n → ⊥) → remainder_over a b (node_of v) ≡ atom_form (roll-Term (Term-F.Mod a.0 b.0))
remainder_over_other a b (View.Num n) no_number = absurd (no_number n refl)
remainder_over_other a b (View.One op x) no_number = by_one op
  where
    by_one : (op : Unary) → remainder_over a b (unary_node op x.now) ≡ atom_form (roll-Term (Term-F.Mod a.0 b.0))
    by_one Unary.Len = refl
    by_one op = refl
remainder_over_other a b (View.Two op x y) no_number = by_two op
  where
    by_two : (op : Binary) → remainder_over a b (binary_node op x.now y.now) ≡ atom_form (roll-Term (Term-F.Mod a.0 b.0))
    by_two Binary.Add = refl
    by_two op = refl
remainder_over_other a b v no_number = refl

pub remainder_other : (a b t : Term) (v : View) → t ≡ roll-Term (Term-F.Mod a b) → b ≡ roll-Term (node_of v) → ((n : ℤ) → v ≡ View.Num n → ⊥) →
    remainder_form (formed a) (formed b) ≡ atom_form t
remainder_other a b t v is at no_number =
    remainder_at a b (node_of v) at ∙ remainder_over_other (formed a) (formed b) v no_number ∙ remainder_term a b t is
