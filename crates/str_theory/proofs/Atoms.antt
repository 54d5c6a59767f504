-- The atoms of a well-kinded number's linear form are well-kinded numbers.
use Rattle.std.proofs.Common.{◌≡◌, ◌∙◌, sym, ap, refl, subst, zero, suc, ℤ, pos, negsuc, Bool, true, false, not, ◌&&◌, List, [], ◌∷◌, map, Some, None}
use Rattle.std.specs.Prelude.{if◌then◌else◌}
use Rattle.std.proofs.lemmas.Bool.{and_parts}
use Rattle.std.proofs.lemmas.Option.{same_Some}
use Rattle.std.specs.List.{AllByRecursion, filter}
use Rattle.math_terms.specs.declared.term.Term.{Term}
use Rattle.math_terms.specs.declared.term.Term.TheOpen.{Term-F}
use Rattle.math_terms.specs.declared.term.Term.TheViews.{roll-Term, out-Term}
use Rattle.math_terms.specs.declared.term.Term.TheFolds.{map-Term, fold-roll-Term, ind-Term}
use Rattle.math_terms.specs.Heads.{same_term}
use Rattle.math_terms.specs.Sorts.{z, is_z}
use Rattle.math_terms.specs.Meaning.{Valuation}
use Rattle.math_terms.specs.Descriptors.{Interpretation}
use Rattle.num_theory.specs.declared.number.Number.{Number}
use Rattle.num_theory.specs.Number.{exact, is_zero}
use Rattle.num_theory.specs.Linear.{Form, Formed, Product, RawProduct, add_product, add_products, atom_form, exact_product, form_step, formed, in_text_order, insert_product, is_constant, linear_of, minus_one, multiple, product_form, rebuilt, remainder_by, remainder_over, scaled, shown, shown_form, text_before, times}
use Rattle.num_theory.specs.Texts.{text}
use Rattle.math_terms.specs.Kinding.{HasKind, Kinding, kinding}
use Rattle.str_theory.proofs.Folds.{map-map}
use Rattle.str_theory.proofs.Kinded.{int_child, make_arithmetic, opened}

formed_roll : (x : Term-F Term) → formed (roll-Term x) ≡ (rebuilt (map-Term Term Formed formed x), form_step (map-Term Term Formed formed x))
formed_roll x = fold-roll-Term Formed (λ x. (rebuilt x, form_step x)) x

-- with its form a term is kept as it is
IsKept : Term → Type 0
IsKept t = (formed t).0 ≡ t

kept : (y : Term-F ((t : Term) × IsKept t)) → rebuilt (map-Term Term Formed formed (map-Term ((t : Term) × IsKept t) Term (λ e. e.0) y)) ≡ roll-Term (map-Term ((t : Term) × IsKept t) Term (λ e. e.0) y)
unfolding IsKept
kept y = ap roll-Term (
    map-map formed (λ (p : Formed). p.0) (map-Term ((t : Term) × IsKept t) Term (λ e. e.0) y)
    ∙ map-map (λ (e : (t : Term) × IsKept t). e.0) (λ t. (formed t).0) y
    ∙ (λ i. map-Term ((t : Term) × IsKept t) Term (λ e. e.1 i) y))

pub formed_term : (t : Term) → (formed t).0 ≡ t
unfolding IsKept
formed_term = ind-Term IsKept (λ x y is.
    ap (λ (p : Formed). p.0) (formed_roll x)
    ∙ subst (λ q. rebuilt (map-Term Term Formed formed q) ≡ roll-Term q) is (kept y))

rebuilt_term : (x : Term-F Term) → rebuilt (map-Term Term Formed formed x) ≡ roll-Term x
rebuilt_term x = sym (ap (λ (p : Formed). p.0) (formed_roll x)) ∙ formed_term (roll-Term x)

module _ (I : Interpretation) (w : Valuation) where
  abbrev IsInt : Term → Type 0
  IsInt t = HasKind I w t z

  abbrev pub AreInts : {A : Type 0} → List (A × Term) → Type 0
  AreInts ps = AllByRecursion (λ p. HasKind I w p.1 z) ps

  either : {A : Type 0} (c : Bool) (ps qs : List (A × Term)) → AreInts ps → AreInts qs → AreInts (if c then ps else qs)
  either true ps qs h k = h
  either false ps qs h k = k

  add_product_ints : (p : RawProduct) (ps : List RawProduct) → HasKind I w p.1 z → AreInts ps → AreInts (add_product p ps)
  add_product_ints p [] h k = (h, tt)
  add_product_ints p (q ∷ qs) h k = either (same_term p.1 q.1) _ _ (k.0, k.1) (k.0, add_product_ints p qs h k.1)

  add_products_ints : (ps qs : List RawProduct) → AreInts ps → AreInts qs → AreInts (add_products ps qs)
  add_products_ints ps [] h k = h
  add_products_ints ps (q ∷ qs) h k = add_products_ints (add_product q ps) qs (add_product_ints q ps k.0 h) k.1

  scaled_ints : (n : Number) (ps : List RawProduct) → AreInts ps → AreInts (map (scaled n) ps)
  scaled_ints n [] h = tt
  scaled_ints n (p ∷ ps) h = (h.0, scaled_ints n ps h.1)

  insert_ints : (p : Product) (ps : List Product) → HasKind I w p.1 z → AreInts ps → AreInts (insert_product p ps)
  insert_ints p [] h k = (h, tt)
  insert_ints p (q ∷ qs) h k = either (text_before (text p.1) (text q.1)) _ _ (h, k) (k.0, insert_ints p qs h k.1)

  ordered_ints : (ps : List Product) → AreInts ps → AreInts (in_text_order ps)
  ordered_ints [] h = tt
  ordered_ints (p ∷ ps) h = insert_ints p (in_text_order ps) h.0 (ordered_ints ps h.1)

  exact_ints : (ps : List RawProduct) → AreInts ps → AreInts (map exact_product ps)
  exact_ints [] h = tt
  exact_ints (p ∷ ps) h = (h.0, exact_ints ps h.1)

  filtered_ints : (test : RawProduct → Bool) (ps : List RawProduct) → AreInts ps → AreInts (filter test ps)
  filtered_ints test [] h = tt
  filtered_ints test (p ∷ ps) h = either (test p) _ _ (h.0, filtered_ints test ps h.1) (filtered_ints test ps h.1)

  form_either : (c : Bool) (f g : Form) → AreInts f.products → AreInts g.products → AreInts (if c then f else g).products
  form_either true f g h k = h
  form_either false f g h k = k

  HasInts : Term → Type 0
  HasInts t = IsInt t → AreInts (formed t).1.products

  -- a product and a remainder
  product_ints : (p q : Formed) → AreInts p.1.products → AreInts q.1.products → IsInt (roll-Term (Term-F.Mul p.0 q.0)) → AreInts (product_form p q).products
  product_ints p q h k m =
      form_either (is_constant q.1) _ _ (scaled_ints q.1.constant p.1.products h)
      (form_either (is_constant p.1) _ _ (scaled_ints p.1.constant q.1.products k) (m, tt))

  by_ints : (p q : Formed) (n : ℤ) → AreInts p.1.products → IsInt (roll-Term (Term-F.Div p.0 q.0)) → IsInt (roll-Term (Term-F.Mod p.0 q.0)) → AreInts (remainder_by p q n).products
  by_ints p q (pos zero) h d m = (m, tt)
  by_ints p q (pos (suc n)) h d m =
      let whole : Form = multiple (times minus_one q.1) (atom_form (roll-Term (Term-F.Div p.0 q.0))) in
      let all : AreInts whole.products = (d, tt) in
      add_products_ints p.1.products whole.products h all
  by_ints p q (negsuc n) h d m = (m, tt)

  over_ints : (p q : Formed) (x : Term-F Term) → AreInts p.1.products → IsInt (roll-Term (Term-F.Div p.0 q.0)) → IsInt (roll-Term (Term-F.Mod p.0 q.0)) → AreInts (remainder_over p q x).products
  over_ints p q (Term-F.Num n) h d m = by_ints p q n h d m
  over_ints p q x h d m = (m, tt)

  -- the children of arithmetic nodes
  two_ints : (a c : Term) → ((is_z (kinding I w a).0 && is_z (kinding I w c).0) && ((kinding I w a).1 && (kinding I w c).1)) ≡ true → IsInt a × IsInt c
  two_ints a c h =
      let p = and_parts (is_z (kinding I w a).0 && is_z (kinding I w c).0) ((kinding I w a).1 && (kinding I w c).1) h in
      let f = and_parts (is_z (kinding I w a).0) (is_z (kinding I w c).0) p.0 in
      let g = and_parts (kinding I w a).1 (kinding I w c).1 p.1 in
      (int_child I w a f.0 g.0, int_child I w c f.1 g.1)

  kept_int : (t : Term) → IsInt t → IsInt (formed t).0
  kept_int t h = ap (kinding I w) (formed_term t) ∙ h

  alone : (x : Term-F Term) → form_step (map-Term Term Formed formed x) ≡ atom_form (rebuilt (map-Term Term Formed formed x)) → HasInts (roll-Term x)
  unfolding HasInts
  alone x e h =
      subst (λ (f : Form). AreInts f.products) (sym (ap (λ (p : Formed). p.1) (formed_roll x) ∙ e)) (ap (kinding I w) (rebuilt_term x) ∙ h, tt)

  by_step : (x : Term-F Term) → (IsInt (roll-Term x) → AreInts (form_step (map-Term Term Formed formed x)).products) → HasInts (roll-Term x)
  unfolding HasInts
  by_step x k h = subst (λ (p : Formed). AreInts p.1.products) (sym (formed_roll x)) (k h)

  ints_node : (y : Term-F ((t : Term) × HasInts t)) → HasInts (roll-Term (map-Term ((t : Term) × HasInts t) Term (λ e. e.0) y))
  unfolding HasInts
  ints_node (Term-F.Num n) = by_step (Term-F.Num n) (λ h. tt)
  ints_node (Term-F.Add a c) = by_step (Term-F.Add a.0 c.0) (λ h.
      let k = two_ints a.0 c.0 (ap (λ (p : Kinding). p.1) (opened I w (Term-F.Add a.0 c.0) z h)) in
      add_products_ints (formed a.0).1.products (formed c.0).1.products (a.1 k.0) (c.1 k.1))
  ints_node (Term-F.Sub a c) = by_step (Term-F.Sub a.0 c.0) (λ h.
      let k = two_ints a.0 c.0 (ap (λ (p : Kinding). p.1) (opened I w (Term-F.Sub a.0 c.0) z h)) in
      add_products_ints (formed a.0).1.products _ (a.1 k.0) (scaled_ints minus_one (formed c.0).1.products (c.1 k.1)))
  ints_node (Term-F.Mul a c) = by_step (Term-F.Mul a.0 c.0) (λ h.
      let k = two_ints a.0 c.0 (ap (λ (p : Kinding). p.1) (opened I w (Term-F.Mul a.0 c.0) z h)) in
      product_ints (formed a.0) (formed c.0) (a.1 k.0) (c.1 k.1) (ap (kinding I w) (rebuilt_term (Term-F.Mul a.0 c.0)) ∙ h))
  ints_node (Term-F.Mod a c) = by_step (Term-F.Mod a.0 c.0) (λ h.
      let k = two_ints a.0 c.0 (ap (λ (p : Kinding). p.1) (opened I w (Term-F.Mod a.0 c.0) z h)) in
      over_ints (formed a.0) (formed c.0) (out-Term (formed c.0).0) (a.1 k.0)
      (make_arithmetic I w (formed a.0).0 (formed c.0).0 (kept_int a.0 k.0) (kept_int c.0 k.1)).0
      (ap (kinding I w) (rebuilt_term (Term-F.Mod a.0 c.0)) ∙ h))
  ints_node x = alone (map-Term ((t : Term) × HasInts t) Term (λ e. e.0) x) refl

  pub formed_ints : (t : Term) → HasKind I w t z → AreInts (formed t).1.products
  unfolding HasInts
  formed_ints = ind-Term HasInts (λ x y is. subst (λ q. HasInts (roll-Term q)) is (ints_node y))

  -- the atoms of the linear form
  pub linear_ints : (t : Term) (ps : List Product) (n : ℤ) → HasKind I w t z → linear_of t ≡ Some (ps, n) → AreInts ps
  linear_ints t ps n h e = shown_ints (formed t).1 (formed_ints t h) e
    where
      shown_ints : (f : Form) → AreInts f.products → shown_form f ≡ Some (ps, n) → AreInts ps
      shown_ints f k e = by_width f.is_narrow e
        where
          all : List Product × ℤ
          all = (shown f.products, exact f.constant)

          by_width : (c : Bool) → (if c then Some all else None) ≡ Some (ps, n) → AreInts ps
          by_width true e =
              subst AreInts (ap (λ (p : List Product × ℤ). p.0) (same_Some all (ps, n) e))
              (ordered_ints (map exact_product (filter (λ p. not (is_zero p.0)) f.products)) (exact_ints (filter (λ p. not (is_zero p.0)) f.products) (filtered_ints (λ p. not (is_zero p.0)) f.products k)))
          by_width false e = cc
