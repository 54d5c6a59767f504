-- What the kinds of nodes tell of their children, and how they are made.
use Rattle.std.proofs.Common.{◌≡◌, ◌∙◌, sym, ap, refl, ℤ, Bool, true, false, ◌&&◌, []}
use Rattle.std.proofs.lemmas.Bool.{and_parts}
use Rattle.math_terms.specs.declared.descriptor.Sort.{Sort}
use Rattle.math_terms.specs.declared.descriptor.Sort.TheOpen.{Sort-F}
use Rattle.math_terms.specs.declared.descriptor.Sort.TheViews.{roll-Sort, out-roll-Sort}
use Rattle.math_terms.specs.declared.term.Term.{Term}
use Rattle.math_terms.specs.declared.term.Term.TheOpen.{Term-F}
use Rattle.math_terms.specs.declared.term.Term.TheViews.{roll-Term}
use Rattle.math_terms.specs.declared.term.Term.TheFolds.{map-Term, fold-roll-Term}
use Rattle.math_terms.specs.Sorts.{z, b, any, str, is_b, is_str, is_z, b_form, str_form, z_form}
use Rattle.math_terms.specs.Values.{Val, Num, Truth, Str, Tup, is_number, is_string}
use Rattle.math_terms.specs.Meaning.{Valuation, value_step}
use Rattle.math_terms.specs.Descriptors.{Interpretation, starts_in, value}
use Rattle.str_theory.specs.Forms.{add, and, cat, empty, eq, len, less_eq, num, part, reversed, single, sub, truth}
use Rattle.math_terms.specs.Kinding.{HasKind, Kinding, Valued, kind_of, kinding, valued, valued_step}
use Rattle.str_theory.proofs.Folds.{fold_fusion}

pub is_str_str : is_str (str any) ≡ true
is_str_str = ap str_form (out-roll-Sort (Sort-F.Str any))

pub is_z_z : is_z z ≡ true
is_z_z = ap z_form (out-roll-Sort Sort-F.Z)

pub is_b_b : is_b b ≡ true
is_b_b = ap b_form (out-roll-Sort Sort-F.B)

-- kinds that are not strings, and not numbers
no_str : (x : Sort-F Sort) → str_form x ≡ false → is_str (roll-Sort x) ≡ true → ⊥
no_str x h e =
    let f : false ≡ true = sym h ∙ ap str_form (sym (out-roll-Sort x)) ∙ e in
    cc

no_z : (x : Sort-F Sort) → z_form x ≡ false → is_z (roll-Sort x) ≡ true → ⊥
no_z x h e =
    let f : false ≡ true = sym h ∙ ap z_form (sym (out-roll-Sort x)) ∙ e in
    cc

pub string_tells : (v : Val) → is_str (kind_of v) ≡ true → (kind_of v ≡ str any) × (is_string v ≡ true)
string_tells (Num n) h = absurd (no_str Sort-F.Z refl h)
string_tells (Truth c) h = absurd (no_str Sort-F.B refl h)
string_tells (Str vs) h = (refl, refl)
string_tells (Tup vs) h = absurd (no_str (Sort-F.Tup []) refl h)

pub number_tells : (v : Val) → is_z (kind_of v) ≡ true → (kind_of v ≡ z) × (is_number v ≡ true)
number_tells (Num n) h = (refl, refl)
number_tells (Truth c) h = absurd (no_z Sort-F.B refl h)
number_tells (Str vs) h = absurd (no_z (Sort-F.Str any) refl h)
number_tells (Tup vs) h = absurd (no_z (Sort-F.Tup []) refl h)

pub string_kind : (v : Val) → is_string v ≡ true → kind_of v ≡ str any
string_kind (Num n) h = cc
string_kind (Truth c) h = cc
string_kind (Str vs) h = refl
string_kind (Tup vs) h = cc

module _ (I : Interpretation) (w : Valuation) where
  -- the first of a valued term is its value
  steps_fused : (x : Term-F Valued) → (valued_step I w x).0 ≡ value_step (starts_in I) w (map-Term Valued Val (λ p. p.0) x)
  steps_fused x = refl

  pub valued_value : (t : Term) → (valued I w t).0 ≡ value I w t
  valued_value = fold_fusion (valued_step I w) (value_step (starts_in I) w) (λ p. p.0) steps_fused

  pub valued_roll : (x : Term-F Term) → valued I w (roll-Term x) ≡ valued_step I w (map-Term Term Valued (valued I w) x)
  valued_roll x = fold-roll-Term Valued (valued_step I w) x

  -- the kinding of a node, of its children's
  abbrev pub of_valued : Valued → Kinding
  of_valued p = (kind_of p.0, p.1)

  pub kinding_roll : (x : Term-F Term) → kinding I w (roll-Term x) ≡ of_valued (valued_step I w (map-Term Term Valued (valued I w) x))
  kinding_roll x = ap of_valued (valued_roll x)

  pub is_string_of : (t : Term) → HasKind I w t (str any) → is_string (value I w t) ≡ true
  is_string_of t h = ap is_string (sym (valued_value t)) ∙ (string_tells (valued I w t).0 (ap (λ (p : Kinding). is_str p.0) h ∙ is_str_str)).1

  pub is_number_of : (t : Term) → HasKind I w t z → is_number (value I w t) ≡ true
  is_number_of t h = ap is_number (sym (valued_value t)) ∙ (number_tells (valued I w t).0 (ap (λ (p : Kinding). is_z p.0) h ∙ is_z_z)).1

  -- of a well-valued term whose value is a string
  pub string_well : (t : Term) → is_string (value I w t) ≡ true → (valued I w t).1 ≡ true → HasKind I w t (str any)
  string_well t h o = (λ i. (string_kind (valued I w t).0 (ap is_string (valued_value t) ∙ h) i, o i))

  -- a child of a kind, from the test of it and from being well-valued
  str_child : (t : Term) → is_str (kinding I w t).0 ≡ true → (kinding I w t).1 ≡ true → HasKind I w t (str any)
  str_child t h o = (λ i. ((string_tells (valued I w t).0 h).0 i, o i))

  pub int_child : (t : Term) → is_z (kinding I w t).0 ≡ true → (kinding I w t).1 ≡ true → HasKind I w t z
  int_child t h o = (λ i. ((number_tells (valued I w t).0 h).0 i, o i))

  abbrev ok : Term → Bool
  ok t = (kinding I w t).1

  abbrev sort_in : Term → Sort
  sort_in t = (kinding I w t).0

  pub opened : (x : Term-F Term) (s : Sort) → HasKind I w (roll-Term x) s → of_valued (valued_step I w (map-Term Term Valued (valued I w) x)) ≡ (s, true)
  opened x s h = sym (kinding_roll x) ∙ h

  -- what the kind of a node tells
  pub open_cat : (a c : Term) (s : Sort) → HasKind I w (cat a c) s → (str any ≡ s) × HasKind I w a (str any) × HasKind I w c (str any)
  open_cat a c s h =
      let e = opened (Term-F.Cat a c) s h in
      let p = and_parts (is_str (sort_in a) && is_str (sort_in c)) (ok a && ok c) (ap (λ p. p.1) e) in
      let f = and_parts (is_str (sort_in a)) (is_str (sort_in c)) p.0 in
      let g = and_parts (ok a) (ok c) p.1 in
      (ap (λ p. p.0) e, str_child a f.0 g.0, str_child c f.1 g.1)

  pub open_len : (a : Term) (s : Sort) → HasKind I w (len a) s → (z ≡ s) × HasKind I w a (str any)
  open_len a s h =
      let e = opened (Term-F.Len a) s h in
      let p = and_parts (is_str (sort_in a)) (ok a) (ap (λ p. p.1) e) in
      (ap (λ p. p.0) e, str_child a p.0 p.1)

  pub open_reversed : (a : Term) (s : Sort) → HasKind I w (reversed a) s → (str any ≡ s) × HasKind I w a (str any)
  open_reversed a s h =
      let e = opened (Term-F.Reverse a) s h in
      let p = and_parts (is_str (sort_in a)) (ok a) (ap (λ p. p.1) e) in
      (ap (λ p. p.0) e, str_child a p.0 p.1)

  pub open_part : (i j a : Term) (s : Sort) → HasKind I w (part i j a) s → (str any ≡ s) × HasKind I w i z × HasKind I w j z × HasKind I w a (str any)
  open_part i j a s h =
      let e = opened (Term-F.Part i j a) s h in
      let p = and_parts (is_z (sort_in i) && is_z (sort_in j) && is_str (sort_in a)) (ok i && ok j && ok a) (ap (λ p. p.1) e) in
      let f = and_parts (is_z (sort_in i) && is_z (sort_in j)) (is_str (sort_in a)) p.0 in
      let g = and_parts (ok i && ok j) (ok a) p.1 in
      let f2 = and_parts (is_z (sort_in i)) (is_z (sort_in j)) f.0 in
      let g2 = and_parts (ok i) (ok j) g.0 in
      (ap (λ p. p.0) e, int_child i f2.0 g2.0, int_child j f2.1 g2.1, str_child a f.1 g.1)

  pub open_single : (a : Term) (s : Sort) → HasKind I w (single a) s → (str any ≡ s) × ((kinding I w a).1 ≡ true)
  open_single a s h =
      let e = opened (Term-F.Single a) s h in
      (ap (λ p. p.0) e, ap (λ p. p.1) e)

  pub open_eq : (a c : Term) (s : Sort) → HasKind I w (eq a c) s → (b ≡ s) × ((kinding I w a).1 ≡ true) × ((kinding I w c).1 ≡ true)
  open_eq a c s h =
      let e = opened (Term-F.Eq a c) s h in
      let p = and_parts (ok a) (ok c) (ap (λ p. p.1) e) in
      (ap (λ p. p.0) e, p.0, p.1)

  -- nodes of kinds
  pub make_cat : (a c : Term) → HasKind I w a (str any) → HasKind I w c (str any) → HasKind I w (cat a c) (str any)
  make_cat a c ha hc = kinding_roll (Term-F.Cat a c) ∙ (λ i. (str any, (is_str (ha i).0 && is_str (hc i).0) && ((ha i).1 && (hc i).1))) ∙ (λ i. (str any, (is_str_str i && is_str_str i) && true))

  pub make_len : (a : Term) → HasKind I w a (str any) → HasKind I w (len a) z
  make_len a ha = kinding_roll (Term-F.Len a) ∙ (λ i. (z, is_str (ha i).0 && (ha i).1)) ∙ (λ i. (z, is_str_str i && true))

  pub make_reversed : (a : Term) → HasKind I w a (str any) → HasKind I w (reversed a) (str any)
  make_reversed a ha = kinding_roll (Term-F.Reverse a) ∙ (λ i. (str any, is_str (ha i).0 && (ha i).1)) ∙ (λ i. (str any, is_str_str i && true))

  pub make_part : (m n a : Term) → HasKind I w m z → HasKind I w n z → HasKind I w a (str any) → HasKind I w (part m n a) (str any)
  make_part m n a hm hn ha =
      kinding_roll (Term-F.Part m n a) ∙ (λ i. (str any, (is_z (hm i).0 && is_z (hn i).0 && is_str (ha i).0) && ((hm i).1 && (hn i).1 && (ha i).1))) ∙ (λ i. (str any, (is_z_z i && is_z_z i && is_str_str i) && true))

  pub make_add : (m n : Term) → HasKind I w m z → HasKind I w n z → HasKind I w (add m n) z
  make_add m n hm hn = kinding_roll (Term-F.Add m n) ∙ (λ i. (z, (is_z (hm i).0 && is_z (hn i).0) && ((hm i).1 && (hn i).1))) ∙ (λ i. (z, (is_z_z i && is_z_z i) && true))

  pub make_sub : (m n : Term) → HasKind I w m z → HasKind I w n z → HasKind I w (sub m n) z
  make_sub m n hm hn = kinding_roll (Term-F.Sub m n) ∙ (λ i. (z, (is_z (hm i).0 && is_z (hn i).0) && ((hm i).1 && (hn i).1))) ∙ (λ i. (z, (is_z_z i && is_z_z i) && true))

  pub make_less_eq : (m n : Term) → HasKind I w m z → HasKind I w n z → HasKind I w (less_eq m n) b
  make_less_eq m n hm hn = kinding_roll (Term-F.LessEq m n) ∙ (λ i. (b, (is_z (hm i).0 && is_z (hn i).0) && ((hm i).1 && (hn i).1))) ∙ (λ i. (b, (is_z_z i && is_z_z i) && true))

  pub make_and : (m n : Term) → HasKind I w m b → HasKind I w n b → HasKind I w (and m n) b
  make_and m n hm hn = kinding_roll (Term-F.And m n) ∙ (λ i. (b, (is_b (hm i).0 && is_b (hn i).0) && ((hm i).1 && (hn i).1))) ∙ (λ i. (b, (is_b_b i && is_b_b i) && true))

  pub make_eq : (m n : Term) → (kinding I w m).1 ≡ true → (kinding I w n).1 ≡ true → HasKind I w (eq m n) b
  make_eq m n hm hn = kinding_roll (Term-F.Eq m n) ∙ (λ i. (b, hm i && hn i))

  pub make_single : (a : Term) → (kinding I w a).1 ≡ true → HasKind I w (single a) (str any)
  make_single a ha = kinding_roll (Term-F.Single a) ∙ (λ i. (str any, ha i))

  pub make_empty : HasKind I w empty (str any)
  make_empty = kinding_roll Term-F.Empty

  pub make_num : (n : ℤ) → HasKind I w (num n) z
  make_num n = kinding_roll (Term-F.Num n)

  pub make_truth : (c : Bool) → HasKind I w (truth c) b
  make_truth c = kinding_roll (Term-F.Truth c)

  -- a quotient and a product of numbers
  pub make_arithmetic : (m n : Term) → HasKind I w m z → HasKind I w n z → HasKind I w (roll-Term (Term-F.Div m n)) z × HasKind I w (roll-Term (Term-F.Mul m n)) z
  make_arithmetic m n hm hn = (
    kinding_roll (Term-F.Div m n) ∙ (λ i. (z, (is_z (hm i).0 && is_z (hn i).0) && ((hm i).1 && (hn i).1))) ∙ (λ i. (z, (is_z_z i && is_z_z i) && true)),
    kinding_roll (Term-F.Mul m n) ∙ (λ i. (z, (is_z (hm i).0 && is_z (hn i).0) && ((hm i).1 && (hn i).1))) ∙ (λ i. (z, (is_z_z i && is_z_z i) && true)),
  )
