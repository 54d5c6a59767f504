-- Numbers of forms, and those that are of none.
use Rattle.std.proofs.Common.{◌≡◌, refl, ℕ, ◌==◌, ◌<◌, ◌≤◌, ltb, leb, Bool, true, false, ◌&&◌, ◌||◌, if◌then◌else◌, arith}
use Rattle.std.specs.Option.{unwrap_or}
use Rattle.std.proofs.lemmas.Bool.{ltb-true, ne_eqb, lt-leb}
use Rattle.math_terms.specs.declared.form.Form.{Form}
use Rattle.math_terms.specs.declared.form.Form.TheVariants.{Num, Truth, MinInt, MaxInt, Var, Add, Sub, Mul, Div, Mod, Len, Empty, Single, Cat, Reverse, Part, Tuple, Proj, Eq, Less, LessEq, Not, And, Or, Implies, Initial}
use Rattle.math_terms.specs.Forms.{arity as form_arity, form_number, strength as form_strength}
use Rattle.term_cells.specs.working.Arity.{arity}
use Rattle.term_cells.specs.working.Marks.{strength}

small : (f : Form) → ltb (form_number f) 26 ≡ true
small Num = refl
small f = refl

pub few_forms : (f : Form) → form_number f < 26
few_forms f = ltb-true (form_number f) 26 (small f)

-- no form has this number
abbrev pub NoForm : ℕ → Type 0
NoForm k = (f : Form) → k ≡ form_number f → ⊥

pub past : (k : ℕ) → NoForm k → 26 ≤ k
past k h =
    let h0 : k ≡ 0 → ⊥ = h Num in
    let h1 : k ≡ 1 → ⊥ = h Truth in
    let h2 : k ≡ 2 → ⊥ = h MinInt in
    let h3 : k ≡ 3 → ⊥ = h MaxInt in
    let h4 : k ≡ 4 → ⊥ = h Var in
    let h5 : k ≡ 5 → ⊥ = h Add in
    let h6 : k ≡ 6 → ⊥ = h Sub in
    let h7 : k ≡ 7 → ⊥ = h Mul in
    let h8 : k ≡ 8 → ⊥ = h Div in
    let h9 : k ≡ 9 → ⊥ = h Mod in
    let h10 : k ≡ 10 → ⊥ = h Len in
    let h11 : k ≡ 11 → ⊥ = h Empty in
    let h12 : k ≡ 12 → ⊥ = h Single in
    let h13 : k ≡ 13 → ⊥ = h Cat in
    let h14 : k ≡ 14 → ⊥ = h Reverse in
    let h15 : k ≡ 15 → ⊥ = h Part in
    let h16 : k ≡ 16 → ⊥ = h Tuple in
    let h17 : k ≡ 17 → ⊥ = h Proj in
    let h18 : k ≡ 18 → ⊥ = h Eq in
    let h19 : k ≡ 19 → ⊥ = h Less in
    let h20 : k ≡ 20 → ⊥ = h LessEq in
    let h21 : k ≡ 21 → ⊥ = h Not in
    let h22 : k ≡ 22 → ⊥ = h And in
    let h23 : k ≡ 23 → ⊥ = h Or in
    let h24 : k ≡ 24 → ⊥ = h Implies in
    let h25 : k ≡ 25 → ⊥ = h Initial in
    omega (arith, h0, h1, h2, h3, h4, h5, h6, h7, h8, h9, h10, h11, h12, h13, h14, h15, h16, h17, h18, h19, h20, h21, h22, h23, h24, h25)

module _ (k : ℕ) (h : NoForm k) where
  outside : (a b : ℕ) → b < 26 → (leb a k && leb k b) ≡ false
  outside a b l =
      let n : b < k = omega (arith, past k h) in
      by_first (leb a k) (lt-leb k b n)
    where
      by_first : (c : Bool) → leb k b ≡ false → (c && leb k b) ≡ false
      by_first true e = e
      by_first false e = refl

  other : (n : ℕ) → n < 26 → (k == n) ≡ false
  other n l = ne_eqb k n (λ e. absurd (omega (arith, past k h)))

  pub no_arity : arity k ≡ 0
  no_arity =
      let two : ((leb 5 k && leb k 9) || (k == 13) || (leb 18 k && leb k 20) || (leb 22 k && leb k 24)) ≡ false =
      λ i. outside 5 9 (omega arith) i || other 13 (omega arith) i || outside 18 20 (omega arith) i || outside 22 24 (omega arith) i in
      let one : ((k == 10) || (k == 12) || (k == 14) || (k == 17) || (k == 21) || (k == 25)) ≡ false =
      λ i. other 10 (omega arith) i || other 12 (omega arith) i || other 14 (omega arith) i || other 17 (omega arith) i || other 21 (omega arith) i || other 25 (omega arith) i in
      λ i. if two i then 2 else if one i then 1 else if other 15 (omega arith) i then 3 else 0

  pub no_strength : strength k ≡ 9
  no_strength = λ i.
      if other 24 (omega arith) i then 0
      else if other 23 (omega arith) i then 1
      else if other 22 (omega arith) i then 2
      else if other 21 (omega arith) i then 3
      else if outside 18 20 (omega arith) i then 4
      else if other 13 (omega arith) i then 5
      else if outside 5 6 (omega arith) i then 6
      else if outside 7 9 (omega arith) i then 7
      else 9

pub strength_numbered : (f : Form) → form_strength f ≡ strength (form_number f)
strength_numbered Num = refl
strength_numbered f = refl

pub no_remainder : (f : Form) → (f ≡ Mod → ⊥) → (form_number f == 9) ≡ false
no_remainder Mod h = absurd (h refl)
no_remainder f h = refl

pub arity_numbered : (f : Form) → unwrap_or (form_arity f) 0 ≡ arity (form_number f)
arity_numbered Num = refl
arity_numbered f = refl
