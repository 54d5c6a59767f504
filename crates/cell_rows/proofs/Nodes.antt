-- The form of the term at a place, by its cell.
use Rattle.std.proofs.Common.{◌≡◌, ◌∙◌, sym, ap, refl, subst, ℕ, ◌+◌, ◌-◌, ◌≤◌, ◌==◌, ℤ, pos, ◌≤ℤ◌, ◌<ℤ◌, Bool, true, false, not, ◌||◌, List, [], ◌∷◌, ◌++◌, length, take, drop, Option, Some, None, slice_get, arith}
use Rattle.std.proofs.lemmas.Grind.{common_steps}
use lib.Signed.{le_z}
use Rattle.std.proofs.lemmas.Int.{ints}
use Rattle.math_terms.specs.declared.term.Term.{Term}
use Rattle.math_terms.specs.declared.term.Term.TheOpen.{Term-F}
use Rattle.math_terms.specs.declared.term.Term.TheViews.{roll-Term, out-Term, roll-out-Term}
use Rattle.math_terms.specs.Heads.{form, children}
use Rattle.math_terms.specs.Terms.{nodes}
use Rattle.num_theory.specs.Linear.{Form, Formed, formed, atom_form, constant_form, is_constant, minus_one, multiple, plus, product_form, remainder_form, remainder_over, times}
use Rattle.num_theory.proofs.Forming.{form_at, form_other, formed_first, is_other, remainder_at, remainder_high, remainder_low}
use Rattle.term_cells.specs.declared.cell.Cell.{Cell}
use Rattle.term_cells.specs.Growing.{HasHead}
use Rattle.term_cells.specs.Laws.{is_plain_form}
use Rattle.term_cells.specs.Standing.{stands, stands_below}
use Rattle.cell_rows.specs.declared.forms.CellForm.{CellForm}
use Rattle.cell_rows.specs.Forms.{Mark, RawStand, FormStands, FormOrShort}
use Rattle.term_cells.proofs.Apart.{below_from}
use Rattle.term_cells.proofs.ByForm.{leaves_open, two_opens, its_form}
use Rattle.term_cells.proofs.Forms.{nodes_by_list, nodes_by_two}

-- the numbers of the forms that are atoms
is_other_form : ℕ → Bool
is_other_form k = not ((k == 0) || (k == 5) || (k == 6) || (k == 7) || (k == 9))

other_is : (x : Term-F Term) → is_other x ≡ is_other_form (form x)
unfolding is_other_form
other_is (Term-F.Num n) = refl
other_is x = refl

five_tests : (a b c d e : Bool) → a ≡ false → b ≡ false → c ≡ false → d ≡ false → e ≡ false → not (a || b || c || d || e) ≡ true
five_tests a b c d e f g h i j = λ k. not (f k || g k || h k || i k || j k)

module _ (cells : List Cell) (t : Term) (at : ℕ) (c : Cell) (at_is : slice_get cells at ≡ Some c) (standing : stands cells t at ≡ true) where
  pub other_formed : (c.form == 0) ≡ false → (c.form == 5) ≡ false → (c.form == 6) ≡ false → (c.form == 7) ≡ false → (c.form == 9) ≡ false → (formed t).1 ≡ atom_form t
  unfolding is_other_form
  other_formed f g h i j =
      form_other (out-Term t) t (sym (roll-out-Term t))
      (other_is (out-Term t) ∙ ap is_other_form (its_form cells t at c c.form at_is refl standing) ∙ five_tests (c.form == 0) (c.form == 5) (c.form == 6) (c.form == 7) (c.form == 9) f g h i j)

  pub number_formed : c.form ≡ 0 → (formed t).1 ≡ constant_form c.own
  number_formed e = form_at (Term-F.Num c.own) t (sym (roll-out-Term t) ∙ ap roll-Term (leaves_open.num cells t at c at_is e standing))

  pub some_nodes : (n : ℕ) × (nodes t ≡ 1 + n)
  some_nodes = (_, nodes_by_list t (children (out-Term t)) refl)

-- a term that is made of two, which stand below
pub record IsTwo (cells : List Cell) (t : Term) (node : Term → Term → Term-F Term) (c : Cell) (at : ℕ) : Type 0 where
  pub left : Term
  pub right : Term
  pub term_is : t ≡ roll-Term (node left right)
  pub nodes_are : nodes t ≡ 1 + nodes left + nodes right
  pub left_is : stands_below (stands cells left) c.a at ≡ true
  pub right_is : stands_below (stands cells right) c.b at ≡ true

pub two_at : (node : Term → Term → Term-F Term) (k : ℕ) → ((a b : Term) → HasHead (node a b) k (pos 0) (a ∷ b ∷ [])) → is_plain_form k ≡ true →
    (cells : List Cell) (t : Term) (at : ℕ) (c : Cell) → slice_get cells at ≡ Some c → c.form ≡ k → stands cells t at ≡ true → IsTwo cells t node c at
two_at node k heads plain cells t at c e f h =
    let s = two_opens node k heads plain cells t at c e f h in
    let n = heads s.left s.right in
    record {
      left = s.left;
      right = s.right;
      term_is = sym (roll-out-Term t) ∙ ap roll-Term s.term_is;
      nodes_are = nodes_by_two t s.left s.right (sym (ap children s.term_is ∙ n.children_are));
      left_is = below_from (stands cells s.left) c.a at s.left_below s.left_is;
      right_is = below_from (stands cells s.right) c.b at s.right_below s.right_is;
    }

-- A form that there is room for in so many places is one in more.
pub widened : (cells : List Cell) (f g : Form) (m n : ℕ) (r : Option CellForm) (marks : List Mark) → f ≡ g → m ≤ n → FormOrShort cells f m r marks → FormOrShort cells g n r marks
widened cells f g m n None marks e l h = omega arith
widened cells f g m n (Some raw) marks e l h = record {
  products_stand = subst (λ (x : Form). RawStand cells x.products (take raw.count marks)) e h.products_stand;
  constant_is = h.constant_is ∙ ap (λ (x : Form). x.constant) e;
  narrow_is = h.narrow_is ∙ ap (λ (x : Form). x.is_narrow) e;
  few = omega (arith, h.few);
}

-- What lies behind the products of a form does not matter.
pub kept : (cells : List Cell) (f : Form) (most : ℕ) (raw : CellForm) (marks others : List Mark) → take raw.count others ≡ take raw.count marks → FormStands cells f most raw marks → FormStands cells f most raw others
kept cells f most raw marks others e h = record {
  products_stand = subst (RawStand cells f.products) (sym e) h.products_stand;
  constant_is = h.constant_is;
  narrow_is = h.narrow_is;
  few = h.few;
}

pub low_part : {A : Type 0} (n : ℕ) (xs ys : List A) → n ≤ length xs → take n (take n xs ++ ys) ≡ take n xs
low_part n xs ys l = grind (arith, common_steps)

pub high_part : {A : Type 0} (n : ℕ) (xs ys : List A) → n ≤ length xs → drop n (take n xs ++ ys) ≡ ys
high_part n xs ys l = grind (arith, common_steps)

pub wide_part : {A : Type 0} (n : ℕ) (xs ys : List A) → n ≤ length xs → n ≤ length (take n xs ++ ys)
wide_part n xs ys l = grind (arith, common_steps)

-- A form behind another's products.
pub behind : (cells : List Cell) (f : Form) (most : ℕ) (raw : CellForm) (n : ℕ) (xs ys zs : List Mark) → n ≤ length xs → raw.count ≤ length ys → FormStands cells f most raw ys →
    FormStands cells f most raw (drop n (take n xs ++ (ys ++ zs)))
behind cells f most raw n xs ys zs l room h =
    let front : take raw.count (ys ++ zs) ≡ take raw.count ys = grind (arith, common_steps) in
    kept cells f most raw ys (drop n (take n xs ++ (ys ++ zs))) (ap (take raw.count) (high_part n xs (ys ++ zs) l) ∙ front) h

pub behind_counted : {A : Type 0} (n : ℕ) (xs ys zs : List A) → n ≤ length xs → length ys ≤ length (drop n (take n xs ++ (ys ++ zs)))
behind_counted n xs ys zs l = grind (arith, common_steps)

pub all_taken : {A : Type 0} (n : ℕ) (xs : List A) → take (length xs - n) (drop n xs) ≡ drop n xs
all_taken n xs = grind (arith, common_steps)

-- A product with a constant form on one side is a multiple.
pub product_second : (a b : Formed) → is_constant b.1 ≡ true → product_form a b ≡ multiple b.1 a.1
product_second a b e = rw e refl

pub product_first : (a b : Formed) → is_constant b.1 ≡ false → is_constant a.1 ≡ true → product_form a b ≡ multiple a.1 b.1
product_first a b e f = rw (e, f) refl

-- A remainder by what is no number is an atom.
over_no_number : (a b : Formed) (x : Term-F Term) → (form x == 0) ≡ false → remainder_over a b x ≡ atom_form (roll-Term (Term-F.Mod a.0 b.0))
over_no_number a b (Term-F.Num n) h = cc
over_no_number a b x h = refl

pub remainder_no_number : (a b : Term) → (form (out-Term b) == 0) ≡ false → remainder_form (formed a) (formed b) ≡ atom_form (roll-Term (Term-F.Mod a b))
remainder_no_number a b h =
    remainder_at a b (out-Term b) (sym (roll-out-Term b)) ∙ over_no_number (formed a) (formed b) (out-Term b) h
    ∙ (λ i. atom_form (roll-Term (Term-F.Mod (formed_first a i) (formed_first b i))))

-- So is one by a number that is not above 0.
pub remainder_by_low : (a b : Term) (n : ℤ) → out-Term b ≡ Term-F.Num n → n ≤ℤ pos 0 → remainder_form (formed a) (formed b) ≡ atom_form (roll-Term (Term-F.Mod a b))
remainder_by_low a b n is low = remainder_at a b (Term-F.Num n) (sym (roll-out-Term b) ∙ ap roll-Term is) ∙ remainder_low a b (roll-Term (Term-F.Mod a b)) n refl low

pub remainder_by_high : (a b : Term) (n : ℤ) → out-Term b ≡ Term-F.Num n → pos 0 <ℤ n →
    remainder_form (formed a) (formed b) ≡ plus (formed a).1 (multiple (times minus_one (constant_form n)) (atom_form (roll-Term (Term-F.Div a b))))
remainder_by_high a b n is high =
    let at : b ≡ roll-Term (Term-F.Num n) = sym (roll-out-Term b) ∙ ap roll-Term is in
    remainder_at a b (Term-F.Num n) at ∙ remainder_high a b n at high

pub above_zero : (n : ℤ) → le_z n (pos 0) ≡ false → pos 0 <ℤ n
above_zero n h = omega (arith, ints)

pub not_above_zero : (n : ℤ) → le_z n (pos 0) ≡ true → n ≤ℤ pos 0
not_above_zero n h = omega (arith, ints)
