-- The linear form of a term: a sum of atoms with coefficients, and a constant.
use Rattle.std.specs.Prelude.{ℕ, suc, ltb, ◌==◌, ℤ, pos, negsuc, Bool, true, not, ◌&&◌, ◌||◌, List, [], ◌∷◌, map, Option, Some, None, if◌then◌else◌}
use Rattle.std.specs.List.{list_all, filter}
use Rattle.math_terms.specs.declared.term.Term.{Term}
use Rattle.math_terms.specs.declared.term.Term.TheOpen.{Term-F}
use Rattle.math_terms.specs.declared.term.Term.TheViews.{roll-Term, out-Term}
use Rattle.math_terms.specs.declared.term.Term.TheFolds.{fold-Term, map-Term}
use Rattle.math_terms.specs.Heads.{same_term}
use Rattle.num_theory.specs.declared.number.Number.{Number}
use Rattle.num_theory.specs.declared.number.Number.TheVariants.{Exact}
use Rattle.num_theory.specs.Number.{exact, is_narrow, is_zero, product, sum}
use Rattle.num_theory.specs.Texts.{text}

-- a coefficient and its atom
abbrev pub Product : Type 0
Product = ℤ × Term

-- the same while forms are made, when the coefficient may be lost
abbrev pub RawProduct : Type 0
RawProduct = Number × Term

-- A form: its products in the order in which their atoms first occur, those with coefficient 0 among them, its constant,
-- and whether its numbers, and those of each form from which it is made, have magnitudes below 2 ^ 31.
pub record Form : Type 0 where
  pub products : List RawProduct
  pub constant : Number
  pub is_narrow : Bool

abbrev pub narrow_products : List RawProduct → Bool
narrow_products ps = list_all (λ p. is_narrow p.0) ps

-- a form with these numbers, of which the forms that it is made from are narrow or not
abbrev pub made : Bool → List RawProduct → Number → Form
made parts products constant =
    record { products = products; constant = constant; is_narrow = parts && narrow_products products && is_narrow constant }

abbrev pub constant_form : ℤ → Form
constant_form n = made true [] (Exact n)

abbrev pub atom_form : Term → Form
atom_form t = made true ((Exact (pos 1), t) ∷ []) (Exact (pos 0))

-- a product is added to the one of the same atom, or else comes last
abbrev pub add_product : RawProduct → List RawProduct → List RawProduct
add_product p [] = p ∷ []
add_product p (q ∷ qs) = if same_term p.1 q.1 then (sum q.0 p.0, q.1) ∷ qs else q ∷ add_product p qs

abbrev pub add_products : List RawProduct → List RawProduct → List RawProduct
add_products ps [] = ps
add_products ps (q ∷ qs) = add_products (add_product q ps) qs

abbrev pub plus : Form → Form → Form
plus f g = made (f.is_narrow && g.is_narrow) (add_products f.products g.products) (sum f.constant g.constant)

abbrev pub scaled : Number → RawProduct → RawProduct
scaled k p = (product k p.0, p.1)

abbrev pub times : Number → Form → Form
times k f = made f.is_narrow (map (scaled k) f.products) (product k f.constant)

abbrev pub minus_one : Number
minus_one = Exact (negsuc 0)

-- no product with a coefficient other than 0
abbrev pub are_zero : List RawProduct → Bool
are_zero ps = list_all (λ p. is_zero p.0) ps

abbrev pub is_constant : Form → Bool
is_constant f = are_zero f.products

-- the constant form f times the form g
abbrev pub multiple : Form → Form → Form
multiple f g = made (f.is_narrow && g.is_narrow) (times f.constant g).products (times f.constant g).constant

-- a term with its form
abbrev pub Formed : Type 0
Formed = Term × Form

-- A product is linear if the form of one side has no products.
abbrev pub product_form : Formed → Formed → Form
product_form a b =
    if is_constant b.1 then multiple b.1 a.1
    else if is_constant a.1 then multiple a.1 b.1
    else atom_form (roll-Term (Term-F.Mul a.0 b.0))

-- t mod n, for a literal n > 0, is t - n * (t div n).
abbrev pub remainder_by : Formed → Formed → ℤ → Form
remainder_by a b (pos (suc n)) = plus a.1 (multiple (times minus_one b.1) (atom_form (roll-Term (Term-F.Div a.0 b.0))))
remainder_by a b n = atom_form (roll-Term (Term-F.Mod a.0 b.0))

abbrev pub remainder_over : Formed → Formed → Term-F Term → Form
remainder_over a b (Term-F.Num n) = remainder_by a b n
remainder_over a b x = atom_form (roll-Term (Term-F.Mod a.0 b.0))

abbrev pub remainder_form : Formed → Formed → Form
remainder_form a b = remainder_over a b (out-Term b.0)

abbrev pub rebuilt : Term-F Formed → Term
rebuilt x = roll-Term (map-Term Formed Term (λ p. p.0) x)

-- Every other term is an atom, with its inside as it is.
abbrev pub form_step : Term-F Formed → Form
form_step (Term-F.Num n) = constant_form n
form_step (Term-F.Add a b) = plus a.1 b.1
form_step (Term-F.Sub a b) = plus a.1 (times minus_one b.1)
form_step (Term-F.Mul a b) = product_form a b
form_step (Term-F.Mod a b) = remainder_form a b
form_step x = atom_form (rebuilt x)

abbrev pub formed : Term → Formed
formed t = fold-Term Formed (λ x. (rebuilt x, form_step x)) t

-- the one text stands before the other, or the two are equal: by bytes, a text before those that go on from it
abbrev pub text_before : List ℕ → List ℕ → Bool
text_before [] ys = true
text_before (x ∷ xs) [] = Bool.false
text_before (x ∷ xs) (y ∷ ys) = ltb x y || ((x == y) && text_before xs ys)

-- products in the order of their atoms' texts; those of equal texts stay in their order
abbrev pub insert_product : Product → List Product → List Product
insert_product p [] = p ∷ []
insert_product p (q ∷ qs) = if text_before (text p.1) (text q.1) then p ∷ q ∷ qs else q ∷ insert_product p qs

abbrev pub in_text_order : List Product → List Product
in_text_order [] = []
in_text_order (p ∷ ps) = insert_product p (in_text_order ps)

abbrev pub exact_product : RawProduct → Product
exact_product p = (exact p.0, p.1)

-- without products of coefficient 0, in the order of the texts
abbrev pub shown : List RawProduct → List Product
shown ps = in_text_order (map exact_product (filter (λ p. not (is_zero p.0)) ps))

-- products and constant, where the form is narrow
abbrev pub shown_form : Form → Option (List Product × ℤ)
shown_form f = if f.is_narrow then Some (shown f.products, exact f.constant) else None

-- the linear form of a term, where there is one
abbrev pub linear_of : Term → Option (List Product × ℤ)
linear_of t = shown_form (formed t).1
