-- Narrow forms have narrow numbers.
use Rattle.std.proofs.Common.{◌≡◌, sym, subst, zero, suc, ℤ, pos, negsuc, Bool, true, ◌&&◌, List, [], ◌∷◌, cond}
use Rattle.std.proofs.lemmas.Bool.{and_parts, cond_both}
use Rattle.math_terms.specs.declared.term.Term.{Term}
use Rattle.math_terms.specs.declared.term.Term.TheOpen.{Term-F}
use Rattle.math_terms.specs.declared.term.Term.TheViews.{roll-Term, out-Term, roll-out-Term}
use Rattle.math_terms.specs.declared.term.Term.TheFolds.{map-Term}
use Rattle.num_theory.specs.declared.number.Number.{Number}
use Rattle.num_theory.specs.declared.number.Number.TheVariants.{Exact}
use Rattle.num_theory.specs.Number.{is_narrow, sum}
use Rattle.num_theory.specs.Linear.{Form, Formed, RawProduct, add_products, atom_form, formed, form_step, is_constant, made, minus_one, multiple, narrow_products, plus, product_form, rebuilt, remainder_by, remainder_over, times}
use Rattle.num_theory.specs.working.Making.{IsWellMade}
use Rattle.num_theory.proofs.Forming.{form_at}

pub made_well : (parts : Bool) (ps : List RawProduct) (n : Number) → IsWellMade (made parts ps n)
made_well parts ps n narrow_form =
    let outer = and_parts (parts && narrow_products ps) (is_narrow n) narrow_form in
    ((and_parts parts (narrow_products ps) outer.0).1, outer.1)

-- a narrow form is made from narrow forms
pub made_parts : (parts : Bool) (ps : List RawProduct) (n : Number) → (made parts ps n).is_narrow ≡ true → parts ≡ true
made_parts parts ps n narrow_form =
    (and_parts parts (narrow_products ps) (and_parts (parts && narrow_products ps) (is_narrow n) narrow_form).0).0

atom_well : (t : Term) → IsWellMade (atom_form t)
atom_well t = made_well true ((Exact (pos 1), t) ∷ []) (Exact (pos 0))

plus_well : (f g : Form) → IsWellMade (plus f g)
plus_well f g = made_well (f.is_narrow && g.is_narrow) (add_products f.products g.products) (sum f.constant g.constant)

multiple_well : (f g : Form) → IsWellMade (multiple f g)
multiple_well f g = made_well (f.is_narrow && g.is_narrow) (times f.constant g).products (times f.constant g).constant

product_well : (a b : Formed) → IsWellMade (product_form a b)
product_well a b =
    let atom : Form = atom_form (roll-Term (Term-F.Mul a.0 b.0)) in
    cond_both (is_constant b.1) (multiple b.1 a.1) (cond (is_constant a.1) (multiple a.1 b.1) atom) IsWellMade (λ e. multiple_well b.1 a.1)
    (λ e. cond_both (is_constant a.1) (multiple a.1 b.1) atom IsWellMade (λ f. multiple_well a.1 b.1) (λ f. atom_well (roll-Term (Term-F.Mul a.0 b.0))))

remainder_by_well : (a b : Formed) (n : ℤ) → IsWellMade (remainder_by a b n)
remainder_by_well a b (pos zero) = atom_well (roll-Term (Term-F.Mod a.0 b.0))
remainder_by_well a b (pos (suc n)) = plus_well a.1 (multiple (times minus_one b.1) (atom_form (roll-Term (Term-F.Div a.0 b.0))))
remainder_by_well a b (negsuc n) = atom_well (roll-Term (Term-F.Mod a.0 b.0))

remainder_well : (a b : Formed) (x : Term-F Term) → IsWellMade (remainder_over a b x)
remainder_well a b (Term-F.Num n) = remainder_by_well a b n
remainder_well a b x = atom_well (roll-Term (Term-F.Mod a.0 b.0))

step_well : (x : Term-F Formed) → IsWellMade (form_step x)
step_well (Term-F.Num n) = made_well true [] (Exact n)
step_well (Term-F.Add a b) = plus_well a.1 b.1
step_well (Term-F.Sub a b) = plus_well a.1 (times minus_one b.1)
step_well (Term-F.Mul a b) = product_well a b
step_well (Term-F.Mod a b) = remainder_well a b (out-Term b.0)
step_well x = atom_well (rebuilt x)

pub form_well : (t : Term) → IsWellMade (formed t).1
form_well t =
    let x = out-Term t in
    subst IsWellMade (sym (form_at x t (sym (roll-out-Term t)))) (step_well (map-Term Term Formed formed x))
