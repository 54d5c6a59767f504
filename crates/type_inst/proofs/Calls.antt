-- Calls, by the number of their arguments.
use Rattle.std.proofs.Common.{◌≡◌, sym, ap, refl, ℕ, List, [], ◌∷◌, length, get_or, map, arith}
use Rattle.math_terms.specs.declared.term.Term.{Term}
use Rattle.res_ast.specs.declared.expression.Expr.{Expr}
use Rattle.type_inst.specs.Assertions.{call, zero_term}

pub call_of_one : (f : Expr → Term) (name : List ℕ) (es : List Expr) (s : Expr) → length es ≡ 1 → s ≡ get_or es 0 s → call name (map f es) ≡ call name (f s ∷ [])
call_of_one f name [] s n e = absurd (omega (arith, n))
call_of_one f name (a ∷ []) s n e = ap (λ x. call name (f x ∷ [])) (sym e)
call_of_one f name (a ∷ b ∷ es) s n e = absurd (omega (arith, n))

pub call_of_three : (f : Expr → Term) (name : List ℕ) (es : List Expr) (i j s : Expr) → length es ≡ 3 → i ≡ get_or es 0 i → j ≡ get_or es 1 j → s ≡ get_or es 2 s →
    call name (map f es) ≡ call name (f i ∷ f j ∷ f s ∷ [])
call_of_three f name [] i j s n x y z = absurd (omega (arith, n))
call_of_three f name (a ∷ []) i j s n x y z = absurd (omega (arith, n))
call_of_three f name (a ∷ b ∷ []) i j s n x y z = absurd (omega (arith, n))
call_of_three f name (a ∷ b ∷ c ∷ []) i j s n x y z = λ k. call name (f (sym x k) ∷ f (sym y k) ∷ f (sym z k) ∷ [])
call_of_three f name (a ∷ b ∷ c ∷ d ∷ es) i j s n x y z = absurd (omega (arith, n))

pub call_of_others : (f : Expr → Term) (name : List ℕ) (es : List Expr) → (length es ≡ 1 → ⊥) → (length es ≡ 3 → ⊥) → call name (map f es) ≡ zero_term
call_of_others f name [] one three = refl
call_of_others f name (a ∷ []) one three = absurd (one refl)
call_of_others f name (a ∷ b ∷ []) one three = refl
call_of_others f name (a ∷ b ∷ c ∷ []) one three = absurd (three refl)
call_of_others f name (a ∷ b ∷ c ∷ d ∷ es) one three = refl
