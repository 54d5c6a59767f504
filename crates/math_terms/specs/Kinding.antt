-- When a term is well-valued: each node's children have values of the kinds that it asks for.
use Rattle.std.specs.Prelude.{◌≡◌, ℕ, Bool, true, ◌&&◌, []}
use Rattle.math_terms.specs.declared.descriptor.Sort.{Sort}
use Rattle.math_terms.specs.declared.term.Term.{Term}
use Rattle.math_terms.specs.declared.term.Term.TheOpen.{Term-F}
use Rattle.math_terms.specs.declared.term.Term.TheFolds.{fold-Term, map-Term}
use Rattle.math_terms.specs.Sorts.{z, b, any, str, tup, is_b, is_str, is_z}
use Rattle.math_terms.specs.Terms.{every_child}
use Rattle.math_terms.specs.Values.{Val, Num, Truth, Str, Tup}
use Rattle.math_terms.specs.Meaning.{Valuation, value_step}
use Rattle.math_terms.specs.Descriptors.{Interpretation, starts_in}

-- of which kind a value is; what a tuple holds is not asked
abbrev pub kind_of : Val → Sort
kind_of (Num n) = z
kind_of (Truth c) = b
kind_of (Str vs) = str any
kind_of (Tup vs) = tup []

-- Arithmetic and comparisons are over numbers, nodes of strings over strings, connectives over truth values.
abbrev pub fits : Term-F Sort → Bool
fits (Term-F.Add x y) = is_z x && is_z y
fits (Term-F.Sub x y) = is_z x && is_z y
fits (Term-F.Mul x y) = is_z x && is_z y
fits (Term-F.Div x y) = is_z x && is_z y
fits (Term-F.Mod x y) = is_z x && is_z y
fits (Term-F.Len x) = is_str x
fits (Term-F.Cat x y) = is_str x && is_str y
fits (Term-F.Reverse x) = is_str x
fits (Term-F.Part i j x) = is_z i && is_z j && is_str x
fits (Term-F.Less x y) = is_z x && is_z y
fits (Term-F.LessEq x y) = is_z x && is_z y
fits (Term-F.Not x) = is_b x
fits (Term-F.And x y) = is_b x && is_b y
fits (Term-F.Or x y) = is_b x && is_b y
fits (Term-F.Implies x y) = is_b x && is_b y
fits x = true

-- a term's value, and whether the term is well-valued
abbrev pub Valued : Type 0
Valued = Val × Bool

abbrev pub valued_step : Interpretation → Valuation → Term-F Valued → Valued
valued_step I w x =
    (value_step (starts_in I) w (map-Term Valued Val (λ p. p.0) x), fits (map-Term Valued Sort (λ p. kind_of p.0) x) && every_child (map-Term Valued Bool (λ p. p.1) x))

abbrev pub valued : Interpretation → Valuation → Term → Valued
valued I w t = fold-Term Valued (valued_step I w) t

abbrev pub Kinding : Type 0
Kinding = Sort × Bool

abbrev pub kinding : Interpretation → Valuation → Term → Kinding
kinding I w t = (kind_of (valued I w t).0, (valued I w t).1)

-- The term is well-valued, and its value is of this kind.
abbrev pub HasKind : Interpretation → Valuation → Term → Sort → Type 0
HasKind I w t s = kinding I w t ≡ (s, true)

-- a well-valued formula: its value is a truth value
abbrev pub IsFormula : Interpretation → Valuation → Term → Type 0
IsFormula I w f = HasKind I w f b

-- whether each value of which the node says that it is initial for a type parameter passes a test
abbrev pub asks : (ℕ → Val → Bool) → Term-F Val → Bool
asks test (Term-F.Initial k v) = test k v
asks test x = true

-- a term's value, and whether the term is well-valued and each such value passes
abbrev pub asking_step : (ℕ → Val → Bool) → Interpretation → Valuation → Term-F Valued → Valued
asking_step test I w x =
    let v : Valued = valued_step I w x in
    (v.0, v.1 && asks test (map-Term Valued Val (λ p. p.0) x))

abbrev pub asking : (ℕ → Val → Bool) → Interpretation → Valuation → Term → Valued
asking test I w t = fold-Term Valued (asking_step test I w) t

abbrev pub kinding_asking : (ℕ → Val → Bool) → Interpretation → Valuation → Term → Kinding
kinding_asking test I w t = (kind_of (asking test I w t).0, (asking test I w t).1)

-- The term is well-valued, its value is of this kind, and each value that it asks of passes the test.
abbrev pub HasKindAsking : (ℕ → Val → Bool) → Interpretation → Valuation → Term → Sort → Type 0
HasKindAsking test I w t s = kinding_asking test I w t ≡ (s, true)
