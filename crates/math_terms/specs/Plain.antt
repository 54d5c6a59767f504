-- What can be computed: closed terms, all numbers of which fit 128 bits.
use Rattle.std.specs.Prelude.{pos, negsuc, int_le, Bool, true, false, ◌&&◌}
use Rattle.math_terms.specs.declared.term.Term.{Term}
use Rattle.math_terms.specs.declared.term.Term.TheOpen.{Term-F}
use Rattle.math_terms.specs.declared.term.Term.TheFolds.{fold-Term, map-Term}
use Rattle.math_terms.specs.Values.{Val, Num, Truth, Str, Tup}
use Rattle.math_terms.specs.Terms.{every_child}
use Rattle.math_terms.specs.Meaning.{value_step}
use Rattle.math_terms.specs.Descriptors.{nothing, zeros}

-- a number within 128 signed bits, and any other value
abbrev pub is_narrow : Val → Bool
is_narrow (Num n) =
    int_le (negsuc 170141183460469231731687303715884105727) n && int_le n (pos 170141183460469231731687303715884105727)
is_narrow (Truth b) = true
is_narrow (Str vs) = true
is_narrow (Tup vs) = true

-- a node whose value depends on nothing but its children
abbrev pub is_fixed : {A : Type 0} → Term-F A → Bool
is_fixed (Term-F.Var k) = false
is_fixed Term-F.MinInt = false
is_fixed Term-F.MaxInt = false
is_fixed (Term-F.Initial k a) = false
is_fixed x = true

-- a node's value, and whether the node and all below it are fixed with values that fit
abbrev pub plain_step : Term-F (Val × Bool) → Val × Bool
plain_step x =
    let v : Val = value_step nothing zeros (map-Term (Val × Bool) Val (λ p. p.0) x) in
    (v, is_fixed x && every_child (map-Term (Val × Bool) Bool (λ p. p.1) x) && is_narrow v)

-- No variable, `min_int`, `max_int` or `Initial` stands in the term, and no node's number leaves 128 bits.
abbrev pub is_plain : Term → Bool
is_plain t = (fold-Term (Val × Bool) plain_step t).1
