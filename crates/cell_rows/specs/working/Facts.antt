-- The forms of facts on quotients.
use Rattle.std.specs.Prelude.{ℤ, pos}
use Rattle.math_terms.specs.declared.term.Term.{Term}
use Rattle.math_terms.specs.declared.term.Term.TheOpen.{Term-F}
use Rattle.num_theory.specs.Linear.{Form, atom_form, constant_form, formed, minus_one, multiple, plus, times}

-- the number of a literal, and 0 for other nodes
abbrev pub literal_of : Term-F Term → ℤ
literal_of (Term-F.Num n) = n
literal_of x = pos 0

-- n * q, for an atom q
abbrev pub multiple_form : ℤ → Term → Form
multiple_form n q = multiple (constant_form n) (atom_form q)

-- t - n * q
abbrev pub lower_form : ℤ → Term → Term → Form
lower_form n q t = plus (formed t).1 (times (minus_one) (multiple_form n q))

-- n * q + n - 1
abbrev pub last_form : ℤ → Term → Form
last_form n q = plus (plus (multiple_form n q) (constant_form n)) (times (minus_one) (constant_form (pos 1)))

-- n * q + n - 1 - t
abbrev pub upper_form : ℤ → Term → Term → Form
upper_form n q t = plus (last_form n q) (times (minus_one) (formed t).1)
