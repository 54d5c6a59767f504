-- The children of a head as a list.
use Rattle.std.specs.Prelude.{Bool, true, false, List, [], ◌∷◌}
use Rattle.math_terms.specs.declared.term.Term.{Term}
use Rattle.term_cells.specs.declared.head.Children.{Children}
use Rattle.term_cells.specs.declared.head.Children.TheVariants.{None, One, Two, Three, Parts}

abbrev pub listed : Children → List Term
listed None = []
listed (One a) = a.now ∷ []
listed (Two a b) = a.now ∷ b.now ∷ []
listed (Three a b c) = a.now ∷ b.now ∷ c.now ∷ []
listed (Parts ts) = ts.now

-- a tuple's children
abbrev pub is_parts : Children → Bool
is_parts None = false
is_parts (One a) = false
is_parts (Two a b) = false
is_parts (Three a b c) = false
is_parts (Parts ts) = true
