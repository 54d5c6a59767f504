-- Tables as the code has them while it makes them.
use Rattle.std.specs.Prelude.{◌+◌, List, [], ◌∷◌, ◌++◌, map, Result, MatchResult, ◌≡◌}
use Rattle.num_theory.specs.declared.gathering.Gathering.{Gathering}
use Rattle.num_theory.specs.declared.gathering.RowSum.{RowSum}
use Rattle.num_theory.specs.declared.table.RowError.{RowError}
use Rattle.math_terms.specs.declared.term.Term.{Term}
use Rattle.num_theory.specs.Table.{Gathered, IsFew, IsRowRefusal, Sum, atoms_of, sums_of_fact}

abbrev pub sum_of : RowSum → Sum
sum_of s = record { name = s.name; products = s.products; constant = s.constant }

abbrev pub gathered_of : Gathering → Gathered
gathered_of g = record { atoms = g.atoms.items; sums = map sum_of g.sums.items; facts = g.facts }

abbrev pub no_rows : Gathered
no_rows = record { atoms = []; sums = []; facts = 0 }

-- with these rows and their atoms
abbrev pub with_sums : Gathered → List Sum → Gathered
with_sums g sums = record { atoms = atoms_of g.atoms sums; sums = g.sums ++ sums; facts = g.facts }

-- with the row of one fact more, and with those of facts one after another
abbrev pub with_fact : Gathered → Term → Gathered
with_fact g fact = record (with_sums g (sums_of_fact (g.facts + 1) fact)) { facts = g.facts + 1 }

abbrev pub with_each_fact : Gathered → List Term → Gathered
with_each_fact g [] = g
with_each_fact g (fact ∷ facts) = with_each_fact (with_fact g fact) facts

-- What is answered where a table is to become this one: it has, and there are not too many atoms and rows, or there
-- is a cause for none.
abbrev pub Becomes : {T : Type 0} → Result T RowError → Gathering → Gathered → Type 0
Becomes r new wanted = MatchResult r (λ _. (gathered_of new ≡ wanted) × IsFew wanted) (λ e. IsRowRefusal e wanted)
