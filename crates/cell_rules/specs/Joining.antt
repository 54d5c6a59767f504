-- Two parts of one string, of which the second begins where the first ends.
use Rattle.std.specs.Prelude.{◌≡◌, true, List, [], ◌∷◌, Option, Some, None}
use Rattle.math_terms.specs.declared.term.Term.{Term}
use Rattle.term_cells.specs.declared.cell.Cell.{Cell}
use Rattle.term_cells.specs.Standing.{stands}
use Rattle.str_theory.specs.Forms.{cat, less_eq, part as part_term, when_cat}
use Rattle.str_theory.specs.Rules.{Given, gives_if, s23_rest}
use Rattle.cell_rules.specs.declared.joins.Joint.{Joint}
use Rattle.cell_rules.specs.declared.sketch.Bounds.{Bounds}
use Rattle.cell_rules.specs.declared.sketch.Bounds.TheVariants as bounds_forms
use Rattle.cell_rules.specs.declared.sketch.Count.TheVariants as count
use Rattle.cell_rules.specs.declared.sketch.Small.TheVariants as small
use Rattle.cell_rules.specs.declared.sketch.Text.{Text}
use Rattle.cell_rules.specs.declared.sketch.Text.TheVariants as text

-- whether and where the second follows the first
abbrev pub Follows : List Cell → Term → Term → Option Joint → Type 0
Follows cells p q None = (after : Term → Term) → s23_rest p after q ≡ None
Follows cells p q (Some x) =
    (i : Term) × (j : Term) × (l : Term) × (a : Term) × (stands cells i x.from ≡ true) × (stands cells j x.middle ≡ true) × (stands cells l x.to ≡ true) × (stands cells a x.text ≡ true)
    × ((after : Term → Term) → s23_rest p after q ≡ gives_if (less_eq i j ∷ less_eq j l ∷ []) (after (part_term i l a)))

abbrev pub part : Joint → Text
part x = text.Part (count.Just (small.At x.from)) (count.Just (small.At x.to)) x.text

abbrev pub bounds : Joint → Bounds
bounds x =
    bounds_forms.Two (record { less = count.Just (small.At x.from); more = count.Just (small.At x.middle) }) (record { less = count.Just (small.At x.middle); more = count.Just (small.At x.to) })

-- what is given where the second stands before a rest
abbrev pub before_rest : Term → Term → Given
before_rest t u = when_cat u (λ q b. s23_rest t (λ r. cat r b) q)
