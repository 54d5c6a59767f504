use Rattle.std.proofs.Common.{◌∙◌, sym, ap, length}
use Rattle.std.specs.List.{list_any}
use Rattle.std.proofs.lemmas.Bool.{eqb-true}
use Rattle.std.proofs.lemmas.List.{nil_from_length}
use Rattle.math_terms.specs.Heads.{same_term}
use Rattle.cell_rows.proofs.Ordering.{some_from}
use Rattle.cell_rows.proofs.Places.{first_atom, has_first, has_later, no_atoms}
use Rattle.cell_rows.proofs.atoms.+has_atom.Goals as goal

pub returns-then-is_empty : goal.returns-then-is_empty
returns-then-is_empty m c = λ t ts h s.
    sym (ap (list_any (same_term t)) (no_atoms c.args.cells.now.0 ts c.args.places.now (nil_from_length c.args.places.now (eqb-true (length c.args.places.now) 0 (sym c.is_empty.ensures ∙ c.if-is_empty.true))) s))

pub returns-then-same : goal.returns-then-same
returns-then-same m c = λ t ts h s.
    let f = first_atom c.args.cells.now.0 ts c.args.places.now 0 (some_from (length c.args.places.now) (sym c.is_empty.ensures ∙ c.if-is_empty.false)) s in
    has_first c.args.cells.now.0 t ts c.args.places.now 0 f c.same.result (c.same.ensures t f.first h f.first_stands) c.if-same.true

pub returns : goal.returns
returns m c = λ t ts h s.
    let f = first_atom c.args.cells.now.0 ts c.args.places.now 0 (some_from (length c.args.places.now) (sym c.is_empty.ensures ∙ c.if-is_empty.false)) s in
    has_later c.args.cells.now.0 t ts c.args.places.now 0 f c.same.result c.has_atom.result (c.same.ensures t f.first h f.first_stands) c.if-same.false (c.has_atom.ensures t f.rest h f.rest_stands)
