use Rattle.cell_rows.proofs.Places.{no_place, place_taken}
use Rattle.cell_rows.proofs.atoms.add_atom.Goals as goal

pub returns-then-count-places-clause-added : goal.returns-then-count-places-clause-added
returns-then-count-places-clause-added c = λ t ts h s.
    no_place c.args.cells.now.0 t ts c.has_atom.result (c.has_atom.ensures t ts h s) c.args.places.now c.args.count c.if-has_atom.false s c.if-count-places.true c.requires

pub returns-clause-added : goal.returns-clause-added
returns-clause-added c = λ t ts h s.
    place_taken c.args.cells.now.0 t ts c.has_atom.result (c.has_atom.ensures t ts h s) c.args.places.now c.args.count c.args.atom c.if-has_atom.false s c.if-count-places.false h
