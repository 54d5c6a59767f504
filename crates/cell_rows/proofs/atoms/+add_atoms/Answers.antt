use Rattle.std.proofs.Common.{◌∙◌, ◌<◌, sym, subst, length, take, pos, arith}
use Rattle.std.proofs.lemmas.Bool.{eqb-true}
use Rattle.std.proofs.lemmas.List.{nil_from_length}
use Rattle.num_theory.specs.Table.{with_atom, with_atoms}
use Rattle.term_cells.specs.Placed.{AllStand}
use Rattle.cell_rows.specs.working.Atoms.{AtomsOrShort}
use Rattle.num_theory.specs.declared.number.Number.TheVariants.{Exact}
use Rattle.cell_rows.proofs.Ordering.{some_from}
use Rattle.cell_rows.proofs.Places.{atoms_add, first_product, no_products}
use Rattle.cell_rows.proofs.atoms.+add_atoms.Goals as goal

pub returns-then-is_empty-clause-added : goal.returns-then-is_empty-clause-added
returns-then-is_empty-clause-added m c = λ ts ps h s.
    subst (λ x. AllStand c.args.cells.now.0 (with_atoms ts x) (take c.args.count c.args.places.now))
    (sym (no_products c.args.cells.now.0 ps c.args.marks.now (nil_from_length c.args.marks.now (eqb-true (length c.args.marks.now) 0 (sym c.is_empty.ensures ∙ c.if-is_empty.true))) s)) h

pub returns-in_err-count-clause-added : goal.returns-in_err-count-clause-added
returns-in_err-count-clause-added m c = λ ts ps h s.
    let cells = c.args.cells.now.0 in
    let f = first_product cells ps c.args.marks.now (Exact (pos 0), 0) (some_from (length c.args.marks.now) (sym c.is_empty.ensures ∙ c.if-is_empty.false)) s in
    let short : length c.add_atom.new.places < length (with_atom ts f.first.1) = c.in_err-count.ensures.added f.first.1 ts f.first_stands h in
    let less : length c.add_atom.new.places < length (with_atoms ts ps) =
    subst (λ x. length c.add_atom.new.places < length (with_atoms ts x)) (sym f.same) (omega (arith, short, atoms_add (with_atom ts f.first.1) f.rest)) in
    rw c.from_residual.ensures less

pub returns-clause-added : goal.returns-clause-added
returns-clause-added m c = λ ts ps h s.
    let cells = c.args.cells.now.0 in
    let f = first_product cells ps c.args.marks.now (Exact (pos 0), 0) (some_from (length c.args.marks.now) (sym c.is_empty.ensures ∙ c.if-is_empty.false)) s in
    subst (λ x. AtomsOrShort cells (with_atoms ts x) c.add_atoms.result c.add_atoms.new.places) (sym f.same)
    (c.add_atoms.ensures.added (with_atom ts f.first.1) f.rest (c.in_ok-count.ensures.added f.first.1 ts f.first_stands h) f.rest_stands)
