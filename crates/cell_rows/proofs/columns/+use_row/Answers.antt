use Rattle.std.proofs.Common.{◌≡◌, ◌∙◌, ◌||◌, ◌∷◌, ◌<◌, List, Bool, false, sym, ap, length, map, arith}
use Rattle.math_terms.specs.declared.term.Term.{Term}
use Rattle.cell_rows.specs.working.Columns.{has_product}
use Rattle.cell_rows.proofs.Flags.{first_mapped, one_then, rest_mapped, rest_set}
use Rattle.cell_rows.proofs.Ordering.{some_from}
use Rattle.cell_rows.proofs.Places.{first_atom}
use Rattle.cell_rows.proofs.columns.+use_row.Goals as goal

pub returns : goal.returns
returns m c = λ ts ps before h s e.
    let cells = c.args.cells.now.0 in
    let xs : List Bool = c.args.used.now in
    let some_atoms = some_from (length c.args.atoms.now) (sym c.is_empty.ensures ∙ c.if-is_empty.false) in
    let some : 0 < length xs = omega (arith, some_atoms, c.requires) in
    let f = first_atom cells ts c.args.atoms.now 0 some_atoms h in
    let v : Bool = c.either.result in
    let head : v ≡ (has_product ps f.first || before f.first) =
    c.either.ensures ∙ (λ i. c.has_mark.ensures f.first ps f.first_stands s i || first_mapped before ts f.first f.rest f.same xs e false i) in
    let rest = c.use_row.ensures f.rest ps before f.rest_stands s (rest_set xs v some ∙ rest_mapped before ts f.first f.rest f.same xs e) in
    one_then xs v c.use_row.new.used some ∙ (λ i. head i ∷ rest i) ∙ sym (ap (map {A = Term} {B = Bool} (λ t. has_product ps t || before t)) f.same)
