use Rattle.std.proofs.Common.{◌≡◌, ◌≤◌, ◌&&◌, ℕ, List, Bool, sym, ap, subst, IfOk, length, map, take, arith}
use Rattle.std.proofs.lemmas.Bool.{le-leb}
use Rattle.std.proofs.lemmas.List.{length-take-le}
use Rattle.num_theory.specs.Lines.{refutes}
use Rattle.num_theory.specs.Naming.{columns, occurs}
use Rattle.num_theory.specs.Table.{row_of}
use Rattle.cell_rows.specs.Sequents.{table_of}
use Rattle.cell_rows.proofs.Places.{atoms_counted}
use Rattle.cell_rows.proofs.sequent.CellTable.used_refute.Goals as goal

pub returns-clause-exact : goal.returns-clause-exact
returns-clause-exact c = λ hs g named h e u.
    let cells = c.args.self.now.sequent.cells.now.0 in
    let atoms = (table_of c.args.self.now.sequent hs g).atoms in
    let cols = columns atoms named in
    let kept = c.in-Some.ensures.kept cells atoms (occurs named) h.atoms_stand u in
    let places : List ℕ = c.keep_columns.new.columns in
    let size : length places ≡ 63 = c.keep_columns.auto.columns in
    let within : c.in-Some.width ≤ length places = c.in-Some.ensures.within in
    let few : length cols ≤ 63 = omega (arith, size, within, atoms_counted cells cols (take c.in-Some.width places) kept, length-take-le c.in-Some.width places within) in
    subst (λ (x : Bool). IfOk c.columns_refute.result (λ b. b ≡ x)) (sym (ap (λ (x : Bool). x && refutes (map (row_of cols) named) c.args.lines.now) (le-leb (length cols) 63 few)))
    (c.columns_refute.ensures.exact hs g cols named h kept e)

pub returns-clause-short : goal.returns-clause-short
returns-clause-short c = λ hs g named most h e u small.
    let atoms = (table_of c.args.self.now.sequent hs g).atoms in
    c.columns_refute.ensures.short hs g (columns atoms named) named most h (c.in-Some.ensures.kept c.args.self.now.sequent.cells.now.0 atoms (occurs named) h.atoms_stand u) small e
