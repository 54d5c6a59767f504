use Rattle.std.proofs.Common.{◌≡◌, ◌∙◌, ◌+◌, ◌∷◌, ◌++◌, List, [], inl, sym, ap, subst, refl, length, map, take, get_or, true, arith}
use Rattle.std.proofs.lemmas.Bool.{false≢true}
use Rattle.std.proofs.lemmas.List.{take_all}
use Rattle.math_terms.specs.declared.name.RowName.TheVariants.{Hyp}
use Rattle.num_theory.specs.Number.{exact, is_narrow}
use Rattle.num_theory.specs.Naming.{find_row}
use Rattle.num_theory.specs.Rows.{reduced}
use Rattle.num_theory.specs.Table.{Sum, coefficient, row_of}
use Rattle.term_cells.specs.KindShown.{sorts_of_vars}
use Rattle.cell_rows.specs.working.Finding.{row_by_name}
use Rattle.cell_rows.specs.working.RowsIn.{RowsIn}
use Rattle.cell_rows.specs.RowsStand.{RowStands}
use Rattle.cell_rows.specs.Sequents.{table_of}
use Rattle.cell_rows.proofs.Looking.{named_at, row_filled}
use Rattle.cell_rows.proofs.Matrix.{named_stands, names_counted, no_row}
use Rattle.cell_rows.proofs.Narrowing.{found_narrow}
use Rattle.cell_rows.proofs.sequent.CellTable.fill_rows.Goals as goal

pub loop-k-init : goal.loop-k-init
loop-k-init c = record { room = (refl, refl); filled = λ hs g cols named h k e. refl }

pub loop-k-preserved : goal.loop-k-preserved
loop-k-preserved c =
    let names = c.args.names.now in
    let k = c.loop-k.k in
    let name = get_or names k (Hyp 0) in
    let inv = c.loop-k.invariant in
    let row = c.in-Some.row in
    record {
      room = (c.in-Ok.ensures.room.0 ∙ inv.room.0, c.in-Ok.ensures.room.1 ∙ inv.room.1);
      filled = λ hs g cols named h a e.
          let sums = (table_of c.args.self.now.sequent hs g).sums in
          let n = named_at (length hs) sums names named k (Hyp 0) e (omega arith) in
          let there = subst (RowStands c.args.self.now.sequent.cells.now.0 (row_by_name (sorts_of_vars c.args.self.now.sequent.vars.now) hs g name) c.in-Ok.found) (sym c.deref.ensures.value) (c.in-Ok.ensures.row hs g h) in
          let stand = named_stands c.args.self.now.sequent.cells.now.0 (find_row (length hs) name sums) n.row c.in-Ok.found row c.deref.result.now n.row_is c.in-Some.is there in
          let written = c.in-Some-row_in_columns.ensures.row cols n.row.products a stand.0 ∙ ap (λ z. reduced (map (λ t. coefficient t n.row.products) cols ++ exact z ∷ [])) stand.1 in
          row_filled (length cols + 1) (row_of cols) named k n.row c.loop-k.places c.in-Some-row_in_columns.numbers n.more (inv.filled hs g cols named h a e) (omega arith) written;
    }

pub returns-in_default-found-clause-short : goal.returns-in_default-found-clause-short
returns-in_default-found-clause-short c = λ hs g cols named most h a small e.
    let sums = (table_of c.args.self.now.sequent hs g).sums in
    let name = get_or c.args.names.now c.loop-k.k (Hyp 0) in
    let n = named_at (length hs) sums c.args.names.now named c.loop-k.k (Hyp 0) e (omega arith) in
    absurd (no_row c.args.self.now.sequent.cells.now.0 (find_row (length hs) name sums) n.row c.in-Ok.found c.row_named.new.sheet.marks.items n.row_is c.in_default-found.is (c.in-Ok.ensures.row hs g h))

pub returns-in_default-row_in_columns-clause-short : goal.returns-in_default-row_in_columns-clause-short
returns-in_default-row_in_columns-clause-short c = λ hs g cols named most h a small e.
    let sums = (table_of c.args.self.now.sequent hs g).sums in
    let row = c.in-Some.row in
    let name = get_or c.args.names.now c.loop-k.k (Hyp 0) in
    let n = named_at (length hs) sums c.args.names.now named c.loop-k.k (Hyp 0) e (omega arith) in
    let there = subst (RowStands c.args.self.now.sequent.cells.now.0 (row_by_name (sorts_of_vars c.args.self.now.sequent.vars.now) hs g name) c.in-Ok.found) (sym c.deref.ensures.value) (c.in-Ok.ensures.row hs g h) in
    let stand = named_stands c.args.self.now.sequent.cells.now.0 (find_row (length hs) name sums) n.row c.in-Ok.found row c.deref.result.now n.row_is c.in-Some.is there in
    let few = found_narrow (sorts_of_vars c.args.self.now.sequent.vars.now) hs g name n.row n.row_is in
    let narrow_row : is_narrow row.constant ≡ true = ap is_narrow stand.1 ∙ few.1 in
    absurd (false≢true (c.in_default-row_in_columns.ensures.found cols n.row.products a stand.0 few.0 narrow_row))

pub returns-in_default-clause-short : goal.returns-in_default-clause-short
returns-in_default-clause-short c = λ hs g cols named most h a small e. inl (omega (arith, c.in_default.ensures.short hs g most h small, c.loop-k.invariant.room.1))

pub returns-clause-filled : goal.returns-clause-filled
returns-clause-filled c = λ hs g cols named h a e.
    let sums = (table_of c.args.self.now.sequent hs g).sums in
    let k = c.loop-k.k in
    let counted = names_counted (length hs) sums c.args.names.now named e in
    let all : k ≡ length named = omega (arith, counted) in
    let rows = c.loop-k.invariant.filled hs g cols named h a e in
    subst (λ (ss : List Sum). RowsIn (length cols + 1) (length named) (map (row_of cols) ss) c.loop-k.places) (take_all k named (omega (arith, counted)))
    (subst (λ n. RowsIn (length cols + 1) n (map (row_of cols) (take k named)) c.loop-k.places) all rows)
