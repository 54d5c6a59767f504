use Rattle.std.proofs.Common.{◌≡◌, ◌∙◌, ◌∷◌, ◌++◌, sym, ap, subst, refl, List, true, false, length, take, drop, get_or, suc, arith}
use Rattle.std.proofs.Math.Seq.{drop-cons}
use Rattle.std.proofs.lemmas.List.{take_all, take_more, take-append-drop}
use Rattle.math_terms.specs.declared.name.RowName.{RowName}
use Rattle.math_terms.specs.declared.name.RowName.TheVariants.{Hyp}
use Rattle.num_theory.specs.Naming.{find_row, find_rows, occurs}
use Rattle.term_cells.specs.KindShown.{sorts_of_vars}
use Rattle.cell_rows.specs.working.Columns.{RowUsed, UsedIs}
use Rattle.cell_rows.specs.working.Finding.{row_by_name}
use Rattle.cell_rows.specs.RowsStand.{RowStands}
use Rattle.cell_rows.specs.Sequents.{table_of}
use Rattle.cell_rows.proofs.Flags.{used_before}
use Rattle.cell_rows.proofs.Looking.{find_none, row_missing, used_more}
use Rattle.cell_rows.proofs.Places.{atoms_counted}
use Rattle.cell_rows.proofs.sequent.CellTable.use_rows.Goals as goal

pub loop-name-init : goal.loop-name-init
loop-name-init c = record {
  room = (refl, refl);
  used = λ hs g h. (refl, c.clear.ensures (table_of c.args.self.now.sequent hs g).atoms (c.requires.same_length ∙ sym (atoms_counted c.args.self.now.sequent.cells.now.0 (table_of c.args.self.now.sequent hs g).atoms c.args.self.now.atoms.now h.atoms_stand)));
}

pub loop-name-preserved : goal.loop-name-preserved
loop-name-preserved c =
    let names = c.args.names.now in
    let k = c.loop-name.name-index in
    let name = get_or names k (Hyp 0) in
    let inv = c.loop-name.invariant in
    let found = c.in-Ok.ensures in
    let cells = c.args.self.now.sequent.cells.now.0 in
    record {
      room = (found.room.0 ∙ inv.room.0, found.room.1 ∙ inv.room.1);
      used = λ hs g h.
          let table = table_of c.args.self.now.sequent hs g in
          let row = row_by_name (sorts_of_vars c.args.self.now.sequent.vars.now) hs g name in
          subst (λ (x : List RowName). UsedIs (find_rows (length hs) table.sums x) table.atoms true c.use_found.new.used) (sym (take_more names k (Hyp 0) (omega arith)))
          (used_more (length hs) table.sums (take k names) name table.atoms c.loop-name.used c.use_found.new.used (inv.used hs g h)
          (λ before e. subst (λ b. RowUsed row table.atoms before b c.use_found.new.used) c.if-not-use_found.false (c.use_found.ensures table.atoms row before h.atoms_stand (subst (RowStands cells row c.in-Ok.row) (sym c.deref.ensures.value) (found.row hs g h)) e)));
    }

pub returns-then-not-use_found-clause-used : goal.returns-then-not-use_found-clause-used
returns-then-not-use_found-clause-used c = λ hs g h.
    let names = c.args.names.now in
    let k = c.loop-name.name-index in
    let name = get_or names k (Hyp 0) in
    let table = table_of c.args.self.now.sequent hs g in
    let row = row_by_name (sorts_of_vars c.args.self.now.sequent.vars.now) hs g name in
    let flags = used_before (find_rows (length hs) table.sums (take k names)) table.atoms true c.loop-name.used (c.loop-name.invariant.used hs g h) refl in
    let none = row_missing (find_row (length hs) name table.sums) table.atoms (occurs flags.0) c.use_found.new.used
    (subst (λ b. RowUsed row table.atoms (occurs flags.0) b c.use_found.new.used) c.if-not-use_found.true (c.use_found.ensures table.atoms row (occurs flags.0) h.atoms_stand (subst (RowStands c.args.self.now.sequent.cells.now.0 row c.in-Ok.row) (sym c.deref.ensures.value) (c.in-Ok.ensures.row hs g h)) flags.2)) in
    let split : take k names ++ name ∷ drop (suc k) names ≡ names = ap (λ (x : List RowName). take k names ++ x) (sym (drop-cons names k (Hyp 0) (omega arith))) ∙ take-append-drop k names in
    subst (λ x. UsedIs x table.atoms false c.use_found.new.used) (sym (ap (find_rows (length hs) table.sums) (sym split) ∙ find_none (length hs) table.sums (take k names) name (drop (suc k) names) none)) refl

pub returns-clause-used : goal.returns-clause-used
returns-clause-used c = λ hs g h.
    let names = c.args.names.now in
    let table = table_of c.args.self.now.sequent hs g in
    subst (λ (x : List RowName). UsedIs (find_rows (length hs) table.sums x) table.atoms true c.loop-name.used) (take_all c.loop-name.name-index names (omega arith)) (c.loop-name.invariant.used hs g h)
