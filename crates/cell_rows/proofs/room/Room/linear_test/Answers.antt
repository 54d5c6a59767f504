use Rattle.std.proofs.Common.{◌∙◌, ◌+◌, ◌*◌, ◌<◌, ℤ, List, sum, ap, length, map, arith}
use Rattle.math_terms.specs.Terms.{nodes}
use Rattle.cell_rows.proofs.Matrix.{on_err}
use Rattle.cell_rows.proofs.Rooms.{too_small, written_over}
use Rattle.cell_rows.proofs.room.Room.linear_test.Goals as goal

pub invariant_of-self : goal.invariant_of-self
invariant_of-self c =
    let r = c.self.inside in
    let inv = c.self.invariant in
    let rows : List (List ℤ) = c.is_refuted.new.places in
    let rows_are = written_over r.rows.len r.rows.items rows r.rows.ok.0 (c.is_refuted.auto.places ∙ ap length c.deref_mut-3.ensures.value) in (
      c.is_refuted.ensures.room.0 ∙ inv.0,
      c.is_refuted.ensures.room.1 ∙ inv.1,
      written_over r.atoms.len r.atoms.items c.is_refuted.new.atoms r.atoms.ok.0 (c.is_refuted.auto.atoms ∙ ap length c.deref_mut.ensures.value) ∙ inv.2,
      written_over r.used.len r.used.items c.is_refuted.new.used r.used.ok.0 (c.is_refuted.auto.used ∙ ap length c.deref_mut-2.ensures.value) ∙ inv.3,
      omega (arith, inv.4, rows_are),
    )

pub returns-clause-short : goal.returns-clause-short
returns-clause-short c = λ hs g h.
    let r = c.self.inside in
    let inv = c.self.invariant in
    let most = sum (map nodes hs) + nodes g in
    let k = length c.args.names.now + length c.args.lines.now in
    let rows : c.args.self.now < 64 * length c.deref_mut-3.result.now + 64 = omega (arith, inv.4, ap length c.deref_mut-3.ensures.value, c.self.view_is) in
    on_err c.is_refuted.result (too_small c.args.self.now (length r.sheet.marks.items) (length c.deref_mut-3.result.now) most k (inv.1 ∙ c.self.view_is) rows) (c.is_refuted.ensures.short hs g h)
