use Rattle.std.proofs.Common.{◌∙◌, sym, ap, subst, ◌==◌, arith, true, false, set, length}
use Rattle.math_terms.specs.declared.term.Term.TheViews.{out-Term, roll-Term}
use Rattle.math_terms.specs.Heads.{children, form}
use Rattle.math_terms.specs.Positions.{with_child}
use Rattle.term_cells.specs.Growing.{IsFewForm, StandsThere}
use Rattle.cell_rules.proofs.Exchanged.{exchanged_cell, mod_is, tuple_exchanged, tuple_parts}
use Rattle.cell_rules.proofs.Kept.{if_none, short_more}
use Rattle.cell_rules.proofs.Looked.{its_test, node_at}
use Rattle.cell_rules.proofs.children.with_child.Goals as goal

pub returns-in_err-parts-clause-short : goal.returns-in_err-parts-clause-short
returns-in_err-parts-clause-short c = λ t u h f.
    let cells = c.args.cells.now.0 in
    let cell = c.in_ok-cell.cell in
    let n = node_at c.standing_opens.ensures cells t c.args.p cell (sym c.in_ok-cell.ensures) h in
    let test = its_test cells t c.args.p cell 16 true n (sym c.if-is.ensures) in
    if_none _ (short_more _ _ _ (c.in_err-parts.ensures.short c.args.p (children (out-Term t)) u (tuple_parts cells (out-Term t) cell c.args.p test n.children_are) f) (omega arith))

pub returns-then-is-clause-standing : goal.returns-then-is-clause-standing
returns-then-is-clause-standing c = λ t u n h f g.
    let cells = c.args.cells.now.0 in
    let cell = c.in_ok-cell.cell in
    let x = out-Term t in
    let node = node_at c.standing_opens.ensures cells t c.args.p cell (sym c.in_ok-cell.ensures) h in
    let test = its_test cells t c.args.p cell 16 true node (sym c.if-is.ensures) in
    let parts = c.in_ok-parts.ensures.standing c.args.p (children x) u n (tuple_parts cells x cell c.args.p test node.children_are) f g in
    subst (λ y. StandsThere c.tuple.new.cells.0 (roll-Term y) c.tuple.result) (sym (tuple_exchanged x c.args.k n test)) (c.tuple.ensures.standing (set (children x) c.args.k n) parts)

pub returns-then-is-2-clause-standing : goal.returns-then-is-2-clause-standing
returns-then-is-2-clause-standing c = λ t u n h f g.
    let cells = c.args.cells.now.0 in
    let cell = c.in_ok-cell.cell in
    let node = node_at c.standing_opens.ensures cells t c.args.p cell (sym c.in_ok-cell.ensures) h in
    let test = its_test cells t c.args.p cell 16 false node (sym c.if-is.ensures) in
    let new = exchanged_cell c.stands_below_next.ensures cells t u n cell c.exchange-changed.result c.args.p c.args.k c.args.new node test f g c.exchange-changed.ensures in
    let m = mod_is cells (with_child c.args.k n (out-Term t)) c.exchange-changed.result (length cells) (ap (λ k. k == 9) new.form_kept ∙ sym c.if-is-2.ensures) new.children_are in
    subst (λ y. StandsThere c.remainder.new.self.0 (roll-Term y) c.remainder.result) (sym m.2) (c.remainder.ensures.node m.0 m.1 m.3 m.4)

pub returns-else-is-2-clause-standing : goal.returns-else-is-2-clause-standing
returns-else-is-2-clause-standing c = λ t u n h f g.
    let cells = c.args.cells.now.0 in
    let cell = c.in_ok-cell.cell in
    let node = node_at c.standing_opens.ensures cells t c.args.p cell (sym c.in_ok-cell.ensures) h in
    let test = its_test cells t c.args.p cell 16 false node (sym c.if-is.ensures) in
    let new = exchanged_cell c.stands_below_next.ensures cells t u n cell c.exchange-changed.result c.args.p c.args.k c.args.new node test f g c.exchange-changed.ensures in
    let few : IsFewForm (form (with_child c.args.k n (out-Term t))) = record {
      no_tuple = ap (λ k. k == 16) new.form_kept ∙ sym c.if-is.ensures;
      no_remainder = ap (λ k. k == 9) new.form_kept ∙ sym c.if-is-2.ensures;
    } in
    c.same_node.ensures.standing (with_child c.args.k n (out-Term t)) new.form_is new.own_is few new.children_are
