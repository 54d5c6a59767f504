use Rattle.std.proofs.Common.{◌≡◌, suc, sym, subst, arith, true, length, map, set, IfSome}
use Rattle.term_cells.specs.Standing.{parts_stand, stands}
use Rattle.cell_rules.proofs.Kept.{if_none, kept, short_more}
use Rattle.cell_rules.proofs.Linking.{below_all, get_later, linked, list_cell, no_parts, none_there, set_first, set_later}
use Rattle.cell_rules.proofs.children.+with_part.Goals as goal

pub returns-in_err-cell-clause-short : goal.returns-in_err-cell-clause-short
returns-in_err-cell-clause-short m c = λ limit ts u h f.
    let o = list_cell c.parts_open.ensures c.args.cells.now.0 ts c.args.list limit h in
    let e = o.1 in
    absurd (cc c.in_err-cell.ensures)

pub returns-then-not-is_link-clause-short : goal.returns-then-not-is_link-clause-short
returns-then-not-is_link-clause-short m c = λ limit ts u h f.
    absurd (none_there ts c.args.k u (no_parts c.parts_open.ensures c.args.cells.now.0 c.args.list limit c.in_ok-cell.cell (sym c.in_ok-cell.ensures) c.if-not-is_link.ensures ts h) f)

pub returns-in_err-rest-in-Some-clause-short : goal.returns-in_err-rest-in-Some-clause-short
returns-in_err-rest-in-Some-clause-short m c = λ limit ts u h f.
    let l = linked c.parts_open.ensures c.args.cells.now.0 c.args.list limit c.in_ok-cell.cell (sym c.in_ok-cell.ensures) c.if-not-is_link.ensures ts h in
    let after : c.args.k ≡ suc c.in-Some.later = omega (arith, c.in-Some.ensures) in
    if_none _ (short_more _ _ _ (c.in_err-rest-in-Some.ensures.short c.args.list l.rest u l.rest_stands (get_later ts l.first l.rest c.args.k c.in-Some.later u l.parts_are after f)) (omega (arith, after)))

pub returns-in-None-clause-standing : goal.returns-in-None-clause-standing
returns-in-None-clause-standing m c = λ limit ts u n h f g.
    let cells = c.args.cells.now.0 in
    let new = c.link.new.cells.0 in
    let l = linked c.parts_open.ensures cells c.args.list limit c.in_ok-cell.cell (sym c.in_ok-cell.ensures) c.if-not-is_link.ensures ts h in
    subst (λ us. IfSome c.link.result (λ at. parts_stand new (map (stands new) us) at (length new) ≡ true))
    (sym (set_first ts l.first l.rest c.args.k n l.parts_are (omega (arith, c.in-None.ensures))))
    (c.link.ensures.standing l.rest n g (below_all c.parts_open.ensures cells l.rest c.in_ok-cell.cell.b c.args.list l.rest_stands))

pub returns-in_ok-rest-in-Some-clause-standing : goal.returns-in_ok-rest-in-Some-clause-standing
returns-in_ok-rest-in-Some-clause-standing m c = λ limit ts u n h f g.
    let new = c.link-in-Some.new.cells.0 in
    let l = linked c.parts_open.ensures c.args.cells.now.0 c.args.list limit c.in_ok-cell.cell (sym c.in_ok-cell.ensures) c.if-not-is_link.ensures ts h in
    let after : c.args.k ≡ suc c.in-Some.later = omega (arith, c.in-Some.ensures) in
    let rest = c.in_ok-rest-in-Some.ensures.standing c.args.list l.rest u n l.rest_stands (get_later ts l.first l.rest c.args.k c.in-Some.later u l.parts_are after f) g in
    subst (λ us. IfSome c.link-in-Some.result (λ at. parts_stand new (map (stands new) us) at (length new) ≡ true))
    (sym (set_later ts l.first l.rest c.args.k c.in-Some.later n l.parts_are after))
    (c.link-in-Some.ensures.standing (set l.rest c.in-Some.later n) l.first (kept c.standing_lasts.ensures _ _ _ c.in_ok-rest-in-Some.ensures.grown l.first _ l.first_stands) rest)
