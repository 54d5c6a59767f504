use Rattle.std.proofs.Common.{sym}
use Rattle.term_rewriting.proofs.Listed.{if_ok, linked, nothing_put, put_then}
use Rattle.term_rewriting.proofs.taking.+take.Goals as goal

pub take_onto-returns-then-not-is_link : goal.take_onto-returns-then-not-is_link
take_onto-returns-then-not-is_link t c = λ ts h.
    nothing_put c.parts_open.ensures c.args.cells.now.0 c.args.list c.args.limit c.in-Some.cell (sym c.in-Some.ensures) c.if-not-is_link.ensures c.args.out.now ts h

pub take_onto-returns : goal.take_onto-returns
take_onto-returns t c = λ ts h.
    let l = linked c.parts_open.ensures c.args.cells.now.0 c.args.list c.args.limit c.in-Some.cell (sym c.in-Some.ensures) c.if-not-is_link.ensures ts h in
    if_ok c.take_onto.result (λ n. put_then _ _ _ _ _ _ _ c.in_ok-push.ensures.ok (c.in_ok-take_below.ensures l.first l.first_below) l.parts_are n) (c.take_onto.ensures l.rest l.rest_stands)
