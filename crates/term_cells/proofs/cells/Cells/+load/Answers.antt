use Rattle.std.proofs.Common.{◌+◌, ◌*◌, ◌≡◌, ◌==◌, ◌∙◌, ap, refl, pos, subst, sym, false, IfNone, sum_by, [], w64, arith, rules}
use Rattle.std.proofs.lemmas.Int.{to_z-of_z}
use Rattle.math_terms.specs.Forms.{form_number}
use Rattle.math_terms.specs.Terms.{nodes}
use Rattle.term_cells.specs.declared.cell.Cell.{Cell}
use Rattle.term_cells.specs.working.Listed.{listed}
use Rattle.term_cells.specs.Growing.{Grows, IsShort, PartsLoad}
use Rattle.term_cells.proofs.Building.{two_pushed, pushes_as, pushes_node}
use Rattle.term_cells.proofs.FormNumbers.{no_remainder}
use Rattle.term_cells.proofs.Forms.{nodes_by_list}
use Rattle.term_cells.proofs.Loading.{grows_both, grows_push, stands_grown, end_grown, no_parts, first_of, rest_of, sum_first, link_loads, as_loads, three_loads, tuple_loads, remainder_loads}
use Rattle.term_cells.proofs.cells.Cells.+load.Goals as goal

pub load_node-returns-in-None-clause-grown : goal.load_node-returns-in-None-clause-grown
load_node-returns-in-None-clause-grown t c =
    let count = nodes_by_list c.args.t.now [] (ap listed (sym c.in-None.is) ∙ c.head_of-head.ensures.children) in
    let same : 2 ≡ 2 * nodes c.args.t.now = omega (arith, count) in
    subst (λ n. Grows c.args.self.now c.leaf.new.self n) same (grows_push _ _ _ _ c.leaf.ensures.pushed)

pub load_node-returns-in-Parts-clause-grown : goal.load_node-returns-in-Parts-clause-grown
load_node-returns-in-Parts-clause-grown t c =
    let count = nodes_by_list c.args.t.now c.in-Parts.parts.now (ap listed (sym c.in-Parts.is) ∙ c.head_of-head.ensures.children) in
    let same : 2 + 2 * sum_by nodes c.in-Parts.parts.now ≡ 2 * nodes c.args.t.now = omega arith in
    subst (λ n. Grows c.args.self.now c.load_tuple.new.self n) same c.load_tuple.ensures.grown

pub load_node-returns-in-Parts-clause-short : goal.load_node-returns-in-Parts-clause-short
load_node-returns-in-Parts-clause-short t c =
    let count = nodes_by_list c.args.t.now c.in-Parts.parts.now (ap listed (sym c.in-Parts.is) ∙ c.head_of-head.ensures.children) in
    let same : 2 + 2 * sum_by nodes c.in-Parts.parts.now ≡ 2 * nodes c.args.t.now = omega arith in
    subst (λ n. IfNone c.load_tuple.result (IsShort c.args.self.now n)) same c.load_tuple.ensures.short

pub load_parts-returns-in_default-clause-parts : goal.load_parts-returns-in_default-clause-parts
load_parts-returns-in_default-clause-parts t c = λ h. no_parts c.args.self.now.0 c.args.end h c.args.parts.now c.in_default.len_below

pub load_parts-returns-clause-parts : goal.load_parts-returns-clause-parts
load_parts-returns-clause-parts t c = λ h.
    let first = c.first-item.result in
    let rest = rest_of c.args.parts.now in
    let others = c.load_parts.new.self in
    let last = end_grown c.args.self.now others (1 + 2 * sum_by nodes rest) c.in_ok-b.ensures.grown c.args.end h in
    let all = link_loads others c.load_node.new.self c.push.new.self (2 * nodes first) c.in_ok-a.ensures.grown
    (record { form = 27; own = pos 0; a = c.in_ok-a.a; b = c.in_ok-b.b; c = 0 }) c.push.result refl (pushes_as _ _ _ _ _ c.link.ensures c.push.ensures) first rest
    (c.in_ok-b.ensures.parts h) (c.in_ok-a.ensures.standing last) in
    subst (λ ts. PartsLoad c.push.new.self.0 ts c.push.result) (sym (first_of c.args.parts.now first c.in-len1-up.len_at_least c.first-item.is)) all

pub load_parts-returns-clause-grown : goal.load_parts-returns-clause-grown
load_parts-returns-clause-grown t c =
    let first = c.first-item.result in
    let rest = rest_of c.args.parts.now in
    let sum = sum_first c.args.parts.now first c.in-len1-up.len_at_least c.first-item.is in
    let both = grows_both c.args.self.now c.load_parts.new.self c.load_node.new.self (1 + 2 * sum_by nodes rest) (2 * nodes first) (2 * sum_by nodes rest + 2 * nodes first) (omega arith)
    c.in_ok-b.ensures.grown c.in_ok-a.ensures.grown in
    grows_both c.args.self.now c.load_node.new.self c.push.new.self (2 * sum_by nodes rest + 2 * nodes first) 2 (1 + 2 * sum_by nodes c.args.parts.now) (omega (arith, sum))
    both (grows_push _ _ _ _ c.push.ensures)

pub load_three-returns-clause-node : goal.load_three-returns-clause-node
load_three-returns-clause-node t c = λ h.
    let a = c.args.a.now in
    let b = c.args.b.now in
    let one = c.load_node.new.self in
    let two = c.load_node-2.new.self in
    let three = c.load_node-3.new.self in
    let end_one = end_grown c.args.self.now one (2 * nodes a) c.in_ok-p.ensures.grown c.args.end h in
    let end_two = end_grown one two (2 * nodes b) c.in_ok-q.ensures.grown c.args.end end_one in
    let p = stands_grown two three (2 * nodes c.args.c.now) c.in_ok-r.ensures.grown a c.in_ok-p.p (stands_grown one two (2 * nodes b) c.in_ok-q.ensures.grown a c.in_ok-p.p (c.in_ok-p.ensures.standing h)) in
    let q = stands_grown two three (2 * nodes c.args.c.now) c.in_ok-r.ensures.grown b c.in_ok-q.q (c.in_ok-q.ensures.standing end_one) in
    three_loads three c.push.new.self (record { form = form_number c.args.form; own = c.args.own; a = c.in_ok-p.p; b = c.in_ok-q.q; c = c.in_ok-r.r }) c.push.result (pushes_node _ _ _ _ _ _ _ _ _ _ c.node.ensures (to_z-of_z w64 c.args.own (search rules)) c.push.ensures)
    a b c.args.c.now p q (c.in_ok-r.ensures.standing end_two)

pub load_three-returns-clause-grown : goal.load_three-returns-clause-grown
load_three-returns-clause-grown t c =
    let a = 2 * nodes c.args.a.now in
    let b = 2 * nodes c.args.b.now in
    let d = 2 * nodes c.args.c.now in
    let two = grows_both c.args.self.now c.load_node.new.self c.load_node-2.new.self a b (a + b) (omega arith) c.in_ok-p.ensures.grown c.in_ok-q.ensures.grown in
    let three = grows_both c.args.self.now c.load_node-2.new.self c.load_node-3.new.self (a + b) d (a + b + d) (omega arith) two c.in_ok-r.ensures.grown in
    grows_both c.args.self.now c.load_node-3.new.self c.push.new.self (a + b + d) 2 (2 + a + b + d) (omega arith) three (grows_push _ _ _ _ c.push.ensures)

pub load_tuple-returns-clause-node : goal.load_tuple-returns-clause-node
load_tuple-returns-clause-node t c = λ h.
    tuple_loads c.load_parts.new.self c.push.new.self (record { form = form_number c.args.form; own = c.args.own; a = c.in_ok-list.list; b = 0; c = 0 }) c.push.result (pushes_node _ _ _ _ _ _ _ _ _ _ c.node.ensures (to_z-of_z w64 c.args.own (search rules)) c.push.ensures)
    c.args.parts.now (c.in_ok-list.ensures.parts h)

pub load_two-returns-in-Mod-clause-node : goal.load_two-returns-in-Mod-clause-node
load_two-returns-in-Mod-clause-node t c = λ h.
    let a = c.args.a.now in
    let b = c.args.b.now in
    let one = c.load_node.new.self in
    let two = c.load_node-2.new.self in
    let end_one = end_grown c.args.self.now one (2 * nodes a) c.in_ok-p.ensures.grown c.args.end h in
    let p = stands_grown one two (2 * nodes b) c.in_ok-q.ensures.grown a c.in_ok-p.p (c.in_ok-p.ensures.standing h) in
    remainder_loads c.remainder.new.self (form_number c.args.form) c.args.own a b c.remainder.result (ap form_number c.in-Mod.is) (c.remainder.ensures.node a b p (c.in_ok-q.ensures.standing end_one))

pub load_two-returns-in_default-clause-node : goal.load_two-returns-in_default-clause-node
load_two-returns-in_default-clause-node t c = λ h.
    let a = c.args.a.now in
    let b = c.args.b.now in
    let one = c.load_node.new.self in
    let two = c.load_node-2.new.self in
    let end_one = end_grown c.args.self.now one (2 * nodes a) c.in_ok-p.ensures.grown c.args.end h in
    let p = stands_grown one two (2 * nodes b) c.in_ok-q.ensures.grown a c.in_ok-p.p (c.in_ok-p.ensures.standing h) in
    let cell : Cell = record { form = form_number c.args.form; own = c.args.own; a = c.in_ok-p.p; b = c.in_ok-q.q; c = 0 } in
    let other : (form_number c.args.form == 9) ≡ false = no_remainder c.args.form c.in_default.not-Mod in
    as_loads c.push.new.self.0 (form_number c.args.form) c.args.own _ c.push.result other
    (two_pushed two c.push.new.self cell c.push.result (pushes_node _ _ _ _ _ _ _ _ _ _ c.node.ensures (to_z-of_z w64 c.args.own (search rules)) c.push.ensures) a b p (c.in_ok-q.ensures.standing end_one))

pub load_two-returns-in_default-clause-grown : goal.load_two-returns-in_default-clause-grown
load_two-returns-in_default-clause-grown t c =
    let a = 2 * nodes c.args.a.now in
    let b = 2 * nodes c.args.b.now in
    let two = grows_both c.args.self.now c.load_node.new.self c.load_node-2.new.self a b (a + b) (omega arith) c.in_ok-p.ensures.grown c.in_ok-q.ensures.grown in
    grows_both c.args.self.now c.load_node-2.new.self c.push.new.self (a + b) 2 (2 + a + b) (omega arith) two (grows_push _ _ _ _ c.push.ensures)
