use Rattle.std.proofs.Common.{◌∙◌, sym, ap, refl, arith, rules}
use Rattle.std.proofs.lemmas.Bool.{false≢true}
use Rattle.term_cells.proofs.Apart.{holds, fails}
use Rattle.term_cells.proofs.Comparing.{no, yes, first_differs, one_same, second_differs, two_same, three_same, heads_same, tuples, few, tuple_below, parts_inside, lists_differ, lists_end, parts_differ, rests_tell, rest_below}
use Rattle.term_cells.proofs.Openings.{not_there}
use Rattle.term_cells.proofs.Telling.{stands_tells}
use Rattle.term_cells.specs.Standing.{stands}
use Rattle.term_cells.proofs.cells.Cells.+same.Goals as goal

pub same-returns-then-p-q : goal.same-returns-then-p-q
same-returns-then-p-q m c = λ t u h k.
    let cells = c.args.self.now.0 in
    yes t u (stands_tells cells t u c.args.p h (ap (stands cells u) c.if-p-q.true ∙ k))

pub same-returns-in_default : goal.same-returns-in_default
same-returns-in_default m c = λ t u h k. absurd (not_there c.args.self.now.0 u c.args.q (search rules) k)

pub same-returns-in_default-2 : goal.same-returns-in_default-2
same-returns-in_default-2 m c = λ t u h k. absurd (not_there c.args.self.now.0 t c.args.p (search rules) h)

pub same-returns-then-not-same_head : goal.same-returns-then-not-same_head
same-returns-then-not-same_head m c = λ t u h k.
    no t u (λ e. false≢true (c.if-not-same_head.ensures.1 (heads_same c.args.self.now.0 t u c.args.p c.args.q c.in-Some-Some.c c.in-Some-Some.d
    (sym c.at.ensures ∙ c.in-Some-Some.is-0) (sym c.at-2.ensures ∙ c.in-Some-Some.is-1) h k e)))

pub same-returns-then-c-p : goal.same-returns-then-c-p
same-returns-then-c-p m c = λ t u h k.
    let heads = c.if-not-same_head.ensures.0 refl in
    tuples c.args.self.now.0 t u c.args.p c.args.q c.in-Some-Some.c c.in-Some-Some.d (sym c.at.ensures ∙ c.in-Some-Some.is-0) (sym c.at-2.ensures ∙ c.in-Some-Some.is-1) h k
    c.same_parts.result heads.0 heads.1 (holds c.in-Some-Some.c.form 16 c.if-is.ensures) c.same_parts.ensures

pub same-returns-else-c-p : goal.same-returns-else-c-p
same-returns-else-c-p m c = λ t u h k.
    let below = tuple_below c.args.self.now.0 t c.args.p c.in-Some-Some.c (sym c.at.ensures ∙ c.in-Some-Some.is-0) (holds c.in-Some-Some.c.form 16 c.if-is.ensures) h in
    absurd (omega arith)

pub same-returns : goal.same-returns
same-returns m c = λ t u h k.
    let heads = c.if-not-same_head.ensures.0 refl in
    few c.args.self.now.0 t u c.args.p c.args.q c.in-Some-Some.c c.in-Some-Some.d (sym c.at.ensures ∙ c.in-Some-Some.is-0) (sym c.at-2.ensures ∙ c.in-Some-Some.is-1) h k
    c.same_children.result heads.0 heads.1 (fails c.in-Some-Some.c.form 16 c.if-is.ensures) c.arity.result c.arity.ensures c.same_children.ensures

pub same_children-returns-then-not-same_below : goal.same_children-returns-then-not-same_below
same_children-returns-then-not-same_below m c = λ other ts us l k.
    first_differs c.args.self.now.0 c.args.c c.args.d c.args.place other c.if-not-same_below.ensures c.args.n c.if-n-eq0.false ts us l k

pub same_children-returns-then-n-eq1 : goal.same_children-returns-then-n-eq1
same_children-returns-then-n-eq1 m c = λ other ts us l k.
    one_same c.args.self.now.0 c.args.c c.args.d c.args.place other c.if-not-same_below.ensures c.args.n c.if-n-eq1.true ts us l k

pub same_children-returns-then-not-same_below-2 : goal.same_children-returns-then-not-same_below-2
same_children-returns-then-not-same_below-2 m c = λ other ts us l k.
    second_differs c.args.self.now.0 c.args.c c.args.d c.args.place other c.if-not-same_below-2.ensures c.args.n c.if-n-eq0.false c.if-n-eq1.false ts us l k

pub same_children-returns-then-n-eq2 : goal.same_children-returns-then-n-eq2
same_children-returns-then-n-eq2 m c = λ other ts us l k.
    two_same c.args.self.now.0 c.args.c c.args.d c.args.place other c.if-not-same_below.ensures c.if-not-same_below-2.ensures c.args.n c.if-n-eq2.true ts us l k

pub same_children-returns : goal.same_children-returns
same_children-returns m c = λ other ts us l k.
    three_same c.args.self.now.0 c.args.c c.args.d c.args.place other c.same_below-3.result c.if-not-same_below.ensures c.if-not-same_below-2.ensures c.same_below-3.ensures
    c.args.n c.if-n-eq0.false c.if-n-eq1.false c.if-n-eq2.false ts us l k

pub same_parts-returns-in_default : goal.same_parts-returns-in_default
same_parts-returns-in_default m c = λ k n ts us f g.
    let d = parts_inside c.args.self.now.0 us c.args.q n g in
    let e = d.1 in
    absurd cc

pub same_parts-returns-in_default-2 : goal.same_parts-returns-in_default-2
same_parts-returns-in_default-2 m c = λ k n ts us f g.
    let d = parts_inside c.args.self.now.0 ts c.args.p k f in
    let e = d.1 in
    absurd cc

pub same_parts-returns-then-c-d : goal.same_parts-returns-then-c-d
same_parts-returns-then-c-d m c = λ k n ts us.
    lists_differ c.args.self.now.0 c.args.p c.args.q k n c.in-Some-Some.c c.in-Some-Some.d (sym c.at.ensures ∙ c.in-Some-Some.is-0) (sym c.at-2.ensures ∙ c.in-Some-Some.is-1)
    c.if-c-d.true ts us

pub same_parts-returns-then-not-is_link : goal.same_parts-returns-then-not-is_link
same_parts-returns-then-not-is_link m c = λ k n ts us.
    lists_end c.args.self.now.0 c.args.p c.args.q k n c.in-Some-Some.c c.in-Some-Some.d (sym c.at.ensures ∙ c.in-Some-Some.is-0) (sym c.at-2.ensures ∙ c.in-Some-Some.is-1)
    c.if-c-d.false (fails c.in-Some-Some.c.form 27 c.if-not-is_link.ensures) ts us

pub same_parts-returns-then-not-same_below : goal.same_parts-returns-then-not-same_below
same_parts-returns-then-not-same_below m c = λ k n ts us.
    parts_differ c.args.self.now.0 c.args.p c.args.q k n c.in-Some-Some.c c.in-Some-Some.d (sym c.at.ensures ∙ c.in-Some-Some.is-0) (sym c.at-2.ensures ∙ c.in-Some-Some.is-1)
    c.if-c-d.false (holds c.in-Some-Some.c.form 27 c.if-not-is_link.ensures) c.if-not-same_below.ensures ts us

pub same_parts-returns-then-c-p : goal.same_parts-returns-then-c-p
same_parts-returns-then-c-p m c = λ k n ts us.
    rests_tell c.args.self.now.0 c.args.p c.args.q k n c.in-Some-Some.c c.in-Some-Some.d (sym c.at.ensures ∙ c.in-Some-Some.is-0) (sym c.at-2.ensures ∙ c.in-Some-Some.is-1)
    c.same_parts.result c.if-c-d.false (holds c.in-Some-Some.c.form 27 c.if-not-is_link.ensures) c.if-not-same_below.ensures c.same_parts.ensures ts us

pub same_parts-returns-else-c-p : goal.same_parts-returns-else-c-p
same_parts-returns-else-c-p m c = λ k n ts us f g.
    let below = rest_below c.args.self.now.0 c.args.p c.args.q k n c.in-Some-Some.c c.in-Some-Some.d (sym c.at.ensures ∙ c.in-Some-Some.is-0) (sym c.at-2.ensures ∙ c.in-Some-Some.is-1)
    (holds c.in-Some-Some.c.form 27 c.if-not-is_link.ensures) ts f in
    absurd (omega arith)
