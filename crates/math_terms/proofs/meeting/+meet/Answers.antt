use Rattle.std.proofs.Common.{◌∙◌, sym, ap, length, take, Some}
use Rattle.std.proofs.lemmas.List.{length_push}
use Rattle.std.proofs.lemmas.Slice.Zip.{zip_turn}
use Rattle.math_terms.proofs.Folds.{one_more}
use Rattle.math_terms.specs.Sorts.{meet, meet_all, tuple_option}
use Rattle.math_terms.proofs.Meets.{str_meets_any, tup_meets_any, tup_meets_tup, meet_all_apart, meet_all_push, meet_all_none}
use Rattle.math_terms.proofs.meeting.+meet.Goals as goal

pub meet-returns-in_ok-copy-in-Any-t : goal.meet-returns-in_ok-copy-in-Any-t
meet-returns-in_ok-copy-in-Any-t t c =
    ap (λ r. Some r) (c.in_ok-copy-in-Any-t.ensures ∙ c.in-Str.is)
    ∙ sym (str_meets_any c.in-Str.entry)
    ∙ (λ i. meet (sym c.in-Str.is i) (sym c.in-Any-t.is i))

pub meet-returns-in_ok-copy-in-Any-t-2 : goal.meet-returns-in_ok-copy-in-Any-t-2
meet-returns-in_ok-copy-in-Any-t-2 t c =
    ap (λ r. Some r) (c.in_ok-copy-in-Any-t-2.ensures ∙ c.in-Tup.is)
    ∙ sym (tup_meets_any c.in-Tup.parts)
    ∙ (λ i. meet (sym c.in-Tup.is i) (sym c.in-Any-t-2.is i))

pub meet-returns-in_ok-meet_all-in-Tup-t : goal.meet-returns-in_ok-meet_all-in-Tup-t
meet-returns-in_ok-meet_all-in-Tup-t t c =
    c.product_of.ensures
    ∙ ap tuple_option c.in_ok-meet_all-in-Tup-t.ensures
    ∙ (λ i. tuple_option (meet_all (c.as_slice.ensures i) (c.as_slice-in-Tup-t.ensures i)))
    ∙ sym (tup_meets_tup c.in-Tup.parts c.in-Tup-t.others)
    ∙ (λ i. meet (sym c.in-Tup.is i) (sym c.in-Tup-t.is i))

pub meet_all-returns-then-parts-others : goal.meet_all-returns-then-parts-others
meet_all-returns-then-parts-others t c = sym (meet_all_apart c.args.parts.now c.args.others.now c.if-parts-others.true)

pub meet_all-loop-s-preserved : goal.meet_all-loop-s-preserved
meet_all-loop-s-preserved t c =
    let parts = c.args.parts.now in
    let others = c.args.others.now in
    let n = length c.loop-s.yielded in
    let s = c.in-Some.s.now in
    let u = c.in-Some.t.now in
    let turn = zip_turn parts others c.loop-s.yielded c.into_iter-s-iterator.result c.loop-s.s-iterator c.next.new.self c.next.result (cc) (cc) c.loop-s.yielded_by (c.in-Some.s, c.in-Some.t) c.in-Some.is c.next.ensures.steps in
    let step = length_push c.loop-s.yielded (c.in-Some.s, c.in-Some.t) in
    (λ i. meet_all (take (step i) parts) (take (step i) others))
    ∙ (λ i. meet_all (one_more parts n s turn.0 (turn.2 s) i) (one_more others n u turn.1 (turn.3 u) i))
    ∙ meet_all_push (take n parts) (take n others) s u c.in-Some-2.met c.loop-s.out c.loop-s.invariant (sym c.in_ok-met.ensures ∙ c.in-Some-2.is)
    ∙ ap (λ xs. Some xs) (sym c.in_ok-push-in-Some-2.ensures.ok)

pub meet_all-returns-in-None-2 : goal.meet_all-returns-in-None-2
meet_all-returns-in-None-2 t c =
    let parts = c.args.parts.now in
    let others = c.args.others.now in
    let s = c.in-Some.s.now in
    let u = c.in-Some.t.now in
    let turn = zip_turn parts others c.loop-s.yielded c.into_iter-s-iterator.result c.loop-s.s-iterator c.next.new.self c.next.result (cc) (cc) c.loop-s.yielded_by (c.in-Some.s, c.in-Some.t) c.in-Some.is c.next.ensures.steps in
    sym (meet_all_none parts others (length c.loop-s.yielded) s u turn.0 turn.1 (turn.2 s) (turn.3 u) (sym c.in_ok-met.ensures ∙ c.in-None-2.is))
