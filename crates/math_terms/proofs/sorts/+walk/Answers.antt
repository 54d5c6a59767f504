use Rattle.std.proofs.Common.{◌∙◌, ◌+◌, sym, ap, subst, [], ◌∷◌, List, take, map, sum, sum_by, Some, arith}
use Rattle.std.proofs.lemmas.List.{take_all}
use Rattle.std.proofs.lemmas.List.Sums.{sum-map, sum_by_more_le}
use Rattle.std.proofs.lemmas.Result.{err_from_is_err_and}
use Rattle.math_terms.specs.declared.descriptor.Sort.TheVariants.{Tup, rolls-Tup}
use Rattle.math_terms.specs.declared.term.Term.{Term}
use Rattle.math_terms.specs.declared.term.Term.TheOpen.{Term-F}
use Rattle.math_terms.specs.Sorts.{Sorting, all_sorts, orders, sort_step, sorting, tuple_option}
use Rattle.math_terms.specs.Terms.{nodes}
use Rattle.math_terms.specs.Views.{binary_node, unary_node}
use Rattle.math_terms.specs.working.Walking.{IsWalk}
use Rattle.math_terms.proofs.Folds.{one_more}
use Rattle.math_terms.proofs.Heads.{nodes_at_tuple}
use Rattle.math_terms.proofs.Walks.{IsPast, IsWalk-err, IsWalkOfAll-err, at_head, at_head_one, clash_first, list_clash, long_of_one, long_of_three, long_of_two, node_answer, orders_long, over, over_clash, over_one, over_two, past_first, past_next, past_none, past_push, sorts_push}
use Rattle.math_terms.proofs.sorts.+walk.Goals as goal

pub walk-returns-in_err-a-in-One : goal.walk-returns-in_err-a-in-One
walk-returns-in_err-a-in-One t c =
    let start = c.args.start in
    let vars = c.args.vars.now in
    let a = c.in-One.a.now in
    let p = sorting vars a in
    let r = c.from_residual-in_err-a-in-One.result in
    at_head_one vars start c.in-One.op a c.args.t.now r c.in-One.ensures
    (subst (λ (k : Sorting). IsWalk start (1 + nodes a) k r) (over_one vars c.in-One.op p)
    (over_clash start start (1 + nodes a) [] [] p (sort_step vars (unary_node c.in-One.op p.0)) c.in_err-a-in-One.field-0.0 r
    (past_none start) c.in_err-a-in-One.ensures (err_from_is_err_and r c.from_residual-in_err-a-in-One.ensures.1)))

pub walk-returns-in_ok-sort_of_one-in-One : goal.walk-returns-in_ok-sort_of_one-in-One
walk-returns-in_ok-sort_of_one-in-One t c =
    let start = c.args.start in
    let vars = c.args.vars.now in
    let a = c.in-One.a.now in
    let p = sorting vars a in
    let found = c.in_ok-a-in-One.a in
    let r = c.at_node-in-One.result in
    at_head_one vars start c.in-One.op a c.args.t.now r c.in-One.ensures
    (subst (λ (k : Sorting). IsWalk start (1 + nodes a) k r) (over_one vars c.in-One.op p)
    (node_answer start found.next (1 + nodes a) (p ∷ []) (sort_step vars (unary_node c.in-One.op p.0)) c.in_ok-sort_of_one-in-One.field-0 r
    (past_first vars start a found c.in_ok-a-in-One.ensures) (long_of_one vars a)
    (c.in_ok-sort_of_one-in-One.ensures vars ∙ ap (λ o. sort_step vars (unary_node c.in-One.op o)) (sym c.in_ok-a-in-One.ensures.0)) c.at_node-in-One.ensures))

pub walk-returns-in_err-a-in-Proj : goal.walk-returns-in_err-a-in-Proj
walk-returns-in_err-a-in-Proj t c =
    let start = c.args.start in
    let vars = c.args.vars.now in
    let a = c.in-Proj.a.now in
    let p = sorting vars a in
    let r = c.from_residual-in_err-a-in-Proj.result in
    at_head vars start (Term-F.Proj c.in-Proj.k a) c.args.t.now r c.in-Proj.ensures
    (over_clash start start (1 + nodes a) [] [] p (sort_step vars (Term-F.Proj c.in-Proj.k p.0)) c.in_err-a-in-Proj.field-0.0 r
    (past_none start) c.in_err-a-in-Proj.ensures (err_from_is_err_and r c.from_residual-in_err-a-in-Proj.ensures.1))

pub walk-returns-in_ok-a-in-Proj : goal.walk-returns-in_ok-a-in-Proj
walk-returns-in_ok-a-in-Proj t c =
    let start = c.args.start in
    let vars = c.args.vars.now in
    let a = c.in-Proj.a.now in
    let p = sorting vars a in
    let found = c.in_ok-a-in-Proj.a in
    let r = c.at_node-in-Proj.result in
    at_head vars start (Term-F.Proj c.in-Proj.k a) c.args.t.now r c.in-Proj.ensures
    (node_answer start found.next (1 + nodes a) (p ∷ []) (sort_step vars (Term-F.Proj c.in-Proj.k p.0)) c.sort_of_projection.result r
    (past_first vars start a found c.in_ok-a-in-Proj.ensures) (long_of_one vars a)
    (c.sort_of_projection.ensures vars ∙ ap (λ o. sort_step vars (Term-F.Proj c.in-Proj.k o)) (sym c.in_ok-a-in-Proj.ensures.0)) c.at_node-in-Proj.ensures)

pub walk-returns-in_err-a-in-Initial : goal.walk-returns-in_err-a-in-Initial
walk-returns-in_err-a-in-Initial t c =
    let start = c.args.start in
    let vars = c.args.vars.now in
    let a = c.in-Initial.a.now in
    let p = sorting vars a in
    let r = c.from_residual-in_err-a-in-Initial.result in
    at_head vars start (Term-F.Initial c.in-Initial.k a) c.args.t.now r c.in-Initial.ensures
    (over_clash start start (1 + nodes a) [] [] p (sort_step vars (Term-F.Initial c.in-Initial.k p.0)) c.in_err-a-in-Initial.field-0.0 r
    (past_none start) c.in_err-a-in-Initial.ensures (err_from_is_err_and r c.from_residual-in_err-a-in-Initial.ensures.1))

pub walk-returns-in_ok-sort_of_initial-in-Initial : goal.walk-returns-in_ok-sort_of_initial-in-Initial
walk-returns-in_ok-sort_of_initial-in-Initial t c =
    let start = c.args.start in
    let vars = c.args.vars.now in
    let a = c.in-Initial.a.now in
    let p = sorting vars a in
    let found = c.in_ok-a-in-Initial.a in
    let r = c.at_node-in-Initial.result in
    at_head vars start (Term-F.Initial c.in-Initial.k a) c.args.t.now r c.in-Initial.ensures
    (node_answer start found.next (1 + nodes a) (p ∷ []) (sort_step vars (Term-F.Initial c.in-Initial.k p.0)) c.in_ok-sort_of_initial-in-Initial.field-0 r
    (past_first vars start a found c.in_ok-a-in-Initial.ensures) (long_of_one vars a)
    (c.in_ok-sort_of_initial-in-Initial.ensures vars ∙ ap (λ o. sort_step vars (Term-F.Initial c.in-Initial.k o)) (sym c.in_ok-a-in-Initial.ensures.0)) c.at_node-in-Initial.ensures)

pub walk-returns-in_err-parts-in-Tuple : goal.walk-returns-in_err-parts-in-Tuple
walk-returns-in_err-parts-in-Tuple t c =
    let start = c.args.start in
    let vars = c.args.vars.now in
    let parts = c.in-Tuple.parts.now in
    let ps = map (sorting vars) parts in
    let s = sort_step vars (Term-F.Tuple (map (λ (p : Sorting). p.0) ps)) in
    let r = c.from_residual-in_err-parts-in-Tuple.result in
    let e = c.in_err-parts-in-Tuple.field-0.0 in
    at_head vars start (Term-F.Tuple parts) c.args.t.now r c.in-Tuple.ensures
    (IsWalk-err start (1 + sum (map nodes parts)) (over s ps) r e (err_from_is_err_and r c.from_residual-in_err-parts-in-Tuple.ensures.1)
    (clash_first start (orders ps) (s ∷ []) e c.in_err-parts-in-Tuple.ensures))

pub walk-at_node-requires-in-Tuple : goal.walk-at_node-requires-in-Tuple
walk-at_node-requires-in-Tuple t c =
    omega (arith, nodes_at_tuple c.in-Tuple.parts.now c.args.t.now c.in-Tuple.ensures, c.in_ok-parts-in-Tuple.ensures.2)

pub walk-returns-in_ok-parts-in-Tuple : goal.walk-returns-in_ok-parts-in-Tuple
walk-returns-in_ok-parts-in-Tuple t c =
    let start = c.args.start in
    let vars = c.args.vars.now in
    let parts = c.in-Tuple.parts.now in
    let ps = map (sorting vars) parts in
    let found = c.in_ok-parts-in-Tuple.parts in
    let r = c.at_node-in-Tuple.result in
    let long = orders_long vars parts in
    let past : IsPast start ps found.next = record {
      sorted = c.in_ok-parts-in-Tuple.ensures.1;
      reached = omega (arith, c.in_ok-parts-in-Tuple.ensures.2);
    } in
    at_head vars start (Term-F.Tuple parts) c.args.t.now r c.in-Tuple.ensures
    (node_answer start found.next (1 + sum (map nodes parts)) ps (sort_step vars (Term-F.Tuple (map (λ (p : Sorting). p.0) ps))) (Some (Tup found.sorts)) r
    past (omega (arith, sum-map nodes parts))
    (ap (λ s. Some s) (sym (rolls-Tup found.sorts)) ∙ ap tuple_option (sym c.in_ok-parts-in-Tuple.ensures.0)) c.at_node-in-Tuple.ensures)

pub walk_two-returns-in_err-a : goal.walk_two-returns-in_err-a
walk_two-returns-in_err-a t c =
    let start = c.args.start in
    let vars = c.args.vars.now in
    let n = 1 + nodes c.args.a.now + nodes c.args.b.now in
    let p = sorting vars c.args.a.now in
    let q = sorting vars c.args.b.now in
    let r = c.from_residual.result in
    subst (λ (k : Sorting). IsWalk start n k r) (over_two vars c.args.op p q)
    (over_clash start start n [] (q ∷ []) p (sort_step vars (binary_node c.args.op p.0 q.0)) c.in_err-a.field-0.0 r
    (past_none start) c.in_err-a.ensures (err_from_is_err_and r c.from_residual.ensures.1))

pub walk_two-returns-in_err-b : goal.walk_two-returns-in_err-b
walk_two-returns-in_err-b t c =
    let start = c.args.start in
    let vars = c.args.vars.now in
    let n = 1 + nodes c.args.a.now + nodes c.args.b.now in
    let p = sorting vars c.args.a.now in
    let q = sorting vars c.args.b.now in
    let r = c.from_residual-in_err-b.result in
    subst (λ (k : Sorting). IsWalk start n k r) (over_two vars c.args.op p q)
    (over_clash start c.in_ok-a.a.next n (p ∷ []) [] q (sort_step vars (binary_node c.args.op p.0 q.0)) c.in_err-b.field-0.0 r
    (past_first vars start c.args.a.now c.in_ok-a.a c.in_ok-a.ensures) c.in_err-b.ensures (err_from_is_err_and r c.from_residual-in_err-b.ensures.1))

pub walk_two-returns : goal.walk_two-returns
walk_two-returns t c =
    let start = c.args.start in
    let vars = c.args.vars.now in
    let n = 1 + nodes c.args.a.now + nodes c.args.b.now in
    let p = sorting vars c.args.a.now in
    let q = sorting vars c.args.b.now in
    let r = c.at_node.result in
    let past = past_next vars start c.in_ok-a.a.next (p ∷ []) c.args.b.now c.in_ok-b.b (past_first vars start c.args.a.now c.in_ok-a.a c.in_ok-a.ensures) c.in_ok-b.ensures in
    subst (λ (k : Sorting). IsWalk start n k r) (over_two vars c.args.op p q)
    (node_answer start c.in_ok-b.b.next n (p ∷ q ∷ []) (sort_step vars (binary_node c.args.op p.0 q.0)) c.in_ok-sort_of_two.field-0 r
    past (long_of_two vars c.args.a.now c.args.b.now)
    (c.in_ok-sort_of_two.ensures vars ∙ (λ i. sort_step vars (binary_node c.args.op (sym c.in_ok-a.ensures.0 i) (sym c.in_ok-b.ensures.0 i)))) c.at_node.ensures)

pub walk_part-returns-in_err-i : goal.walk_part-returns-in_err-i
walk_part-returns-in_err-i t c =
    let start = c.args.start in
    let vars = c.args.vars.now in
    let p = sorting vars c.args.i.now in
    let q = sorting vars c.args.j.now in
    let s = sorting vars c.args.a.now in
    let r = c.from_residual.result in
    over_clash start start (1 + nodes c.args.i.now + nodes c.args.j.now + nodes c.args.a.now) [] (q ∷ s ∷ []) p (sort_step vars (Term-F.Part p.0 q.0 s.0)) c.in_err-i.field-0.0 r
    (past_none start) c.in_err-i.ensures (err_from_is_err_and r c.from_residual.ensures.1)

pub walk_part-returns-in_err-j : goal.walk_part-returns-in_err-j
walk_part-returns-in_err-j t c =
    let start = c.args.start in
    let vars = c.args.vars.now in
    let p = sorting vars c.args.i.now in
    let q = sorting vars c.args.j.now in
    let s = sorting vars c.args.a.now in
    let r = c.from_residual-in_err-j.result in
    over_clash start c.in_ok-i.i.next (1 + nodes c.args.i.now + nodes c.args.j.now + nodes c.args.a.now) (p ∷ []) (s ∷ []) q (sort_step vars (Term-F.Part p.0 q.0 s.0)) c.in_err-j.field-0.0 r
    (past_first vars start c.args.i.now c.in_ok-i.i c.in_ok-i.ensures) c.in_err-j.ensures (err_from_is_err_and r c.from_residual-in_err-j.ensures.1)

pub walk_part-returns-in_err-a : goal.walk_part-returns-in_err-a
walk_part-returns-in_err-a t c =
    let start = c.args.start in
    let vars = c.args.vars.now in
    let p = sorting vars c.args.i.now in
    let q = sorting vars c.args.j.now in
    let s = sorting vars c.args.a.now in
    let r = c.from_residual-in_err-a.result in
    let past = past_next vars start c.in_ok-i.i.next (p ∷ []) c.args.j.now c.in_ok-j.j (past_first vars start c.args.i.now c.in_ok-i.i c.in_ok-i.ensures) c.in_ok-j.ensures in
    over_clash start c.in_ok-j.j.next (1 + nodes c.args.i.now + nodes c.args.j.now + nodes c.args.a.now) (p ∷ q ∷ []) [] s (sort_step vars (Term-F.Part p.0 q.0 s.0)) c.in_err-a.field-0.0 r
    past c.in_err-a.ensures (err_from_is_err_and r c.from_residual-in_err-a.ensures.1)

pub walk_part-returns : goal.walk_part-returns
walk_part-returns t c =
    let start = c.args.start in
    let vars = c.args.vars.now in
    let p = sorting vars c.args.i.now in
    let q = sorting vars c.args.j.now in
    let s = sorting vars c.args.a.now in
    let two_past = past_next vars start c.in_ok-i.i.next (p ∷ []) c.args.j.now c.in_ok-j.j (past_first vars start c.args.i.now c.in_ok-i.i c.in_ok-i.ensures) c.in_ok-j.ensures in
    let past = past_next vars start c.in_ok-j.j.next (p ∷ q ∷ []) c.args.a.now c.in_ok-a.a two_past c.in_ok-a.ensures in
    node_answer start c.in_ok-a.a.next (1 + nodes c.args.i.now + nodes c.args.j.now + nodes c.args.a.now) (p ∷ q ∷ s ∷ []) (sort_step vars (Term-F.Part p.0 q.0 s.0)) c.sort_of_part.result c.at_node.result
    past (long_of_three vars c.args.i.now c.args.j.now c.args.a.now)
    (c.sort_of_part.ensures vars ∙ (λ d. sort_step vars (Term-F.Part (sym c.in_ok-i.ensures.0 d) (sym c.in_ok-j.ensures.0 d) (sym c.in_ok-a.ensures.0 d)))) c.at_node.ensures

pub walk_all-walk-requires : goal.walk_all-walk-requires
walk_all-walk-requires t c =
    let parts = c.args.parts.now in
    let i = c.loop-t.t-index in
    let item = c.t-item.result in
    let within = sum_by_more_le nodes parts i item c.loop-t-test.true in
    let here = ap nodes c.t-item.is in
    (omega arith, omega (arith, c.loop-t.invariant.past.reached, orders_long c.args.vars.now (take i parts)))

pub walk_all-returns-in_err-found : goal.walk_all-returns-in_err-found
walk_all-returns-in_err-found t c =
    let vars = c.args.vars.now in
    let parts = c.args.parts.now in
    let r = c.from_residual.result in
    let e = c.in_err-found.field-0.0 in
    IsWalkOfAll-err c.args.start (sum_by nodes parts) (map (sorting vars) parts) r e (err_from_is_err_and r c.from_residual.ensures.1)
    (list_clash vars c.args.start c.loop-t.next c.loop-t.t-index parts c.t-item.result e c.loop-t-test.true c.t-item.is c.loop-t.invariant.past c.in_err-found.ensures)

pub walk_all-loop-t-preserved : goal.walk_all-loop-t-preserved
walk_all-loop-t-preserved t c =
    let vars = c.args.vars.now in
    let parts = c.args.parts.now in
    let i = c.loop-t.t-index in
    let item = c.t-item.result in
    let more = one_more parts i item c.loop-t-test.true c.t-item.is in
    record {
      found =
          ap (λ (ts : List Term). all_sorts (map (λ (p : Sorting). p.0) (map (sorting vars) ts))) more
          ∙ sorts_push vars (take i parts) item c.in_ok-found.found.sort c.loop-t.sorts c.loop-t.invariant.found c.in_ok-found.ensures.0
          ∙ ap (λ ss. Some ss) (sym c.in_ok-push.ensures.ok);
      past =
          subst (λ (ts : List Term). IsPast c.args.start (map (sorting vars) ts) c.in_ok-found.found.next) (sym more)
          (past_push vars c.args.start c.loop-t.next (take i parts) item c.in_ok-found.found c.loop-t.invariant.past c.in_ok-found.ensures);
    }

pub walk_all-returns : goal.walk_all-returns
walk_all-returns t c =
    let vars = c.args.vars.now in
    let parts = c.args.parts.now in
    let whole = take_all c.loop-t.t-index parts c.loop-t-test.false in
    let past = subst (λ (ts : List Term). IsPast c.args.start (map (sorting vars) ts) c.loop-t.next) whole c.loop-t.invariant.past in (
      ap (λ (ts : List Term). all_sorts (map (λ (p : Sorting). p.0) (map (sorting vars) ts))) (sym whole) ∙ c.loop-t.invariant.found,
      past.sorted,
      omega (arith, past.reached, orders_long vars parts),
    )
