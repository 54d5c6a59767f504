use Rattle.std.proofs.Common.{◌≡◌, ap, ℕ, ◌+◌, ◌*◌, ◌<◌, [], ◌∷◌, map, arith}
use Rattle.std.specs.Prelude.{sum}
use Rattle.std.proofs.lemmas.List.{nil_from_length}
use Rattle.vc_sequents.specs.declared.sequent.VcKind.TheVariants as kinds
use Rattle.main_prover.specs.working.Remaining.{stmt_count}
use Rattle.main_vcs.specs.Terms.{negated}
use Rattle.main_vcs.specs.Walk.{stmt, conditions, after_read, with_hyps}
use Rattle.main_prover.specs.working.Making.{condition_at, expr_made, guard_made, left_over}
use Rattle.main_prover.specs.working.Points.{point_of, assigned, written}
use Rattle.main_prover.specs.working.Remaining.{readable, weights}
use Rattle.main_prover.proofs.Going.{memory_stops, memory_judges}
use Rattle.main_prover.proofs.Stepping.{lists_pop, now_same, sum_first, paths_judge, paths_stop, step_read, step_write, step_assign, step_if, weights_push, after_done, begins_stop, if_judges, empty_last, full_last}
use Rattle.main_prover.proofs.judge.Judge.+walk.Goals as goal

pub one_path-walk-requires : goal.one_path-walk-requires
one_path-walk-requires t c =
    let left = map (λ xs. xs.now) c.args.todo.now in
    let h : weights (map (λ xs. xs.now) c.in-Ok.lists.items) + 1 < t = omega (arith, c.decreases, ap weights c.in-Ok.ensures, weights_push left c.args.xs.now) in
    (h, tt)

pub one_path-returns-in-Err : goal.one_path-returns-in-Err
one_path-returns-in-Err t c = memory_stops c.args.m.now _ c.args.self.now

pub step-returns-in-Read : goal.step-returns-in-Read
step-returns-in-Read t c =
    let m = c.args.m.now in
    let go = left_over m (map (λ xs. xs.now) c.args.todo.items) in
    let p = point_of c.args.path in
    after_done m (conditions (stmt m.variables m.input c.args.x.now go p)) (condition_at kinds.Requires c.in-Read.at p (readable p) ∷ []) (λ q. conditions (go q)) (after_read m.variables m.input c.in-Read.k p) (point_of c.read-done.new.path) c.args.self.now c.read-done.new.self c.go_on.new.self c.read-done.result c.go_on.result
    (step_read m.variables m.input go p c.args.x.now c.in-Read.at c.in-Read.k c.in-Read.is) c.read-done.ensures c.go_on.ensures

pub step-returns-in-Write : goal.step-returns-in-Write
step-returns-in-Write t c =
    let m = c.args.m.now in
    let go = left_over m (map (λ xs. xs.now) c.args.todo.items) in
    let p = point_of c.args.path in
    let x = expr_made c.in-Write.e p in
    after_done m (conditions (stmt m.variables m.input c.args.x.now go p)) x.conditions (λ q. conditions (go q)) (written x.term x.point) (point_of c.write-done.new.path) c.args.self.now c.write-done.new.self c.go_on-in-Write.new.self c.write-done.result c.go_on-in-Write.result
    (step_write m.variables m.input go p c.args.x.now c.in-Write.e c.in-Write.is) c.write-done.ensures c.go_on-in-Write.ensures

pub step-returns-in-Assign : goal.step-returns-in-Assign
step-returns-in-Assign t c =
    let m = c.args.m.now in
    let go = left_over m (map (λ xs. xs.now) c.args.todo.items) in
    let p = point_of c.args.path in
    let x = expr_made c.in-Assign.e p in
    after_done m (conditions (stmt m.variables m.input c.args.x.now go p)) x.conditions (λ q. conditions (go q)) (assigned c.in-Assign.k x.term x.point) (point_of c.assign-done.new.path) c.args.self.now c.assign-done.new.self c.go_on-in-Assign.new.self c.assign-done.result c.go_on-in-Assign.result
    (step_assign m.variables m.input go p c.args.x.now c.in-Assign.k c.in-Assign.e c.in-Assign.is) c.assign-done.ensures c.go_on-in-Assign.ensures

pub step-returns-in-Ok : goal.step-returns-in-Ok
step-returns-in-Ok t c =
    let m = c.args.m.now in
    let left = map (λ xs. xs.now) c.args.todo.items in
    let go = left_over m left in
    let p = point_of c.args.path in
    let x = guard_made c.in-If.g p in
    let forked = c.in-Ok.ensures in
    if_judges m (conditions (stmt m.variables m.input c.args.x.now go p)) x.conditions left c.in-If.a c.in-If.b c.as_slice.result.now c.as_slice-in-Ok.result.now (with_hyps (x.term ∷ []) x.point) (point_of c.fork.new.path) (with_hyps (negated x.term ∷ []) x.point) (point_of c.in-Ok.other) c.args.self.now c.fork.new.self c.two_paths.new.self c.two_paths.result
    (step_if m.variables m.input go p c.args.x.now c.in-If.g c.in-If.a c.in-If.b c.in-If.is) c.as_slice.ensures c.as_slice-in-Ok.ensures forked.0 forked.1 forked.2 c.two_paths.ensures

pub step-returns-in-Err : goal.step-returns-in-Err
step-returns-in-Err t c =
    let m = c.args.m.now in
    let go = left_over m (map (λ xs. xs.now) c.args.todo.items) in
    let p = point_of c.args.path in
    begins_stop m (conditions (stmt m.variables m.input c.args.x.now go p)) (guard_made c.in-If.g p).conditions _ c.args.self.now c.in-Err.s
    (step_if m.variables m.input go p c.args.x.now c.in-If.g c.in-If.a c.in-If.b c.in-If.is) c.in-Err.ensures

pub two_paths-returns-in-Ok : goal.two_paths-returns-in-Ok
two_paths-returns-in-Ok t c =
    paths_judge c.args.m.now (map (λ xs. xs.now) c.args.todo.items) (map (λ xs. xs.now) c.as_slice.result.now) (map (λ xs. xs.now) c.as_slice-in-Ok.result.now) c.args.a.now c.args.b.now (point_of c.args.first) (point_of c.args.second) c.args.self.now c.one_path.new.self c.one_path-in-Ok.new.self c.one_path-in-Ok.result
    (now_same c.as_slice.result.now c.args.todo.items (c.as_slice.ensures).value) (now_same c.as_slice-in-Ok.result.now c.args.todo.items (c.as_slice-in-Ok.ensures).value) c.in-Ok.ensures c.one_path-in-Ok.ensures

pub two_paths-returns : goal.two_paths-returns
two_paths-returns t c =
    paths_stop c.args.m.now (map (λ xs. xs.now) c.args.todo.items) (map (λ xs. xs.now) c.as_slice.result.now) c.args.a.now c.args.b.now (point_of c.args.first) (point_of c.args.second) c.args.self.now c.in-Err.s
    (now_same c.as_slice.result.now c.args.todo.items (c.as_slice.ensures).value) c.in-Err.ensures

pub walk-walk-requires : goal.walk-walk-requires
walk-walk-requires t c =
    let left = map (λ xs. xs.now) c.pop.new.self.items in
    let e = lists_pop c.args.todo.items c.pop.new.self.items c.in-Some.xs (c.in-Some.ensures).items in
    let h : weights left + 1 < t = omega (arith, c.decreases, ap weights e, weights_push left c.in-Some.xs.now) in
    (h, tt)

pub walk-returns-in_err-put_list-in-Some-split_first : goal.walk-returns-in_err-put_list-in-Some-split_first
walk-returns-in_err-put_list-in-Some-split_first t c = memory_judges c.args.m.now _ c.args.self.now c.args.self.now c.from_residual.result (c.from_residual.ensures).1

pub walk-step-requires : goal.walk-step-requires
walk-step-requires t c =
    let left = map (λ xs. xs.now) c.pop.new.self.items in
    let x = c.in-Some-split_first.x.now in
    let rest = c.in-Some-split_first.rest.now in
    let e = lists_pop c.args.todo.items c.pop.new.self.items c.in-Some.xs (c.in-Some.ensures).items in
    let full = ap (λ ys. sum (map stmt_count ys)) (c.in-Some-split_first.ensures).cases.0 in
    let h : weights (map (λ xs. xs.now) c.put_list.new.lists.items) + 8 * stmt_count x < t =
    omega (arith, c.decreases, ap weights e, weights_push left c.in-Some.xs.now, ap weights c.in_ok-put_list-in-Some-split_first.ensures, weights_push left rest, full, sum_first x rest) in
    (h, tt)

pub walk-returns-in-None-split_first : goal.walk-returns-in-None-split_first
walk-returns-in-None-split_first t c =
    empty_last c.args.m.now (map (λ xs. xs.now) c.args.todo.items) (map (λ xs. xs.now) c.pop.new.self.items) c.in-Some.xs.now (point_of c.args.path) c.args.self.now c.walk.new.self c.walk.result
    (lists_pop c.args.todo.items c.pop.new.self.items c.in-Some.xs (c.in-Some.ensures).items) (nil_from_length c.in-Some.xs.now (c.in-None-split_first.ensures).cases) c.walk.ensures

pub walk-returns-in_ok-put_list-in-Some-split_first : goal.walk-returns-in_ok-put_list-in-Some-split_first
walk-returns-in_ok-put_list-in-Some-split_first t c =
    full_last c.args.m.now (map (λ xs. xs.now) c.args.todo.items) (map (λ xs. xs.now) c.pop.new.self.items) (map (λ xs. xs.now) c.put_list.new.lists.items) c.in-Some-split_first.x.now c.in-Some.xs.now c.in-Some-split_first.rest.now (point_of c.args.path) c.args.self.now c.step.new.self c.step.result
    (lists_pop c.args.todo.items c.pop.new.self.items c.in-Some.xs (c.in-Some.ensures).items) (c.in-Some-split_first.ensures).cases.0 c.in_ok-put_list-in-Some-split_first.ensures c.step.ensures
