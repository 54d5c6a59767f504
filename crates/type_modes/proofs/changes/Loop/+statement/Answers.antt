use Rattle.std.proofs.Common.{◌∙◌, ◌<◌, ◌≤◌, List, ap, arith, length, map}
use Rattle.res_ast.specs.declared.statement.Stmt.{Stmt}
use Rattle.type_modes.specs.Calls.{declared}
use Rattle.type_modes.specs.Places.{Spot}
use Rattle.type_modes.specs.Statements.{Seen, changes_in, statement}
use Rattle.type_modes.specs.working.Found.{noted}
use Rattle.type_modes.specs.working.Seen.{seen_loop}
use Rattle.type_modes.proofs.Blocks.{assign_noted, if_noted, swap_noted, while_noted}
use Rattle.type_modes.proofs.Noting.{noted_ended, noted_next}
use Rattle.type_modes.proofs.changes.Loop.+statement.Goals as goal

pub note_stmt-returns-in-Swap : goal.note_stmt-returns-in-Swap
note_stmt-returns-in-Swap t c =
    let l = seen_loop c.args.self.now in
    let m = c.note_changed.new.least in
    let first = c.note_changed.ensures ∙ ap (λ (s : Spot). noted l c.args.least.now (declared l.body s)) c.of.ensures in
    let second = c.note_changed-in-Swap.ensures ∙ ap (λ (s : Spot). noted l m (declared l.body s)) c.of-in-Swap.ensures in
    swap_noted l c.args.least.now c.note_changed-in-Swap.new.least c.args.stmt.now c.in-Swap.field-0 m c.in-Swap.one c.in-Swap.other c.in-Swap.is first second

pub note_stmt-returns-in-Assign : goal.note_stmt-returns-in-Assign
note_stmt-returns-in-Assign t c =
    let l = seen_loop c.args.self.now in
    let m = c.note_changed-in-Assign.new.least in
    let first = c.note_changed-in-Assign.ensures ∙ ap (λ (s : Spot). noted l c.args.least.now (declared l.body s)) c.of-in-Assign.ensures in
    assign_noted l c.args.least.now c.note_expr.new.least c.args.stmt.now c.in-Assign.field-0 m c.in-Assign.place c.in-Assign.e c.in-Assign.is first c.note_expr.ensures

pub note_stmt-returns-in-If : goal.note_stmt-returns-in-If
note_stmt-returns-in-If t c =
    let l = seen_loop c.args.self.now in
    let m = c.note_expr-in-If.new.least in
    let n = c.note_stmts.new.least in
    let one = c.note_stmts.ensures ∙ ap (λ (xs : List Stmt). noted l m (changes_in (map (statement l.body) xs))) c.as_slice-in-If.ensures in
    let other = c.note_stmts-in-If.ensures ∙ ap (λ (xs : List Stmt). noted l n (changes_in (map (statement l.body) xs))) c.as_slice-in-If-2.ensures in
    if_noted l c.args.least.now c.note_stmts-in-If.new.least c.args.stmt.now c.in-If.field-0 m n c.in-If.guard c.in-If.first c.in-If.second c.in-If.is c.note_expr-in-If.ensures one other

pub note_stmt-returns-in-While : goal.note_stmt-returns-in-While
note_stmt-returns-in-While t c =
    let l = seen_loop c.args.self.now in
    let m = c.note_expr-in-While.new.least in
    let own = c.note_stmts-in-While.ensures ∙ ap (λ (xs : List Stmt). noted l m (changes_in (map (statement l.body) xs))) c.as_slice-in-While.ensures in
    while_noted l c.args.least.now c.note_stmts-in-While.new.least c.args.stmt.now c.in-While.field-0 m c.in-While.guard c.in-While.field-2 c.in-While.field-3 c.in-While.field-4 c.in-While.inner c.in-While.is c.note_expr-in-While.ensures own

pub note_stmts-loop-stmt-preserved : goal.note_stmts-loop-stmt-preserved
note_stmts-loop-stmt-preserved t c =
    let l = seen_loop c.args.self.now in
    let changed = λ (s : Seen). s.changes in
    let stmts = c.args.stmts.now in
    let below : c.loop-stmt.stmt-index < length stmts = omega (arith, c.loop-stmt-test.true) in
    noted_next l (statement l.body) changed c.loop-stmt.least c.note_stmt.new.least (noted l c.args.least.now (changes_in (map (statement l.body) stmts))) stmts c.loop-stmt.stmt-index c.stmt-item.result
    below c.stmt-item.is c.note_stmt.ensures c.loop-stmt.invariant

pub note_stmts-returns : goal.note_stmts-returns
note_stmts-returns t c =
    let l = seen_loop c.args.self.now in
    let changed = λ (s : Seen). s.changes in
    let stmts = c.args.stmts.now in
    let past : length stmts ≤ c.loop-stmt.stmt-index = omega (arith, c.loop-stmt-test.false) in
    noted_ended l (statement l.body) changed c.loop-stmt.least (noted l c.args.least.now (changes_in (map (statement l.body) stmts))) stmts c.loop-stmt.stmt-index past c.loop-stmt.invariant
