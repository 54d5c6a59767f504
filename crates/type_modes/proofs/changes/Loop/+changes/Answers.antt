use Rattle.std.proofs.Common.{◌∙◌, ◌<◌, ◌≤◌, ap, arith, length, map}
use Rattle.std.specs.List.{flat_map}
use Rattle.std.specs.Option.{option_map}
use Rattle.res_ast.specs.declared.expression.Expr.{Expr}
use Rattle.type_modes.specs.Calls.{Look, changes}
use Rattle.type_modes.specs.Expressions.{look}
use Rattle.type_modes.specs.working.Found.{noted, params_of}
use Rattle.type_modes.specs.working.Seen.{seen_callee, seen_loop, seen_param}
use Rattle.type_modes.proofs.Noting.{binary_noted, each_ended, each_next, noted_ended, noted_next, quiet_noted}
use Rattle.type_modes.proofs.changes.Loop.+changes.Goals as goal

pub note_each-loop-k-preserved : goal.note_each-loop-k-preserved
note_each-loop-k-preserved t c =
    let l = seen_loop c.args.self.now in
    let params = params_of (option_map seen_callee c.args.callee) in
    let args = c.args.args.now in
    let o = c.args.least.now in
    let below : c.loop-k.k < length args = omega (arith, c.loop-k-test.true) in
    each_next l (look l.body) c.loop-k.least c.note_expr.new.least c.note_moved.new.least (noted l o (changes l.body params (map (look l.body) args))) params args c.loop-k.k c.index-args-k.result (option_map seen_param c.param_of-wanted.result)
    below c.index-args-k.is c.param_of-wanted.ensures c.note_expr.ensures c.note_moved.ensures c.loop-k.invariant

pub note_each-returns : goal.note_each-returns
note_each-returns t c =
    let l = seen_loop c.args.self.now in
    let params = params_of (option_map seen_callee c.args.callee) in
    let args = c.args.args.now in
    let past : length args ≤ c.loop-k.k = omega (arith, c.loop-k-test.false) in
    each_ended l (look l.body) c.loop-k.least (noted l c.args.least.now (changes l.body params (map (look l.body) args))) params args c.loop-k.k past c.loop-k.invariant

pub note_expr-returns-in-Binary : goal.note_expr-returns-in-Binary
note_expr-returns-in-Binary t c =
    let l = seen_loop c.args.self.now in
    let m = c.note_expr-in-Binary.new.least in
    let first = c.note_expr-in-Binary.ensures ∙ ap (λ (a : Expr). noted l c.args.least.now (look l.body a).changes) c.get-in-Binary.ensures in
    let second = c.note_expr-in-Binary-2.ensures ∙ ap (λ (a : Expr). noted l m (look l.body a).changes) c.get-in-Binary-2.ensures in
    binary_noted l c.args.least.now c.note_expr-in-Binary-2.new.least c.args.e.now m c.in-Binary.field-0 c.in-Binary.a c.in-Binary.b c.in-Binary.is first second

pub note_expr-returns-in_default : goal.note_expr-returns-in_default
note_expr-returns-in_default t c =
    let k = c.in_default in
    quiet_noted (seen_loop c.args.self.now) c.args.least.now c.args.e.now k.not-Call k.not-Initial k.not-Not k.not-Minus k.not-Binary k.not-Single k.not-Bars k.not-Tuple

pub note_exprs-loop-part-preserved : goal.note_exprs-loop-part-preserved
note_exprs-loop-part-preserved t c =
    let l = seen_loop c.args.self.now in
    let changed = λ (a : Look). a.changes in
    let parts = c.args.parts.now in
    let below : c.loop-part.part-index < length parts = omega (arith, c.loop-part-test.true) in
    noted_next l (look l.body) changed c.loop-part.least c.note_expr.new.least (noted l c.args.least.now (flat_map changed (map (look l.body) parts))) parts c.loop-part.part-index c.part-item.result
    below c.part-item.is c.note_expr.ensures c.loop-part.invariant

pub note_exprs-returns : goal.note_exprs-returns
note_exprs-returns t c =
    let l = seen_loop c.args.self.now in
    let changed = λ (a : Look). a.changes in
    let parts = c.args.parts.now in
    let past : length parts ≤ c.loop-part.part-index = omega (arith, c.loop-part-test.false) in
    noted_ended l (look l.body) changed c.loop-part.least (noted l c.args.least.now (flat_map changed (map (look l.body) parts))) parts c.loop-part.part-index past c.loop-part.invariant
