use Rattle.std.proofs.Common.{◌≡◌, ◌∙◌, ap, refl, sym, pos, Ok, rules}
use Rattle.std.specs.Prelude.{slice_index_or}
use Rattle.main_vcs.specs.Terms.{num, sub, add, len, bounds}
use Rattle.main_vcs.specs.Walk.{with_hyps}
use Rattle.main_form.specs.declared.module.Expr.TheVariants as ex
use Rattle.main_prover.specs.working.Points.{point_of}
use Rattle.main_prover.specs.working.Making.{expr_made}
use Rattle.main_prover.proofs.Going.{stop_makes, begun_stops, still_leaf_makes, leaf_makes, one_sum, two_sum}
use Rattle.main_prover.proofs.Parts.{made_number, made_variable, made_remaining, made_minus, made_add, made_sub, add_begins, sub_begins}
use Rattle.main_prover.proofs.judge.Judge.+expression.Goals as goal

pub returns-in_err-a-in-Add : goal.returns-in_err-a-in-Add
returns-in_err-a-in-Add t c =
    let p = point_of c.args.path.now in
    let a = c.get-in-Add.result.now in
    let stop = c.in_err-a-in-Add.field-0.0 in
    let begins = add_begins p c.args.e.now a c.in-Add.b c.in-Add.at (c.in-Add.is ∙ ap (λ x. ex.Add c.in-Add.at x c.in-Add.b) (sym c.get-in-Add.ensures)) in
    stop_makes c.args.m.now (expr_made c.args.e.now p) c.args.self.now c.expr.new.self (point_of c.expr.new.path) c.from_residual.result stop (c.from_residual.ensures).1
    (begun_stops c.args.m.now (expr_made c.args.e.now p) (expr_made a p).conditions begins.0 c.args.self.now stop begins.1 c.in_err-a-in-Add.ensures)

pub returns-in_err-a-in-Sub : goal.returns-in_err-a-in-Sub
returns-in_err-a-in-Sub t c =
    let p = point_of c.args.path.now in
    let a = c.get-in-Sub.result.now in
    let stop = c.in_err-a-in-Sub.field-0.0 in
    let begins = sub_begins p c.args.e.now a c.in-Sub.b c.in-Sub.at (c.in-Sub.is ∙ ap (λ x. ex.Sub c.in-Sub.at x c.in-Sub.b) (sym c.get-in-Sub.ensures)) in
    stop_makes c.args.m.now (expr_made c.args.e.now p) c.args.self.now c.expr-in-Sub.new.self (point_of c.expr-in-Sub.new.path) c.from_residual-in_err-a-in-Sub.result stop (c.from_residual-in_err-a-in-Sub.ensures).1
    (begun_stops c.args.m.now (expr_made c.args.e.now p) (expr_made a p).conditions begins.0 c.args.self.now stop begins.1 c.in_err-a-in-Sub.ensures)

pub returns-in-Number : goal.returns-in-Number
returns-in-Number t c =
    let p = point_of c.args.path.now in
    let n = c.in-Number.n in
    let is : c.number.result ≡ num n = search rules in
    still_leaf_makes c.args.m.now (expr_made c.args.e.now p) (num n) p c.args.self.now (Ok c.number.result) (Ok c.number.result)
    (made_number p c.args.e.now n c.in-Number.is) is refl

pub returns-in-Variable : goal.returns-in-Variable
returns-in-Variable t c =
    let p = point_of c.args.path.now in
    still_leaf_makes c.args.m.now (expr_made c.args.e.now p) (slice_index_or p.terms c.in-Variable.k (num (pos 0))) p c.args.self.now c.term.result c.or_stop.result
    (made_variable p c.args.e.now c.in-Variable.k c.in-Variable.is) c.term.ensures c.or_stop.ensures

pub returns-in-Remaining : goal.returns-in-Remaining
returns-in-Remaining t c =
    let p = point_of c.args.path.now in
    leaf_makes c.args.m.now (expr_made c.args.e.now p) (len p.input) (point_of c.remaining.new.path) (with_hyps (bounds (len p.input)) p) c.args.self.now c.remaining.result c.or_stop-in-Remaining.result
    (made_remaining p c.args.e.now c.in-Remaining.is) c.remaining.ensures c.or_stop-in-Remaining.ensures

pub returns-in-Minus : goal.returns-in-Minus
returns-in-Minus t c =
    let p = point_of c.args.path.now in
    let a = c.get.result.now in
    one_sum c.args.m.now (sub (num (pos 0))) (expr_made c.args.e.now p) (expr_made a p) c.in-Minus.at (point_of c.expr-a.new.path) c.args.self.now c.expr-a.new.self c.negative.new.self c.expr-a.result c.negative.result
    (made_minus p c.args.e.now a c.in-Minus.at (c.in-Minus.is ∙ ap (ex.Minus c.in-Minus.at) (sym c.get.ensures))) c.expr-a.ensures c.negative.ensures

pub returns-in_ok-a-in-Add : goal.returns-in_ok-a-in-Add
returns-in_ok-a-in-Add t c =
    let p = point_of c.args.path.now in
    let q = point_of c.expr.new.path in
    let a = c.get-in-Add.result.now in
    let b = c.get-in-Add-2.result.now in
    let h = c.in_ok-a-in-Add.ensures in
    let is = c.in-Add.is ∙ ap (λ x. ex.Add c.in-Add.at x c.in-Add.b) (sym c.get-in-Add.ensures) ∙ ap (ex.Add c.in-Add.at a) (sym c.get-in-Add-2.ensures) in
    two_sum c.args.m.now (add c.in_ok-a-in-Add.a) (expr_made c.args.e.now p) (expr_made b q) (expr_made a p).conditions c.in-Add.at (point_of c.expr-b.new.path) c.args.self.now c.expr.new.self c.expr-b.new.self c.sum.new.self c.expr-b.result c.sum.result
    (made_add p c.args.e.now a b c.in-Add.at c.in_ok-a-in-Add.a q is h.0 h.1) h.2 c.expr-b.ensures c.sum.ensures

pub returns-in_ok-a-in-Sub : goal.returns-in_ok-a-in-Sub
returns-in_ok-a-in-Sub t c =
    let p = point_of c.args.path.now in
    let q = point_of c.expr-in-Sub.new.path in
    let a = c.get-in-Sub.result.now in
    let b = c.get-in-Sub-2.result.now in
    let h = c.in_ok-a-in-Sub.ensures in
    let is = c.in-Sub.is ∙ ap (λ x. ex.Sub c.in-Sub.at x c.in-Sub.b) (sym c.get-in-Sub.ensures) ∙ ap (ex.Sub c.in-Sub.at a) (sym c.get-in-Sub-2.ensures) in
    two_sum c.args.m.now (sub c.in_ok-a-in-Sub.a) (expr_made c.args.e.now p) (expr_made b q) (expr_made a p).conditions c.in-Sub.at (point_of c.expr-b-in-Sub.new.path) c.args.self.now c.expr-in-Sub.new.self c.expr-b-in-Sub.new.self c.difference.new.self c.expr-b-in-Sub.result c.difference.result
    (made_sub p c.args.e.now a b c.in-Sub.at c.in_ok-a-in-Sub.a q is h.0 h.1) h.2 c.expr-b-in-Sub.ensures c.difference.ensures
