use Rattle.std.proofs.Common.{◌∙◌, ap, sym}
use Rattle.main_vcs.specs.Terms.{both, either, negated}
use Rattle.main_vcs.specs.Walk.{compared}
use Rattle.main_form.specs.declared.module.Guard.TheVariants as gd
use Rattle.main_prover.specs.working.Points.{point_of}
use Rattle.main_prover.specs.working.Making.{expr_made, guard_made}
use Rattle.main_prover.proofs.Going.{stop_makes, begun_stops, one_term, two_terms}
use Rattle.main_prover.proofs.Parts.{made_compare, made_not, made_and, made_or, compare_begins, and_begins, or_begins}
use Rattle.main_prover.proofs.judge.Judge.+guard.Goals as goal

pub returns-in_err-a-in-Compare : goal.returns-in_err-a-in-Compare
returns-in_err-a-in-Compare t c =
    let p = point_of c.args.path.now in
    let a = c.in-Compare.a in
    let stop = c.in_err-a-in-Compare.field-0.0 in
    let begins = compare_begins p c.args.g.now c.in-Compare.c a c.in-Compare.b c.in-Compare.is in
    stop_makes c.args.m.now (guard_made c.args.g.now p) c.args.self.now c.expr.new.self (point_of c.expr.new.path) c.from_residual.result stop (c.from_residual.ensures).1
    (begun_stops c.args.m.now (guard_made c.args.g.now p) (expr_made a p).conditions begins.0 c.args.self.now stop begins.1 c.in_err-a-in-Compare.ensures)

pub returns-in_ok-a-in-Compare : goal.returns-in_ok-a-in-Compare
returns-in_ok-a-in-Compare t c =
    let p = point_of c.args.path.now in
    let q = point_of c.expr.new.path in
    let a = c.in-Compare.a in
    let b = c.in-Compare.b in
    let first = c.in_ok-a-in-Compare.ensures in
    two_terms c.args.m.now (compared c.in-Compare.c c.in_ok-a-in-Compare.a) (guard_made c.args.g.now p) (expr_made b q) (expr_made a p).conditions (point_of c.expr-b.new.path) c.args.self.now c.expr.new.self c.expr-b.new.self c.expr-b.result c.comparison.result
    (made_compare p c.args.g.now c.in-Compare.c a b c.in_ok-a-in-Compare.a q c.in-Compare.is first.0 first.1) first.2 c.expr-b.ensures c.comparison.ensures

pub returns-in-Not : goal.returns-in-Not
returns-in-Not t c =
    let p = point_of c.args.path.now in
    let g = c.get.result.now in
    one_term c.args.m.now negated (guard_made c.args.g.now p) (guard_made g p) (point_of c.guard-g.new.path) c.args.self.now c.guard-g.new.self c.guard-g.result c.negation.result
    (made_not p c.args.g.now g (c.in-Not.is ∙ ap gd.Not (sym c.get.ensures))) c.guard-g.ensures c.negation.ensures

pub returns-in_err-g-in-And : goal.returns-in_err-g-in-And
returns-in_err-g-in-And t c =
    let p = point_of c.args.path.now in
    let g = c.get-in-And.result.now in
    let stop = c.in_err-g-in-And.field-0.0 in
    let begins = and_begins p c.args.g.now g c.in-And.h (c.in-And.is ∙ ap (λ x. gd.And x c.in-And.h) (sym c.get-in-And.ensures)) in
    stop_makes c.args.m.now (guard_made c.args.g.now p) c.args.self.now c.guard.new.self (point_of c.guard.new.path) c.from_residual-in_err-g-in-And.result stop (c.from_residual-in_err-g-in-And.ensures).1
    (begun_stops c.args.m.now (guard_made c.args.g.now p) (guard_made g p).conditions begins.0 c.args.self.now stop begins.1 c.in_err-g-in-And.ensures)

pub returns-in_err-g-in-Or : goal.returns-in_err-g-in-Or
returns-in_err-g-in-Or t c =
    let p = point_of c.args.path.now in
    let g = c.get-in-Or.result.now in
    let stop = c.in_err-g-in-Or.field-0.0 in
    let begins = or_begins p c.args.g.now g c.in-Or.h (c.in-Or.is ∙ ap (λ x. gd.Or x c.in-Or.h) (sym c.get-in-Or.ensures)) in
    stop_makes c.args.m.now (guard_made c.args.g.now p) c.args.self.now c.guard-in-Or.new.self (point_of c.guard-in-Or.new.path) c.from_residual-in_err-g-in-Or.result stop (c.from_residual-in_err-g-in-Or.ensures).1
    (begun_stops c.args.m.now (guard_made c.args.g.now p) (guard_made g p).conditions begins.0 c.args.self.now stop begins.1 c.in_err-g-in-Or.ensures)

pub returns-in_ok-g-in-And : goal.returns-in_ok-g-in-And
returns-in_ok-g-in-And t c =
    let p = point_of c.args.path.now in
    let q = point_of c.guard.new.path in
    let g = c.get-in-And.result.now in
    let h = c.get-in-And-2.result.now in
    let first = c.in_ok-g-in-And.ensures in
    let is = c.in-And.is ∙ ap (λ x. gd.And x c.in-And.h) (sym c.get-in-And.ensures) ∙ ap (gd.And g) (sym c.get-in-And-2.ensures) in
    two_terms c.args.m.now (both c.in_ok-g-in-And.g) (guard_made c.args.g.now p) (guard_made h q) (guard_made g p).conditions (point_of c.guard-h.new.path) c.args.self.now c.guard.new.self c.guard-h.new.self c.guard-h.result c.conjunction.result
    (made_and p c.args.g.now g h c.in_ok-g-in-And.g q is first.0 first.1) first.2 c.guard-h.ensures c.conjunction.ensures

pub returns-in_ok-g-in-Or : goal.returns-in_ok-g-in-Or
returns-in_ok-g-in-Or t c =
    let p = point_of c.args.path.now in
    let q = point_of c.guard-in-Or.new.path in
    let g = c.get-in-Or.result.now in
    let h = c.get-in-Or-2.result.now in
    let first = c.in_ok-g-in-Or.ensures in
    let is = c.in-Or.is ∙ ap (λ x. gd.Or x c.in-Or.h) (sym c.get-in-Or.ensures) ∙ ap (gd.Or g) (sym c.get-in-Or-2.ensures) in
    two_terms c.args.m.now (either c.in_ok-g-in-Or.g) (guard_made c.args.g.now p) (guard_made h q) (guard_made g p).conditions (point_of c.guard-h-in-Or.new.path) c.args.self.now c.guard-in-Or.new.self c.guard-h-in-Or.new.self c.guard-h-in-Or.result c.disjunction.result
    (made_or p c.args.g.now g h c.in_ok-g-in-Or.g q is first.0 first.1) first.2 c.guard-h-in-Or.ensures c.disjunction.ensures
