use Rattle.std.proofs.Common.{◌≡◌, ◌∙◌, sym, subst, length, pos, [], ◌∷◌, Result, Ok, IfOk, arith}
use Rattle.math_terms.specs.declared.name.NoMemory.{NoMemory}
use Rattle.math_terms.specs.declared.term.Term.{Term}
use Rattle.res_ast.specs.declared.expression.Expr.{Expr}
use Rattle.math_terms.specs.declared.term.Term.TheVariants.{rolls-Num}
use Rattle.type_inst.specs.Assertions.{assertion, call, names_in}
use Rattle.type_inst.proofs.Calls.{call_of_others, call_of_three}
use Rattle.type_inst.proofs.assertion.+term.Goals as goal

pub call-returns-in_ok-i : goal.call-returns-in_ok-i
call-returns-in_ok-i t c =
    let f = assertion (names_in c.args.meanings.now c.args.types.now) in
    let is : Expr → Result Term NoMemory → Type 0 = λ e r. IfOk r (λ x. x ≡ f e) in
    let three : length c.args.args.now ≡ 3 = omega (arith, c.if-args-eq3.true) in
    let ends = subst (λ r. IfOk r (λ (p : Term × Term). (c.boxed_term-then-args-eq3.result ≡ Ok p.0) × (c.boxed_term-then-args-eq3-2.result ≡ Ok p.1))) c.in_ok-i.ensures.0 c.both-ends.ensures in
    let first = subst (is c.index-args-0-then-args-eq3.result) ends.0 c.boxed_term-then-args-eq3.ensures in
    let second = subst (is c.index-args-1.result) ends.1 c.boxed_term-then-args-eq3-2.ensures in
    let third = subst (is c.index-args-2.result) c.in_ok-i.ensures.1 c.boxed_term-then-args-eq3-3.ensures in
    c.between.ensures
    ∙ (λ k. call c.args.name.now (first k ∷ second k ∷ third k ∷ []))
    ∙ sym (call_of_three f c.args.name.now c.args.args.now c.index-args-0-then-args-eq3.result c.index-args-1.result c.index-args-2.result
    three c.index-args-0-then-args-eq3.is c.index-args-1.is c.index-args-2.is)

pub call-returns-else-args-eq3 : goal.call-returns-else-args-eq3
call-returns-else-args-eq3 t c =
    sym (rolls-Num (pos 0))
    ∙ sym (call_of_others (assertion (names_in c.args.meanings.now c.args.types.now)) c.args.name.now c.args.args.now
    (λ e. omega (arith, e, c.if-args-eq1.false)) (λ e. omega (arith, e, c.if-args-eq3.false)))
