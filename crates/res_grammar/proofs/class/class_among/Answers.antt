use Rattle.std.proofs.Common.{ℕ, List, [], Bor, arith, sym, ◌∙◌, refl}
use Rattle.res_grammar.proofs.Classed.{found, later, through}
use Rattle.res_grammar.proofs.class.class_among.Goals as goal

abbrev nothing : Bor (List ℕ)
nothing = record { ref_ptr = (0, 0); now = [] }

pub loop-reserved-init : goal.loop-reserved-init
loop-reserved-init c = (refl, refl)

pub returns-then-same_word : goal.returns-then-same_word
returns-then-same_word c =
    sym (c.loop-reserved.invariant.1 ∙ found (λ w. w.now) c.args.words.now c.loop-reserved.reserved-index nothing c.loop-reserved.class c.args.word.now c.loop-reserved-test.true (sym c.same_word.ensures ∙ c.if-same_word.true))

pub overflow_add-class : goal.overflow_add-class
overflow_add-class c = let e = c.loop-reserved.invariant.0 in omega (arith, e, c.requires, c.loop-reserved-test.true)

pub loop-reserved-preserved : goal.loop-reserved-preserved
loop-reserved-preserved c =
    let e = c.loop-reserved.invariant.0 in (
      omega (arith, e),
      c.loop-reserved.invariant.1 ∙ later (λ w. w.now) c.args.words.now c.loop-reserved.reserved-index nothing c.loop-reserved.class c.args.word.now c.loop-reserved-test.true (sym c.same_word.ensures ∙ c.if-same_word.false),
    )

pub returns : goal.returns
returns c =
    sym (c.loop-reserved.invariant.1 ∙ through (λ w. w.now) c.args.words.now c.loop-reserved.reserved-index c.loop-reserved.class c.args.word.now c.loop-reserved-test.false)
