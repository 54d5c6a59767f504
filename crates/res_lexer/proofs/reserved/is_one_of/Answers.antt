use Rattle.std.proofs.Common.{arith, sym, ◌∙◌}
use Rattle.res_lexer.specs.Pieces.{same_bytes}
use Rattle.res_lexer.proofs.Lists.{any_here, any_later, any_none, same_is}
use Rattle.res_lexer.proofs.reserved.is_one_of.Goals as goal

pub returns-then-equal : goal.returns-then-equal
returns-then-equal c =
    sym (any_here (λ w. same_bytes c.args.name.now w.now) c.args.words.now c.loop-word.word-index _ (omega arith) c.loop-word.invariant (sym (same_is _ _ _ c.equal.ensures) ∙ c.if-equal.true))

pub loop-word-preserved : goal.loop-word-preserved
loop-word-preserved c =
    any_later (λ w. same_bytes c.args.name.now w.now) c.args.words.now c.loop-word.word-index _ (omega arith) c.loop-word.invariant (sym (same_is _ _ _ c.equal.ensures) ∙ c.if-equal.false)

pub returns : goal.returns
returns c = sym (any_none (λ w. same_bytes c.args.name.now w.now) c.args.words.now c.loop-word.word-index c.loop-word.invariant (omega arith))
