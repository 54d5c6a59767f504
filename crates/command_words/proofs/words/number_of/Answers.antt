use Rattle.std.proofs.Common.{arith}
use Rattle.command_words.proofs.Digits.{steps-more}
use Rattle.command_words.proofs.words.number_of.Goals as goal

-- src/words.rt:472:18
pub overflow_mul-number : goal.overflow_mul-number
overflow_mul-number c =
    let more = steps-more c.args.digits.now c.loop-digit.digit-index c.requires c.loop-digit-test.true in
    let is = c.loop-digit.invariant in
    omega (arith, more.0, more.1, is)

-- src/words.rt:472:18
pub overflow_add-number : goal.overflow_add-number
overflow_add-number c =
    let more = steps-more c.args.digits.now c.loop-digit.digit-index c.requires c.loop-digit-test.true in
    let is = c.loop-digit.invariant in
    omega (arith, more.0, more.1, is)

-- src/words.rt:471:5
pub loop-digit-preserved : goal.loop-digit-preserved
loop-digit-preserved c =
    let more = steps-more c.args.digits.now c.loop-digit.digit-index c.requires c.loop-digit-test.true in
    let is = c.loop-digit.invariant in
    omega (arith, more.0, is)
