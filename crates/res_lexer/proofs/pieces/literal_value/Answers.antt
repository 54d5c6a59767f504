use Rattle.std.proofs.Common.{◌+◌, arith}
use Rattle.std.proofs.lemmas.Str.Parse.{digits_value-take-le}
use Rattle.res_lexer.proofs.Digits.{literal_more}
use Rattle.res_lexer.proofs.pieces.literal_value.Goals as goal

pub returns-then-value-gt-GREATEST_LITERAL : goal.returns-then-value-gt-GREATEST_LITERAL
returns-then-value-gt-GREATEST_LITERAL c =
    omega (
      arith,
      literal_more c.args.digits.now c.loop-digit.digit-index c.requires c.loop-digit-test.true,
      digits_value-take-le 10 c.args.digits.now (c.loop-digit.digit-index + 1) (omega arith),
    )

pub loop-digit-preserved : goal.loop-digit-preserved
loop-digit-preserved c = record {
  small = c.if-value-gt-GREATEST_LITERAL.false;
  value = omega (arith, literal_more c.args.digits.now c.loop-digit.digit-index c.requires c.loop-digit-test.true);
}
