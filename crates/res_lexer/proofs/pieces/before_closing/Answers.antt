use Rattle.std.proofs.Common.{◌∙◌, sym, ap, codes, arith}
use Rattle.std.proofs.lemmas.List.{take_rest}
use Rattle.res_lexer.specs.Pieces.{before_closing, begins}
use Rattle.res_lexer.proofs.Symbols.{closing_here, closing_later, closing_none, from_front}
use Rattle.res_lexer.proofs.pieces.before_closing.Goals as goal

pub loop-start-init : goal.loop-start-init
loop-start-init c = sym (from_front (before_closing c.args.bytes.now))

pub returns-then-starts_with : goal.returns-then-starts_with
returns-then-starts_with c =
    sym (closing_here c.args.bytes.now c.loop-start.start (omega arith) c.loop-start.invariant
    (ap (begins (codes "*)")) (sym (take_rest c.args.bytes.now c.loop-start.start)) ∙ sym c.starts_with.ensures.value ∙ c.if-starts_with.true))

pub loop-start-preserved : goal.loop-start-preserved
loop-start-preserved c =
    closing_later c.args.bytes.now c.loop-start.start (omega arith) c.loop-start.invariant
    (ap (begins (codes "*)")) (sym (take_rest c.args.bytes.now c.loop-start.start)) ∙ sym c.starts_with.ensures.value ∙ c.if-starts_with.false)

pub returns : goal.returns
returns c = sym (closing_none c.args.bytes.now c.loop-start.start (omega arith) c.loop-start.invariant)
