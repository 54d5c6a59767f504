use Rattle.std.proofs.Common.{◌≡◌, ◌∙◌, ◌+◌, ◌-◌, sym, ap, drop, refl, arith}
use Rattle.res_lexer.specs.Pieces.{symbol_among, symbols}
use Rattle.res_lexer.proofs.Symbols.{left_from, symbol_here, symbol_later, symbol_start}
use Rattle.res_lexer.proofs.pieces.symbol.Goals as goal

pub loop-number-init : goal.loop-number-init
loop-number-init c = symbol_start c.args.at c.args.rest.now

pub returns-then-starts_with : goal.returns-then-starts_with
returns-then-starts_with c =
    let left = left_from symbols (c.loop-number.number - 1) c.symbol_text-text.result.now c.symbol_text-text.ensures in (
      refl,
      c.loop-number.invariant ∙ ap (λ table. symbol_among c.loop-number.number table c.args.at c.args.rest.now) left
          ∙ symbol_here c.args.at c.loop-number.number c.args.rest.now c.symbol_text-text.result.now _ (sym c.starts_with.ensures.value ∙ c.if-starts_with.true),
    )

pub loop-number-preserved : goal.loop-number-preserved
loop-number-preserved c =
    let left = left_from symbols (c.loop-number.number - 1) c.symbol_text-text.result.now c.symbol_text-text.ensures in
    let place : (c.loop-number.number - 1) + 1 ≡ (c.loop-number.number + 1) - 1 = omega arith in
    c.loop-number.invariant ∙ ap (λ table. symbol_among c.loop-number.number table c.args.at c.args.rest.now) left
    ∙ symbol_later c.args.at c.loop-number.number c.args.rest.now c.symbol_text-text.result.now _ (sym c.starts_with.ensures.value ∙ c.if-starts_with.false)
    ∙ ap (λ i. symbol_among (c.loop-number.number + 1) (drop i symbols) c.args.at c.args.rest.now) place
