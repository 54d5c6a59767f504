use Rattle.std.proofs.Common.{◌≡◌, ◌∙◌, ◌+◌, ◌≤◌, sym, ap, Some, length, drop, length-drop, length-take-le, arith}
use Rattle.std.proofs.lemmas.List.{take_rest}
use Rattle.res_lexer.specs.Pieces.{before_closing}
use Rattle.res_lexer.proofs.Symbols.{closing_within}
use Rattle.res_lexer.proofs.pieces.bracket_comment.Goals as goal

-- the comment ends inside the text
within : (c : goal.In-Some) → 2 + c.in-Some.inside + 2 ≤ length c.args.rest.now
within c =
    let closes : before_closing (drop 2 c.args.rest.now) ≡ Some c.in-Some.inside = ap before_closing (sym (take_rest c.args.rest.now 2)) ∙ sym c.in-Some.ensures in
    omega (arith, closing_within (drop 2 c.args.rest.now) c.in-Some.inside closes, length-drop 2 c.args.rest.now, c.requires.some)

pub overflow_add-inside : goal.overflow_add-inside
overflow_add-inside c = omega (arith, within c, c.requires.fits)

pub overflow_add-inside-in-Some : goal.overflow_add-inside-in-Some
overflow_add-inside-in-Some c = omega (arith, within c, c.requires.fits)

pub slice_bounds-comment-end : goal.slice_bounds-comment-end
slice_bounds-comment-end c = sym (length-take-le (2 + c.in-Some.inside + 2) c.args.rest.now (within c))
