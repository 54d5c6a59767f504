use Rattle.std.proofs.Common.{◌≡◌, ◌∙◌, ◌<◌, ◌+◌, ℕ, List, sym, subst, ap, is_ok, take, ◌-◌, drop, length, [], ◌∷◌, ◌++◌, rules, arith}
use Rattle.std.proofs.lemmas.Bool.{cond-true}
use Rattle.std.proofs.lemmas.List.{take_rest}
use Rattle.res_lexer.specs.declared.pieces.Piece.{Piece}
use Rattle.res_lexer.specs.declared.pieces.Piece.TheVariants as found
use Rattle.res_lexer.specs.Pieces.{piece_at}
use Rattle.res_lexer.specs.Tokens.{RefusesOrNoMemory}
use Rattle.res_lexer.specs.working.Found.{IsBreach, IsPiece}
use Rattle.res_lexer.proofs.Readings.{HasRead, has_read_none, has_read_gap, has_read_token, refused}
use Rattle.res_lexer.proofs.lexer.read.Goals as goal

pub loop-at-init : goal.loop-at-init
loop-at-init c =
    subst (λ ts. HasRead c.args.bytes.now ts 0) (sym c.new-tokens.ensures.items) (has_read_none c.args.bytes.now)

pub returns-in_err-len-clause-refused : goal.returns-in_err-len-clause-refused
returns-in_err-len-clause-refused c =
    let e = c.in_err-len.field-0.0 in
    let breach : IsBreach e (piece_at c.loop-at.at (drop c.loop-at.at c.args.bytes.now)) = subst (λ l. IsBreach e (piece_at c.loop-at.at l)) (take_rest c.args.bytes.now c.loop-at.at) c.in_err-len.ensures in
    let refuses : RefusesOrNoMemory c.args.bytes.now e = refused c.args.bytes.now c.loop-at.tokens.items c.loop-at.at e c.loop-at.invariant c.loop-at-test.true breach in
    search (rules, refuses)

-- the piece that a call found, in the text that is left
there : (bytes : List ℕ) (at : ℕ) (f p : Piece) → f ≡ p → IsPiece at f (piece_at at (take (length bytes - at) (drop at bytes))) → IsPiece at p (piece_at at (drop at bytes))
there bytes at f p is h =
    subst (λ l. IsPiece at p (piece_at at l)) (take_rest bytes at) (subst (λ q. IsPiece at q (piece_at at (take (length bytes - at) (drop at bytes)))) is h)

-- a blank or a comment is read
gap_read : (c : goal.In-Gap) → (c.loop-at.at < c.loop-at.at + c.in-Gap.len) × HasRead c.args.bytes.now c.loop-at.tokens.items (c.loop-at.at + c.in-Gap.len)
gap_read c =
    has_read_gap c.identifier_laws.ensures.stands c.args.bytes.now c.loop-at.tokens.items c.loop-at.at c.in-Gap.len c.loop-at.invariant c.loop-at-test.true
    (there c.args.bytes.now c.loop-at.at c.in_ok-len.field-0 (found.Gap c.in-Gap.len) c.in-Gap.is c.in_ok-len.ensures)

pub overflow_add-at : goal.overflow_add-at
overflow_add-at c = omega (arith, (gap_read c).1.within)

pub loop-at-smaller-in-Gap : goal.loop-at-smaller-in-Gap
loop-at-smaller-in-Gap c = omega (arith, (gap_read c).0, (gap_read c).1.within)

pub loop-at-preserved-in-Gap : goal.loop-at-preserved-in-Gap
loop-at-preserved-in-Gap c = (gap_read c).1

-- a token is read
token_read : (c : goal.In_ok-map_err-in-Token) → (c.loop-at.at < c.loop-at.at + c.in-Token.token.len) × HasRead c.args.bytes.now (c.loop-at.tokens.items ++ c.in-Token.token ∷ []) (c.loop-at.at + c.in-Token.token.len)
token_read c =
    let is = there c.args.bytes.now c.loop-at.at c.in_ok-len.field-0 (found.Token c.in-Token.token) c.in-Token.is c.in_ok-len.ensures in
    has_read_token c.identifier_laws.ensures.stands c.args.bytes.now c.loop-at.tokens.items c.loop-at.at c.in-Token.token c.loop-at.invariant c.loop-at-test.true is.0 is.1

pub loop-at-smaller : goal.loop-at-smaller
loop-at-smaller c = omega (arith, (token_read c).0, (token_read c).1.within)

pub loop-at-preserved : goal.loop-at-preserved
loop-at-preserved c =
    let stored = sym c.map_err.ensures.variant ∙ ap is_ok c.in_ok-map_err-in-Token.was in
    let pushed = c.push.ensures.items ∙ cond-true _ _ _ stored in
    subst (λ ts. HasRead c.args.bytes.now ts (c.loop-at.at + c.in-Token.token.len)) (sym pushed) (token_read c).1
