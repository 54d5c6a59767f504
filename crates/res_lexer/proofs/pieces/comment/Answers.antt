use Rattle.std.proofs.Common.{ap, if◌then◌else◌, length, ◌+◌}
use Rattle.std.proofs.lemmas.Bool.{eq-eqb}
use Rattle.std.proofs.lemmas.Str.{utf8_valid_len-IsUtf8}
use Rattle.std.specs.Str.Lossy.{utf8_valid_len}
use Rattle.res_lexer.specs.declared.token.LexError.TheVariants.{BadByte}
use Rattle.res_lexer.specs.Pieces as spec
use Rattle.res_lexer.proofs.pieces.comment.Goals as goal

pub returns-in-Ok : goal.returns-in-Ok
returns-in-Ok c =
    let text = c.args.text.now in
    let all = eq-eqb (utf8_valid_len text) (length text) (utf8_valid_len-IsUtf8 text c.in-Ok.ensures.cases.1) in
    ap (λ b. if b then spec.Gap (length text) else spec.Breach (BadByte (c.args.at + utf8_valid_len text))) all
