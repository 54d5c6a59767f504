use Rattle.std.proofs.Common.{◌≢◌, get_or, sym, rules}
use Rattle.edge_io.proofs.PieceNumbers.{parsed, no_text}
use Rattle.edge_io.proofs.numbers.parse_number.Goals as goal

pub returns-in-Ok : goal.returns-in-Ok
returns-in-Ok c =
    let no_plus : get_or c.args.piece.now 0 0 ≢ 43 = search rules in
    rw (c.ok.ensures.value, ← c.in-Ok.ensures.cases.0)
    (parsed c.in-Ok.text.now c.parse.result c.parse.ensures.value.0 (rw c.in-Ok.ensures.cases.0 no_plus))

pub returns-in-Err : goal.returns-in-Err
returns-in-Err c = sym (no_text c.args.piece.now c.in-Err.ensures.cases.0)
