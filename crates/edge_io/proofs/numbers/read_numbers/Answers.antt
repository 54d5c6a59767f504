use Rattle.std.proofs.lemmas.Result.{err_from_is_err_and}
use Rattle.edge_io.proofs.ReadText.{parsed, refused}
use Rattle.edge_io.proofs.numbers.read_numbers.Goals as goal

pub returns-in_err-text-clause-reading : goal.returns-in_err-text-clause-reading
returns-in_err-text-clause-reading g c =
    let p = err_from_is_err_and c.from_residual.result c.from_residual.ensures.1 in
    rw (p.1, p.2) (refused _ _ _ c.in_err-text.ensures.text)

pub returns-clause-reading : goal.returns-clause-reading
returns-clause-reading g c =
    let text = c.in_ok-text.ensures.text in
    parsed _ _ _ c.parse_numbers.result text.0 text.1 (rw (← c.as_slice.ensures.value) c.parse_numbers.ensures.reading) c.parse_numbers.ensures.never_long
