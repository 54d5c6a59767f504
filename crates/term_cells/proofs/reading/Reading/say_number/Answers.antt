use Rattle.std.proofs.Common.{◌≤◌, ap, length, w64, arith}
use Rattle.std.specs.Fmt.{signed_decimal}
use Rattle.std.proofs.lemmas.Fmt.{length_signed_le}
use Rattle.std.proofs.lemmas.Int.{to_z-of_z}
use Rattle.term_cells.proofs.reading.Reading.say_number.Goals as goal

pub returns-clause-short : goal.returns-clause-short
returns-clause-short c =
    let short : length (signed_decimal c.args.number) ≤ 20 = length_signed_le 19 c.args.number (omega (arith, c.ranges.number.sfits)) (omega (arith, c.ranges.number.sfits)) in
    omega (arith, short, ap length (ap signed_decimal (to_z-of_z w64 c.args.number c.ranges.number)))
