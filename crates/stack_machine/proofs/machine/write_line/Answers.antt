use Rattle.std.proofs.Common.{rules, w64, FitsSigned}
use Rattle.std.proofs.lemmas.Int.{to_z-of_z}
use Rattle.stack_machine.proofs.Telling.{line_ended}
use Rattle.stack_machine.proofs.machine.write_line.Goals as goal

pub returns-clause-prefix : goal.returns-clause-prefix
returns-clause-prefix g c =
    let fits : FitsSigned w64 c.args.number = search rules in
    let same = to_z-of_z w64 c.args.number fits in
    line_ended _ _ _ _ c.args.number (simp (c.as_bytes.ensures.value, c.format.ensures.text, same) at c.in_ok-write_all.ensures.appended) c.write_all-2.ensures.prefix
