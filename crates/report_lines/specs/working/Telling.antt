-- What is told of a mistake as the code has it, with references.
use Rattle.std.specs.Prelude.{option_copied}
use Rattle.report_lines.specs.declared.mistakes.Told as code
use Rattle.report_lines.specs.Lines.{Told}

abbrev pub seen : code.Told → Told
seen t = record { kind = t.kind.now; name = option_copied t.name; at = t.at }
