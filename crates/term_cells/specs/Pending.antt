-- What is left of a piece of a text.
use Rattle.std.specs.Prelude.{ℕ, List, drop}
use Rattle.std.specs.Fmt.{signed_decimal}
use Rattle.term_cells.specs.declared.reading.Bytes.{Bytes}
use Rattle.term_cells.specs.declared.reading.Bytes.TheVariants.{Mark, Number}

abbrev pub pending : Bytes → ℕ → List ℕ
pending (Mark mark) offset = drop offset mark.now
pending (Number number) offset = drop offset (signed_decimal number)
