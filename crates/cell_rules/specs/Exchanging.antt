-- The cell of a node with another place for a child.
use Rattle.std.specs.Prelude.{ℕ, zero, suc}
use Rattle.term_cells.specs.declared.cell.Cell.{Cell}

abbrev pub place_of : Cell → ℕ → ℕ
place_of c zero = c.a
place_of c (suc zero) = c.b
place_of c (suc (suc k)) = c.c

abbrev pub with_place : Cell → ℕ → ℕ → Cell
with_place c zero p = record c { a = p }
with_place c (suc zero) p = record c { b = p }
with_place c (suc (suc k)) p = record c { c = p }
