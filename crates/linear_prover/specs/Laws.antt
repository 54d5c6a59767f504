-- What the lines are worth that elimination finds.
use Rattle.std.specs.Prelude.{◌≡◌, List, IsTrue, Some, length}
use Rattle.math_terms.specs.declared.name.Line.{Line}
use Rattle.num_theory.specs.declared.table.RowTable.{RowTable}
use Rattle.num_theory.specs.Lines.{refutes}
use Rattle.linear_prover.specs.Elimination.{refutation}
use Rattle.num_theory.specs.Table.{IsTable}

-- The lines that are found for a table refute its rows.
abbrev pub RefutationsRefute : Type 0
RefutationsRefute =
    (t : RowTable) (lines : List Line) → IsTable t → refutation (length t.atoms) t.rows ≡ Some lines → IsTrue (refutes t.rows lines)
