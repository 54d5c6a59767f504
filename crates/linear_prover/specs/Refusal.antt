-- Why a table was not refuted.
use Rattle.std.specs.Prelude.{◌≡◌, length, None}
use Rattle.num_theory.specs.declared.table.RowTable.{RowTable}
use Rattle.linear_prover.specs.declared.elimination.RefuteError.{RefuteError}
use Rattle.linear_prover.specs.declared.elimination.RefuteError.TheVariants.{NoRefutation, NoMemory}
use Rattle.linear_prover.specs.Elimination.{refutation}

abbrev pub IsRefuteRefusal : RowTable → RefuteError → Type 0
IsRefuteRefusal t NoRefutation = refutation (length t.atoms) t.rows ≡ None
IsRefuteRefusal t NoMemory = Unit {0}
