use Rattle.std.proofs.Common.{◌≡◌, drop}
use Rattle.main_form.specs.Places.{main_in}
use Rattle.main_form.proofs.file.main_in.Given as goal

abbrev pub invariant-loop-operation : goal.invariant-loop-operation
invariant-loop-operation l = main_in l.operations ≡ main_in (drop l.operation-index l.operations)
