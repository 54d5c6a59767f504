use Rattle.std.proofs.Common.{◌≡◌, ◌++◌, ◌≤◌, length, take}
use Rattle.stack_machine.specs.Code.{init_code}
use Rattle.stack_machine.specs.Refusal.{most_instructions}
use Rattle.stack_machine.proofs.codegen.emit_variables.Given as goal

abbrev pub invariant-loop-number : goal.invariant-loop-number
invariant-loop-number l = record {
  code : l.code.items ≡ l.initial.code.items ++ init_code 0 (take l.number l.types);
  few : length l.code.items ≤ most_instructions;
}
