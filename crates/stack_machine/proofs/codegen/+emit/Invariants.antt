use Rattle.std.proofs.Common.{◌≡◌, ◌++◌, ◌≤◌, length, take}
use Rattle.stack_machine.specs.Code.{body_code}
use Rattle.stack_machine.specs.Refusal.{most_instructions}
use Rattle.stack_machine.proofs.codegen.+emit.Given as goal

abbrev pub invariant-emit_statements-loop-statement : goal.invariant-emit_statements-loop-statement
invariant-emit_statements-loop-statement l = record {
  code : l.code.items ≡ l.initial.code.items ++ body_code (take l.statement-index l.statements) (length l.initial.code.items);
  few : length l.code.items ≤ most_instructions;
}
