use Rattle.std.proofs.Common.{◌≡◌, ◌≤◌, length, take}
use Rattle.source_meaning.specs.Meaning.{Going, run_all}
use Rattle.source_meaning.specs.Running.{store_of}
use Rattle.source_meaning.proofs.running.+run.Given as goal

-- the statements so far went on to where the run stands
abbrev pub invariant-run_statements-loop-statement : goal.invariant-run_statements-loop-statement
invariant-run_statements-loop-statement l = record {
  ran : run_all (take l.statement-index l.statements) (store_of l.input l.initial.state) ≡ Going (store_of l.input l.state);
  taken : l.state.taken ≤ length l.input;
}
