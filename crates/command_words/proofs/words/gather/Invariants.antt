use Rattle.std.proofs.Common.{◌≤◌, map, drop, string_bytes}
use Rattle.command_words.specs.working.Reading.{options_for, IsState}
use Rattle.command_words.proofs.words.gather.Given as goal

abbrev pub invariant-loop-word : goal.invariant-loop-word
invariant-loop-word l = IsState (options_for l.verb) (map string_bytes l.words) (drop l.word-index (map string_bytes l.words)) l.state × (l.state.summary.further ≤ l.word-index)
