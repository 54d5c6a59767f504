use Rattle.std.proofs.Common.{◌≡◌, ◌++◌}
use Rattle.res_printer.proofs.text.Text.put.Given as goal

abbrev pub invariant-loop-byte : goal.invariant-loop-byte
invariant-loop-byte l = l.token ++ l.initial.self ≡ l.byte-iterator.iter.rest.now ++ l.self
