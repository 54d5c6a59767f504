use Rattle.std.proofs.Common.{◌≡◌, ◌≤◌, true, length, take, ◌-◌}
use Rattle.identifiers.specs.Identifiers.{is_identifier}
use Rattle.identifiers.proofs.names.identifier_len.Given as goal

abbrev pub invariant-loop-next : goal.invariant-loop-next
invariant-loop-next l = record { within : l.len ≤ length l.bytes; read : is_identifier (take l.len l.bytes) ≡ true }

abbrev pub decreases-loop-next : goal.decreases-loop-next
decreases-loop-next l = length l.bytes - l.len
