use Rattle.std.proofs.Common.{◌≡◌, length, take, Some}
use Rattle.math_terms.specs.Sorts.{meet_all}
use Rattle.math_terms.proofs.meeting.+meet.Given as goal

abbrev pub invariant-meet_all-loop-s : goal.invariant-meet_all-loop-s
invariant-meet_all-loop-s l = meet_all (take (length l.yielded) l.parts) (take (length l.yielded) l.others) ≡ Some l.out
