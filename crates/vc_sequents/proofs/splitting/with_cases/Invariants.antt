use Rattle.std.proofs.Common.{◌≡◌, map}
use Rattle.vc_sequents.specs.Splitting.{with_case}
use Rattle.vc_sequents.proofs.splitting.with_cases.Given as goal

abbrev pub invariant-loop-new : goal.invariant-loop-new
invariant-loop-new l = l.out.items ≡ map (with_case l.s l.k) l.yielded
