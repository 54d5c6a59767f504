use Rattle.std.proofs.Common.{ap, length, arith}
use Rattle.vc_prover.proofs.Choosing.{used_few}
use Rattle.vc_prover.proofs.linear.lines_of.Goals as goal

pub called_lines-requires-clause-few : goal.called_lines-requires-clause-few
called_lines-requires-clause-few c = omega (arith, ap length c.as_slice.ensures, ap length c.in_ok-used.ensures, used_few 1 c.args.n c.args.lines.now)
