use Rattle.std.proofs.Common.{arith}
use Rattle.edge_io.proofs.Growth.{written-more, written-failed}
use Rattle.std.proofs.lemmas.Result.{err_from_is_err_and}
use Rattle.edge_io.proofs.sink.write_all.Goals as goal

pub returns-in_err-n-clause-prefix : goal.returns-in_err-n-clause-prefix
returns-in_err-n-clause-prefix g c =
    let p = err_from_is_err_and c.from_residual.result c.from_residual.ensures.1 in
    rw p.1 (written-failed _ _ _ _ _ c.loop-rest.invariant.written c.in_err-n.ensures.unchanged)

pub loop-rest-preserved : goal.loop-rest-preserved
loop-rest-preserved g c = record {
  written = written-more _ _ _ _ _ c.in_ok-n.n c.loop-rest.invariant.written c.in_ok-n.ensures.appended;
  risen = omega (arith, c.loop-rest.invariant.risen, c.in_ok-n.ensures.never_falls);
}
