use Rattle.std.proofs.lemmas.Bool.{false≢true}
use Rattle.std.proofs.lemmas.Result.{err_from_is_err_and}
use Rattle.cell_rows.proofs.Narrowness.{sum_of-fits, sum_of-wide}
use Rattle.cell_rows.proofs.lines.add_up.Goals as goal

pub returns-in_err-combine : goal.returns-in_err-combine
returns-in_err-combine c =
    let p = err_from_is_err_and c.from_residual.result c.from_residual.ensures.1 in
    rw (p.1) (sum_of-wide c.args.p c.args.a.now c.args.q c.args.b.now (λ all. false≢true (c.in_err-combine.ensures.fits all).0))

pub returns : goal.returns
returns c =
    sum_of-fits c.args.p c.args.a.now c.args.q c.args.b.now c.combine.new.out c.reduce.new.row c.in_ok-combine.ensures.fits
    (λ no. false≢true (c.in_ok-combine.ensures.wide no).0) c.reduce.ensures.value
