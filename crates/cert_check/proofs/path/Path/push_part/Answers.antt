use Rattle.std.proofs.Common.{refl}
use Rattle.math_terms.specs.Terms.{nodes}
use Rattle.cert_check.specs.declared.path.Path.{Path}
use Rattle.cert_check.proofs.Filling.{lacks_cells, takes_none, takes_part}
use Rattle.cert_check.proofs.path.Path.push_part.Goals as goal

pub returns-in_err-p-clause-takes : goal.returns-in_err-p-clause-takes
returns-in_err-p-clause-takes c = λ t part.
    let old = c.args.self.now in
    let new : Path = record old { cells = c.make.new.cells } in
    takes_none old new (nodes t) c.from_residual.result c.from_residual.ensures (lacks_cells old c.args.part t part c.in_err-p.ensures.short)

pub returns-clause-takes : goal.returns-clause-takes
returns-clause-takes c = λ t part.
    let old = c.args.self.now in
    let new : Path = record old { cells = c.make.new.cells; places = c.push.new.self } in
    takes_part old c.args.part t part new c.in_ok-p.p c.push.result c.make.ensures.grown refl c.push.ensures
