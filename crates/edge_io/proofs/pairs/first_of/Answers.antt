use Rattle.std.proofs.Common.{◌≡◌, ◌≢◌, Some, refl, ap, ◌∙◌, rules}
use Rattle.std.proofs.lemmas.Option.{slice_get_read}
use Rattle.edge_io.proofs.NamedFiles.{none_further}
use Rattle.edge_io.proofs.pairs.first_of.Goals as goal

pub returns-then-eq-clause-first : goal.returns-then-eq-clause-first
returns-then-eq-clause-first c =
    let named : c.index-files-at.result.0 ≡ c.args.name.now = search rules in
    let here = slice_get_read c.args.files.now _ c.loop-at.at c.index-files-at.result refl c.loop-at-test.true c.index-files-at.is in
    (c.loop-at.invariant, (c.index-files-at.result.1, here ∙ ap (λ name. Some (name, c.index-files-at.result.1)) named))

pub loop-at-preserved : goal.loop-at-preserved
loop-at-preserved c =
    let other : c.index-files-at.result.0 ≢ c.args.name.now = search rules in
    none_further c.args.files.now c.loop-at.at c.index-files-at.result c.args.name.now c.loop-at-test.true c.index-files-at.is c.loop-at.invariant other
