use Rattle.std.proofs.Common.{◌++◌, ◌∷◌, []}
use Rattle.edge_io.specs.Held.{GrewByPrefix}
use Rattle.resolve_cli.proofs.Growing.{prefix_longer, on_err, map_err}
use Rattle.resolve_cli.proofs.notes.write_rest.Goals as goal

pub returns-in_err-write_all-clause-prefix : goal.returns-in_err-write_all-clause-prefix
returns-in_err-write_all-clause-prefix g c =
    let old = g.N.Sink.held c.args.notes.now in
    let new = g.N.Sink.held c.write_all.new.sink in
    on_err c.from_residual.result (GrewByPrefix old new (c.args.name.now ++ (10 ∷ []))) (prefix_longer old new c.args.name.now (10 ∷ []) c.in_err-write_all.ensures.prefix)

pub returns-clause-prefix : goal.returns-clause-prefix
returns-clause-prefix g c =
    let old = g.N.Sink.held c.args.notes.now in
    let mid = g.N.Sink.held c.write_all.new.sink in
    let new = g.N.Sink.held c.write_all-2.new.sink in
    map_err c.write_all-2.result (GrewByPrefix mid new (10 ∷ [])) (GrewByPrefix old new (c.args.name.now ++ (10 ∷ []))) (c.growth_then_prefix.ensures old mid new c.args.name.now (10 ∷ []) c.in_ok-write_all.ensures.appended) c.write_all-2.ensures.prefix
