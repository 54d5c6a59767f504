use Rattle.std.proofs.Common.{pos}
use Rattle.std.proofs.lemmas.Option.{unwrap_or-slice_get}
use Rattle.source_meaning.specs.declared.linked.Scalar.{Scalar}
use Rattle.source_meaning.proofs.state.State.get.Goals as goal

pub returns-in-Local : goal.returns-in-Local
returns-in-Local c =
    rw (c.unwrap_or.ensures, c.copied-local.ensures, c.get.ensures.value, c.in-Local.is)
    (unwrap_or-slice_get c.args.self.now.locals c.in-Local.number (Scalar.Int (pos 0)))
