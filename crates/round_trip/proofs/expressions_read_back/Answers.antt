use Rattle.round_trip.proofs.Reading.{reads_back}
use Rattle.round_trip.proofs.expressions_read_back.Goals as goal

pub returns : goal.returns
returns c = reads_back c.identifier_laws.ensures.plain c.made_is_derived.ensures
