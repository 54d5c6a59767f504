use Rattle.std.proofs.Common.{◌≡◌, false, map}
use Rattle.round_trip.specs.MinusZero.{has_minus_minus_zero}
use Rattle.round_trip.proofs.All.{component_held}
use Rattle.round_trip.proofs.Claims.{claim}
use Rattle.round_trip.proofs.Files.{all_files, printed_back}
use Rattle.round_trip.proofs.Sequence.{all_printed}
use Rattle.round_trip.proofs.Single.{one_read}
use Rattle.round_trip.proofs.Ways.{said}
use Rattle.round_trip.proofs.printed_reads_back.Goals as goal

pub returns : goal.returns
returns c =
    let back = printed_back (record { lie = c.tokens_lie.ensures; back = c.reads_back.ensures; one = c.one_derivation.ensures })
    (all_printed (λ Z ms ks d w z. one_read c.identifier_laws.ensures.plain c.made_is_derived.ensures (claim said) (λ m q. q) Z ms ks z (component_held ms ks d w))) in
    record { at_any_depth = back; in_full = λ bytes cs s z. all_files (has_minus_minus_zero (map (λ t. t.kind) s.tokens) ≡ false) cs z (back bytes cs s) }
