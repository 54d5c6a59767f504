use Rattle.std.proofs.Common.{◌≡◌, map, take}
use Rattle.source_meaning.specs.declared.trace.CValue.TheViews.{roll-CValue}
use Rattle.source_meaning.specs.declared.trace.CValue.TheOpen.{CValue-F}
use Rattle.source_meaning.proofs.events.stream.Given as goal

abbrev pub invariant-loop-number : goal.invariant-loop-number
invariant-loop-number l = l.values ≡ map (λ n. roll-CValue (CValue-F.Int n)) (take l.number-index l.numbers)
