-- What the interpreter keeps of a run, and what its steps answer.
use Rattle.std.specs.Prelude.{◌≡◌, suc, ℤ, List, drop, Result, Ok, Err}
use Rattle.source_meaning.specs.declared.trace.End.TheVariants.{Spent}
use Rattle.source_meaning.specs.declared.state.State.{State}
use Rattle.source_meaning.specs.declared.state.Halt.{Halt}
use Rattle.source_meaning.specs.declared.state.Halt.TheVariants.{Ended, NoMemory}
use Rattle.source_meaning.specs.Meaning.{Store, Run, Going, Over}

-- the store that a state stands for, over the whole input
abbrev pub store_of : List ℤ → State → Store
store_of input s = record { locals = s.locals; input = drop s.taken input; output = s.output; fuel = s.fuel }

-- A run goes on or is over as a step answers, with the store that the step leaves.
abbrev pub Ran : {A : Type 0} → Run → Result A Halt → Store → Type 0
Ran r (Ok x) s = r ≡ Going s
Ran r (Err (Ended e)) s = r ≡ Over e s
Ran r (Err NoMemory) s = Unit {0}

-- A unit of fuel was paid, or none was there and nothing changed.
abbrev pub Paid : {A : Type 0} → State → Result A Halt → State → Type 0
Paid s (Ok x) t = s ≡ record t { fuel = suc t.fuel }
Paid s (Err (Ended e)) t = (e ≡ Spent) × (s.fuel ≡ 0) × (t ≡ s)
Paid s (Err NoMemory) t = ⊥
