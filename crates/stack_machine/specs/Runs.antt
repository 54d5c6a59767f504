-- What a run of the machine answers, and what its sink got.
use Rattle.std.specs.Prelude.{◌≡◌, ◌≢◌, ℕ, ℤ, ◌≤◌, List, [], Option, IsSome, IsSomeAnd, slice_get, false}
use Rattle.edge_io.specs.Held.{Grew, GrewByPrefix}
use Rattle.stack_machine.specs.declared.image.Image.{Image}
use Rattle.stack_machine.specs.declared.image.Stop.{Stop}
use Rattle.stack_machine.specs.declared.image.Stop.TheVariants.{Halted, StepsSpent, SinkFault, NoMemory}
use Rattle.stack_machine.specs.Machine.{after}
use Rattle.stack_machine.specs.Lines.{lines}

-- Main is a procedure without parameters and without a result.
abbrev pub HasMain : Image → Type 0
HasMain image = IsSomeAnd (slice_get image.procs image.main) (λ p. (p.given ≡ []) × (p.result ≡ false))

-- the machine is not stuck within so many steps
abbrev pub NeverStuck : Image → List ℤ → ℕ → Type 0
NeverStuck image input steps = (n : ℕ) → n ≤ steps → IsSome (after image input n)

-- The run stopped in the state after so many steps, or earlier where that one is halted, and the sink got the lines of that
-- state's output; after a fault of the sink a prefix of them, and where memory ran out those of some number of steps.
abbrev pub Stopped : Image → List ℤ → ℕ → Stop → Option (List ℕ) → Option (List ℕ) → Type 0
Stopped image input steps Halted old new = IsSomeAnd (after image input steps) (λ s. (s.frames ≡ []) × Grew old new (lines s.output))
Stopped image input steps StepsSpent old new = IsSomeAnd (after image input steps) (λ s. (s.frames ≢ []) × Grew old new (lines s.output))
Stopped image input steps SinkFault old new = IsSomeAnd (after image input steps) (λ s. GrewByPrefix old new (lines s.output))
Stopped image input steps NoMemory old new = (k : ℕ) × (k ≤ steps) × IsSomeAnd (after image input k) (λ s. Grew old new (lines s.output))
