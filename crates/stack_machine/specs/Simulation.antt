-- That the code of a program does what the program means.
use Rattle.std.specs.Prelude.{◌≡◌, ◌≢◌, ℕ, ℤ, ◌*◌, List, [], ◌++◌, Some, IsSomeAnd}
use Rattle.source_meaning.specs.declared.linked.Proc.{Proc}
use Rattle.source_meaning.specs.declared.linked.Linked.{Linked}
use Rattle.source_meaning.specs.declared.trace.End.TheVariants.{Done, Wrong}
use Rattle.source_meaning.specs.declared.trace.WrongKind.{WrongKind}
use Rattle.source_meaning.specs.Meaning.{Store, run_of}
use Rattle.stack_machine.specs.declared.image.Image.{Image}
use Rattle.stack_machine.specs.Machine.{State, after}

abbrev pub IsFront : List ℤ → List ℤ → Type 0
IsFront front whole = (rest : List ℤ) × (whole ≡ front ++ rest)

-- no fuel leads to something wrong
abbrev pub NeverWrong : Linked → Proc → List ℤ → Type 0
NeverWrong l p input = (fuel : ℕ) (w : WrongKind) → (run_of l p input fuel).0 ≢ Wrong w

-- Where no fuel leads to something wrong, every number of steps can be made, and the output after n of them is a front
-- of that of the program with twice as much fuel. The machine halts exactly where some fuel is enough, with the same
-- output and the same rest of the input.
pub record Simulates (l : Linked) (p : Proc) (image : Image) (input : List ℤ) : Type 0 where
  pub steps : NeverWrong l p input → (n : ℕ) → IsSomeAnd (after image input n) (λ s. IsFront s.output (run_of l p input (2 * n)).1.output)
  pub halts : (fuel : ℕ) (t : Store) → run_of l p input fuel ≡ (Done, t) → (n : ℕ) × (after image input n ≡ Some (record { frames = []; input = t.input; output = t.output }))
  pub halts_only : NeverWrong l p input → (n : ℕ) (s : State) → after image input n ≡ Some s → s.frames ≡ [] → (fuel : ℕ) × (t : Store) × (run_of l p input fuel ≡ (Done, t)) × (t.input ≡ s.input) × (t.output ≡ s.output)
