-- What the machine's parts ask and do.
use Rattle.std.specs.Prelude.{◌≡◌, ℕ, ℤ, ◌+ℤ◌, ◌-ℤ◌, int_lt, int_le, ◌&&◌, ◌||◌, List, [], ◌∷◌, ◌++◌, drop, Option, Some, None, IsSome}
use Rattle.source_meaning.specs.declared.linked.Scalar.{Scalar}
use Rattle.stack_machine.specs.declared.image.Cell.{Cell}
use Rattle.stack_machine.specs.declared.image.Instr.{Instr}
use Rattle.stack_machine.specs.declared.image.Instr.TheVariants as instr
use Rattle.stack_machine.specs.declared.image.Image.{Image}
use Rattle.stack_machine.specs.declared.running.Running.{Running}
use Rattle.stack_machine.specs.declared.running.Effect.{Effect}
use Rattle.stack_machine.specs.declared.running.Effect.TheVariants.{Quiet, Wrote, Returned}
use Rattle.stack_machine.specs.Lines.{line}
use Rattle.stack_machine.specs.Machine.{Frame, State, act, start, step_of, on_numbers, on_truths, on_alike, negated, in_word}

abbrev pub HasNumber : List Scalar → Type 0
HasNumber [] = ⊥
HasNumber (Scalar.Int n ∷ rest) = Unit {0}
HasNumber (Scalar.Bool b ∷ rest) = ⊥

abbrev pub HasTruth : List Scalar → Type 0
HasTruth [] = ⊥
HasTruth (Scalar.Int n ∷ rest) = ⊥
HasTruth (Scalar.Bool b ∷ rest) = Unit {0}

abbrev pub HasTwoNumbers : List Scalar → Type 0
HasTwoNumbers [] = ⊥
HasTwoNumbers (Scalar.Int n ∷ rest) = HasNumber rest
HasTwoNumbers (Scalar.Bool b ∷ rest) = ⊥

abbrev pub HasTwoTruths : List Scalar → Type 0
HasTwoTruths [] = ⊥
HasTwoTruths (Scalar.Int n ∷ rest) = ⊥
HasTwoTruths (Scalar.Bool b ∷ rest) = HasTruth rest

-- a scalar as what a local holds
abbrev pub cell_of_scalar : Scalar → Cell
cell_of_scalar (Scalar.Int n) = Cell.Int n
cell_of_scalar (Scalar.Bool b) = Cell.Bool b

-- the operands after an operator
abbrev pub operated : Instr → List Scalar → Option (List Scalar)
operated (instr.Push c) stack = None
operated (instr.Load p) stack = None
operated (instr.Store p) stack = None
operated instr.Add stack = on_numbers (λ a b. in_word (a +ℤ b)) stack
operated instr.Sub stack = on_numbers (λ a b. in_word (a -ℤ b)) stack
operated instr.Eq stack = on_alike stack
operated instr.Less stack = on_numbers (λ a b. Some (Scalar.Bool (int_lt a b))) stack
operated instr.LessEq stack = on_numbers (λ a b. Some (Scalar.Bool (int_le a b))) stack
operated instr.Not stack = negated stack
operated instr.And stack = on_truths (λ a b. a && b) stack
operated instr.Or stack = on_truths (λ a b. a || b) stack
operated (instr.Jump to) stack = None
operated (instr.JumpFalse to) stack = None
operated (instr.Init p t) stack = None
operated instr.Return stack = None
operated (instr.ReadIn p) stack = None
operated instr.Remaining stack = None
operated instr.WriteOut stack = None

-- the running frame of a procedure
abbrev pub frame_of : ℕ → Running → Frame
frame_of procedure r = record { procedure = procedure; place = r.place; locals = r.locals; stack = r.operands }

-- the state in which a frame, the only one, and what its last instruction did leave the machine, from the output before it
abbrev pub state_after : ℕ → List ℤ → Running → List ℤ → Effect → State
state_after procedure input r output Quiet = record { frames = frame_of procedure r ∷ []; input = drop r.taken input; output = output }
state_after procedure input r output (Wrote n) = record { frames = frame_of procedure r ∷ []; input = drop r.taken input; output = output ++ n ∷ [] }
state_after procedure input r output Returned = record { frames = []; input = drop r.taken input; output = output }

-- an instruction has an effect on the frame, whatever was written before
abbrev pub CanAct : Image → List ℤ → Running → Instr → Type 0
CanAct image input r i = IsSome (act image (frame_of image.main r) [] (drop r.taken input) [] i)

abbrev pub Acts : Image → List ℤ → Running → Running → Instr → Effect → Type 0
Acts image input old new i effect = (output : List ℤ) → act image (frame_of image.main old) [] (drop old.taken input) output i ≡ Some (state_after image.main input new output effect)

-- the same for the instruction at the frame's place
abbrev pub CanStep : Image → List ℤ → Running → Type 0
CanStep image input r = IsSome (step_of image (frame_of image.main r ∷ []) (drop r.taken input) [])

abbrev pub Steps : Image → List ℤ → Running → Running → Effect → Type 0
Steps image input old new effect = (output : List ℤ) → step_of image (frame_of image.main old ∷ []) (drop old.taken input) output ≡ Some (state_after image.main input new output effect)

-- the frame is that in which Main begins
abbrev pub Begins : Image → Running → Type 0
Begins image r = (input : List ℤ) → start image input ≡ Some (record { frames = frame_of image.main r ∷ []; input = input; output = [] })

-- the bytes of what an instruction wrote
abbrev pub text_of : Effect → List ℕ
text_of Quiet = []
text_of (Wrote n) = line n
text_of Returned = []
