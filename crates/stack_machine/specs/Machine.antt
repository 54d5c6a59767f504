-- The machine: one step from a state to the next, and none where the run is stuck.
use Rattle.std.specs.Prelude.{ℕ, zero, suc, ℤ, pos, ◌+◌, ◌+ℤ◌, ◌-ℤ◌, int_lt, int_le, Bool, true, false, not, ◌&&◌, ◌||◌, List, [], ◌∷◌, ◌++◌, length, replicate, Option, Some, None, option_and_then, slice_get, slice_set, if◌then◌else◌}
use Rattle.std.specs.Ordering.{int_eq}
use Rattle.source_meaning.specs.declared.linked.Scalar.{Scalar}
use Rattle.source_meaning.specs.declared.linked.Spot.{Spot}
use Rattle.source_meaning.specs.declared.linked.Spot.TheVariants.{Local, Field}
use Rattle.source_meaning.specs.declared.linked.TypeForm.{TypeForm}
use Rattle.source_meaning.specs.declared.linked.TypeForm.TheVariants as form
use Rattle.source_meaning.specs.Meaning.{is_word, same_truth}
use Rattle.stack_machine.specs.declared.image.Instr.{Instr}
use Rattle.stack_machine.specs.declared.image.Instr.TheVariants as instr
use Rattle.stack_machine.specs.declared.image.Cell.{Cell}
use Rattle.stack_machine.specs.declared.image.Image.{Image}
use Rattle.stack_machine.specs.declared.image.ProcInfo.{ProcInfo}

-- An activation: its procedure, the address of its next instruction, its locals and its operands, the topmost first.
pub record Frame : Type 0 where
  pub procedure : ℕ
  pub place : ℕ
  pub locals : List Cell
  pub stack : List Scalar

-- the frames, the running one first, the input that is left, and the output
pub record State : Type 0 where
  pub frames : List Frame
  pub input : List ℤ
  pub output : List ℤ

-- how a frame goes on at the next address, with these locals and operands
abbrev pub onward : Frame → List Cell → List Scalar → Frame
onward f locals stack = record f { place = f.place + 1; locals = locals; stack = stack }

-- what a local holds that is no hole
abbrev pub scalar_of : Option Cell → Option Scalar
scalar_of None = None
scalar_of (Some (Cell.Int n)) = Some (Scalar.Int n)
scalar_of (Some (Cell.Bool b)) = Some (Scalar.Bool b)
scalar_of (Some Cell.Hole) = None

abbrev pub cell_at : List Cell → Spot → Option Cell
cell_at locals (Local n) = slice_get locals n
cell_at locals (Field n f) = None

abbrev pub with_cell : List Cell → Spot → Cell → List Cell
with_cell locals (Local n) c = slice_set locals n c
with_cell locals (Field n f) c = locals

-- a scalar replaces one of its kind
abbrev pub replaced : Option Cell → Scalar → Option Cell
replaced None v = None
replaced (Some (Cell.Int m)) (Scalar.Int n) = Some (Cell.Int n)
replaced (Some (Cell.Int m)) (Scalar.Bool b) = None
replaced (Some (Cell.Bool a)) (Scalar.Int n) = None
replaced (Some (Cell.Bool a)) (Scalar.Bool b) = Some (Cell.Bool b)
replaced (Some Cell.Hole) v = None

-- the initial tree of a type, for a hole
abbrev pub initial_cell : Option Cell → Option TypeForm → Option Cell
initial_cell None t = None
initial_cell (Some (Cell.Int n)) t = None
initial_cell (Some (Cell.Bool b)) t = None
initial_cell (Some Cell.Hole) None = None
initial_cell (Some Cell.Hole) (Some form.Int) = Some (Cell.Int (pos 0))
initial_cell (Some Cell.Hole) (Some form.Bool) = Some (Cell.Bool false)
initial_cell (Some Cell.Hole) (Some (form.Array n t)) = None
initial_cell (Some Cell.Hole) (Some (form.Record i ts)) = None

-- a number replaces a number
abbrev pub number_cell : Option Cell → ℤ → Option Cell
number_cell c n = replaced c (Scalar.Int n)

-- the running frame with other operands, or another local, at the next address
abbrev pub moved : Frame → List Frame → List ℤ → List ℤ → List Scalar → Option State
moved f fs input output stack = Some (record { frames = onward f f.locals stack ∷ fs; input = input; output = output })

abbrev pub settled : Frame → List Frame → List ℤ → List ℤ → List Scalar → Spot → Option Cell → Option State
settled f fs input output stack p None = None
settled f fs input output stack p (Some c) = Some (record { frames = onward f (with_cell f.locals p c) stack ∷ fs; input = input; output = output })

abbrev pub jumped : Frame → List Frame → List ℤ → List ℤ → List Scalar → ℕ → Option State
jumped f fs input output stack to = Some (record { frames = record f { place = to; stack = stack } ∷ fs; input = input; output = output })

-- an operator on the two topmost operands, of which the lower one is the left
abbrev pub on_numbers : (ℤ → ℤ → Option Scalar) → List Scalar → Option (List Scalar)
on_numbers op [] = None
on_numbers op (b ∷ []) = None
on_numbers op (Scalar.Int b ∷ Scalar.Int a ∷ stack) = option_and_then (λ v. Some (v ∷ stack)) (op a b)
on_numbers op (Scalar.Int b ∷ Scalar.Bool a ∷ stack) = None
on_numbers op (Scalar.Bool b ∷ a ∷ stack) = None

abbrev pub on_truths : (Bool → Bool → Bool) → List Scalar → Option (List Scalar)
on_truths op [] = None
on_truths op (b ∷ []) = None
on_truths op (Scalar.Bool b ∷ Scalar.Bool a ∷ stack) = Some (Scalar.Bool (op a b) ∷ stack)
on_truths op (Scalar.Bool b ∷ Scalar.Int a ∷ stack) = None
on_truths op (Scalar.Int b ∷ a ∷ stack) = None

abbrev pub on_alike : List Scalar → Option (List Scalar)
on_alike [] = None
on_alike (b ∷ []) = None
on_alike (Scalar.Int b ∷ Scalar.Int a ∷ stack) = Some (Scalar.Bool (int_eq a b) ∷ stack)
on_alike (Scalar.Int b ∷ Scalar.Bool a ∷ stack) = None
on_alike (Scalar.Bool b ∷ Scalar.Bool a ∷ stack) = Some (Scalar.Bool (same_truth a b) ∷ stack)
on_alike (Scalar.Bool b ∷ Scalar.Int a ∷ stack) = None

abbrev pub negated : List Scalar → Option (List Scalar)
negated [] = None
negated (Scalar.Int n ∷ stack) = None
negated (Scalar.Bool b ∷ stack) = Some (Scalar.Bool (not b) ∷ stack)

-- a number within 64 signed bits
abbrev pub in_word : ℤ → Option Scalar
in_word n = if is_word n then Some (Scalar.Int n) else None

abbrev pub with_operands : Frame → List Frame → List ℤ → List ℤ → Option (List Scalar) → Option State
with_operands f fs input output None = None
with_operands f fs input output (Some stack) = moved f fs input output stack

abbrev pub pushed_scalar : Frame → List Frame → List ℤ → List ℤ → Option Scalar → Option State
pushed_scalar f fs input output None = None
pushed_scalar f fs input output (Some v) = moved f fs input output (v ∷ f.stack)

abbrev pub stored : Frame → List Frame → List ℤ → List ℤ → Spot → List Scalar → Option State
stored f fs input output p [] = None
stored f fs input output p (v ∷ stack) = settled f fs input output stack p (replaced (cell_at f.locals p) v)

abbrev pub branched : Frame → List Frame → List ℤ → List ℤ → ℕ → List Scalar → Option State
branched f fs input output to [] = None
branched f fs input output to (Scalar.Int n ∷ stack) = None
branched f fs input output to (Scalar.Bool true ∷ stack) = moved f fs input output stack
branched f fs input output to (Scalar.Bool false ∷ stack) = jumped f fs input output stack to

abbrev pub read_in : Frame → List Frame → List ℤ → List ℤ → Spot → Option State
read_in f fs [] output p = None
read_in f fs (n ∷ input) output p = settled f fs input output f.stack p (number_cell (cell_at f.locals p) n)

abbrev pub written : Frame → List Frame → List ℤ → List ℤ → List Scalar → Option State
written f fs input output [] = None
written f fs input output (Scalar.Int n ∷ stack) = moved f fs input (output ++ n ∷ []) stack
written f fs input output (Scalar.Bool b ∷ stack) = None

-- One instruction of the running frame.
abbrev pub act : Image → Frame → List Frame → List ℤ → List ℤ → Instr → Option State
act image f fs input output (instr.Push c) = moved f fs input output (c ∷ f.stack)
act image f fs input output (instr.Load p) = pushed_scalar f fs input output (scalar_of (cell_at f.locals p))
act image f fs input output (instr.Store p) = stored f fs input output p f.stack
act image f fs input output instr.Add = with_operands f fs input output (on_numbers (λ a b. in_word (a +ℤ b)) f.stack)
act image f fs input output instr.Sub = with_operands f fs input output (on_numbers (λ a b. in_word (a -ℤ b)) f.stack)
act image f fs input output instr.Eq = with_operands f fs input output (on_alike f.stack)
act image f fs input output instr.Less = with_operands f fs input output (on_numbers (λ a b. Some (Scalar.Bool (int_lt a b))) f.stack)
act image f fs input output instr.LessEq = with_operands f fs input output (on_numbers (λ a b. Some (Scalar.Bool (int_le a b))) f.stack)
act image f fs input output instr.Not = with_operands f fs input output (negated f.stack)
act image f fs input output instr.And = with_operands f fs input output (on_truths (λ a b. a && b) f.stack)
act image f fs input output instr.Or = with_operands f fs input output (on_truths (λ a b. a || b) f.stack)
act image f fs input output (instr.Jump to) = jumped f fs input output f.stack to
act image f fs input output (instr.JumpFalse to) = branched f fs input output to f.stack
act image f fs input output (instr.Init p t) = settled f fs input output f.stack p (initial_cell (cell_at f.locals p) (slice_get image.types t))
act image f fs input output instr.Return = Some (record { frames = fs; input = input; output = output })
act image f fs input output (instr.ReadIn p) = read_in f fs input output p
act image f fs input output instr.Remaining = moved f fs input output (Scalar.Int (pos (length input)) ∷ f.stack)
act image f fs input output instr.WriteOut = written f fs input output f.stack

abbrev pub step_of : Image → List Frame → List ℤ → List ℤ → Option State
step_of image [] input output = Some (record { frames = []; input = input; output = output })
step_of image (f ∷ fs) input output = option_and_then (act image f fs input output) (slice_get image.code f.place)

-- One step. A state with no frame is halted and stays so. None is stuck.
abbrev pub step : Image → State → Option State
step image s = step_of image s.frames s.input s.output

-- One frame for a procedure, at its start, with holes as locals.
abbrev pub entered : ℕ → ProcInfo → Frame
entered k p = record { procedure = k; place = p.start; locals = replicate p.locals Cell.Hole; stack = [] }

-- the state in which Main begins
abbrev pub start : Image → List ℤ → Option State
start image input = option_and_then (λ p. Some (record { frames = entered image.main p ∷ []; input = input; output = [] })) (slice_get image.procs image.main)

-- the state after n steps
abbrev pub after : Image → List ℤ → ℕ → Option State
after image input zero = start image input
after image input (suc n) = option_and_then (step image) (after image input n)
