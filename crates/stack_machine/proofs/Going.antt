-- How the machine goes on from a state.
use Rattle.std.proofs.Common.{◌≡◌, ℕ, zero, suc, ◌+◌, ◌-◌, ◌≤◌, ℤ, List, [], ◌∷◌, ◌++◌, true, false, Option, Some, None, refl, sym, ap, ◌∙◌, subst, arith, append_assoc}
use Rattle.std.specs.Prelude.{IsSome, option_and_then, slice_get}
use Rattle.std.proofs.lemmas.List.{append-nil}
use Rattle.source_meaning.specs.declared.linked.Scalar.{Scalar}
use Rattle.source_meaning.specs.declared.linked.Spot.{Spot}
use Rattle.stack_machine.specs.declared.image.Cell.{Cell}
use Rattle.stack_machine.specs.declared.image.Instr.{Instr}
use Rattle.stack_machine.specs.declared.image.Instr.TheVariants as instr
use Rattle.stack_machine.specs.declared.image.Image.{Image}
use Rattle.stack_machine.specs.Machine.{Frame, State, act, step_of, step, after, moved, settled, jumped, stored, branched, read_in, written, with_operands, pushed_scalar, scalar_of, cell_at, replaced, initial_cell, number_cell}
use Rattle.stack_machine.specs.Simulation.{IsFront}

-- the state after so many steps from this one
abbrev pub go : Image → State → ℕ → Option State
go image s zero = Some s
go image s (suc n) = option_and_then (step image) (go image s n)

pub go_add : (image : Image) (s t : State) (m n : ℕ) → go image s m ≡ Some t → go image s (m + n) ≡ go image t n
go_add image s t m zero h = let e : m + 0 ≡ m = omega arith in ap (go image s) e ∙ h
go_add image s t m (suc n) h =
    let e : m + suc n ≡ suc (m + n) = omega arith in
    ap (go image s) e ∙ ap (option_and_then (step image)) (go_add image s t m n h)

pub after_go : (image : Image) (input : List ℤ) (s : State) (m n : ℕ) → after image input m ≡ Some s → after image input (m + n) ≡ go image s n
after_go image input s m zero h = let e : m + 0 ≡ m = omega arith in ap (after image input) e ∙ h
after_go image input s m (suc n) h =
    let e : m + suc n ≡ suc (m + n) = omega arith in
    ap (after image input) e ∙ ap (option_and_then (step image)) (after_go image input s m n h)

pub go_halted : (image : Image) (s : State) (n : ℕ) → s.frames ≡ [] → go image s n ≡ Some s
go_halted image s zero h = refl
go_halted image s (suc n) h =
    ap (option_and_then (step image)) (go_halted image s n h)
    ∙ ap (λ fs. step_of image fs s.input s.output) h
    ∙ ap (λ fs. Some (record s { frames = fs })) (sym h)

-- A halted state stays.
pub halted_stays_lem : (image : Image) (input : List ℤ) (m n : ℕ) (s : State) → m ≤ n → after image input m ≡ Some s → s.frames ≡ [] → after image input n ≡ Some s
halted_stays_lem image input m n s le h halted =
    let e : n ≡ m + (n - m) = omega arith in
    ap (after image input) e ∙ after_go image input s m (n - m) h ∙ go_halted image s (n - m) halted

-- the same state after other output
abbrev pub with_front : List ℤ → Option State → Option State
with_front o None = None
with_front o (Some s) = Some (record s { output = o ++ s.output })

moved_front : (f : Frame) (fs : List Frame) (input o : List ℤ) (stack : List Scalar) → moved f fs input o stack ≡ with_front o (moved f fs input [] stack)
moved_front f fs input o stack =
    ap (λ out. moved f fs input out stack) (sym (append-nil o))

settled_front : (f : Frame) (fs : List Frame) (input o : List ℤ) (stack : List Scalar) (p : Spot) (c : Option Cell) → settled f fs input o stack p c ≡ with_front o (settled f fs input [] stack p c)
settled_front f fs input o stack p None = refl
settled_front f fs input o stack p (Some c) = ap (λ out. settled f fs input out stack p (Some c)) (sym (append-nil o))

jumped_front : (f : Frame) (fs : List Frame) (input o : List ℤ) (stack : List Scalar) (to : ℕ) → jumped f fs input o stack to ≡ with_front o (jumped f fs input [] stack to)
jumped_front f fs input o stack to = ap (λ out. jumped f fs input out stack to) (sym (append-nil o))

pushed_front : (f : Frame) (fs : List Frame) (input o : List ℤ) (v : Option Scalar) → pushed_scalar f fs input o v ≡ with_front o (pushed_scalar f fs input [] v)
pushed_front f fs input o None = refl
pushed_front f fs input o (Some v) = moved_front f fs input o (v ∷ f.stack)

operands_front : (f : Frame) (fs : List Frame) (input o : List ℤ) (stack : Option (List Scalar)) → with_operands f fs input o stack ≡ with_front o (with_operands f fs input [] stack)
operands_front f fs input o None = refl
operands_front f fs input o (Some stack) = moved_front f fs input o stack

stored_front : (f : Frame) (fs : List Frame) (input o : List ℤ) (p : Spot) (stack : List Scalar) → stored f fs input o p stack ≡ with_front o (stored f fs input [] p stack)
stored_front f fs input o p [] = refl
stored_front f fs input o p (v ∷ stack) = settled_front f fs input o stack p (replaced (cell_at f.locals p) v)

branched_front : (f : Frame) (fs : List Frame) (input o : List ℤ) (to : ℕ) (stack : List Scalar) → branched f fs input o to stack ≡ with_front o (branched f fs input [] to stack)
branched_front f fs input o to [] = refl
branched_front f fs input o to (Scalar.Int n ∷ stack) = refl
branched_front f fs input o to (Scalar.Bool true ∷ stack) = moved_front f fs input o stack
branched_front f fs input o to (Scalar.Bool false ∷ stack) = jumped_front f fs input o stack to

read_front : (f : Frame) (fs : List Frame) (input o : List ℤ) (p : Spot) → read_in f fs input o p ≡ with_front o (read_in f fs input [] p)
read_front f fs [] o p = refl
read_front f fs (n ∷ input) o p = settled_front f fs input o f.stack p (number_cell (cell_at f.locals p) n)

written_front : (f : Frame) (fs : List Frame) (input o : List ℤ) (stack : List Scalar) → written f fs input o stack ≡ with_front o (written f fs input [] stack)
written_front f fs input o [] = refl
written_front f fs input o (Scalar.Int n ∷ stack) = refl
written_front f fs input o (Scalar.Bool b ∷ stack) = refl

-- What an instruction does never depends on the output, to which it appends.
pub act_front : (image : Image) (f : Frame) (fs : List Frame) (input o : List ℤ) (i : Instr) → act image f fs input o i ≡ with_front o (act image f fs input [] i)
act_front image f fs input o (instr.Push c) = moved_front f fs input o (c ∷ f.stack)
act_front image f fs input o (instr.Load p) = pushed_front f fs input o (scalar_of (cell_at f.locals p))
act_front image f fs input o (instr.Store p) = stored_front f fs input o p f.stack
act_front image f fs input o instr.Add = operands_front f fs input o _
act_front image f fs input o instr.Sub = operands_front f fs input o _
act_front image f fs input o instr.Eq = operands_front f fs input o _
act_front image f fs input o instr.Less = operands_front f fs input o _
act_front image f fs input o instr.LessEq = operands_front f fs input o _
act_front image f fs input o instr.Not = operands_front f fs input o _
act_front image f fs input o instr.And = operands_front f fs input o _
act_front image f fs input o instr.Or = operands_front f fs input o _
act_front image f fs input o (instr.Jump to) = jumped_front f fs input o f.stack to
act_front image f fs input o (instr.JumpFalse to) = branched_front f fs input o to f.stack
act_front image f fs input o (instr.Init p t) = settled_front f fs input o f.stack p (initial_cell (cell_at f.locals p) (slice_get image.types t))
act_front image f fs input o instr.Return = ap (λ out. Some (record { frames = fs; input = input; output = out })) (sym (append-nil o))
act_front image f fs input o (instr.ReadIn p) = read_front f fs input o p
act_front image f fs input o instr.Remaining = moved_front f fs input o _
act_front image f fs input o instr.WriteOut = written_front f fs input o f.stack

fetched_front : (image : Image) (f : Frame) (fs : List Frame) (input o : List ℤ) (i : Option Instr) → option_and_then (act image f fs input o) i ≡ with_front o (option_and_then (act image f fs input []) i)
fetched_front image f fs input o None = refl
fetched_front image f fs input o (Some i) = act_front image f fs input o i

pub step_front : (image : Image) (fs : List Frame) (input o : List ℤ) → step_of image fs input o ≡ with_front o (step_of image fs input [])
step_front image [] input o = ap (λ out. Some (record { frames = []; input = input; output = out })) (sym (append-nil o))
step_front image (f ∷ fs) input o = fetched_front image f fs input o (slice_get image.code f.place)

front_within : (o : List ℤ) (s : Option State) (t : State) → with_front o s ≡ Some t → IsFront o t.output
front_within o None t h = absurd (cc)
front_within o (Some s) t h = (s.output, ap (λ (x : Option State). elim x as (λ x. List ℤ) [ None ↦ [] | Some u ↦ u.output ]) (sym h))

some_front : (o : List ℤ) (s : Option State) → IsSome (with_front o s) → IsSome s
some_front o None h = h
some_front o (Some s) h = refl

-- A step that can be made after some output can be made after none.
pub step_after_none : (image : Image) (fs : List Frame) (input o : List ℤ) → IsSome (step_of image fs input o) → IsSome (step_of image fs input [])
step_after_none image fs input o h = some_front o (step_of image fs input []) (subst IsSome (step_front image fs input o) h)

front_trans : (a b c : List ℤ) → IsFront a b → IsFront b c → IsFront a c
front_trans a b c (x, p) (y, q) = (x ++ y, q ∙ ap (λ z. z ++ y) p ∙ append_assoc a x y)

stepped_front : (image : Image) (s : State) (o : Option State) (t : State) → ((u : State) → o ≡ Some u → IsFront s.output u.output) → option_and_then (step image) o ≡ Some t → IsFront s.output t.output
stepped_front image s None t h e = absurd (cc)
stepped_front image s (Some u) t h e =
    front_trans s.output u.output t.output (h u refl)
    (front_within u.output (step_of image u.frames u.input []) t (sym (step_front image u.frames u.input u.output) ∙ e))

-- The output only grows.
pub go_front : (image : Image) (s : State) (n : ℕ) (t : State) → go image s n ≡ Some t → IsFront s.output t.output
go_front image s zero t h = ([], ap (λ (x : Option State). elim x as (λ x. List ℤ) [ None ↦ [] | Some u ↦ u.output ]) (sym h) ∙ sym (append-nil s.output))
go_front image s (suc n) t h = stepped_front image s (go image s n) t (λ u e. go_front image s n u e) h

pub after_front : (image : Image) (input : List ℤ) (m n : ℕ) (s t : State) → m ≤ n → after image input m ≡ Some s → after image input n ≡ Some t → IsFront s.output t.output
after_front image input m n s t le h k =
    let e : n ≡ m + (n - m) = omega arith in
    go_front image s (n - m) t (sym (after_go image input s m (n - m) h) ∙ sym (ap (after image input) e) ∙ k)
