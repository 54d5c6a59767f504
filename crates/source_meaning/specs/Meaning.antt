-- What a linked program means: a recursion over its statements, on concrete values.
use Rattle.std.specs.Prelude.{ℕ, zero, suc, ℤ, pos, negsuc, ◌+ℤ◌, ◌-ℤ◌, int_lt, int_le, Bool, true, false, not, ◌&&◌, ◌||◌, List, [], ◌∷◌, ◌++◌, length, map, Option, Some, None, Result, Ok, Err, slice_get, slice_index_or, slice_set, if◌then◌else◌}
use Rattle.std.specs.Ordering.{int_eq}
use Rattle.source_meaning.specs.declared.linked.Scalar.{Scalar}
use Rattle.source_meaning.specs.declared.linked.Spot.{Spot}
use Rattle.source_meaning.specs.declared.linked.Spot.TheVariants.{Local, Field}
use Rattle.source_meaning.specs.declared.linked.TypeForm.{TypeForm}
use Rattle.source_meaning.specs.declared.linked.TypeForm.TheVariants as form
use Rattle.source_meaning.specs.declared.linked.BinOp.{BinOp}
use Rattle.source_meaning.specs.declared.linked.BinOp.TheVariants.{Add, Sub, Eq, NotEq, Less, LessEq, Greater, GreaterEq, And, Or}
use Rattle.source_meaning.specs.declared.linked.LExpr.{LExpr}
use Rattle.source_meaning.specs.declared.linked.LExpr.TheOpen.{LExpr-F}
use Rattle.source_meaning.specs.declared.linked.LExpr.TheFolds.{fold-LExpr}
use Rattle.source_meaning.specs.declared.linked.LStmt.{LStmt}
use Rattle.source_meaning.specs.declared.linked.LStmt.TheOpen.{LStmt-F}
use Rattle.source_meaning.specs.declared.linked.LStmt.TheFolds.{fold-LStmt}
use Rattle.source_meaning.specs.declared.linked.Proc.{Proc}
use Rattle.source_meaning.specs.declared.linked.Linked.{Linked}
use Rattle.source_meaning.specs.declared.trace.CValue.{CValue}
use Rattle.source_meaning.specs.declared.trace.CValue.TheViews.{roll-CValue}
use Rattle.source_meaning.specs.declared.trace.CValue.TheOpen.{CValue-F}
use Rattle.source_meaning.specs.declared.trace.WrongKind.{WrongKind}
use Rattle.source_meaning.specs.declared.trace.WrongKind.TheVariants.{Range, EndOfInput}
use Rattle.source_meaning.specs.declared.trace.End.{End}
use Rattle.source_meaning.specs.declared.trace.End.TheVariants.{Done, Spent, Deep, Wrong}
use Rattle.source_meaning.specs.declared.trace.Event.{Event}

-- the variables' values, the input that is left, the output so far and the fuel that is left
pub record Store : Type 0 where
  pub locals : List Scalar
  pub input : List ℤ
  pub output : List ℤ
  pub fuel : ℕ

-- A run goes on with a store, or is over.
pub data Run : Type 0 where
  Going : Store → Run
  Over : End → Store → Run

-- a number within 64 signed bits
abbrev pub is_word : ℤ → Bool
is_word n = int_le (negsuc 9223372036854775807) n && int_le n (pos 9223372036854775807)

abbrev pub number : Scalar → ℤ
number (Scalar.Int n) = n
number (Scalar.Bool b) = pos 0

abbrev pub truth : Scalar → Bool
truth (Scalar.Int n) = false
truth (Scalar.Bool b) = b

abbrev pub same_truth : Bool → Bool → Bool
same_truth true b = b
same_truth false b = not b

abbrev pub same : Scalar → Scalar → Bool
same (Scalar.Int m) (Scalar.Int n) = int_eq m n
same (Scalar.Int m) (Scalar.Bool b) = false
same (Scalar.Bool a) (Scalar.Int n) = false
same (Scalar.Bool a) (Scalar.Bool b) = same_truth a b

-- a value, or what went wrong on the way to it
abbrev pub Found : Type 0
Found = Result Scalar WrongKind

abbrev pub in_range : ℤ → Found
in_range n = if is_word n then Ok (Scalar.Int n) else Err Range

abbrev pub decided : Bool → Found
decided b = Ok (Scalar.Bool b)

-- an operator on two values
abbrev pub apply : BinOp → Scalar → Scalar → Found
apply Add a b = in_range (number a +ℤ number b)
apply Sub a b = in_range (number a -ℤ number b)
apply Eq a b = decided (same a b)
apply NotEq a b = decided (not (same a b))
apply Less a b = decided (int_lt (number a) (number b))
apply LessEq a b = decided (int_le (number a) (number b))
apply Greater a b = decided (int_lt (number b) (number a))
apply GreaterEq a b = decided (int_le (number b) (number a))
apply And a b = decided (truth a && truth b)
apply Or a b = decided (truth a || truth b)

-- goes on with a value
abbrev pub with_value : {A : Type 0} → Result A WrongKind → (A → Found) → Found
with_value (Ok v) go = go v
with_value (Err e) go = Err e

-- the value at a place
abbrev pub at_spot : List Scalar → Spot → Scalar
at_spot locals (Local n) = slice_index_or locals n (Scalar.Int (pos 0))
at_spot locals (Field n f) = Scalar.Int (pos 0)

abbrev pub with_spot : List Scalar → Spot → Scalar → List Scalar
with_spot locals (Local n) v = slice_set locals n v
with_spot locals (Field n f) v = locals

-- Both operands are evaluated, from the left.
abbrev pub value_step : Store → LExpr-F Found → Found
value_step s (LExpr-F.Const c) = Ok c
value_step s (LExpr-F.Get p) = Ok (at_spot s.locals p)
value_step s LExpr-F.Remaining = Ok (Scalar.Int (pos (length s.input)))
value_step s (LExpr-F.Not a) = with_value a (λ v. decided (not (truth v)))
value_step s (LExpr-F.Op op a b) = with_value a (λ v. with_value b (λ u. apply op v u))

abbrev pub value : Store → LExpr → Found
value s e = fold-LExpr Found (value_step s) e

-- goes on with a value, or is over with what went wrong
abbrev pub given : Store → Found → (Scalar → Run) → Run
given s (Ok v) go = go v
given s (Err e) go = Over (Wrong e) s

-- goes on where a run goes on
abbrev pub next : Run → (Store → Run) → Run
next (Going s) go = go s
next (Over e s) go = Over e s

abbrev pub set : Store → Spot → Scalar → Run
set s p v = Going (record s { locals = with_spot s.locals p v })

abbrev pub write : Store → ℤ → Run
write s n = Going (record s { output = s.output ++ n ∷ [] })

-- the first number of the input goes to a place
abbrev pub read : Store → Spot → List ℤ → Run
read s p [] = Over (Wrong EndOfInput) s
read s p (n ∷ rest) = Going (record s { locals = with_spot s.locals p (Scalar.Int n); input = rest })

-- statements one after another
abbrev pub in_order : List (Store → Run) → Store → Run
in_order [] s = Going s
in_order (r ∷ rs) s = next (r s) (in_order rs)

-- a unit of fuel, where there is one
abbrev pub paid : ℕ → Store → (Store → Run) → Run
paid zero s go = Over Spent s
paid (suc n) s go = go (record s { fuel = n })

-- A statement, which costs a unit of fuel when it begins.
abbrev pub does : LStmt-F (Store → Run) → Store → Run
does (LStmt-F.LSet p e) s = given s (value s e) (set s p)
does (LStmt-F.LRead p) s = read s p s.input
does (LStmt-F.LWrite e) s = given s (value s e) (λ v. write s (number v))
does (LStmt-F.LIf g a b) s = given s (value s g) (λ v. if truth v then in_order a s else in_order b s)

abbrev pub run_step : LStmt-F (Store → Run) → Store → Run
run_step x s = paid s.fuel s (does x)

abbrev pub run_one : LStmt → Store → Run
run_one x = fold-LStmt (Store → Run) run_step x

abbrev pub run_all : List LStmt → Store → Run
run_all xs s = in_order (map run_one xs) s

-- Initial values are 0 and false.
abbrev pub initial_of : Option TypeForm → Scalar
initial_of None = Scalar.Int (pos 0)
initial_of (Some form.Int) = Scalar.Int (pos 0)
initial_of (Some form.Bool) = Scalar.Bool false
initial_of (Some (form.Array n t)) = Scalar.Int (pos 0)
initial_of (Some (form.Record i ts)) = Scalar.Int (pos 0)

abbrev pub initial_values : List TypeForm → List ℕ → List Scalar
initial_values types ts = map (λ t. initial_of (slice_get types t)) ts

-- the store in which Main begins
abbrev pub begins : Linked → Proc → List ℤ → ℕ → Store
begins l p input fuel = record { locals = initial_values l.types p.locals; input = input; output = []; fuel = fuel }

-- how a run ended, and the store at its end
abbrev pub ended : Run → End × Store
ended (Going s) = (Done, s)
ended (Over e s) = (e, s)

-- a program's run on an input: how it ends, and the store there
abbrev pub run_of : Linked → Proc → List ℤ → ℕ → End × Store
run_of l p input fuel = ended (run_all p.body (begins l p input fuel))

-- a stream as a value
abbrev pub stream : List ℤ → CValue
stream ns = roll-CValue (CValue-F.Arr (map (λ n. roll-CValue (CValue-F.Int n)) ns))

-- the call of Main, and its return, which comes where the run is done
abbrev pub main_call : ℕ → Proc → List ℤ → Event
main_call k p input = record { is_return = false; procedure = k; instance = p.instance; operation = p.operation; now = stream input ∷ stream [] ∷ []; before = [] }

abbrev pub main_return : ℕ → Proc → List ℤ → Store → Event
main_return k p input s = record { is_return = true; procedure = k; instance = p.instance; operation = p.operation; now = stream s.input ∷ stream s.output ∷ []; before = stream input ∷ stream [] ∷ [] }

abbrev pub events_at : ℕ → Proc → List ℤ → End × Store → List Event
events_at k p input (Done, s) = main_call k p input ∷ main_return k p input s ∷ []
events_at k p input (Spent, s) = main_call k p input ∷ []
events_at k p input (Deep, s) = main_call k p input ∷ []
events_at k p input (Wrong w, s) = main_call k p input ∷ []
