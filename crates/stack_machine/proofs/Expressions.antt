-- The code of an expression leaves its value on the operands.
use Rattle.std.proofs.Common.{◌≡◌, ℕ, zero, suc, ◌+◌, ℤ, pos, negsuc, ◌+ℤ◌, ◌-ℤ◌, List, [], ◌∷◌, ◌++◌, length, map, Bool, true, false, not, ◌&&◌, ◌||◌, Option, Some, None, refl, sym, ap, ◌∙◌, subst, arith, length-append}
use Rattle.std.specs.Prelude.{Ok, Err, option_and_then, slice_get, slice_index_or, int_lt, int_le, if◌then◌else◌}
use Rattle.std.specs.Ordering.{int_eq}
use Rattle.std.proofs.Math.Dec.{leb, leb-zero, leb-suc-zero, leb-suc-suc}
use Rattle.source_meaning.specs.declared.linked.Scalar.{Scalar}
use Rattle.source_meaning.specs.declared.linked.Spot.{Spot}
use Rattle.source_meaning.specs.declared.linked.Spot.TheVariants.{Local, Field}
use Rattle.source_meaning.specs.declared.linked.BinOp.{BinOp}
use Rattle.source_meaning.specs.declared.linked.BinOp.TheVariants.{Add, Sub, Eq, NotEq, Less, LessEq, Greater, GreaterEq, And, Or}
use Rattle.source_meaning.specs.declared.linked.LExpr.{LExpr}
use Rattle.source_meaning.specs.declared.linked.LExpr.TheOpen.{LExpr-F}
use Rattle.source_meaning.specs.declared.linked.LExpr.TheViews.{roll-LExpr}
use Rattle.source_meaning.specs.declared.linked.LExpr.TheFolds.{map-LExpr, fold-roll-LExpr, ind-LExpr}
use Rattle.source_meaning.specs.declared.trace.WrongKind.TheVariants.{Range}
use Rattle.source_meaning.specs.Meaning.{Store, is_word, same_truth, apply, at_spot, with_spot, value_step, value, with_value, in_range, decided, Found, truth}
use Rattle.source_meaning.specs.Formed.{Kind, Number, Truth, known, kind_at, kind_of_scalar, two_numbers, two_truths, two_alike, kind_of_op, kind_step, kind_of}
use Rattle.stack_machine.specs.declared.image.Cell.{Cell}
use Rattle.stack_machine.specs.declared.image.Instr.{Instr}
use Rattle.stack_machine.specs.declared.image.Instr.TheVariants as instr
use Rattle.stack_machine.specs.declared.image.Image.{Image}
use Rattle.stack_machine.specs.Machine.{Frame, State, act, scalar_of, cell_at, with_cell, replaced, in_word, with_operands, pushed_scalar}
use Rattle.stack_machine.specs.Code.{op_code, expr_step, expr_code}
use Rattle.stack_machine.specs.Running.{cell_of_scalar}
use Rattle.stack_machine.proofs.Going.{go, go_add}

-- the instructions stand in the code from this place on
abbrev pub HasAt : List Instr → ℕ → List Instr → Type 0
HasAt code pc [] = Unit {0}
HasAt code pc (i ∷ is) = (slice_get code pc ≡ Some i) × HasAt code (pc + 1) is

pub has_front : (code : List Instr) (pc : ℕ) (a b : List Instr) → HasAt code pc (a ++ b) → HasAt code pc a
has_front code pc [] b h = tt
has_front code pc (i ∷ a) b h = (h.0, has_front code (pc + 1) a b h.1)

pub has_back : (code : List Instr) (pc : ℕ) (a b : List Instr) → HasAt code pc (a ++ b) → HasAt code (pc + length a) b
has_back code pc [] b h = let e : pc ≡ pc + 0 = omega arith in subst (λ n. HasAt code n b) e h
has_back code pc (i ∷ a) b h =
    let e : pc + 1 + length a ≡ pc + length (i ∷ a) = omega arith in
    subst (λ n. HasAt code n b) e (has_back code (pc + 1) a b h.1)

-- the values have these kinds
abbrev pub Fit : List (Option Kind) → List Scalar → Type 0
Fit [] [] = Unit {0}
Fit [] (v ∷ vs) = ⊥
Fit (k ∷ ks) [] = ⊥
Fit (k ∷ ks) (v ∷ vs) = (k ≡ Some (kind_of_scalar v)) × Fit ks vs

-- values as what locals hold
abbrev pub cells : List Scalar → List Cell
cells vs = map cell_of_scalar vs

scalar_of_cell : (v : Scalar) → scalar_of (Some (cell_of_scalar v)) ≡ Some v
scalar_of_cell (Scalar.Int n) = refl
scalar_of_cell (Scalar.Bool b) = refl

some_known : (k : Option Kind) (k' : Kind) → known (Some k) ≡ Some k' → k ≡ Some k'
some_known k k' h = h

loaded : (kinds : List (Option Kind)) (vs : List Scalar) (n : ℕ) (k : Kind) → Fit kinds vs → known (slice_get kinds n) ≡ Some k → (scalar_of (slice_get (cells vs) n) ≡ Some (slice_index_or vs n (Scalar.Int (pos 0)))) × (kind_of_scalar (slice_index_or vs n (Scalar.Int (pos 0))) ≡ k)
loaded [] vs n k f h = absurd (cc)
loaded (j ∷ kinds) [] n k f h = absurd f
loaded (j ∷ kinds) (v ∷ vs) zero k f h = (scalar_of_cell v, cc f.0)
loaded (j ∷ kinds) (v ∷ vs) (suc n) k f h = loaded kinds vs n k f.1 h

-- the value at a place with a kind
pub load_at : (kinds : List (Option Kind)) (vs : List Scalar) (p : Spot) (k : Kind) → Fit kinds vs → kind_at kinds p ≡ Some k → (scalar_of (cell_at (cells vs) p) ≡ Some (at_spot vs p)) × (kind_of_scalar (at_spot vs p) ≡ k)
load_at kinds vs (Local n) k f h = loaded kinds vs n k f h
load_at kinds vs (Field n m) k f h = absurd (cc)

replaces : (v w : Scalar) → kind_of_scalar v ≡ kind_of_scalar w → replaced (Some (cell_of_scalar v)) w ≡ Some (cell_of_scalar w)
replaces (Scalar.Int m) (Scalar.Int n) e = refl
replaces (Scalar.Int m) (Scalar.Bool b) e = absurd (cc)
replaces (Scalar.Bool a) (Scalar.Int n) e = absurd (cc)
replaces (Scalar.Bool a) (Scalar.Bool b) e = refl

-- a value of the same kind at a place
pub record Stores (kinds : List (Option Kind)) (vs : List Scalar) (p : Spot) (w : Scalar) : Type 0 where
  pub cell : replaced (cell_at (cells vs) p) w ≡ Some (cell_of_scalar w)
  pub locals : with_cell (cells vs) p (cell_of_scalar w) ≡ cells (with_spot vs p w)
  pub fit : Fit kinds (with_spot vs p w)

stored_at : (kinds : List (Option Kind)) (vs : List Scalar) (n : ℕ) (w : Scalar) → Fit kinds vs → known (slice_get kinds n) ≡ Some (kind_of_scalar w) → Stores kinds vs (Local n) w
stored_at [] vs n w f h = absurd (cc)
stored_at (j ∷ kinds) [] n w f h = absurd f
stored_at (j ∷ kinds) (v ∷ vs) zero w f h = record { cell = replaces v w (cc f.0); locals = refl; fit = (h, f.1) }
stored_at (j ∷ kinds) (v ∷ vs) (suc n) w f h =
    let r = stored_at kinds vs n w f.1 h in
    record { cell = r.cell; locals = ap (λ l. cell_of_scalar v ∷ l) r.locals; fit = (f.0, r.fit) }

pub store_at : (kinds : List (Option Kind)) (vs : List Scalar) (p : Spot) (w : Scalar) → Fit kinds vs → kind_at kinds p ≡ Some (kind_of_scalar w) → Stores kinds vs p w
store_at kinds vs (Local n) w f h = stored_at kinds vs n w f h
store_at kinds vs (Field n m) w f h = absurd (cc)

turned : (a b : ℕ) → leb (suc b) a ≡ not (leb a b)
turned zero b = leb-suc-zero b ∙ ap not (sym (leb-zero b))
turned (suc a) zero = leb-suc-suc zero a ∙ leb-zero a ∙ ap not (sym (leb-suc-zero a))
turned (suc a) (suc b) = leb-suc-suc (suc b) a ∙ turned a b ∙ ap not (sym (leb-suc-suc a b))

pub greater : (a b : ℤ) → not (int_le a b) ≡ int_lt b a
greater (pos a) (pos b) = sym (turned a b)
greater (pos a) (negsuc b) = refl
greater (negsuc a) (pos b) = refl
greater (negsuc a) (negsuc b) = sym (turned b a)

not-not : (b : Bool) → not (not b) ≡ b
not-not true = refl
not-not false = refl

pub not_less : (a b : ℤ) → not (int_lt a b) ≡ int_le b a
not_less a b = ap not (sym (greater b a)) ∙ not-not (int_le b a)

-- the state of the one frame of Main
abbrev pub stands : ℕ → List Cell → List Scalar → List ℤ → List ℤ → State
stands pc locals stack input output = record { frames = record { procedure = 0; place = pc; locals = locals; stack = stack } ∷ []; input = input; output = output }

abbrev pub frame : ℕ → List Cell → List Scalar → Frame
frame pc locals stack = record { procedure = 0; place = pc; locals = locals; stack = stack }

module _ (image : Image) where
  -- one instruction
  pub one : (pc : ℕ) (locals : List Cell) (stack : List Scalar) (input output : List ℤ) (i : Instr) (t : State) → slice_get image.code pc ≡ Some i → act image (frame pc locals stack) [] input output i ≡ Some t → go image (stands pc locals stack input output) 1 ≡ Some t
  one pc locals stack input output i t h e =
      ap (option_and_then (act image (frame pc locals stack) [] input output)) h ∙ e

  -- steps, and one more
  pub then_one : (s : State) (n pc : ℕ) (locals : List Cell) (stack : List Scalar) (input output : List ℤ) (i : Instr) (t : State) → go image s n ≡ Some (stands pc locals stack input output) → slice_get image.code pc ≡ Some i → act image (frame pc locals stack) [] input output i ≡ Some t → go image s (n + 1) ≡ Some t
  then_one s n pc locals stack input output i t r h e =
      go_add image s (stands pc locals stack input output) n 1 r ∙ one pc locals stack input output i t h e

  pub then_more : (s t : State) (m n : ℕ) (u : Option State) → go image s m ≡ Some t → go image t n ≡ u → go image s (m + n) ≡ u
  then_more s t m n u a b = go_add image s t m n a ∙ b

-- the kinds that an operator asks of its operands
numbers_known : (r : Kind) (i j : Option Kind) (k : Kind) → two_numbers r i j ≡ Some k → (i ≡ Some Number) × (j ≡ Some Number)
numbers_known r (Some Number) (Some Number) k h = (refl, refl)
numbers_known r (Some Number) (Some Truth) k h = absurd (cc)
numbers_known r (Some Number) None k h = absurd (cc)
numbers_known r (Some Truth) j k h = absurd (cc)
numbers_known r None j k h = absurd (cc)

pub truths_known : (i j : Option Kind) (k : Kind) → two_truths i j ≡ Some k → (i ≡ Some Truth) × (j ≡ Some Truth)
truths_known (Some Truth) (Some Truth) k h = (refl, refl)
truths_known (Some Truth) (Some Number) k h = absurd (cc)
truths_known (Some Truth) None k h = absurd (cc)
truths_known (Some Number) j k h = absurd (cc)
truths_known None j k h = absurd (cc)

-- both operands have a kind
record Known (i j : Option Kind) : Type 0 where
  left : Kind
  right : Kind
  is_left : i ≡ Some left
  is_right : j ≡ Some right

both_numbers : (r : Kind) (i j : Option Kind) (k : Kind) → two_numbers r i j ≡ Some k → Known i j
both_numbers r i j k h = let e = numbers_known r i j k h in record { left = Number; right = Number; is_left = e.0; is_right = e.1 }

both_truths : (i j : Option Kind) (k : Kind) → two_truths i j ≡ Some k → Known i j
both_truths i j k h = let e = truths_known i j k h in record { left = Truth; right = Truth; is_left = e.0; is_right = e.1 }

both_alike : (i j : Option Kind) (k : Kind) → two_alike i j ≡ Some k → Known i j
both_alike (Some Number) j k h = both_numbers Truth (Some Number) j k h
both_alike (Some Truth) j k h = both_truths (Some Truth) j k h
both_alike None j k h = absurd (cc)

both_known : (op : BinOp) (i j : Option Kind) (k : Kind) → kind_of_op op i j ≡ Some k → Known i j
both_known Add i j k h = both_numbers Number i j k h
both_known Sub i j k h = both_numbers Number i j k h
both_known Eq i j k h = both_alike i j k h
both_known NotEq i j k h = both_alike i j k h
both_known Less i j k h = both_numbers Truth i j k h
both_known LessEq i j k h = both_numbers Truth i j k h
both_known Greater i j k h = both_numbers Truth i j k h
both_known GreaterEq i j k h = both_numbers Truth i j k h
both_known And i j k h = both_truths i j k h
both_known Or i j k h = both_truths i j k h

module _ (image : Image) (locals : List Cell) (input output : List ℤ) where
  -- the code of so many instructions goes from these operands to a value of this kind on those, where there is one
  abbrev pub Gives : ℕ → List Scalar → List Scalar → ℕ → Kind → Found → Type 0
  Gives pc from stack n k (Ok v) = (go image (stands pc locals from input output) n ≡ Some (stands (pc + n) locals (v ∷ stack) input output)) × (kind_of_scalar v ≡ k)
  Gives pc from stack n k (Err w) = Unit {0}

  gives_after : (pc n m : ℕ) (from mid stack : List Scalar) (k : Kind) (r : Found) → go image (stands pc locals from input output) n ≡ Some (stands (pc + n) locals mid input output) → Gives (pc + n) mid stack m k r → Gives pc from stack (n + m) k r
  gives_after pc n m from mid stack k (Ok v) a b =
      let e : pc + n + m ≡ pc + (n + m) = omega arith in
      (then_more image _ _ n m _ a b.0 ∙ ap (λ q. Some (stands q locals (v ∷ stack) input output)) e, b.1)
  gives_after pc n m from mid stack k (Err w) a b = tt

  gives_len : (pc n m : ℕ) (from stack : List Scalar) (k : Kind) (r : Found) → n ≡ m → Gives pc from stack n k r → Gives pc from stack m k r
  gives_len pc n m from stack k r e h = let P : ℕ → Type 0 = λ q. Gives pc from stack q k r in subst P e h

  -- a number within 64 bits
  number_made : (pc : ℕ) (from stack : List Scalar) (i : Instr) (n : ℤ) (k : Kind) (w : Bool) → is_word n ≡ w → slice_get image.code pc ≡ Some i → act image (frame pc locals from) [] input output i ≡ with_operands (frame pc locals from) [] input output (option_and_then (λ v. Some (v ∷ stack)) (in_word n)) → Number ≡ k → Gives pc from stack 1 k (in_range n)
  number_made pc from stack i n k true is h e kn =
      let P : Bool → Type 0 = λ x. Gives pc from stack 1 k (if x then Ok (Scalar.Int n) else Err Range) in
      let Q = λ (x : Bool). with_operands (frame pc locals from) [] input output (option_and_then (λ v. Some (v ∷ stack)) (if x then Some (Scalar.Int n) else None)) in
      subst P (sym is) (one image pc locals from input output i _ h (e ∙ ap Q is), kn)
  number_made pc from stack i n k false is h e kn =
      let P : Bool → Type 0 = λ x. Gives pc from stack 1 k (if x then Ok (Scalar.Int n) else Err Range) in
      subst P (sym is) tt

  truth_made : (pc : ℕ) (from stack : List Scalar) (i : Instr) (b : Bool) (k : Kind) → slice_get image.code pc ≡ Some i → act image (frame pc locals from) [] input output i ≡ Some (stands (pc + 1) locals (Scalar.Bool b ∷ stack) input output) → Truth ≡ k → Gives pc from stack 1 k (Ok (Scalar.Bool b))
  truth_made pc from stack i b k h e kn = (one image pc locals from input output i _ h e, kn)

  turned_made : (pc : ℕ) (from stack : List Scalar) (i : Instr) (b c : Bool) (k : Kind) → HasAt image.code pc (i ∷ instr.Not ∷ []) → act image (frame pc locals from) [] input output i ≡ Some (stands (pc + 1) locals (Scalar.Bool b ∷ stack) input output) → not b ≡ c → Truth ≡ k → Gives pc from stack 2 k (Ok (Scalar.Bool c))
  turned_made pc from stack i b c k h e nb kn =
      let two : pc + 1 + 1 ≡ pc + 2 = omega arith in (
        then_one image (stands pc locals from input output) 1 (pc + 1) locals (Scalar.Bool b ∷ stack) input output instr.Not _ (one image pc locals from input output i _ h.0 e) h.1.0 refl
            ∙ ap (λ q. Some (stands q locals (Scalar.Bool (not b) ∷ stack) input output)) two
            ∙ ap (λ x. Some (stands (pc + 2) locals (Scalar.Bool x ∷ stack) input output)) nb,
        kn,
      )

  -- an operator on two values of the kinds that it asks
  op_runs : (op : BinOp) (a b : Scalar) (k : Kind) (pc : ℕ) (stack : List Scalar) → kind_of_op op (Some (kind_of_scalar a)) (Some (kind_of_scalar b)) ≡ Some k → HasAt image.code pc (op_code op) → Gives pc (b ∷ a ∷ stack) stack (length (op_code op)) k (apply op a b)
  op_runs Add (Scalar.Int a) (Scalar.Int b) k pc stack e h = number_made pc _ stack instr.Add (a +ℤ b) k (is_word (a +ℤ b)) refl h.0 refl (cc)
  op_runs Add (Scalar.Int a) (Scalar.Bool b) k pc stack e h = absurd (cc)
  op_runs Add (Scalar.Bool a) b k pc stack e h = absurd (cc)
  op_runs Sub (Scalar.Int a) (Scalar.Int b) k pc stack e h = number_made pc _ stack instr.Sub (a -ℤ b) k (is_word (a -ℤ b)) refl h.0 refl (cc)
  op_runs Sub (Scalar.Int a) (Scalar.Bool b) k pc stack e h = absurd (cc)
  op_runs Sub (Scalar.Bool a) b k pc stack e h = absurd (cc)
  op_runs Eq (Scalar.Int a) (Scalar.Int b) k pc stack e h = truth_made pc _ stack instr.Eq (int_eq a b) k h.0 refl (cc)
  op_runs Eq (Scalar.Int a) (Scalar.Bool b) k pc stack e h = absurd (cc)
  op_runs Eq (Scalar.Bool a) (Scalar.Int b) k pc stack e h = absurd (cc)
  op_runs Eq (Scalar.Bool a) (Scalar.Bool b) k pc stack e h = truth_made pc _ stack instr.Eq (same_truth a b) k h.0 refl (cc)
  op_runs NotEq (Scalar.Int a) (Scalar.Int b) k pc stack e h = turned_made pc _ stack instr.Eq (int_eq a b) _ k h refl refl (cc)
  op_runs NotEq (Scalar.Int a) (Scalar.Bool b) k pc stack e h = absurd (cc)
  op_runs NotEq (Scalar.Bool a) (Scalar.Int b) k pc stack e h = absurd (cc)
  op_runs NotEq (Scalar.Bool a) (Scalar.Bool b) k pc stack e h = turned_made pc _ stack instr.Eq (same_truth a b) _ k h refl refl (cc)
  op_runs Less (Scalar.Int a) (Scalar.Int b) k pc stack e h = truth_made pc _ stack instr.Less (int_lt a b) k h.0 refl (cc)
  op_runs Less (Scalar.Int a) (Scalar.Bool b) k pc stack e h = absurd (cc)
  op_runs Less (Scalar.Bool a) b k pc stack e h = absurd (cc)
  op_runs LessEq (Scalar.Int a) (Scalar.Int b) k pc stack e h = truth_made pc _ stack instr.LessEq (int_le a b) k h.0 refl (cc)
  op_runs LessEq (Scalar.Int a) (Scalar.Bool b) k pc stack e h = absurd (cc)
  op_runs LessEq (Scalar.Bool a) b k pc stack e h = absurd (cc)
  op_runs Greater (Scalar.Int a) (Scalar.Int b) k pc stack e h = turned_made pc _ stack instr.LessEq (int_le a b) _ k h refl (greater a b) (cc)
  op_runs Greater (Scalar.Int a) (Scalar.Bool b) k pc stack e h = absurd (cc)
  op_runs Greater (Scalar.Bool a) b k pc stack e h = absurd (cc)
  op_runs GreaterEq (Scalar.Int a) (Scalar.Int b) k pc stack e h = turned_made pc _ stack instr.Less (int_lt a b) _ k h refl (not_less a b) (cc)
  op_runs GreaterEq (Scalar.Int a) (Scalar.Bool b) k pc stack e h = absurd (cc)
  op_runs GreaterEq (Scalar.Bool a) b k pc stack e h = absurd (cc)
  op_runs And (Scalar.Bool a) (Scalar.Bool b) k pc stack e h = truth_made pc _ stack instr.And (a && b) k h.0 refl (cc)
  op_runs And (Scalar.Bool a) (Scalar.Int b) k pc stack e h = absurd (cc)
  op_runs And (Scalar.Int a) b k pc stack e h = absurd (cc)
  op_runs Or (Scalar.Bool a) (Scalar.Bool b) k pc stack e h = truth_made pc _ stack instr.Or (a || b) k h.0 refl (cc)
  op_runs Or (Scalar.Bool a) (Scalar.Int b) k pc stack e h = absurd (cc)
  op_runs Or (Scalar.Int a) b k pc stack e h = absurd (cc)

  not_run : (pc n : ℕ) (stack : List Scalar) (k : Kind) (r : Found) → slice_get image.code (pc + n) ≡ Some instr.Not → Truth ≡ k → Gives pc stack stack n Truth r → Gives pc stack stack (n + 1) k (with_value r (λ v. decided (not (truth v))))
  not_run pc n stack k (Ok (Scalar.Int m)) h kn a = absurd (cc a.1)
  not_run pc n stack k (Ok (Scalar.Bool b)) h kn a =
      gives_after pc n 1 stack (Scalar.Bool b ∷ stack) stack k (Ok (Scalar.Bool (not b))) a.0 (truth_made (pc + n) (Scalar.Bool b ∷ stack) stack instr.Not (not b) k h refl kn)
  not_run pc n stack k (Err w) h kn a = tt

  two_run : (op : BinOp) (pc n m : ℕ) (stack : List Scalar) (i j k : Kind) (ra rb : Found) → kind_of_op op (Some i) (Some j) ≡ Some k → HasAt image.code (pc + n + m) (op_code op) → Gives pc stack stack n i ra → ((v : Scalar) → Gives (pc + n) (v ∷ stack) (v ∷ stack) m j rb) → Gives pc stack stack (n + (m + length (op_code op))) k (with_value ra (λ v. with_value rb (λ u. apply op v u)))
  two_run op pc n m stack i j k (Err w) rb e h a b = tt
  two_run op pc n m stack i j k (Ok v) (Err w) e h a b = tt
  two_run op pc n m stack i j k (Ok v) (Ok u) e h a b =
      let same : kind_of_op op (Some (kind_of_scalar v)) (Some (kind_of_scalar u)) ≡ Some k = ap (λ x. kind_of_op op (Some x) (Some (kind_of_scalar u))) a.1 ∙ ap (λ x. kind_of_op op (Some i) (Some x)) (b v).1 ∙ e in
      gives_after pc n (m + length (op_code op)) stack (v ∷ stack) stack k (apply op v u) a.0
      (gives_after (pc + n) m (length (op_code op)) (v ∷ stack) (u ∷ v ∷ stack) stack k (apply op v u) (b v).0
      (op_runs op v u k (pc + n + m) stack same h))

module _ (image : Image) (kinds : List (Option Kind)) (s : Store) (fit : Fit kinds s.locals) where
  -- the code of an expression gives its value
  abbrev pub Means : LExpr → Type 0
  Means e = (pc : ℕ) (stack : List Scalar) (k : Kind) → kind_of kinds e ≡ Some k → HasAt image.code pc (expr_code e) → Gives image (cells s.locals) s.input s.output pc stack stack (length (expr_code e)) k (value s e)

  abbrev LayerMeans : LExpr-F LExpr → Type 0
  LayerMeans x = (pc : ℕ) (stack : List Scalar) (k : Kind) → kind_step kinds (map-LExpr LExpr (Option Kind) (kind_of kinds) x) ≡ Some k → HasAt image.code pc (expr_step (map-LExpr LExpr (List Instr) expr_code x)) → Gives image (cells s.locals) s.input s.output pc stack stack (length (expr_step (map-LExpr LExpr (List Instr) expr_code x))) k (value_step s (map-LExpr LExpr Found (value s) x))

  rolled : (x : LExpr-F LExpr) → LayerMeans x → Means (roll-LExpr x)
  rolled x h pc stack k hk has =
      let ec = fold-roll-LExpr (List Instr) expr_step x in
      let kc = fold-roll-LExpr (Option Kind) (kind_step kinds) x in
      let vc = fold-roll-LExpr Found (value_step s) x in
      let H : List Instr → Type 0 = λ c. HasAt image.code pc c in
      let C : List Instr → Type 0 = λ c. Gives image (cells s.locals) s.input s.output pc stack stack (length c) k (value s (roll-LExpr x)) in
      let V : Found → Type 0 = λ v. Gives image (cells s.locals) s.input s.output pc stack stack (length (expr_step (map-LExpr LExpr (List Instr) expr_code x))) k v in
      subst C (sym ec) (subst V (sym vc) (h pc stack k (sym kc ∙ hk) (subst H ec has)))

  layer : (y : LExpr-F ((e : LExpr) × Means e)) → LayerMeans (map-LExpr ((e : LExpr) × Means e) LExpr (λ e. e.0) y)
  layer (LExpr-F.Const c) pc stack k hk has = (one image pc (cells s.locals) stack s.input s.output (instr.Push c) _ has.0 refl, cc)
  layer (LExpr-F.Get p) pc stack k hk has =
      let l = load_at kinds s.locals p k fit hk in
      (one image pc (cells s.locals) stack s.input s.output (instr.Load p) _ has.0 (ap (pushed_scalar (frame pc (cells s.locals) stack) [] s.input s.output) l.0), l.1)
  layer LExpr-F.Remaining pc stack k hk has = (one image pc (cells s.locals) stack s.input s.output instr.Remaining _ has.0 refl, cc)
  layer (LExpr-F.Not a) pc stack k hk has =
      let ca = expr_code a.0 in
      let known = truths_known (Some Truth) (kind_of kinds a.0) k hk in
      let kn : Truth ≡ k = cc (ap (two_truths (Some Truth)) known.1) in
      let len : length ca + 1 ≡ length (ca ++ instr.Not ∷ []) = omega (arith, length-append ca (instr.Not ∷ [])) in
      gives_len image (cells s.locals) s.input s.output pc _ _ stack stack k _ len
      (not_run image (cells s.locals) s.input s.output pc (length ca) stack k (value s a.0) (has_back image.code pc ca (instr.Not ∷ []) has).0 kn
      (a.1 pc stack Truth known.1 (has_front image.code pc ca (instr.Not ∷ []) has)))
  layer (LExpr-F.Op op a b) pc stack k hk has =
      let ca = expr_code a.0 in
      let cb = expr_code b.0 in
      let known = both_known op (kind_of kinds a.0) (kind_of kinds b.0) k hk in
      let rest = has_back image.code pc ca (cb ++ op_code op) has in
      let same : kind_of_op op (Some known.left) (Some known.right) ≡ Some k = sym (ap (λ x. kind_of_op op x (kind_of kinds b.0)) known.is_left ∙ ap (λ x. kind_of_op op (Some known.left) x) known.is_right) ∙ hk in
      let len : length ca + (length cb + length (op_code op)) ≡ length (ca ++ (cb ++ op_code op)) = omega (arith, length-append ca (cb ++ op_code op), length-append cb (op_code op)) in
      gives_len image (cells s.locals) s.input s.output pc _ _ stack stack k _ len
      (two_run image (cells s.locals) s.input s.output op pc (length ca) (length cb) stack known.left known.right k (value s a.0) (value s b.0) same
      (has_back image.code (pc + length ca) cb (op_code op) rest)
      (a.1 pc stack known.left known.is_left (has_front image.code pc ca (cb ++ op_code op) has))
      (λ v. b.1 (pc + length ca) (v ∷ stack) known.right known.is_right (has_front image.code (pc + length ca) cb (op_code op) rest)))

  pub expr_runs : (e : LExpr) → Means e
  expr_runs = ind-LExpr Means (λ x y is. subst (λ z. Means (roll-LExpr z)) is (rolled (map-LExpr ((e : LExpr) × Means e) LExpr (λ e. e.0) y) (layer y)))
