-- What statements do one after another, and what a statement does once its unit of fuel is paid.
use Rattle.std.proofs.Common.{◌≡◌, ℕ, suc, ◌+◌, ◌<◌, true, false, cond, List, [], ◌∷◌, ◌++◌, length, map, take, drop, get_or, Result, Ok, Err, refl, sym, ap, ◌∙◌}
use Rattle.std.proofs.lemmas.List.{map-append, take_more, take-append-drop}
use Rattle.std.proofs.Math.Seq.{drop-cons}
use Rattle.source_meaning.specs.declared.linked.Scalar.{Scalar}
use Rattle.source_meaning.specs.declared.linked.Spot.{Spot}
use Rattle.source_meaning.specs.declared.linked.LExpr.{LExpr}
use Rattle.source_meaning.specs.declared.linked.LStmt.{LStmt}
use Rattle.source_meaning.specs.declared.linked.LStmt.TheVariants as stmt
use Rattle.source_meaning.specs.declared.linked.LStmt.TheOpen.{LStmt-F}
use Rattle.source_meaning.specs.declared.linked.LStmt.TheFolds.{fold-roll-LStmt}
use Rattle.source_meaning.specs.declared.trace.WrongKind.{WrongKind}
use Rattle.source_meaning.specs.declared.trace.End.{End}
use Rattle.source_meaning.specs.declared.trace.End.TheVariants.{Wrong}
use Rattle.source_meaning.specs.declared.state.Halt.{Halt}
use Rattle.source_meaning.specs.declared.state.Halt.TheVariants.{Ended, NoMemory}
use Rattle.source_meaning.specs.Meaning.{Store, Run, Going, Over, number, truth, value, given, next, set, write, in_order, paid, run_step, run_one, run_all}
use Rattle.source_meaning.specs.Running.{Ran}

-- after its unit of fuel a statement goes on in the store that is left
paid_on : (s t : Store) (go : Store → Run) → s ≡ record t { fuel = suc t.fuel } → paid s.fuel s go ≡ go t
paid_on s t go e = rw e refl

run-set : (p : Spot) (e : LExpr) (s : Store) → run_one (stmt.LSet p e) s ≡ paid s.fuel s (λ t. given t (value t e) (set t p))
run-set p e s = ap (λ (f : Store → Run). f s) (ap run_one (sym (stmt.rolls-LSet p e)) ∙ fold-roll-LStmt (Store → Run) run_step (LStmt-F.LSet p e))

run-write : (e : LExpr) (s : Store) → run_one (stmt.LWrite e) s ≡ paid s.fuel s (λ t. given t (value t e) (λ v. write t (number v)))
run-write e s = ap (λ (f : Store → Run). f s) (ap run_one (sym (stmt.rolls-LWrite e)) ∙ fold-roll-LStmt (Store → Run) run_step (LStmt-F.LWrite e))

-- the part of a choice that runs
part : List LStmt → List LStmt → Store → Scalar → Run
part a b t v = cond (truth v) (run_all a t) (run_all b t)

run-if : (g : LExpr) (a b : List LStmt) (s : Store) → run_one (stmt.LIf g a b) s ≡ paid s.fuel s (λ t. given t (value t g) (part a b t))
unfolding part
run-if g a b s = ap (λ (f : Store → Run). f s) (ap run_one (sym (stmt.rolls-LIf g a b)) ∙ fold-roll-LStmt (Store → Run) run_step (LStmt-F.LIf g a b))

-- a statement with its unit paid
pub set_ran : {A : Type 0} (x : LStmt) (p : Spot) (e : LExpr) (s t u : Store) (r : Result A Halt) → x ≡ stmt.LSet p e → s ≡ record t { fuel = suc t.fuel } → Ran (given t (value t e) (set t p)) r u → Ran (run_one x s) r u
set_ran x p e s t u r is pays ran =
    rw (is, run-set p e s, paid_on s t (λ t. given t (value t e) (set t p)) pays) ran

pub write_ran : {A : Type 0} (x : LStmt) (e : LExpr) (s t u : Store) (r : Result A Halt) → x ≡ stmt.LWrite e → s ≡ record t { fuel = suc t.fuel } → Ran (given t (value t e) (λ v. write t (number v))) r u → Ran (run_one x s) r u
write_ran x e s t u r is pays ran =
    rw (is, run-write e s, paid_on s t (λ t. given t (value t e) (λ v. write t (number v))) pays) ran

choice : (x : LStmt) (g : LExpr) (a b : List LStmt) (s t : Store) → x ≡ stmt.LIf g a b → s ≡ record t { fuel = suc t.fuel } → run_one x s ≡ given t (value t g) (part a b t)
choice x g a b s t is pays =
    ap (λ y. run_one y s) is ∙ run-if g a b s ∙ paid_on s t (λ t. given t (value t g) (part a b t)) pays

pub then_ran : {A : Type 0} (x : LStmt) (g : LExpr) (a b : List LStmt) (v : Scalar) (s t u : Store) (r : Result A Halt) → x ≡ stmt.LIf g a b → s ≡ record t { fuel = suc t.fuel } → Ok v ≡ value t g → truth v ≡ true → Ran (run_all a t) r u → Ran (run_one x s) r u
unfolding part
then_ran x g a b v s t u r is pays found true_guard ran = rw (choice x g a b s t is pays, ← found, true_guard) ran

pub else_ran : {A : Type 0} (x : LStmt) (g : LExpr) (a b : List LStmt) (v : Scalar) (s t u : Store) (r : Result A Halt) → x ≡ stmt.LIf g a b → s ≡ record t { fuel = suc t.fuel } → Ok v ≡ value t g → truth v ≡ false → Ran (run_all b t) r u → Ran (run_one x s) r u
unfolding part
else_ran x g a b v s t u r is pays found false_guard ran = rw (choice x g a b s t is pays, ← found, false_guard) ran

pub guard_ran : {A : Type 0} (x : LStmt) (g : LExpr) (a b : List LStmt) (w : WrongKind) (s t : Store) (r : Result A Halt) → x ≡ stmt.LIf g a b → s ≡ record t { fuel = suc t.fuel } → Err w ≡ value t g → r ≡ Err (Ended (Wrong w)) → Ran (run_one x s) r t
guard_ran x g a b w s t r is pays found ended = rw (choice x g a b s t is pays, ← found, ended) refl

-- statements one after another
in_order_by : (r : Run) (before after : List (Store → Run)) → ((s : Store) → in_order (before ++ after) s ≡ next (in_order before s) (in_order after)) → next r (in_order (before ++ after)) ≡ next (next r (in_order before)) (in_order after)
in_order_by (Going s) before after h = h s
in_order_by (Over e s) before after h = refl

in_order-append : (before after : List (Store → Run)) (s : Store) → in_order (before ++ after) s ≡ next (in_order before s) (in_order after)
in_order-append [] after s = refl
in_order-append (step ∷ before) after s = in_order_by (step s) before after (in_order-append before after)

run_all-append : (xs ys : List LStmt) (s : Store) → run_all (xs ++ ys) s ≡ next (run_all xs s) (run_all ys)
run_all-append xs ys s = rw (map-append run_one xs ys) (in_order-append (map run_one xs) (map run_one ys) s)

pub front_more : (xs : List LStmt) (i : ℕ) (x : LStmt) (s t u : Store) → i < length xs → x ≡ get_or xs i x → run_all (take i xs) s ≡ Going t → run_one x t ≡ Going u → run_all (take (i + 1) xs) s ≡ Going u
front_more xs i x s t u lt is before here =
    rw (take_more xs i x lt, ← is, run_all-append (take i xs) (x ∷ []) s, before, here) refl

over : (xs : List LStmt) (i : ℕ) (x : LStmt) (e : End) (s t u : Store) → i < length xs → x ≡ get_or xs i x → run_all (take i xs) s ≡ Going t → run_one x t ≡ Over e u → run_all xs s ≡ Over e u
over xs i x e s t u lt is before here =
    let split : xs ≡ take i xs ++ (x ∷ drop (suc i) xs) = sym (take-append-drop i xs) ∙ ap (λ l. take i xs ++ l) (drop-cons xs i x lt ∙ ap (λ y. y ∷ drop (suc i) xs) (sym is)) in
    ap (λ l. run_all l s) split ∙ run_all-append (take i xs) (x ∷ drop (suc i) xs) s ∙ rw (before, here) refl

pub front_over : {A B : Type 0} (xs : List LStmt) (i : ℕ) (x : LStmt) (h : Halt) (s t u : Store) (q : Result A Halt) (r : Result B Halt) → q ≡ Err h → r ≡ Err h → i < length xs → x ≡ get_or xs i x → run_all (take i xs) s ≡ Going t → Ran (run_one x t) q u → Ran (run_all xs s) r u
front_over xs i x (Ended e) s t u q r stopped answered lt is before here =
    rw answered (over xs i x e s t u lt is before (rw stopped at here))
front_over xs i x NoMemory s t u q r stopped answered lt is before here = rw answered tt
