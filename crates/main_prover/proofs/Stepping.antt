-- The conditions of a walk over statements, and what a judge does over them.
use Rattle.std.proofs.Common.{◌≡◌, ◌∙◌, sym, ap, refl, subst, ℕ, ◌+◌, ◌*◌, List, [], ◌∷◌, ◌++◌, map, append_assoc, Option, Some, None, Result, Ok, Err, arith}
use Rattle.std.specs.Prelude.{sum, MatchResult}
use Rattle.main_prover.specs.working.Remaining.{stmt_count}
use Rattle.std.specs.Borrow.{Bor}
use Rattle.std.specs.Result.{IsErrAnd}
use Rattle.std.proofs.lemmas.List.{map_push}
use Rattle.std.proofs.lemmas.List.Sums.{sum_by-cons}
use Rattle.vc_sequents.specs.declared.sequent.VcKind.TheVariants as kind
use Rattle.main_form.specs.declared.module.Expr.{Expr}
use Rattle.main_form.specs.declared.module.Guard.{Guard}
use Rattle.main_form.specs.declared.module.Stmt.{Stmt}
use Rattle.main_form.specs.declared.module.Stmt.TheVariants as st
use Rattle.main_form.specs.declared.module.Stmt.TheOpen.{Stmt-F}
use Rattle.main_form.specs.declared.module.Stmt.TheViews.{roll-Stmt}
use Rattle.main_form.specs.declared.module.Stmt.TheFolds.{map-Stmt, fold-roll-Stmt}
use Rattle.main_form.specs.declared.module.Module.{Module}
use Rattle.main_vcs.specs.Terms.{negated}
use Rattle.main_vcs.specs.Walk.{Path, Condition, Items, Onward, conditions, with_hyps, after_read, in_order, stmt_step, stmt, stmts, at_end}
use Rattle.main_prover.specs.declared.judge.Judge.{Judge}
use Rattle.main_prover.specs.declared.judge.Stop.{Stop}
use Rattle.main_prover.specs.working.Judging.{Goes, Stops, Judges}
use Rattle.main_prover.specs.working.Making.{Made, condition_at, expr_made, guard_made, under, left_over}
use Rattle.main_prover.specs.working.Points.{assigned, written}
use Rattle.main_prover.specs.working.Remaining.{readable, weights}
use Rattle.main_prover.proofs.Going.{goes_then, stops_early, stops_late, judges_then}
use Rattle.main_prover.proofs.Walking.{conditions_append, expr_makes, guard_makes}

under_push : (m : Module) (xss : List (List Stmt)) (xs : List Stmt) (go : Onward) → under m (xss ++ xs ∷ []) go ≡ stmts m.variables m.input xs (under m xss go)
under_push m [] xs go = refl
under_push m (ys ∷ xss) xs go = under_push m xss xs (stmts m.variables m.input ys go)

pub sum_first : (x : Stmt) (xs : List Stmt) → sum (map stmt_count (x ∷ xs)) ≡ stmt_count x + sum (map stmt_count xs)
sum_first x xs = sum_by-cons (λ n. n) (stmt_count x) (map stmt_count xs)

-- what a popped list leaves
pub lists_pop : (all rest : List (Bor (List Stmt))) (xs : Bor (List Stmt)) → all ≡ rest ++ xs ∷ [] → map (λ ys. ys.now) all ≡ map (λ ys. ys.now) rest ++ xs.now ∷ []
lists_pop all rest xs e = ap (λ ls. map (λ (ys : Bor (List Stmt)). ys.now) ls) e ∙ map_push (λ (ys : Bor (List Stmt)). ys.now) rest xs

pub now_same : (a b : List (Bor (List Stmt))) → a ≡ b → map (λ ys. ys.now) a ≡ map (λ ys. ys.now) b
now_same a b e = ap (λ ls. map (λ (ys : Bor (List Stmt)). ys.now) ls) e

-- the last list
pub left_push : (m : Module) (xss : List (List Stmt)) (xs : List Stmt) → left_over m (xss ++ xs ∷ []) ≡ stmts m.variables m.input xs (left_over m xss)
left_push m xss xs = under_push m xss xs (at_end m.claim m.end_at)

pub weights_push : (xss : List (List Stmt)) (xs : List Stmt) → weights (xss ++ xs ∷ []) ≡ weights xss + (1 + 8 * sum (map stmt_count xs))
weights_push [] xs = omega arith
weights_push (ys ∷ xss) xs = omega (arith, weights_push xss xs)

module _ (names : List (List ℕ)) (input : List ℕ) (go : Onward) (p : Path) where
  stmt_rolled : (x : Stmt) (y : Stmt-F Stmt) → x ≡ roll-Stmt y → stmt names input x go p ≡ stmt_step names input (map-Stmt Stmt (Onward → Onward) (stmt names input) y) go p
  stmt_rolled x y is = ap (λ z. stmt names input z go p) is ∙ ap (λ (f : Onward → Onward). f go p) (fold-roll-Stmt (Onward → Onward) (stmt_step names input) y)

  pub step_read : (x : Stmt) (at k : ℕ) → x ≡ st.Read at k → conditions (stmt names input x go p) ≡ (condition_at kind.Requires at p (readable p) ∷ []) ++ conditions (go (after_read names input k p))
  step_read x at k is = ap conditions (stmt_rolled x (Stmt-F.Read at k) (is ∙ sym (st.rolls-Read at k)))

  pub step_write : (x : Stmt) (e : Expr) → x ≡ st.Write e → let y = expr_made e p in conditions (stmt names input x go p) ≡ y.conditions ++ conditions (go (written y.term y.point))
  step_write x e is =
      ap conditions (stmt_rolled x (Stmt-F.Write e) (is ∙ sym (st.rolls-Write e)))
      ∙ expr_makes e (λ t q. go (written t q)) p

  pub step_assign : (x : Stmt) (k : ℕ) (e : Expr) → x ≡ st.Assign k e → let y = expr_made e p in conditions (stmt names input x go p) ≡ y.conditions ++ conditions (go (assigned k y.term y.point))
  step_assign x k e is =
      ap conditions (stmt_rolled x (Stmt-F.Assign k e) (is ∙ sym (st.rolls-Assign k e)))
      ∙ expr_makes e (λ t q. go (assigned k t q)) p

  pub step_if : (x : Stmt) (g : Guard) (a : List Stmt) (b : List Stmt) → x ≡ st.If g a b → let y = guard_made g p in conditions (stmt names input x go p) ≡ y.conditions ++ (conditions (stmts names input a go (with_hyps (y.term ∷ []) y.point)) ++ conditions (stmts names input b go (with_hyps (negated y.term ∷ []) y.point)))
  step_if x g a b is =
      let y = guard_made g p in
      ap conditions (stmt_rolled x (Stmt-F.If g a b) (is ∙ sym (st.rolls-If g a b)))
      ∙ guard_makes g (λ t q. stmts names input a go (with_hyps (t ∷ []) q) ++ stmts names input b go (with_hyps (negated t ∷ []) q)) p
      ∙ ap (λ cs. y.conditions ++ cs) (conditions_append (stmts names input a go (with_hyps (y.term ∷ []) y.point)) (stmts names input b go (with_hyps (negated y.term ∷ []) y.point)))

module _ (m : Module) where
  -- what goes on from a point
  pub then_judges : (all cs : List Condition) (f : Path → List Condition) (p q : Path) (j k l : Judge) (r : Result (Unit {0}) Stop) → all ≡ cs ++ f p → q ≡ p → Goes m cs j k → Judges m (f q) k r l → Judges m all j r l
  then_judges all cs f p q j k l r e same first second =
      subst (λ xs. Judges m xs j r l) (sym e) (judges_then m cs (f p) j k l r first (subst (λ x. Judges m (f x) k r l) same second))

  pub stop_judges : (all cs ds : List Condition) (j k : Judge) (r : Result (Unit {0}) Stop) (s : Stop) → all ≡ cs ++ ds → IsErrAnd r (λ t. t ≡ s) → Stops m cs j s → Judges m all j r k
  stop_judges all cs ds j k (Ok a) s e is h = absurd is
  stop_judges all cs ds j k (Err t) s e is h =
      subst (Stops m all j) (sym is) (subst (λ xs. Stops m xs j s) (sym e) (stops_early m cs ds j s h))

  -- the first of two paths stops
  pub fork_stops : (all cs : List Condition) (f g : Path → List Condition) (p q o : Path) (j k l : Judge) (r : Result (Unit {0}) Stop) (s : Stop) → all ≡ cs ++ (f p ++ g o) → q ≡ p → Goes m cs j k → IsErrAnd r (λ t. t ≡ s) → Stops m (f q) k s → Judges m all j r l
  fork_stops all cs f g p q o j k l (Ok a) s e same first is h = absurd is
  fork_stops all cs f g p q o j k l (Err t) s e same first is h =
      let there = subst (λ x. Stops m (f x) k s) same h in
      subst (Stops m all j) (sym is) (subst (λ xs. Stops m xs j s) (sym e) (stops_late m cs (f p ++ g o) j k s first (stops_early m (f p) (g o) k s there)))

  -- one path and then the other
  pub fork_judges : (all cs : List Condition) (f g : Path → List Condition) (p q o n : Path) (j k l i : Judge) (r : Result (Unit {0}) Stop) → all ≡ cs ++ (f p ++ g o) → q ≡ p → n ≡ o → Goes m cs j k → Goes m (f q) k l → Judges m (g n) l r i → Judges m all j r i
  fork_judges all cs f g p q o n j k l i r e same other first second third =
      let one = subst (λ x. Goes m (f x) k l) same second in
      let two = subst (λ x. Judges m (g x) l r i) other third in
      subst (λ xs. Judges m xs j r i) (sym e) (judges_then m cs (f p ++ g o) j k i r first (judges_then m (f p) (g o) k l i r one two))

  pub begins_stop : (all cs ds : List Condition) (j : Judge) (s : Stop) → all ≡ cs ++ ds → Stops m cs j s → Stops m all j s
  begins_stop all cs ds j s e h = subst (λ xs. Stops m xs j s) (sym e) (stops_early m cs ds j s h)

  -- what is left after a statement that is done, or not
  pub after_done : (all cs : List Condition) (f : Path → List Condition) (p q : Path) (j k l : Judge) (d r : Result (Unit {0}) Stop) → all ≡ cs ++ f p → MatchResult d (λ _. (q ≡ p) × Goes m cs j k) (Stops m cs j) → MatchResult d (λ _. Judges m (f q) k r l) (λ s. r ≡ Err s) → Judges m all j r l
  after_done all cs f p q j k l (Ok a) r e first then = then_judges all cs f p q j k l r e first.0 first.1 then
  after_done all cs f p q j k l (Err s) r e first then =
      subst (λ x. Judges m all j x l) (sym then) (begins_stop all cs (f p) j s e first)

  -- a path that begins with statements
  path_same : (left : List (List Stmt)) (a b : List Stmt) (p q : Path) → b ≡ a → q ≡ p → conditions (left_over m (left ++ b ∷ []) q) ≡ conditions (stmts m.variables m.input a (left_over m left) p)
  path_same left a b p q is same =
      ap (λ (f : Onward). conditions (f q)) (left_push m left b)
      ∙ ap (λ xs. conditions (stmts m.variables m.input xs (left_over m left) q)) is
      ∙ ap (λ o. conditions (stmts m.variables m.input a (left_over m left) o)) same

  pub if_judges : (all cs : List Condition) (left : List (List Stmt)) (a b c d : List Stmt) (p q o n : Path) (j k l : Judge) (r : Result (Unit {0}) Stop) → let go = left_over m left in all ≡ cs ++ (conditions (stmts m.variables m.input a go p) ++ conditions (stmts m.variables m.input b go o)) → c ≡ a → d ≡ b → q ≡ p → n ≡ o → Goes m cs j k → Judges m (conditions (left_over m (left ++ c ∷ []) q) ++ conditions (left_over m (left ++ d ∷ []) n)) k r l → Judges m all j r l
  if_judges all cs left a b c d p q o n j k l r e ea eb ep eo first then =
      let go = left_over m left in
      let xs = conditions (stmts m.variables m.input a go p) in
      let ys = conditions (stmts m.variables m.input b go o) in
      let one = path_same left a c p q ea ep in
      let two = path_same left b d o n eb eo in
      let same : conditions (left_over m (left ++ c ∷ []) q) ++ conditions (left_over m (left ++ d ∷ []) n) ≡ xs ++ ys =
      ap (λ zs. zs ++ conditions (left_over m (left ++ d ∷ []) n)) one ∙ ap (λ zs. xs ++ zs) two in
      subst (λ zs. Judges m zs j r l) (sym e) (judges_then m cs (xs ++ ys) j k l r first (subst (λ zs. Judges m zs k r l) same then))

  -- the last list has no statement, or a first one
  pub empty_last : (all left : List (List Stmt)) (xs : List Stmt) (p : Path) (j k : Judge) (r : Result (Unit {0}) Stop) → all ≡ left ++ xs ∷ [] → xs ≡ [] → Judges m (conditions (left_over m left p)) j r k → Judges m (conditions (left_over m all p)) j r k
  empty_last all left xs p j k r e is h =
      subst (λ cs. Judges m cs j r k) (sym (ap (λ ls. conditions (left_over m ls p)) e ∙ path_same left [] xs p p is refl)) h

  pub full_last : (all left rest : List (List Stmt)) (x : Stmt) (xs ys : List Stmt) (p : Path) (j k : Judge) (r : Result (Unit {0}) Stop) → all ≡ left ++ xs ∷ [] → xs ≡ x ∷ ys → rest ≡ left ++ ys ∷ [] → Judges m (conditions (stmt m.variables m.input x (left_over m rest) p)) j r k → Judges m (conditions (left_over m all p)) j r k
  full_last all left rest x xs ys p j k r e is er h =
      let tail : left_over m rest ≡ stmts m.variables m.input ys (left_over m left) = ap (left_over m) er ∙ left_push m left ys in
      let there = subst (λ (go : Onward). Judges m (conditions (stmt m.variables m.input x go p)) j r k) tail h in
      subst (λ cs. Judges m cs j r k) (sym (ap (λ ls. conditions (left_over m ls p)) e ∙ path_same left (x ∷ ys) xs p p is refl)) there

  -- two paths over the same lists
  pub paths_judge : (left l1 l2 : List (List Stmt)) (a b : List Stmt) (p q : Path) (j k l : Judge) (r : Result (Unit {0}) Stop) → l1 ≡ left → l2 ≡ left → Goes m (conditions (left_over m (l1 ++ a ∷ []) p)) j k → Judges m (conditions (left_over m (l2 ++ b ∷ []) q)) k r l → Judges m (conditions (left_over m (left ++ a ∷ []) p) ++ conditions (left_over m (left ++ b ∷ []) q)) j r l
  paths_judge left l1 l2 a b p q j k l r e1 e2 first second =
      judges_then m (conditions (left_over m (left ++ a ∷ []) p)) (conditions (left_over m (left ++ b ∷ []) q)) j k l r
      (subst (λ ls. Goes m (conditions (left_over m (ls ++ a ∷ []) p)) j k) e1 first)
      (subst (λ ls. Judges m (conditions (left_over m (ls ++ b ∷ []) q)) k r l) e2 second)

  pub paths_stop : (left l1 : List (List Stmt)) (a b : List Stmt) (p q : Path) (j : Judge) (s : Stop) → l1 ≡ left → Stops m (conditions (left_over m (l1 ++ a ∷ []) p)) j s → Stops m (conditions (left_over m (left ++ a ∷ []) p) ++ conditions (left_over m (left ++ b ∷ []) q)) j s
  paths_stop left l1 a b p q j s e1 first =
      stops_early m (conditions (left_over m (left ++ a ∷ []) p)) (conditions (left_over m (left ++ b ∷ []) q)) j s
      (subst (λ ls. Stops m (conditions (left_over m (ls ++ a ∷ []) p)) j s) e1 first)
