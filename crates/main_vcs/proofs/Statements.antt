-- Where the conditions of statements are valid, no run of them goes wrong.
use Rattle.std.proofs.Common.{◌≡◌, ◌∙◌, sym, ap, refl, subst, ℕ, zero, suc, ℤ, pos, Bool, true, false, ◌&&◌, List, [], ◌∷◌, ◌++◌, length, map, Some, None}
use Rattle.std.specs.Prelude.{int_lt, slice_set, if◌then◌else◌}
use Rattle.std.proofs.lemmas.Bool.{false≢true}
use Rattle.math_terms.specs.declared.term.Term.{Term}
use Rattle.math_terms.specs.Values.{Truth, truth}
use Rattle.math_terms.specs.Meaning.{Valuation}
use Rattle.math_terms.specs.Descriptors.{Interpretation}
use Rattle.vc_sequents.specs.declared.sequent.VcKind.TheVariants as kind
use Rattle.source_meaning.specs.declared.linked.Scalar.{Scalar}
use Rattle.source_meaning.specs.declared.linked.Spot.TheVariants.{Local}
use Rattle.source_meaning.specs.declared.linked.LStmt.{LStmt}
use Rattle.source_meaning.specs.declared.linked.LStmt.TheOpen.{LStmt-F}
use Rattle.source_meaning.specs.declared.linked.LStmt.TheViews.{roll-LStmt}
use Rattle.source_meaning.specs.declared.linked.LStmt.TheFolds.{map-LStmt, fold-roll-LStmt}
use Rattle.source_meaning.specs.Meaning.{Store, Run, Going, Over, Found, number, given, next, ended, read, set, write, paid, does, run_step, run_one}
use Rattle.source_meaning.specs.Meaning.{value as run_value, truth as scalar_truth, in_order as runs_in_order}
use Rattle.main_form.specs.declared.module.Expr.{Expr}
use Rattle.main_form.specs.declared.module.Guard.{Guard}
use Rattle.main_form.specs.declared.module.Stmt.{Stmt}
use Rattle.main_form.specs.declared.module.Stmt.TheOpen.{Stmt-F}
use Rattle.main_form.specs.declared.module.Stmt.TheViews.{roll-Stmt}
use Rattle.main_form.specs.declared.module.Stmt.TheFolds.{map-Stmt, fold-roll-Stmt, ind-Stmt}
use Rattle.main_form.specs.declared.module.Claim.{Claim}
use Rattle.main_vcs.specs.Terms.{num, single, cat, len, below, negated}
use Rattle.main_vcs.specs.Walk.{Path, Check, End, Items, Onward, check, expr, guard, with_hyps, after_read, in_order, stmt_step, stmt, stmts}
use Rattle.main_vcs.specs.Linking.{linked_expr, linked_guard, linked_stmt_step, linked_stmt}
use Rattle.main_vcs.specs.Soundness.{IsRightRun}
use Rattle.main_vcs.proofs.TermValues.{num_value, len_value, below_value, negated_value}
use Rattle.main_vcs.proofs.Points.{Describes, Stands, two_set, holds_at, with_more, with_fuel, with_output, with_local, with_read}
use Rattle.main_vcs.proofs.Expressions.{AreValid, expr_means}
use Rattle.main_vcs.proofs.Guards.{guard_decides}

-- a run that is right where it ends
abbrev pub IsRight : Claim → Run → Type 0
IsRight c r = IsRightRun c (ended r)

next_next : (r : Run) (f g : Store → Run) → next (next r f) g ≡ next r (λ s. next (f s) g)
next_next (Going s) f g = refl
next_next (Over e s) f g = refl

both_valid : (xs ys : Items) → AreValid (xs ++ ys) → AreValid xs × AreValid ys
both_valid [] ys h = (tt, h)
both_valid (Check x ∷ xs) ys h = let r = both_valid xs ys h.1 in ((h.0, r.0), r.1)
both_valid (End ∷ xs) ys h = both_valid xs ys h

module _ (I : Interpretation) (names : List (List ℕ)) (input : List ℕ) (c : Claim) where
  -- Where the conditions from a point are valid, a run from a store that it describes is right.
  abbrev pub Leads : Onward → (Store → Run) → Type 0
  Leads go cont = (n : ℕ) (w : Valuation) (p : Path) (s : Store) → Describes I n w p s → AreValid (go p) → IsRight c (cont s)

  paid_right : (s : Store) (fuel : ℕ) (d cont : Store → Run) → ((f : ℕ) → IsRight c (next (d (record s { fuel = f })) cont)) → IsRight c (next (paid fuel s d) cont)
  paid_right s zero d cont h = tt
  paid_right s (suc f) d cont h = h f

  assign_right : (k : ℕ) (e : Expr) (go : Onward) (cont : Store → Run) → Leads go cont → Leads (λ p. expr e (λ t q. go (record q { terms = slice_set q.terms k t })) p) (λ s. next (given s (run_value s (linked_expr e)) (set s (Local k))) cont)
  assign_right k e go cont lead n w p s d valid =
      let g = expr_means I e (λ t q. go (record q { terms = slice_set q.terms k t })) n w p s d valid in
      let P : Found → Type 0 = λ r. IsRight c (next (given s r (set s (Local k))) cont) in
      subst P (sym g.is)
      (lead n w (record g.point { terms = slice_set g.point.terms k g.term }) (record s { locals = slice_set s.locals k (Scalar.Int g.result) })
      (with_local I n w g.point s k g.term g.result g.describes g.stands) g.valid)

  write_right : (e : Expr) (go : Onward) (cont : Store → Run) → Leads go cont → Leads (λ p. expr e (λ t q. go (record q { output = cat q.output (single t) })) p) (λ s. next (given s (run_value s (linked_expr e)) (λ v. write s (number v))) cont)
  write_right e go cont lead n w p s d valid =
      let g = expr_means I e (λ t q. go (record q { output = cat q.output (single t) })) n w p s d valid in
      let P : Found → Type 0 = λ r. IsRight c (next (given s r (λ v. write s (number v))) cont) in
      subst P (sym g.is)
      (lead n w (record g.point { output = cat g.point.output (single g.term) }) (record s { output = s.output ++ g.result ∷ [] })
      (with_output I n w g.point s g.term g.result g.describes g.stands) g.valid)

  -- there is something to read
  some_left : (at n : ℕ) (w : Valuation) (p : Path) (s : Store) (rest : Items) → Describes I n w p s → AreValid (check kind.Requires at p (below (num (pos 0)) (len p.input)) ∷ rest) → int_lt (pos 0) (pos (length s.input)) ≡ true
  some_left at n w p s rest d valid =
      let left = len_value I w p.input s.input (d.facts w (λ k l. refl)).input_is in
      sym (ap truth (below_value I w (num (pos 0)) (len p.input) (pos 0) (pos (length s.input)) (num_value I w (pos 0)) left))
      ∙ holds_at I n w p s (below (num (pos 0)) (len p.input)) d valid.0

  read_right : (at k : ℕ) (go : Onward) (cont : Store → Run) → Leads go cont → (locals : List Scalar) (left output : List ℤ) (fuel n : ℕ) (w : Valuation) (p : Path) → Describes I n w p (record { locals = locals; input = left; output = output; fuel = fuel }) → AreValid (check kind.Requires at p (below (num (pos 0)) (len p.input)) ∷ go (after_read names input k p)) → IsRight c (next (read (record { locals = locals; input = left; output = output; fuel = fuel }) (Local k) left) cont)
  read_right at k go cont lead locals [] output fuel n w p d valid =
      let s : Store = record { locals = locals; input = []; output = output; fuel = fuel } in
      let h : false ≡ true = some_left at n w p s (go (after_read names input k p)) d valid in
      absurd (false≢true h)
  read_right at k go cont lead locals (m ∷ rest) output fuel n w p d valid =
      lead _ (two_set n m rest w) (after_read names input k p) _ (with_read I names input k n w p locals m rest output fuel d) valid.1

  -- one of two paths, by a guard
  branch_right : (b : Bool) (t : Term) (a o : Onward) (ra ro cont : Store → Run) → Leads a (λ s. next (ra s) cont) → Leads o (λ s. next (ro s) cont) → (n : ℕ) (w : Valuation) (q : Path) (s : Store) → Stands I n w t (Truth b) → Describes I n w q s → AreValid (a (with_hyps (t ∷ []) q) ++ o (with_hyps (negated t ∷ []) q)) → IsRight c (next (if b then ra s else ro s) cont)
  branch_right true t a o ra ro cont la lo n w q s h d valid =
      let v = both_valid (a (with_hyps (t ∷ []) q)) (o (with_hyps (negated t ∷ []) q)) valid in
      la n w (with_hyps (t ∷ []) q) s (with_more I n w q s (t ∷ []) d (λ u l. ap (λ x. truth x && true) (h u l))) v.0
  branch_right false t a o ra ro cont la lo n w q s h d valid =
      let v = both_valid (a (with_hyps (t ∷ []) q)) (o (with_hyps (negated t ∷ []) q)) valid in
      lo n w (with_hyps (negated t ∷ []) q) s (with_more I n w q s (negated t ∷ []) d (λ u l. ap (λ x. truth x && true) (negated_value I u t false (h u l)))) v.1

  if_right : (g : Guard) (a o : Onward) (ra ro cont : Store → Run) → Leads a (λ s. next (ra s) cont) → Leads o (λ s. next (ro s) cont) → Leads (λ p. guard g (λ t q. a (with_hyps (t ∷ []) q) ++ o (with_hyps (negated t ∷ []) q)) p) (λ s. next (given s (run_value s (linked_guard g)) (λ v. if scalar_truth v then ra s else ro s)) cont)
  if_right g a o ra ro cont la lo n w p s d valid =
      let r = guard_decides I g (λ t q. a (with_hyps (t ∷ []) q) ++ o (with_hyps (negated t ∷ []) q)) n w p s d valid in
      let P : Found → Type 0 = λ f. IsRight c (next (given s f (λ v. if scalar_truth v then ra s else ro s)) cont) in
      subst P (sym r.is) (branch_right r.result r.term a o ra ro cont la lo n w r.point s r.stands r.describes r.valid)

  -- A statement leads from the conditions before it to what comes after it.
  abbrev pub Does : Stmt → Type 0
  Does x = (go : Onward) (cont : Store → Run) → Leads go cont → Leads (stmt names input x go) (λ s. next (run_one (linked_stmt x) s) cont)

  abbrev pub bare : List ((x : Stmt) × Does x) → List Stmt
  bare ys = map (λ e. e.0) ys

  -- statements one after another
  all_do : (ys : List ((x : Stmt) × Does x)) (go : Onward) (cont : Store → Run) → Leads go cont → Leads (in_order (map (stmt names input) (bare ys)) go) (λ s. next (runs_in_order (map run_one (map linked_stmt (bare ys))) s) cont)
  all_do [] go cont lead n w p s d valid = lead n w p s d valid
  all_do (y ∷ ys) go cont lead n w p s d valid =
      let rest = runs_in_order (map run_one (map linked_stmt (bare ys))) in
      subst (IsRight c) (sym (next_next (run_one (linked_stmt y.0) s) rest cont))
      (y.1 (in_order (map (stmt names input) (bare ys)) go) (λ u. next (rest u) cont) (all_do ys go cont lead) n w p s d valid)

  abbrev LayerDoes : Stmt-F Stmt → Type 0
  LayerDoes x = (go : Onward) (cont : Store → Run) → Leads go cont → Leads (stmt_step names input (map-Stmt Stmt (Onward → Onward) (stmt names input) x) go) (λ s. next (run_one (linked_stmt_step (map-Stmt Stmt LStmt linked_stmt x)) s) cont)

  rolled : (x : Stmt-F Stmt) → LayerDoes x → Does (roll-Stmt x)
  rolled x h go cont lead n w p s d valid =
      let items = ap (λ (f : Onward → Onward). f go p) (fold-roll-Stmt (Onward → Onward) (stmt_step names input) x) in
      let L : LStmt → Type 0 = λ l. IsRight c (next (run_one l s) cont) in
      subst L (sym (fold-roll-Stmt LStmt linked_stmt_step x)) (h go cont lead n w p s d (subst AreValid items valid))

  -- a statement's run, from what it does after it is paid
  once_paid : (z : LStmt-F LStmt) (go : Onward) (cont : Store → Run) → Leads go (λ s. next (does (map-LStmt LStmt (Store → Run) run_one z) s) cont) → Leads go (λ s. next (run_one (roll-LStmt z) s) cont)
  once_paid z go cont h n w p s d valid =
      let P : Run → Type 0 = λ r. IsRight c (next r cont) in
      subst P (sym (ap (λ (f : Store → Run). f s) (fold-roll-LStmt (Store → Run) run_step z)))
      (paid_right s s.fuel (does (map-LStmt LStmt (Store → Run) run_one z)) cont (λ f. h n w p (record s { fuel = f }) (with_fuel I n w p s f d) valid))

  layer : (y : Stmt-F ((x : Stmt) × Does x)) → LayerDoes (map-Stmt ((x : Stmt) × Does x) Stmt (λ e. e.0) y)
  layer (Stmt-F.Read at k) go cont lead =
      once_paid (LStmt-F.LRead (Local k)) (stmt_step names input (Stmt-F.Read at k) go) cont
      (λ n w p s d valid. read_right at k go cont lead s.locals s.input s.output s.fuel n w p d valid)
  layer (Stmt-F.Write e) go cont lead =
      once_paid (LStmt-F.LWrite (linked_expr e)) (stmt_step names input (Stmt-F.Write e) go) cont (write_right e go cont lead)
  layer (Stmt-F.Assign k e) go cont lead =
      once_paid (LStmt-F.LSet (Local k) (linked_expr e)) (stmt_step names input (Stmt-F.Assign k e) go) cont (assign_right k e go cont lead)
  layer (Stmt-F.If g a b) go cont lead =
      let path = in_order (map (stmt names input) (bare a)) go in
      let other = in_order (map (stmt names input) (bare b)) go in
      once_paid (LStmt-F.LIf (linked_guard g) (map linked_stmt (bare a)) (map linked_stmt (bare b))) (λ p. guard g (λ t q. path (with_hyps (t ∷ []) q) ++ other (with_hyps (negated t ∷ []) q)) p) cont
      (if_right g path other (runs_in_order (map run_one (map linked_stmt (bare a)))) (runs_in_order (map run_one (map linked_stmt (bare b)))) cont (all_do a go cont lead) (all_do b go cont lead))

  stmt_does : (x : Stmt) → Does x
  stmt_does = ind-Stmt Does (λ x y is. subst (λ z. Does (roll-Stmt z)) is (rolled (map-Stmt ((x : Stmt) × Does x) Stmt (λ e. e.0) y) (layer y)))

  each : (xs : List Stmt) → bare (map (λ x. (x, stmt_does x)) xs) ≡ xs
  each [] = refl
  each (x ∷ xs) = ap (λ l. x ∷ l) (each xs)

  pub body_does : (xs : List Stmt) (go : Onward) (cont : Store → Run) → Leads go cont → Leads (stmts names input xs go) (λ s. next (runs_in_order (map run_one (map linked_stmt xs)) s) cont)
  body_does xs go cont lead =
      let P : List Stmt → Type 0 = λ l. Leads (in_order (map (stmt names input) l) go) (λ s. next (runs_in_order (map run_one (map linked_stmt l)) s) cont) in
      subst P (each xs) (all_do (map (λ x. (x, stmt_does x)) xs) go cont lead)
