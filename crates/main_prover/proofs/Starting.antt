-- That the output is the empty string at first is among the hypotheses of each condition of a walk.
use Rattle.std.proofs.Common.{◌≡◌, sym, refl, subst, ℕ, Bool, true, List, [], ◌∷◌, ◌++◌, map, Some, None}
use Rattle.std.specs.Prelude.{IsTrue}
use Rattle.std.specs.List.{AllByRecursion, list_all}
use Rattle.std.proofs.lemmas.Bool.{and_parts, and_from}
use Rattle.math_terms.specs.declared.term.Term.{Term}
use Rattle.math_terms.specs.Meaning.{Valuation}
use Rattle.math_terms.specs.Descriptors.{Interpretation, holds}
use Rattle.main_form.specs.declared.module.Expr.{Expr}
use Rattle.main_form.specs.declared.module.Expr.TheOpen.{Expr-F}
use Rattle.main_form.specs.declared.module.Expr.TheViews.{roll-Expr}
use Rattle.main_form.specs.declared.module.Expr.TheFolds.{map-Expr, fold-roll-Expr, ind-Expr}
use Rattle.main_form.specs.declared.module.Guard.{Guard}
use Rattle.main_form.specs.declared.module.Guard.TheOpen.{Guard-F}
use Rattle.main_form.specs.declared.module.Guard.TheViews.{roll-Guard}
use Rattle.main_form.specs.declared.module.Guard.TheFolds.{map-Guard, fold-roll-Guard, ind-Guard}
use Rattle.main_form.specs.declared.module.Stmt.{Stmt}
use Rattle.main_form.specs.declared.module.Stmt.TheOpen.{Stmt-F}
use Rattle.main_form.specs.declared.module.Stmt.TheViews.{roll-Stmt}
use Rattle.main_form.specs.declared.module.Stmt.TheFolds.{map-Stmt, fold-roll-Stmt, ind-Stmt}
use Rattle.main_form.specs.declared.module.Claim.{Claim}
use Rattle.main_form.specs.declared.module.Module.{Module}
use Rattle.main_vcs.specs.Terms.{var, empty_string, equal, negated}
use Rattle.main_vcs.specs.Walk.{Path, Check, End, Items, WithTerm, Onward, with_hyps, expr_step, expr, guard_step, guard, in_order, stmt_step, stmt, stmts, at_end, begins, items_of, conditions, conditions_of}

-- Where these hypotheses are true, the output is the empty string at first.
abbrev pub Starts : List Term → Type 0
Starts hyps = (I : Interpretation) (w : Valuation) → IsTrue (list_all (holds I w) hyps) → IsTrue (holds I w (equal (var 2) empty_string))

all_before : (p : Term → Bool) (fs gs : List Term) → list_all p (fs ++ gs) ≡ true → list_all p fs ≡ true
all_before p [] gs h = refl
all_before p (f ∷ fs) gs h =
    let r = and_parts (p f) (list_all p (fs ++ gs)) h in and_from (p f) (list_all p fs) r.0 (all_before p fs gs r.1)

-- more hypotheses change nothing
more : (fs gs : List Term) → Starts fs → Starts (fs ++ gs)
more fs gs s I w h = s I w (all_before (holds I w) fs gs h)

abbrev pub Start : Items → Type 0
Start [] = Unit {0}
Start (Check c ∷ xs) = Starts c.hyps × Start xs
Start (End ∷ xs) = Start xs

both_start : (xs ys : Items) → Start xs → Start ys → Start (xs ++ ys)
both_start [] ys h k = k
both_start (Check c ∷ xs) ys h k = (h.0, both_start xs ys h.1 k)
both_start (End ∷ xs) ys h k = both_start xs ys h k

-- what goes on well from points with the hypothesis, with a term and without
abbrev pub GoesWell : WithTerm → Type 0
GoesWell go = (t : Term) (p : Path) → Starts p.hyps → Start (go t p)

abbrev pub GoesOnWell : Onward → Type 0
GoesOnWell go = (p : Path) → Starts p.hyps → Start (go p)

abbrev Keeps : (WithTerm → Path → Items) → Type 0
Keeps f = (go : WithTerm) → GoesWell go → GoesOnWell (f go)

abbrev KeepsExpr : Expr → Type 0
KeepsExpr e = Keeps (expr e)

layer : (y : Expr-F ((e : Expr) × KeepsExpr e)) → Keeps (expr_step (map-Expr Expr (WithTerm → Path → Items) expr (map-Expr ((e : Expr) × KeepsExpr e) Expr (λ e. e.0) y)))
layer (Expr-F.Number l) go well p s = well _ p s
layer (Expr-F.Variable k) go well p s = well _ p s
layer Expr-F.Remaining go well p s = well _ _ (more p.hyps _ s)
layer (Expr-F.Minus at a) go well p s = a.1 _ (λ t q h. (h, well _ q h)) p s
layer (Expr-F.Add at a b) go well p s = a.1 _ (λ t q h. b.1 _ (λ u r k. (k, well _ r k)) q h) p s
layer (Expr-F.Sub at a b) go well p s = a.1 _ (λ t q h. b.1 _ (λ u r k. (k, well _ r k)) q h) p s

rolled : (x : Expr-F Expr) → Keeps (expr_step (map-Expr Expr (WithTerm → Path → Items) expr x)) → KeepsExpr (roll-Expr x)
rolled x h = subst Keeps (sym (fold-roll-Expr (WithTerm → Path → Items) expr_step x)) h

expr_keeps : (e : Expr) → KeepsExpr e
expr_keeps = ind-Expr KeepsExpr (λ x y is. subst (λ z. KeepsExpr (roll-Expr z)) is (rolled (map-Expr ((e : Expr) × KeepsExpr e) Expr (λ e. e.0) y) (layer y)))

abbrev KeepsGuard : Guard → Type 0
KeepsGuard g = Keeps (guard g)

guard_layer : (y : Guard-F ((g : Guard) × KeepsGuard g)) → Keeps (guard_step (map-Guard Guard (WithTerm → Path → Items) guard (map-Guard ((g : Guard) × KeepsGuard g) Guard (λ e. e.0) y)))
guard_layer (Guard-F.Compare c a b) go well p s = expr_keeps a _ (λ t q h. expr_keeps b _ (λ u r k. well _ r k) q h) p s
guard_layer (Guard-F.Not g) go well p s = g.1 _ (λ t q h. well _ q h) p s
guard_layer (Guard-F.And g h) go well p s = g.1 _ (λ t q k. h.1 _ (λ u r l. well _ r l) q k) p s
guard_layer (Guard-F.Or g h) go well p s = g.1 _ (λ t q k. h.1 _ (λ u r l. well _ r l) q k) p s

guard_rolled : (x : Guard-F Guard) → Keeps (guard_step (map-Guard Guard (WithTerm → Path → Items) guard x)) → KeepsGuard (roll-Guard x)
guard_rolled x h = subst Keeps (sym (fold-roll-Guard (WithTerm → Path → Items) guard_step x)) h

guard_keeps : (g : Guard) → KeepsGuard g
guard_keeps = ind-Guard KeepsGuard (λ x y is. subst (λ z. KeepsGuard (roll-Guard z)) is (guard_rolled (map-Guard ((g : Guard) × KeepsGuard g) Guard (λ e. e.0) y) (guard_layer y)))

abbrev KeepsOn : (Onward → Onward) → Type 0
KeepsOn f = (go : Onward) → GoesOnWell go → GoesOnWell (f go)

module _ (names : List (List ℕ)) (input : List ℕ) where
  abbrev KeepsStmt : Stmt → Type 0
  KeepsStmt x = KeepsOn (stmt names input x)

  abbrev bare : List ((x : Stmt) × KeepsStmt x) → List Stmt
  bare ys = map (λ e. e.0) ys

  -- statements one after another
  abbrev after : List ((x : Stmt) × KeepsStmt x) → Onward → Onward
  after ys = in_order (map (stmt names input) (bare ys))

  all_keep : (ys : List ((x : Stmt) × KeepsStmt x)) → KeepsOn (after ys)
  all_keep [] go well p s = well p s
  all_keep (y ∷ ys) go well p s = y.1 (after ys go) (all_keep ys go well) p s

  -- the two paths of an If
  two_keep : (a b : Onward) → GoesOnWell a → GoesOnWell b → GoesWell (λ t q. a (with_hyps (t ∷ []) q) ++ b (with_hyps (negated t ∷ []) q))
  two_keep a b wa wb t q s =
      both_start (a (with_hyps (t ∷ []) q)) (b (with_hyps (negated t ∷ []) q)) (wa (with_hyps (t ∷ []) q) (more q.hyps (t ∷ []) s)) (wb (with_hyps (negated t ∷ []) q) (more q.hyps (negated t ∷ []) s))

  stmt_layer : (y : Stmt-F ((x : Stmt) × KeepsStmt x)) → KeepsOn (stmt_step names input (map-Stmt Stmt (Onward → Onward) (stmt names input) (map-Stmt ((x : Stmt) × KeepsStmt x) Stmt (λ e. e.0) y)))
  stmt_layer (Stmt-F.Read at k) go well p s = (s, well _ (more p.hyps _ s))
  stmt_layer (Stmt-F.Write e) go well p s = expr_keeps e _ (λ t q h. well _ h) p s
  stmt_layer (Stmt-F.Assign k e) go well p s = expr_keeps e _ (λ t q h. well _ h) p s
  stmt_layer (Stmt-F.If g a b) go well p s =
      guard_keeps g _ (two_keep (after a go) (after b go) (all_keep a go well) (all_keep b go well)) p s

  stmt_rolled : (x : Stmt-F Stmt) → KeepsOn (stmt_step names input (map-Stmt Stmt (Onward → Onward) (stmt names input) x)) → KeepsStmt (roll-Stmt x)
  stmt_rolled x h = subst KeepsOn (sym (fold-roll-Stmt (Onward → Onward) (stmt_step names input) x)) h

  stmt_keeps : (x : Stmt) → KeepsStmt x
  stmt_keeps = ind-Stmt KeepsStmt (λ x y is. subst (λ z. KeepsStmt (roll-Stmt z)) is (stmt_rolled (map-Stmt ((x : Stmt) × KeepsStmt x) Stmt (λ e. e.0) y) (stmt_layer y)))

  body_keeps : (xs : List Stmt) → KeepsOn (stmts names input xs)
  body_keeps [] go well p s = well p s
  body_keeps (x ∷ xs) go well p s = stmt_keeps x (stmts names input xs go) (body_keeps xs go well) p s

each_starts : (xs : Items) → Start xs → AllByRecursion (λ c. Starts c.hyps) (conditions xs)
each_starts [] h = tt
each_starts (Check c ∷ xs) h = (h.0, each_starts xs h.1)
each_starts (End ∷ xs) h = each_starts xs h

begins_there : (m : Module) → Starts (begins m).hyps
begins_there m I w h = (and_parts _ _ (and_parts _ _ (and_parts _ _ h).1).1).0

end_starts : (c : Claim) (at : ℕ) → GoesOnWell (at_end c at)
end_starts c at p s = (s, tt)

pub conditions_start : (m : Module) → AllByRecursion (λ c. Starts c.hyps) (conditions_of m)
conditions_start m = each_starts (items_of m) (body_keeps m.variables m.input m.body (at_end m.claim m.end_at) (end_starts m.claim m.end_at) (begins m) (begins_there m))
