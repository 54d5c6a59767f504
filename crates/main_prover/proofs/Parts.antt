-- What is made of expressions and guards, by their forms.
use Rattle.std.proofs.Common.{◌≡◌, ◌∙◌, sym, ap, refl, ℕ, ℤ, pos, List, [], ◌∷◌, ◌++◌, append_assoc}
use Rattle.std.specs.Prelude.{slice_index_or}
use Rattle.math_terms.specs.declared.term.Term.{Term}
use Rattle.vc_sequents.specs.declared.sequent.VcKind.TheVariants as kind
use Rattle.main_form.specs.declared.module.Comparison.{Comparison}
use Rattle.main_form.specs.declared.module.Expr.{Expr}
use Rattle.main_form.specs.declared.module.Expr.TheVariants as ex
use Rattle.main_form.specs.declared.module.Expr.TheOpen.{Expr-F}
use Rattle.main_form.specs.declared.module.Expr.TheViews.{roll-Expr}
use Rattle.main_form.specs.declared.module.Expr.TheFolds.{fold-roll-Expr, map-Expr}
use Rattle.main_form.specs.declared.module.Guard.{Guard}
use Rattle.main_form.specs.declared.module.Guard.TheVariants as gd
use Rattle.main_form.specs.declared.module.Guard.TheOpen.{Guard-F}
use Rattle.main_form.specs.declared.module.Guard.TheViews.{roll-Guard}
use Rattle.main_form.specs.declared.module.Guard.TheFolds.{fold-roll-Guard, map-Guard}
use Rattle.main_vcs.specs.Terms.{num, len, add, sub, both, either, negated, bounds, in_bounds}
use Rattle.main_vcs.specs.Walk.{Path, Condition, with_hyps, compared}
use Rattle.main_prover.specs.working.Making.{Made, made, condition_at, sum_made, expr_made_step, expr_made, guard_made_step, guard_made}

expr_rolled : (e : Expr) (x : Expr-F Expr) (p : Path) → e ≡ roll-Expr x → expr_made e p ≡ expr_made_step (map-Expr Expr (Path → Made) expr_made x) p
expr_rolled e x p is = ap (λ d. expr_made d p) is ∙ ap (λ (f : Path → Made). f p) (fold-roll-Expr (Path → Made) expr_made_step x)

guard_rolled : (g : Guard) (x : Guard-F Guard) (p : Path) → g ≡ roll-Guard x → guard_made g p ≡ guard_made_step (map-Guard Guard (Path → Made) guard_made x) p
guard_rolled g x p is = ap (λ d. guard_made d p) is ∙ ap (λ (f : Path → Made). f p) (fold-roll-Guard (Path → Made) guard_made_step x)

module _ (p : Path) where
  pub made_number : (e : Expr) (n : ℤ) → e ≡ ex.Number n → expr_made e p ≡ made [] (num n) p
  made_number e n is = expr_rolled e (Expr-F.Number n) p (is ∙ sym (ex.rolls-Number n))

  pub made_variable : (e : Expr) (k : ℕ) → e ≡ ex.Variable k → expr_made e p ≡ made [] (slice_index_or p.terms k (num (pos 0))) p
  made_variable e k is = expr_rolled e (Expr-F.Variable k) p (is ∙ sym (ex.rolls-Variable k))

  pub made_remaining : (e : Expr) → e ≡ ex.Remaining → expr_made e p ≡ made [] (len p.input) (with_hyps (bounds (len p.input)) p)
  made_remaining e is = expr_rolled e Expr-F.Remaining p (is ∙ sym ex.rolls-Remaining)

  pub made_minus : (e a : Expr) (at : ℕ) → e ≡ ex.Minus at a → let x = expr_made a p in expr_made e p ≡ sum_made at x.conditions (sub (num (pos 0)) x.term) x.point
  made_minus e a at is = expr_rolled e (Expr-F.Minus at a) p (is ∙ sym (ex.rolls-Minus at a))

  made_add_all : (e a b : Expr) (at : ℕ) → e ≡ ex.Add at a b → let x = expr_made a p in let y = expr_made b x.point in expr_made e p ≡ sum_made at (x.conditions ++ y.conditions) (add x.term y.term) y.point
  made_add_all e a b at is = expr_rolled e (Expr-F.Add at a b) p (is ∙ sym (ex.rolls-Add at a b))

  made_sub_all : (e a b : Expr) (at : ℕ) → e ≡ ex.Sub at a b → let x = expr_made a p in let y = expr_made b x.point in expr_made e p ≡ sum_made at (x.conditions ++ y.conditions) (sub x.term y.term) y.point
  made_sub_all e a b at is = expr_rolled e (Expr-F.Sub at a b) p (is ∙ sym (ex.rolls-Sub at a b))

  -- the conditions begin with those of the first part
  abbrev pub Begins : Made → List Condition → Type 0
  Begins z cs = (rest : List Condition) × (z.conditions ≡ cs ++ rest)

  pub add_begins : (e a b : Expr) (at : ℕ) → e ≡ ex.Add at a b → Begins (expr_made e p) (expr_made a p).conditions
  add_begins e a b at is =
      let x = expr_made a p in
      let y = expr_made b x.point in (
        y.conditions ++ condition_at kind.Range at y.point (in_bounds (add x.term y.term)) ∷ [],
        ap (λ z. z.conditions) (made_add_all e a b at is) ∙ append_assoc x.conditions y.conditions (condition_at kind.Range at y.point (in_bounds (add x.term y.term)) ∷ []),
      )

  pub sub_begins : (e a b : Expr) (at : ℕ) → e ≡ ex.Sub at a b → Begins (expr_made e p) (expr_made a p).conditions
  sub_begins e a b at is =
      let x = expr_made a p in
      let y = expr_made b x.point in (
        y.conditions ++ condition_at kind.Range at y.point (in_bounds (sub x.term y.term)) ∷ [],
        ap (λ z. z.conditions) (made_sub_all e a b at is) ∙ append_assoc x.conditions y.conditions (condition_at kind.Range at y.point (in_bounds (sub x.term y.term)) ∷ []),
      )

  -- where the first part gave a term and a point
  pub made_add : (e a b : Expr) (at : ℕ) (t : Term) (q : Path) → e ≡ ex.Add at a b → t ≡ (expr_made a p).term → q ≡ (expr_made a p).point → let y = expr_made b q in expr_made e p ≡ sum_made at ((expr_made a p).conditions ++ y.conditions) (add t y.term) y.point
  made_add e a b at t q is et eq =
      let x = expr_made a p in
      made_add_all e a b at is
      ∙ ap (λ u. let y = expr_made b x.point in sum_made at (x.conditions ++ y.conditions) (add u y.term) y.point) (sym et)
      ∙ ap (λ r. let y = expr_made b r in sum_made at (x.conditions ++ y.conditions) (add t y.term) y.point) (sym eq)

  pub made_sub : (e a b : Expr) (at : ℕ) (t : Term) (q : Path) → e ≡ ex.Sub at a b → t ≡ (expr_made a p).term → q ≡ (expr_made a p).point → let y = expr_made b q in expr_made e p ≡ sum_made at ((expr_made a p).conditions ++ y.conditions) (sub t y.term) y.point
  made_sub e a b at t q is et eq =
      let x = expr_made a p in
      made_sub_all e a b at is
      ∙ ap (λ u. let y = expr_made b x.point in sum_made at (x.conditions ++ y.conditions) (sub u y.term) y.point) (sym et)
      ∙ ap (λ r. let y = expr_made b r in sum_made at (x.conditions ++ y.conditions) (sub t y.term) y.point) (sym eq)

  compare_all : (g : Guard) (c : Comparison) (a b : Expr) → g ≡ gd.Compare c a b → let x = expr_made a p in let y = expr_made b x.point in guard_made g p ≡ made (x.conditions ++ y.conditions) (compared c x.term y.term) y.point
  compare_all g c a b is = guard_rolled g (Guard-F.Compare c a b) p (is ∙ sym (gd.rolls-Compare c a b))

  pub compare_begins : (g : Guard) (c : Comparison) (a b : Expr) → g ≡ gd.Compare c a b → Begins (guard_made g p) (expr_made a p).conditions
  compare_begins g c a b is = ((expr_made b (expr_made a p).point).conditions, ap (λ z. z.conditions) (compare_all g c a b is))

  pub made_compare : (g : Guard) (c : Comparison) (a b : Expr) (t : Term) (q : Path) → g ≡ gd.Compare c a b → t ≡ (expr_made a p).term → q ≡ (expr_made a p).point → let y = expr_made b q in guard_made g p ≡ made ((expr_made a p).conditions ++ y.conditions) (compared c t y.term) y.point
  made_compare g c a b t q is et eq =
      let x = expr_made a p in
      compare_all g c a b is
      ∙ ap (λ u. let y = expr_made b x.point in made (x.conditions ++ y.conditions) (compared c u y.term) y.point) (sym et)
      ∙ ap (λ r. let y = expr_made b r in made (x.conditions ++ y.conditions) (compared c t y.term) y.point) (sym eq)

  pub made_not : (g h : Guard) → g ≡ gd.Not h → let x = guard_made h p in guard_made g p ≡ made x.conditions (negated x.term) x.point
  made_not g h is = guard_rolled g (Guard-F.Not h) p (is ∙ sym (gd.rolls-Not h))

  and_all : (z g h : Guard) → z ≡ gd.And g h → let x = guard_made g p in let y = guard_made h x.point in guard_made z p ≡ made (x.conditions ++ y.conditions) (both x.term y.term) y.point
  and_all z g h is = guard_rolled z (Guard-F.And g h) p (is ∙ sym (gd.rolls-And g h))

  or_all : (z g h : Guard) → z ≡ gd.Or g h → let x = guard_made g p in let y = guard_made h x.point in guard_made z p ≡ made (x.conditions ++ y.conditions) (either x.term y.term) y.point
  or_all z g h is = guard_rolled z (Guard-F.Or g h) p (is ∙ sym (gd.rolls-Or g h))

  pub and_begins : (z g h : Guard) → z ≡ gd.And g h → Begins (guard_made z p) (guard_made g p).conditions
  and_begins z g h is = ((guard_made h (guard_made g p).point).conditions, ap (λ y. y.conditions) (and_all z g h is))

  pub or_begins : (z g h : Guard) → z ≡ gd.Or g h → Begins (guard_made z p) (guard_made g p).conditions
  or_begins z g h is = ((guard_made h (guard_made g p).point).conditions, ap (λ y. y.conditions) (or_all z g h is))

  pub made_and : (z g h : Guard) (t : Term) (q : Path) → z ≡ gd.And g h → t ≡ (guard_made g p).term → q ≡ (guard_made g p).point → let y = guard_made h q in guard_made z p ≡ made ((guard_made g p).conditions ++ y.conditions) (both t y.term) y.point
  made_and z g h t q is et eq =
      let x = guard_made g p in
      and_all z g h is
      ∙ ap (λ u. let y = guard_made h x.point in made (x.conditions ++ y.conditions) (both u y.term) y.point) (sym et)
      ∙ ap (λ r. let y = guard_made h r in made (x.conditions ++ y.conditions) (both t y.term) y.point) (sym eq)

  pub made_or : (z g h : Guard) (t : Term) (q : Path) → z ≡ gd.Or g h → t ≡ (guard_made g p).term → q ≡ (guard_made g p).point → let y = guard_made h q in guard_made z p ≡ made ((guard_made g p).conditions ++ y.conditions) (either t y.term) y.point
  made_or z g h t q is et eq =
      let x = guard_made g p in
      or_all z g h is
      ∙ ap (λ u. let y = guard_made h x.point in made (x.conditions ++ y.conditions) (either u y.term) y.point) (sym et)
      ∙ ap (λ r. let y = guard_made h r in made (x.conditions ++ y.conditions) (either t y.term) y.point) (sym eq)
