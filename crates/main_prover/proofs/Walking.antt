-- The conditions of a walk, from what it makes.
use Rattle.std.proofs.Common.{◌≡◌, ◌∙◌, sym, ap, refl, subst, ℕ, pos, List, [], ◌∷◌, ◌++◌, map, append_assoc}
use Rattle.math_terms.specs.declared.term.Term.{Term}
use Rattle.vc_sequents.specs.declared.sequent.VcKind.TheVariants as kind
use Rattle.main_form.specs.declared.module.Expr.{Expr}
use Rattle.main_form.specs.declared.module.Expr.TheOpen.{Expr-F}
use Rattle.main_form.specs.declared.module.Expr.TheViews.{roll-Expr}
use Rattle.main_form.specs.declared.module.Expr.TheFolds.{map-Expr, fold-roll-Expr, ind-Expr}
use Rattle.main_form.specs.declared.module.Guard.{Guard}
use Rattle.main_form.specs.declared.module.Guard.TheOpen.{Guard-F}
use Rattle.main_form.specs.declared.module.Guard.TheViews.{roll-Guard}
use Rattle.main_form.specs.declared.module.Guard.TheFolds.{map-Guard, fold-roll-Guard, ind-Guard}
use Rattle.main_vcs.specs.Terms.{num, add, sub, both, either, negated, in_bounds}
use Rattle.main_vcs.specs.Walk.{Path, Condition, Item, Check, End, Items, WithTerm, in_range, expr_step, expr, compared, guard_step, guard, conditions}
use Rattle.main_prover.specs.working.Making.{Made, made, condition_at, sum_made, then_made, expr_made_step, expr_made, guard_made_step, guard_made}

pub conditions_append : (xs ys : Items) → conditions (xs ++ ys) ≡ conditions xs ++ conditions ys
conditions_append [] ys = refl
conditions_append (Check c ∷ xs) ys = ap (λ cs. c ∷ cs) (conditions_append xs ys)
conditions_append (End ∷ xs) ys = conditions_append xs ys

-- The items of a walk are what is made and then what goes on.
abbrev pub Makes : ((WithTerm → Path → Items)) → (Path → Made) → Type 0
Makes f g = (go : WithTerm) (p : Path) → conditions (f go p) ≡ (g p).conditions ++ conditions (go (g p).term (g p).point)

-- a term of one part
one_part : (f : WithTerm → Path → Items) (g : Path → Made) (h : Term → Term) → Makes f g → Makes (λ go p. f (λ t q. go (h t) q) p) (λ p. made (g p).conditions (h (g p).term) (g p).point)
one_part f g h makes go p = makes (λ t q. go (h t) q) p

-- a term of two parts
two_parts : (f k : WithTerm → Path → Items) (g l : Path → Made) (h : Term → Term → Term) → Makes f g → Makes k l → Makes (λ go p. f (λ t q. k (λ u r. go (h t u) r) q) p) (λ p. made (then_made (g p) (l (g p).point)) (h (g p).term (l (g p).point).term) (l (g p).point).point)
two_parts f k g l h first second go p =
    let x = g p in
    let y = l x.point in
    first (λ t q. k (λ u r. go (h t u) r) q) p
    ∙ ap (λ cs. x.conditions ++ cs) (second (λ u r. go (h x.term u) r) x.point)
    ∙ sym (append_assoc x.conditions y.conditions (conditions (go (h x.term y.term) y.point)))

-- a sum
abbrev pub sum_of : (WithTerm → Path → Items) → ℕ → WithTerm → Path → Items
sum_of f at go p = f (λ t q. in_range at t go q) p

summed : (f : WithTerm → Path → Items) (g : Path → Made) (at : ℕ) → Makes f g → Makes (sum_of f at) (λ p. sum_made at (g p).conditions (g p).term (g p).point)
summed f g at makes go p =
    let x = g p in
    makes (λ t q. in_range at t go q) p
    ∙ sym (append_assoc x.conditions (condition_at kind.Range at x.point (in_bounds x.term) ∷ []) (conditions (go x.term x.point)))

abbrev LayerMakes : Expr-F Expr → Type 0
LayerMakes x = Makes (expr_step (map-Expr Expr (WithTerm → Path → Items) expr x)) (expr_made_step (map-Expr Expr (Path → Made) expr_made x))

rolled : (x : Expr-F Expr) → LayerMakes x → Makes (expr (roll-Expr x)) (expr_made (roll-Expr x))
rolled x h =
    let items = fold-roll-Expr (WithTerm → Path → Items) expr_step x in
    let pieces = fold-roll-Expr (Path → Made) expr_made_step x in
    let P : (WithTerm → Path → Items) → Type 0 = λ f. Makes f (expr_made (roll-Expr x)) in
    let Q : (Path → Made) → Type 0 = λ g. Makes (expr_step (map-Expr Expr (WithTerm → Path → Items) expr x)) g in
    subst P (sym items) (subst Q (sym pieces) h)

abbrev MakesExpr : Expr → Type 0
MakesExpr e = Makes (expr e) (expr_made e)

layer : (y : Expr-F ((e : Expr) × MakesExpr e)) → LayerMakes (map-Expr ((e : Expr) × MakesExpr e) Expr (λ e. e.0) y)
layer (Expr-F.Number l) = λ go p. refl
layer (Expr-F.Variable k) = λ go p. refl
layer Expr-F.Remaining = λ go p. refl
layer (Expr-F.Minus at a) = summed (λ go p. expr a.0 (λ t q. go (sub (num (pos 0)) t) q) p) (λ p. made (expr_made a.0 p).conditions (sub (num (pos 0)) (expr_made a.0 p).term) (expr_made a.0 p).point) at (one_part (expr a.0) (expr_made a.0) (sub (num (pos 0))) a.1)
layer (Expr-F.Add at a b) = summed (λ go p. expr a.0 (λ t q. expr b.0 (λ u r. go (add t u) r) q) p) _ at (two_parts (expr a.0) (expr b.0) (expr_made a.0) (expr_made b.0) add a.1 b.1)
layer (Expr-F.Sub at a b) = summed (λ go p. expr a.0 (λ t q. expr b.0 (λ u r. go (sub t u) r) q) p) _ at (two_parts (expr a.0) (expr b.0) (expr_made a.0) (expr_made b.0) sub a.1 b.1)

pub expr_makes : (e : Expr) → MakesExpr e
expr_makes = ind-Expr MakesExpr (λ x y is. subst (λ z. MakesExpr (roll-Expr z)) is (rolled (map-Expr ((e : Expr) × MakesExpr e) Expr (λ e. e.0) y) (layer y)))

abbrev MakesGuard : Guard → Type 0
MakesGuard g = Makes (guard g) (guard_made g)

abbrev LayerMakesGuard : Guard-F Guard → Type 0
LayerMakesGuard x = Makes (guard_step (map-Guard Guard (WithTerm → Path → Items) guard x)) (guard_made_step (map-Guard Guard (Path → Made) guard_made x))

guard_rolled : (x : Guard-F Guard) → LayerMakesGuard x → MakesGuard (roll-Guard x)
guard_rolled x h =
    let items = fold-roll-Guard (WithTerm → Path → Items) guard_step x in
    let pieces = fold-roll-Guard (Path → Made) guard_made_step x in
    let P : (WithTerm → Path → Items) → Type 0 = λ f. Makes f (guard_made (roll-Guard x)) in
    let Q : (Path → Made) → Type 0 = λ g. Makes (guard_step (map-Guard Guard (WithTerm → Path → Items) guard x)) g in
    subst P (sym items) (subst Q (sym pieces) h)

guard_layer : (y : Guard-F ((g : Guard) × MakesGuard g)) → LayerMakesGuard (map-Guard ((g : Guard) × MakesGuard g) Guard (λ e. e.0) y)
guard_layer (Guard-F.Compare c a b) = two_parts (expr a) (expr b) (expr_made a) (expr_made b) (compared c) (expr_makes a) (expr_makes b)
guard_layer (Guard-F.Not g) = one_part (guard g.0) (guard_made g.0) negated g.1
guard_layer (Guard-F.And g h) = two_parts (guard g.0) (guard h.0) (guard_made g.0) (guard_made h.0) both g.1 h.1
guard_layer (Guard-F.Or g h) = two_parts (guard g.0) (guard h.0) (guard_made g.0) (guard_made h.0) either g.1 h.1

pub guard_makes : (g : Guard) → MakesGuard g
guard_makes = ind-Guard MakesGuard (λ x y is. subst (λ z. MakesGuard (roll-Guard z)) is (guard_rolled (map-Guard ((g : Guard) × MakesGuard g) Guard (λ e. e.0) y) (guard_layer y)))
