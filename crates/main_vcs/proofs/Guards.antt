-- Where the conditions of a guard are valid, it is true or false, and its formula is the same.
use Rattle.std.proofs.Common.{◌≡◌, ◌∙◌, sym, ap, refl, subst, ℕ, ℤ, Bool, not, ◌&&◌, ◌||◌}
use Rattle.std.specs.Prelude.{int_lt, int_le}
use Rattle.std.specs.Ordering.{int_eq}
use Rattle.math_terms.specs.declared.term.Term.{Term}
use Rattle.math_terms.specs.Values.{Num, Truth}
use Rattle.math_terms.specs.Meaning.{Valuation}
use Rattle.math_terms.specs.Descriptors.{Interpretation, value}
use Rattle.source_meaning.specs.declared.linked.Scalar.{Scalar}
use Rattle.source_meaning.specs.declared.linked.BinOp.TheVariants as op
use Rattle.source_meaning.specs.declared.linked.LExpr.{LExpr}
use Rattle.source_meaning.specs.declared.linked.LExpr.TheOpen.{LExpr-F}
use Rattle.source_meaning.specs.declared.linked.LExpr.TheViews.{roll-LExpr}
use Rattle.source_meaning.specs.declared.linked.LExpr.TheFolds.{fold-roll-LExpr}
use Rattle.source_meaning.specs.Meaning.{Store, Found, truth, apply, decided, with_value, value_step}
use Rattle.source_meaning.specs.Meaning.{value as run_value}
use Rattle.main_form.specs.declared.module.Expr.{Expr}
use Rattle.main_form.specs.declared.module.Comparison.{Comparison}
use Rattle.main_form.specs.declared.module.Comparison.TheVariants as comparison
use Rattle.main_form.specs.declared.module.Guard.{Guard}
use Rattle.main_form.specs.declared.module.Guard.TheOpen.{Guard-F}
use Rattle.main_form.specs.declared.module.Guard.TheViews.{roll-Guard}
use Rattle.main_form.specs.declared.module.Guard.TheFolds.{map-Guard, fold-roll-Guard, ind-Guard}
use Rattle.main_vcs.specs.Terms.{equal, both, either, negated}
use Rattle.main_vcs.specs.Walk.{Path, Items, WithTerm, expr, compared, guard_step, guard}
use Rattle.main_vcs.specs.Linking.{linked_expr, operator, linked_guard_step, linked_guard}
use Rattle.main_vcs.proofs.TermValues.{equal_value, below_value, at_most_value, both_value, either_value, negated_value}
use Rattle.main_vcs.proofs.Points.{Describes}
use Rattle.main_vcs.proofs.Expressions.{AreValid, Gives, two_value, expr_means}

-- whether two numbers compare so
compares : Comparison → ℤ → ℤ → Bool
compares comparison.Equal m n = int_eq m n
compares comparison.NotEqual m n = not (int_eq m n)
compares comparison.Less m n = int_lt m n
compares comparison.LessEqual m n = int_le m n
compares comparison.Greater m n = int_lt n m
compares comparison.GreaterEqual m n = int_le n m

operator_compares : (c : Comparison) (m n : ℤ) → apply (operator c) (Scalar.Int m) (Scalar.Int n) ≡ decided (compares c m n)
unfolding compares
operator_compares comparison.Equal m n = refl
operator_compares comparison.NotEqual m n = refl
operator_compares comparison.Less m n = refl
operator_compares comparison.LessEqual m n = refl
operator_compares comparison.Greater m n = refl
operator_compares comparison.GreaterEqual m n = refl

module _ (I : Interpretation) where
  formula_compares : (c : Comparison) (u : Valuation) (t r : Term) (m n : ℤ) → value I u t ≡ Num m → value I u r ≡ Num n → value I u (compared c t r) ≡ Truth (compares c m n)
  unfolding compares
  formula_compares comparison.Equal u t r m n p q = equal_value I u t r (Num m) (Num n) p q
  formula_compares comparison.NotEqual u t r m n p q = negated_value I u (equal t r) (int_eq m n) (equal_value I u t r (Num m) (Num n) p q)
  formula_compares comparison.Less u t r m n p q = below_value I u t r m n p q
  formula_compares comparison.LessEqual u t r m n p q = at_most_value I u t r m n p q
  formula_compares comparison.Greater u t r m n p q = below_value I u r t n m q p
  formula_compares comparison.GreaterEqual u t r m n p q = at_most_value I u r t n m q p

  abbrev pub GivesTruth : Found → WithTerm → ℕ → Valuation → Store → Type 0
  GivesTruth r go n w s = Gives I Bool Scalar.Bool Truth r go n w s

  compare_gives : (c : Comparison) (a b : Expr) (go : WithTerm) (n : ℕ) (w : Valuation) (p : Path) (s : Store) → Describes I n w p s → AreValid (expr a (λ t q. expr b (λ u r. go (compared c t u) r) q) p) → GivesTruth (run_value s (linked_guard_step (Guard-F.Compare c a b))) go n w s
  compare_gives c a b go n w p s d valid =
      let g = expr_means I a (λ t q. expr b (λ u r. go (compared c t u) r) q) n w p s d valid in
      let h = expr_means I b (λ u r. go (compared c g.term u) r) n w g.point s g.describes g.valid in
      record {
        result = compares c g.result h.result;
        is = two_value s (operator c) (linked_expr a) (linked_expr b) (Scalar.Int g.result) (Scalar.Int h.result) (Scalar.Bool (compares c g.result h.result)) g.is h.is (operator_compares c g.result h.result);
        term = compared c g.term h.term;
        point = h.point;
        stands = λ u a. formula_compares c u g.term h.term g.result h.result (g.stands u a) (h.stands u a);
        describes = h.describes;
        valid = h.valid;
      }

  not_gives : (a : LExpr) (go : WithTerm) (n : ℕ) (w : Valuation) (s : Store) → GivesTruth (run_value s a) (λ t q. go (negated t) q) n w s → GivesTruth (run_value s (roll-LExpr (LExpr-F.Not a))) go n w s
  not_gives a go n w s g = record {
    result = not g.result;
    is = fold-roll-LExpr Found (value_step s) (LExpr-F.Not a) ∙ ap (λ (f : Found). with_value f (λ v. decided (not (truth v)))) g.is;
    term = negated g.term;
    point = g.point;
    stands = λ u l. negated_value I u g.term g.result (g.stands u l);
    describes = g.describes;
    valid = g.valid;
  }

  abbrev pub Decides : Guard → Type 0
  Decides g = (go : WithTerm) (n : ℕ) (w : Valuation) (p : Path) (s : Store) → Describes I n w p s → AreValid (guard g go p) → GivesTruth (run_value s (linked_guard g)) go n w s

  abbrev LayerDecides : Guard-F Guard → Type 0
  LayerDecides x = (go : WithTerm) (n : ℕ) (w : Valuation) (p : Path) (s : Store) → Describes I n w p s → AreValid (guard_step (map-Guard Guard (WithTerm → Path → Items) guard x) go p) → GivesTruth (run_value s (linked_guard_step (map-Guard Guard LExpr linked_guard x))) go n w s

  rolled : (x : Guard-F Guard) → LayerDecides x → Decides (roll-Guard x)
  rolled x h go n w p s d valid =
      let items = ap (λ (f : WithTerm → Path → Items). f go p) (fold-roll-Guard (WithTerm → Path → Items) guard_step x) in
      let L : LExpr → Type 0 = λ l. GivesTruth (run_value s l) go n w s in
      subst L (sym (fold-roll-Guard LExpr linked_guard_step x)) (h go n w p s d (subst AreValid items valid))

  layer : (y : Guard-F ((g : Guard) × Decides g)) → LayerDecides (map-Guard ((g : Guard) × Decides g) Guard (λ e. e.0) y)
  layer (Guard-F.Compare c a b) go n w p s d valid = compare_gives c a b go n w p s d valid
  layer (Guard-F.Not a) go n w p s d valid = not_gives (linked_guard a.0) go n w s (a.1 (λ t q. go (negated t) q) n w p s d valid)
  layer (Guard-F.And a b) go n w p s d valid =
      let g = a.1 (λ t q. guard b.0 (λ u r. go (both t u) r) q) n w p s d valid in
      let h = b.1 (λ u r. go (both g.term u) r) n w g.point s g.describes g.valid in
      record {
        result = g.result && h.result;
        is = two_value s op.And (linked_guard a.0) (linked_guard b.0) (Scalar.Bool g.result) (Scalar.Bool h.result) (Scalar.Bool (g.result && h.result)) g.is h.is refl;
        term = both g.term h.term;
        point = h.point;
        stands = λ u l. both_value I u g.term h.term g.result h.result (g.stands u l) (h.stands u l);
        describes = h.describes;
        valid = h.valid;
      }
  layer (Guard-F.Or a b) go n w p s d valid =
      let g = a.1 (λ t q. guard b.0 (λ u r. go (either t u) r) q) n w p s d valid in
      let h = b.1 (λ u r. go (either g.term u) r) n w g.point s g.describes g.valid in
      record {
        result = g.result || h.result;
        is = two_value s op.Or (linked_guard a.0) (linked_guard b.0) (Scalar.Bool g.result) (Scalar.Bool h.result) (Scalar.Bool (g.result || h.result)) g.is h.is refl;
        term = either g.term h.term;
        point = h.point;
        stands = λ u l. either_value I u g.term h.term g.result h.result (g.stands u l) (h.stands u l);
        describes = h.describes;
        valid = h.valid;
      }

  pub guard_decides : (g : Guard) → Decides g
  guard_decides = ind-Guard Decides (λ x y is. subst (λ z. Decides (roll-Guard z)) is (rolled (map-Guard ((g : Guard) × Decides g) Guard (λ e. e.0) y) (layer y)))
