-- Where the conditions of an expression are valid, it has a value, which is that of its term.
use Rattle.std.proofs.Common.{◌≡◌, ◌∙◌, sym, ap, refl, subst, ℕ, ℤ, pos, ◌+ℤ◌, ◌-ℤ◌, Bool, true, length, map, arith}
use Rattle.std.specs.Prelude.{Ok, Err, slice_index_or, if◌then◌else◌}
use Rattle.std.specs.List.{AllByRecursion}
use Rattle.std.proofs.Math.ListN.{get_or-map}
use Rattle.std.proofs.lemmas.Bool.{le-leb}
use Rattle.math_terms.specs.declared.term.Term.{Term}
use Rattle.math_terms.specs.Values.{Val, Num, truth}
use Rattle.math_terms.specs.Meaning.{Valuation}
use Rattle.math_terms.specs.Descriptors.{Interpretation, value}
use Rattle.source_meaning.specs.declared.linked.Scalar.{Scalar}
use Rattle.source_meaning.specs.declared.linked.Spot.TheVariants.{Local}
use Rattle.source_meaning.specs.declared.linked.BinOp.{BinOp}
use Rattle.source_meaning.specs.declared.linked.BinOp.TheVariants as op
use Rattle.source_meaning.specs.declared.linked.LExpr.{LExpr}
use Rattle.source_meaning.specs.declared.linked.LExpr.TheOpen.{LExpr-F}
use Rattle.source_meaning.specs.declared.linked.LExpr.TheViews.{roll-LExpr}
use Rattle.source_meaning.specs.declared.linked.LExpr.TheFolds.{fold-roll-LExpr}
use Rattle.source_meaning.specs.declared.trace.WrongKind.TheVariants.{Range}
use Rattle.source_meaning.specs.Meaning.{Store, Found, is_word, apply, with_value, value_step}
use Rattle.source_meaning.specs.Meaning.{value as run_value, in_range as word_of}
use Rattle.main_form.specs.declared.module.Expr.{Expr}
use Rattle.main_form.specs.declared.module.Expr.TheOpen.{Expr-F}
use Rattle.main_form.specs.declared.module.Expr.TheViews.{roll-Expr}
use Rattle.main_form.specs.declared.module.Expr.TheFolds.{map-Expr, fold-roll-Expr, ind-Expr}
use Rattle.main_vcs.specs.Terms.{num, len, add, sub, bounds, in_bounds}
use Rattle.main_vcs.specs.Walk.{Path, Items, WithTerm, conditions, in_range, with_hyps, expr_step, expr}
use Rattle.main_vcs.specs.Linking.{two, linked_expr_step, linked_expr}
use Rattle.main_vcs.specs.Soundness.{IsValidCondition}
use Rattle.main_vcs.proofs.TermValues.{num_value, add_value, sub_value, len_value, bounds_value}
use Rattle.main_vcs.proofs.Points.{Describes, Stands, holds_at, with_more, bounds_hold}

-- all conditions among these are valid
abbrev pub AreValid : Items → Type 0
AreValid xs = AllByRecursion IsValidCondition (conditions xs)

const_value : (s : Store) (n : ℤ) → run_value s (roll-LExpr (LExpr-F.Const (Scalar.Int n))) ≡ Ok (Scalar.Int n)
const_value s n = fold-roll-LExpr Found (value_step s) (LExpr-F.Const (Scalar.Int n))

-- an operator on two values
pub two_value : (s : Store) (o : BinOp) (a b : LExpr) (x y z : Scalar) → run_value s a ≡ Ok x → run_value s b ≡ Ok y → apply o x y ≡ Ok z → run_value s (two o a b) ≡ Ok z
two_value s o a b x y z p q r =
    fold-roll-LExpr Found (value_step s) (LExpr-F.Op o a b)
    ∙ ap (λ (f : Found). with_value f (λ v. with_value (run_value s b) (apply o v))) p
    ∙ ap (λ (f : Found). with_value f (apply o x)) q
    ∙ r

word_made : (n : ℤ) → is_word n ≡ true → word_of n ≡ Ok (Scalar.Int n)
word_made n h = let P : Bool → Found = λ b. if b then Ok (Scalar.Int n) else Err Range in ap P h

module _ (I : Interpretation) where
  -- There is a value, that of a term at a point, from which the rest of the conditions is valid.
  pub record Gives (X : Type 0) (scalar : X → Scalar) (val : X → Val) (r : Found) (go : WithTerm) (n : ℕ) (w : Valuation) (s : Store) : Type 0 where
    pub result : X
    pub is : r ≡ Ok (scalar result)
    pub term : Term
    pub point : Path
    pub stands : Stands I n w term (val result)
    pub describes : Describes I n w point s
    pub valid : AreValid (go term point)

  abbrev pub GivesNumber : Found → WithTerm → ℕ → Valuation → Store → Type 0
  GivesNumber r go n w s = Gives ℤ Scalar.Int Num r go n w s

  -- what a valid range condition says
  stays_word : (n : ℕ) (w : Valuation) (p : Path) (s : Store) (at : ℕ) (t : Term) (m : ℤ) (go : WithTerm) → Describes I n w p s → Stands I n w t (Num m) → AreValid (in_range at t go p) → is_word m ≡ true
  stays_word n w p s at t m go d h valid =
      sym (ap truth (bounds_value I w t m (h w (λ k le. refl)))) ∙ holds_at I n w p s (in_bounds t) d valid.0

  add_gives : (n : ℕ) (w : Valuation) (p : Path) (s : Store) (at : ℕ) (a b : LExpr) (t u : Term) (x y : ℤ) (go : WithTerm) → run_value s a ≡ Ok (Scalar.Int x) → run_value s b ≡ Ok (Scalar.Int y) → Stands I n w t (Num x) → Stands I n w u (Num y) → Describes I n w p s → AreValid (in_range at (add t u) go p) → GivesNumber (run_value s (two op.Add a b)) go n w s
  add_gives n w p s at a b t u x y go ea eb ht hu d valid =
      let stands : Stands I n w (add t u) (Num (x +ℤ y)) = λ v l. add_value I v t u x y (ht v l) (hu v l) in
      let word = stays_word n w p s at (add t u) (x +ℤ y) go d stands valid in
      record {
        result = x +ℤ y;
        is = two_value s op.Add a b (Scalar.Int x) (Scalar.Int y) (Scalar.Int (x +ℤ y)) ea eb (word_made (x +ℤ y) word);
        term = add t u;
        point = p;
        stands = stands;
        describes = d;
        valid = valid.1;
      }

  sub_gives : (n : ℕ) (w : Valuation) (p : Path) (s : Store) (at : ℕ) (a b : LExpr) (t u : Term) (x y : ℤ) (go : WithTerm) → run_value s a ≡ Ok (Scalar.Int x) → run_value s b ≡ Ok (Scalar.Int y) → Stands I n w t (Num x) → Stands I n w u (Num y) → Describes I n w p s → AreValid (in_range at (sub t u) go p) → GivesNumber (run_value s (two op.Sub a b)) go n w s
  sub_gives n w p s at a b t u x y go ea eb ht hu d valid =
      let stands : Stands I n w (sub t u) (Num (x -ℤ y)) = λ v l. sub_value I v t u x y (ht v l) (hu v l) in
      let word = stays_word n w p s at (sub t u) (x -ℤ y) go d stands valid in
      record {
        result = x -ℤ y;
        is = two_value s op.Sub a b (Scalar.Int x) (Scalar.Int y) (Scalar.Int (x -ℤ y)) ea eb (word_made (x -ℤ y) word);
        term = sub t u;
        point = p;
        stands = stands;
        describes = d;
        valid = valid.1;
      }

  number_gives : (n : ℕ) (w : Valuation) (p : Path) (s : Store) (l : ℤ) (go : WithTerm) → Describes I n w p s → AreValid (go (num l) p) → GivesNumber (run_value s (roll-LExpr (LExpr-F.Const (Scalar.Int l)))) go n w s
  number_gives n w p s l go d valid = record {
    result = l;
    is = const_value s l;
    term = num l;
    point = p;
    stands = λ v a. num_value I v l;
    describes = d;
    valid = valid;
  }

  variable_gives : (n : ℕ) (w : Valuation) (p : Path) (s : Store) (k : ℕ) (go : WithTerm) → Describes I n w p s → AreValid (go (slice_index_or p.terms k (num (pos 0))) p) → GivesNumber (run_value s (roll-LExpr (LExpr-F.Get (Local k)))) go n w s
  variable_gives n w p s k go d valid =
      let zero_local = Scalar.Int (pos 0) in
      record {
        result = slice_index_or d.locals k (pos 0);
        is =
            fold-roll-LExpr Found (value_step s) (LExpr-F.Get (Local k))
            ∙ ap (λ l. Ok (slice_index_or l k zero_local)) d.are_locals
            ∙ ap Ok (get_or-map Scalar.Int d.locals k (pos 0));
        term = slice_index_or p.terms k (num (pos 0));
        point = p;
        stands = λ u a. (
            sym (get_or-map (value I u) p.terms k (num (pos 0)))
            ∙ ap (λ v. slice_index_or (map (value I u) p.terms) k v) (num_value I u (pos 0))
            ∙ ap (λ vs. slice_index_or vs k (Num (pos 0))) (d.facts u a).terms
            ∙ get_or-map Num d.locals k (pos 0));
        describes = d;
        valid = valid;
      }

  remaining_gives : (n : ℕ) (w : Valuation) (p : Path) (s : Store) (go : WithTerm) → Describes I n w p s → AreValid (go (len p.input) (with_hyps (bounds (len p.input)) p)) → GivesNumber (run_value s (roll-LExpr LExpr-F.Remaining)) go n w s
  remaining_gives n w p s go d valid =
      let word : is_word (pos (length s.input)) ≡ true = le-leb (length s.input) 9223372036854775807 (omega (arith, d.few)) in
      let stands : Stands I n w (len p.input) (Num (pos (length s.input))) = λ u a. len_value I u p.input s.input (d.facts u a).input_is in
      record {
        result = pos (length s.input);
        is = fold-roll-LExpr Found (value_step s) LExpr-F.Remaining;
        term = len p.input;
        point = with_hyps (bounds (len p.input)) p;
        stands = stands;
        describes = with_more I n w p s (bounds (len p.input)) d (λ u a. bounds_hold I u (len p.input) (pos (length s.input)) (stands u a) word);
        valid = valid;
      }

  abbrev pub Means : Expr → Type 0
  Means e = (go : WithTerm) (n : ℕ) (w : Valuation) (p : Path) (s : Store) → Describes I n w p s → AreValid (expr e go p) → GivesNumber (run_value s (linked_expr e)) go n w s

  abbrev LayerMeans : Expr-F Expr → Type 0
  LayerMeans x = (go : WithTerm) (n : ℕ) (w : Valuation) (p : Path) (s : Store) → Describes I n w p s → AreValid (expr_step (map-Expr Expr (WithTerm → Path → Items) expr x) go p) → GivesNumber (run_value s (linked_expr_step (map-Expr Expr LExpr linked_expr x))) go n w s

  rolled : (x : Expr-F Expr) → LayerMeans x → Means (roll-Expr x)
  rolled x h go n w p s d valid =
      let items = ap (λ (f : WithTerm → Path → Items). f go p) (fold-roll-Expr (WithTerm → Path → Items) expr_step x) in
      let L : LExpr → Type 0 = λ l. GivesNumber (run_value s l) go n w s in
      subst L (sym (fold-roll-Expr LExpr linked_expr_step x)) (h go n w p s d (subst AreValid items valid))

  layer : (y : Expr-F ((e : Expr) × Means e)) → LayerMeans (map-Expr ((e : Expr) × Means e) Expr (λ e. e.0) y)
  layer (Expr-F.Number k) go n w p s d valid = number_gives n w p s k go d valid
  layer (Expr-F.Variable k) go n w p s d valid = variable_gives n w p s k go d valid
  layer Expr-F.Remaining go n w p s d valid = remaining_gives n w p s go d valid
  layer (Expr-F.Minus at a) go n w p s d valid =
      let g = a.1 (λ t q. in_range at (sub (num (pos 0)) t) go q) n w p s d valid in
      sub_gives n w g.point s at (roll-LExpr (LExpr-F.Const (Scalar.Int (pos 0)))) (linked_expr a.0) (num (pos 0)) g.term (pos 0) g.result go
      (const_value s (pos 0)) g.is (λ u l. num_value I u (pos 0)) g.stands g.describes g.valid
  layer (Expr-F.Add at a b) go n w p s d valid =
      let g = a.1 (λ t q. expr b.0 (λ u r. in_range at (add t u) go r) q) n w p s d valid in
      let h = b.1 (λ u r. in_range at (add g.term u) go r) n w g.point s g.describes g.valid in
      add_gives n w h.point s at (linked_expr a.0) (linked_expr b.0) g.term h.term g.result h.result go
      g.is h.is g.stands h.stands h.describes h.valid
  layer (Expr-F.Sub at a b) go n w p s d valid =
      let g = a.1 (λ t q. expr b.0 (λ u r. in_range at (sub t u) go r) q) n w p s d valid in
      let h = b.1 (λ u r. in_range at (sub g.term u) go r) n w g.point s g.describes g.valid in
      sub_gives n w h.point s at (linked_expr a.0) (linked_expr b.0) g.term h.term g.result h.result go
      g.is h.is g.stands h.stands h.describes h.valid

  pub expr_means : (e : Expr) → Means e
  expr_means = ind-Expr Means (λ x y is. subst (λ z. Means (roll-Expr z)) is (rolled (map-Expr ((e : Expr) × Means e) Expr (λ e. e.0) y) (layer y)))
