-- The linked program of a module is formed.
use Rattle.std.proofs.Common.{◌≡◌, ◌∙◌, sym, ap, refl, subst, ℕ, zero, suc, ℤ, pos, ◌<◌, ltb, Bool, true, ◌&&◌, List, [], ◌∷◌, length, map, Option, Some, None, arith}
use Rattle.std.proofs.lemmas.Bool.{and_parts, and_from, ltb-true}
use Rattle.std.specs.Prelude.{IsTrue}
use Rattle.std.specs.List.{list_all}
use Rattle.source_meaning.specs.declared.linked.TypeForm.{TypeForm}
use Rattle.source_meaning.specs.declared.linked.TypeForm.TheVariants as form
use Rattle.source_meaning.specs.declared.linked.Scalar.{Scalar}
use Rattle.source_meaning.specs.declared.linked.Spot.TheVariants.{Local}
use Rattle.source_meaning.specs.declared.linked.BinOp.{BinOp}
use Rattle.source_meaning.specs.declared.linked.BinOp.TheVariants as op
use Rattle.source_meaning.specs.declared.linked.LExpr.{LExpr}
use Rattle.source_meaning.specs.declared.linked.LExpr.TheOpen.{LExpr-F}
use Rattle.source_meaning.specs.declared.linked.LExpr.TheViews.{roll-LExpr}
use Rattle.source_meaning.specs.declared.linked.LExpr.TheFolds.{fold-roll-LExpr}
use Rattle.source_meaning.specs.declared.linked.LStmt.{LStmt}
use Rattle.source_meaning.specs.declared.linked.LStmt.TheOpen.{LStmt-F}
use Rattle.source_meaning.specs.declared.linked.LStmt.TheViews.{roll-LStmt}
use Rattle.source_meaning.specs.declared.linked.LStmt.TheFolds.{fold-roll-LStmt}
use Rattle.source_meaning.specs.declared.linked.Linked.{Linked}
use Rattle.source_meaning.specs.Formed.{Kind, Number, Truth, kinds_of, kind_at, kind_of, kind_step, kind_of_op, two_numbers, two_truths, same_kind, has_kind, fits, fits_step, IsFormed}
use Rattle.main_form.specs.declared.module.Comparison.{Comparison}
use Rattle.main_form.specs.declared.module.Comparison.TheVariants as comparison
use Rattle.main_form.specs.declared.module.Expr.{Expr}
use Rattle.main_form.specs.declared.module.Expr.TheOpen.{Expr-F}
use Rattle.main_form.specs.declared.module.Expr.TheViews.{roll-Expr}
use Rattle.main_form.specs.declared.module.Expr.TheFolds.{map-Expr, fold-Expr, fold-roll-Expr, ind-Expr}
use Rattle.main_form.specs.declared.module.Guard.{Guard}
use Rattle.main_form.specs.declared.module.Guard.TheOpen.{Guard-F}
use Rattle.main_form.specs.declared.module.Guard.TheViews.{roll-Guard}
use Rattle.main_form.specs.declared.module.Guard.TheFolds.{map-Guard, fold-Guard, fold-roll-Guard, ind-Guard}
use Rattle.main_form.specs.declared.module.Stmt.{Stmt}
use Rattle.main_form.specs.declared.module.Stmt.TheOpen.{Stmt-F}
use Rattle.main_form.specs.declared.module.Stmt.TheViews.{roll-Stmt}
use Rattle.main_form.specs.declared.module.Stmt.TheFolds.{map-Stmt, fold-roll-Stmt, ind-Stmt}
use Rattle.main_form.specs.declared.module.Module.{Module}
use Rattle.main_form.specs.Formed.{expr_step, expr_fits, guard_step, guard_fits, stmt_step, stmt_fits, IsForm}
use Rattle.main_vcs.specs.Linking.{two, linked_expr_step, linked_expr, operator, linked_guard_step, linked_guard, linked_stmt_step, linked_stmt, main_of}
use Rattle.main_vcs.specs.Soundness.{IsLinkOf}

abbrev pub scalars : List TypeForm
scalars = form.Int ∷ form.Bool ∷ []

-- the kinds of variables of these names
abbrev pub numbers_of : List (List ℕ) → List (Option Kind)
numbers_of ns = kinds_of scalars (map (λ n. 0) ns)

each_has_kind : (ns : List (List ℕ)) → list_all has_kind (numbers_of ns) ≡ true
each_has_kind [] = refl
each_has_kind (n ∷ ns) = each_has_kind ns

kind_here : (ns : List (List ℕ)) (k : ℕ) → k < length ns → kind_at (numbers_of ns) (Local k) ≡ Some Number
kind_here [] k h = absurd (omega (arith, h))
kind_here (n ∷ ns) zero h = refl
kind_here (n ∷ ns) (suc k) h = kind_here ns k (omega (arith, h))

module _ (ns : List (List ℕ)) where
  abbrev pub kinds : List (Option Kind)
  kinds = numbers_of ns

  abbrev pub room : ℕ
  room = length ns

  kind_of_two : (o : BinOp) (a b : LExpr) (x y : Option Kind) → kind_of kinds a ≡ x → kind_of kinds b ≡ y → kind_of kinds (two o a b) ≡ kind_of_op o x y
  kind_of_two o a b x y ea eb =
      fold-roll-LExpr (Option Kind) (kind_step kinds) (LExpr-F.Op o a b)
      ∙ ap (λ k. kind_of_op o k (kind_of kinds b)) ea
      ∙ ap (λ k. kind_of_op o x k) eb

  abbrev pub IsNumber : Expr → Type 0
  IsNumber e = expr_fits room e ≡ true → kind_of kinds (linked_expr e) ≡ Some Number

  abbrev LayerIsNumber : Expr-F Expr → Type 0
  LayerIsNumber x = expr_step room (map-Expr Expr Bool (expr_fits room) x) ≡ true → kind_of kinds (linked_expr_step (map-Expr Expr LExpr linked_expr x)) ≡ Some Number

  rolled : (x : Expr-F Expr) → LayerIsNumber x → IsNumber (roll-Expr x)
  rolled x h f =
      ap (kind_of kinds) (fold-roll-Expr LExpr linked_expr_step x)
      ∙ h (sym (fold-roll-Expr Bool (expr_step room) x) ∙ f)

  layer : (y : Expr-F ((e : Expr) × IsNumber e)) → LayerIsNumber (map-Expr ((e : Expr) × IsNumber e) Expr (λ e. e.0) y)
  layer (Expr-F.Number n) f = fold-roll-LExpr (Option Kind) (kind_step kinds) (LExpr-F.Const (Scalar.Int n))
  layer (Expr-F.Variable k) f = fold-roll-LExpr (Option Kind) (kind_step kinds) (LExpr-F.Get (Local k)) ∙ kind_here ns k (ltb-true k room f)
  layer Expr-F.Remaining f = fold-roll-LExpr (Option Kind) (kind_step kinds) LExpr-F.Remaining
  layer (Expr-F.Minus at a) f =
      let zero_expr = roll-LExpr (LExpr-F.Const (Scalar.Int (pos 0))) in
      kind_of_two op.Sub zero_expr (linked_expr a.0) (Some Number) (Some Number) (fold-roll-LExpr (Option Kind) (kind_step kinds) (LExpr-F.Const (Scalar.Int (pos 0)))) (a.1 f)
  layer (Expr-F.Add at a b) f =
      let p = and_parts (expr_fits room a.0) (expr_fits room b.0) f in
      kind_of_two op.Add (linked_expr a.0) (linked_expr b.0) (Some Number) (Some Number) (a.1 p.0) (b.1 p.1)
  layer (Expr-F.Sub at a b) f =
      let p = and_parts (expr_fits room a.0) (expr_fits room b.0) f in
      kind_of_two op.Sub (linked_expr a.0) (linked_expr b.0) (Some Number) (Some Number) (a.1 p.0) (b.1 p.1)

  pub is_number : (e : Expr) → IsNumber e
  is_number = ind-Expr IsNumber (λ x y is. subst (λ z. IsNumber (roll-Expr z)) is (rolled (map-Expr ((e : Expr) × IsNumber e) Expr (λ e. e.0) y) (layer y)))

  operator_kind : (c : Comparison) → kind_of_op (operator c) (Some Number) (Some Number) ≡ Some Truth
  operator_kind comparison.Equal = refl
  operator_kind comparison.NotEqual = refl
  operator_kind comparison.Less = refl
  operator_kind comparison.LessEqual = refl
  operator_kind comparison.Greater = refl
  operator_kind comparison.GreaterEqual = refl

  abbrev pub IsTruth : Guard → Type 0
  IsTruth g = guard_fits room g ≡ true → kind_of kinds (linked_guard g) ≡ Some Truth

  abbrev LayerIsTruth : Guard-F Guard → Type 0
  LayerIsTruth x = guard_step room (map-Guard Guard Bool (guard_fits room) x) ≡ true → kind_of kinds (linked_guard_step (map-Guard Guard LExpr linked_guard x)) ≡ Some Truth

  guard_rolled : (x : Guard-F Guard) → LayerIsTruth x → IsTruth (roll-Guard x)
  guard_rolled x h f =
      ap (kind_of kinds) (fold-roll-Guard LExpr linked_guard_step x)
      ∙ h (sym (fold-roll-Guard Bool (guard_step room) x) ∙ f)

  guard_layer : (y : Guard-F ((g : Guard) × IsTruth g)) → LayerIsTruth (map-Guard ((g : Guard) × IsTruth g) Guard (λ e. e.0) y)
  guard_layer (Guard-F.Compare c a b) f =
      let p = and_parts (expr_fits room a) (expr_fits room b) f in
      kind_of_two (operator c) (linked_expr a) (linked_expr b) (Some Number) (Some Number) (is_number a p.0) (is_number b p.1) ∙ operator_kind c
  guard_layer (Guard-F.Not g) f =
      fold-roll-LExpr (Option Kind) (kind_step kinds) (LExpr-F.Not (linked_guard g.0)) ∙ ap (λ k. two_truths (Some Truth) k) (g.1 f)
  guard_layer (Guard-F.And g h) f =
      let p = and_parts (guard_fits room g.0) (guard_fits room h.0) f in
      kind_of_two op.And (linked_guard g.0) (linked_guard h.0) (Some Truth) (Some Truth) (g.1 p.0) (h.1 p.1)
  guard_layer (Guard-F.Or g h) f =
      let p = and_parts (guard_fits room g.0) (guard_fits room h.0) f in
      kind_of_two op.Or (linked_guard g.0) (linked_guard h.0) (Some Truth) (Some Truth) (g.1 p.0) (h.1 p.1)

  is_truth : (g : Guard) → IsTruth g
  is_truth = ind-Guard IsTruth (λ x y is. subst (λ z. IsTruth (roll-Guard z)) is (guard_rolled (map-Guard ((g : Guard) × IsTruth g) Guard (λ e. e.0) y) (guard_layer y)))

  abbrev pub Fits : Stmt → Type 0
  Fits x = stmt_fits room x ≡ true → fits kinds (linked_stmt x) ≡ true

  abbrev LayerFits : Stmt-F Stmt → Type 0
  LayerFits x = stmt_step room (map-Stmt Stmt Bool (stmt_fits room) x) ≡ true → fits kinds (linked_stmt_step (map-Stmt Stmt LStmt linked_stmt x)) ≡ true

  stmt_rolled : (x : Stmt-F Stmt) → LayerFits x → Fits (roll-Stmt x)
  stmt_rolled x h f =
      ap (fits kinds) (fold-roll-Stmt LStmt linked_stmt_step x)
      ∙ h (sym (fold-roll-Stmt Bool (stmt_step room) x) ∙ f)

  abbrev pub bare : List ((x : Stmt) × Fits x) → List Stmt
  bare ys = map (λ e. e.0) ys

  all_fit : (ys : List ((x : Stmt) × Fits x)) → list_all (λ b. b) (map (stmt_fits room) (bare ys)) ≡ true → list_all (λ b. b) (map (fits kinds) (map linked_stmt (bare ys))) ≡ true
  all_fit [] f = refl
  all_fit (y ∷ ys) f =
      let p = and_parts (stmt_fits room y.0) (list_all (λ b. b) (map (stmt_fits room) (bare ys))) f in
      and_from (fits kinds (linked_stmt y.0)) (list_all (λ b. b) (map (fits kinds) (map linked_stmt (bare ys)))) (y.1 p.0) (all_fit ys p.1)

  abbrev pub among : List Stmt → Bool
  among xs = list_all (λ b. b) (map (fits kinds) (map linked_stmt xs))

  choice_fits : (g : Guard) (a : List Stmt) (bs : List LStmt) → guard_fits room g ≡ true → among a ≡ true → list_all (λ b. b) (map (fits kinds) bs) ≡ true → fits kinds (roll-LStmt (LStmt-F.LIf (linked_guard g) (map linked_stmt a) bs)) ≡ true
  choice_fits g a bs fg fa fb =
      fold-roll-LStmt Bool (fits_step kinds) (LStmt-F.LIf (linked_guard g) (map linked_stmt a) bs)
      ∙ and_from (same_kind (kind_of kinds (linked_guard g)) (Some Truth) && among a) (list_all (λ b. b) (map (fits kinds) bs))
      (and_from (same_kind (kind_of kinds (linked_guard g)) (Some Truth)) (among a) (ap (λ k. same_kind k (Some Truth)) (is_truth g fg)) fa) fb

  stmt_layer : (y : Stmt-F ((x : Stmt) × Fits x)) → LayerFits (map-Stmt ((x : Stmt) × Fits x) Stmt (λ e. e.0) y)
  stmt_layer (Stmt-F.Read at k) f =
      fold-roll-LStmt Bool (fits_step kinds) (LStmt-F.LRead (Local k)) ∙ ap (λ k. same_kind k (Some Number)) (kind_here ns k (ltb-true k room f))
  stmt_layer (Stmt-F.Write e) f =
      fold-roll-LStmt Bool (fits_step kinds) (LStmt-F.LWrite (linked_expr e)) ∙ ap (λ k. same_kind k (Some Number)) (is_number e f)
  stmt_layer (Stmt-F.Assign k e) f =
      let p = and_parts (ltb k room) (expr_fits room e) f in
      fold-roll-LStmt Bool (fits_step kinds) (LStmt-F.LSet (Local k) (linked_expr e))
      ∙ ap (λ j. same_kind j (kind_of kinds (linked_expr e))) (kind_here ns k (ltb-true k room p.0))
      ∙ ap (λ j. same_kind (Some Number) j) (is_number e p.1)
  stmt_layer (Stmt-F.If g a b) f =
      let each = list_all (λ x. x) (map (stmt_fits room) (bare a)) in
      let one = and_parts (guard_fits room g && each) (list_all (λ x. x) (map (stmt_fits room) (bare b))) f in
      let p = and_parts (guard_fits room g) each one.0 in
      choice_fits g (bare a) (map linked_stmt (bare b)) p.0 (all_fit a p.1) (all_fit b one.1)

  stmt_is_fit : (x : Stmt) → Fits x
  stmt_is_fit = ind-Stmt Fits (λ x y is. subst (λ z. Fits (roll-Stmt z)) is (stmt_rolled (map-Stmt ((x : Stmt) × Fits x) Stmt (λ e. e.0) y) (stmt_layer y)))

  body_fits : (xs : List Stmt) → list_all (stmt_fits room) xs ≡ true → list_all (fits kinds) (map linked_stmt xs) ≡ true
  body_fits [] f = refl
  body_fits (x ∷ xs) f =
      let p = and_parts (stmt_fits room x) (list_all (stmt_fits room) xs) f in
      and_from (fits kinds (linked_stmt x)) (list_all (fits kinds) (map linked_stmt xs)) (stmt_is_fit x p.0) (body_fits xs p.1)

pub link_is_formed : (m : Module) (l : Linked) → IsForm m → IsLinkOf m l → IsFormed l (main_of m)
link_is_formed m l form link =
    let ns = m.variables in
    record {
      main = link.main;
      procs = link.procs;
      modes = refl;
      params = refl;
      streams = refl;
      result = refl;
      fits = subst (λ ts. IsTrue (list_all has_kind (kinds_of ts (map (λ n. 0) ns)) && list_all (fits (kinds_of ts (map (λ n. 0) ns))) (map linked_stmt m.body))) (sym link.types)
          (and_from (list_all has_kind (numbers_of ns)) (list_all (fits (numbers_of ns)) (map linked_stmt m.body)) (each_has_kind ns) (body_fits ns m.body form));
    }
