-- The body of a module that comes from a tree has its variables alone.
use Rattle.std.proofs.Common.{◌≡◌, ◌∙◌, sym, ap, refl, subst, ℕ, suc, ◌+◌, ◌<◌, ltb, pos, Bool, true, false, if◌then◌else◌, List, [], ◌∷◌, length, map, Option, Some, None, arith}
use Rattle.std.specs.Prelude.{codes}
use Rattle.std.specs.Prelude.{option_map, ◌&&◌}
use Rattle.std.specs.List.{list_all}
use Rattle.std.proofs.lemmas.Bool.{and_from}
use Rattle.std.proofs.lemmas.Bool.Decides.{nat_tests}
use Rattle.res_lexer.specs.Pieces.{same_bytes}
use Rattle.res_ast.specs.declared.expression.BinOp.{BinOp}
use Rattle.res_ast.specs.declared.expression.BinOp.TheVariants as binary
use Rattle.res_ast.specs.declared.expression.Expr as tree
use Rattle.res_ast.specs.declared.expression.Form.{Form}
use Rattle.res_ast.specs.declared.expression.Form.TheOpen.{Form-F, Expr-F}
use Rattle.res_ast.specs.declared.expression.Form.TheFolds as folds
use Rattle.res_ast.specs.declared.statement.Stmt as tree_stmt
use Rattle.res_ast.specs.declared.statement.Stmt.TheOpen.{Stmt-F}
use Rattle.res_ast.specs.declared.statement.Stmt.TheFolds as stmt_folds
use Rattle.res_ast.specs.declared.procedure.Procedure.{Procedure}
use Rattle.res_ast.specs.declared.component.Component.{Component}
use Rattle.res_ast.specs.declared.component.Component.TheVariants as component
use Rattle.main_form.specs.declared.module.Expr.{Expr}
use Rattle.main_form.specs.declared.module.Expr.TheOpen as number
use Rattle.main_form.specs.declared.module.Expr.TheViews.{roll-Expr}
use Rattle.main_form.specs.declared.module.Expr.TheFolds.{map-Expr, fold-roll-Expr}
use Rattle.main_form.specs.declared.module.Comparison.{Comparison}
use Rattle.main_form.specs.declared.module.Comparison.TheVariants as comparison
use Rattle.main_form.specs.declared.module.Guard.{Guard}
use Rattle.main_form.specs.declared.module.Guard.TheOpen.{Guard-F}
use Rattle.main_form.specs.declared.module.Guard.TheViews.{roll-Guard}
use Rattle.main_form.specs.declared.module.Guard.TheFolds.{map-Guard, fold-roll-Guard}
use Rattle.main_form.specs.declared.module.Stmt.{Stmt}
use Rattle.main_form.specs.declared.module.Stmt.TheOpen as stmt
use Rattle.main_form.specs.declared.module.Stmt.TheViews.{roll-Stmt}
use Rattle.main_form.specs.declared.module.Stmt.TheFolds.{map-Stmt, fold-roll-Stmt}
use Rattle.main_form.specs.declared.module.Module.{Module}
use Rattle.main_form.specs.declared.file.Shape.TheVariants as shape
use Rattle.main_form.specs.Formed.{expr_step, expr_fits, guard_step, guard_fits, stmt_step, stmt_fits, IsForm}
use Rattle.main_form.specs.Names.{number_in, variable_of, variables_of}
use Rattle.main_form.specs.Places.{file_first, main_in}
use Rattle.main_form.specs.Values as value
use Rattle.main_form.specs.Values.{Built, nothing, zero_number, a_number, a_truth, binary_built, built, stmt_of, module_by, module_of}
use Rattle.main_form.specs.Shape.{BuiltIsFormed, shape_by}

-- a name's number is below the number of names
below_if : (b : Bool) (o : Option ℕ) (k n : ℕ) → ((j : ℕ) → o ≡ Some j → j < n) → (if b then Some 0 else option_map suc o) ≡ Some k → k < n + 1
below_if true o k n later h = let e : 0 ≡ k = cc in omega (arith, e)
below_if false None k n later h = absurd (cc)
below_if false (Some j) k n later h =
    let e : suc j ≡ k = cc in
    let l = later j refl in
    omega (arith, e, l)

below : (name : List ℕ) (ns : List (List ℕ)) (k : ℕ) → number_in name ns ≡ Some k → k < length ns
below name [] k h = absurd (cc)
below name (n ∷ ns) k h =
    let l = below_if (same_bytes name n) (number_in name ns) k (length ns) (below name ns) h in
    omega (arith, l)

below_test : (k n : ℕ) → k < n → ltb k n ≡ true
below_test k n h = grind (arith, nat_tests)

module _ (main : Procedure) where
  abbrev room : ℕ
  room = length (variables_of main)

  number_fits : (x : number.Expr-F Expr) → expr_step room (map-Expr Expr Bool (expr_fits room) x) ≡ true → expr_fits room (roll-Expr x) ≡ true
  number_fits x h = fold-roll-Expr Bool (expr_step room) x ∙ h

  truth_fits : (x : Guard-F Guard) → guard_step room (map-Guard Guard Bool (guard_fits room) x) ≡ true → guard_fits room (roll-Guard x) ≡ true
  truth_fits x h = fold-roll-Guard Bool (guard_step room) x ∙ h

  zero_fits : expr_fits room zero_number ≡ true
  zero_fits = number_fits (number.Expr-F.Number (pos 0)) refl

  compared_fits : (c : Comparison) (a b : Expr) → expr_fits room a ≡ true → expr_fits room b ≡ true → guard_fits room (value.compared c a b) ≡ true
  compared_fits c a b fa fb = truth_fits (Guard-F.Compare c a b) (and_from (expr_fits room a) (expr_fits room b) fa fb)

  -- what an expression is has variables of Main alone
  pub record Fit (b : Built) : Type 0 where
    pub number : expr_fits room b.number ≡ true
    pub truth : guard_fits room b.truth ≡ true

  nothing_fits : Fit nothing
  nothing_fits = record { number = zero_fits; truth = compared_fits comparison.Equal zero_number zero_number zero_fits zero_fits }

  a_number_fits : (e : Expr) → expr_fits room e ≡ true → Fit (a_number e)
  a_number_fits e h = record { number = h; truth = nothing_fits.truth }

  a_truth_fits : (g : Guard) → guard_fits room g ≡ true → Fit (a_truth g)
  a_truth_fits g h = record { number = zero_fits; truth = h }

  variable_fits : (o : Option ℕ) → ((k : ℕ) → o ≡ Some k → k < room) → expr_fits room (value.variable_or_zero o) ≡ true
  variable_fits None h = zero_fits
  variable_fits (Some k) h = number_fits (number.Expr-F.Variable k) (below_test k room (h k refl))

  remaining_fits : (b : Bool) → expr_fits room (if b then roll-Expr number.Expr-F.Remaining else zero_number) ≡ true
  remaining_fits true = number_fits number.Expr-F.Remaining refl
  remaining_fits false = zero_fits

  sum_fits : (at : ℕ) (a b : Expr) → expr_fits room a ≡ true → expr_fits room b ≡ true → (expr_fits room (roll-Expr (number.Expr-F.Add at a b)) ≡ true) × (expr_fits room (roll-Expr (number.Expr-F.Sub at a b)) ≡ true)
  sum_fits at a b fa fb =
      let both = and_from (expr_fits room a) (expr_fits room b) fa fb in
      (number_fits (number.Expr-F.Add at a b) both, number_fits (number.Expr-F.Sub at a b) both)

  joined_fits : (g h : Guard) → guard_fits room g ≡ true → guard_fits room h ≡ true → (guard_fits room (roll-Guard (Guard-F.And g h)) ≡ true) × (guard_fits room (roll-Guard (Guard-F.Or g h)) ≡ true)
  joined_fits g h fg fh =
      let both = and_from (guard_fits room g) (guard_fits room h) fg fh in
      (truth_fits (Guard-F.And g h) both, truth_fits (Guard-F.Or g h) both)

  binary_fits : (op : BinOp) (a b : Built) (at : ℕ) → Fit a → Fit b → Fit (binary_built op a b at)
  binary_fits binary.Add a b at fa fb = a_number_fits _ (sum_fits at a.number b.number fa.number fb.number).0
  binary_fits binary.Sub a b at fa fb = a_number_fits _ (sum_fits at a.number b.number fa.number fb.number).1
  binary_fits binary.Cat a b at fa fb = record { number = zero_fits; truth = nothing_fits.truth }
  binary_fits binary.Eq a b at fa fb = record { number = zero_fits; truth = compared_fits comparison.Equal a.number b.number fa.number fb.number }
  binary_fits binary.NotEq a b at fa fb = a_truth_fits _ (compared_fits comparison.NotEqual a.number b.number fa.number fb.number)
  binary_fits binary.Less a b at fa fb = a_truth_fits _ (compared_fits comparison.Less a.number b.number fa.number fb.number)
  binary_fits binary.LessEq a b at fa fb = a_truth_fits _ (compared_fits comparison.LessEqual a.number b.number fa.number fb.number)
  binary_fits binary.Greater a b at fa fb = a_truth_fits _ (compared_fits comparison.Greater a.number b.number fa.number fb.number)
  binary_fits binary.GreaterEq a b at fa fb = a_truth_fits _ (compared_fits comparison.GreaterEqual a.number b.number fa.number fb.number)
  binary_fits binary.And a b at fa fb = a_truth_fits _ (joined_fits a.truth b.truth fa.truth fb.truth).0
  binary_fits binary.Or a b at fa fb = a_truth_fits _ (joined_fits a.truth b.truth fa.truth fb.truth).1
  binary_fits op a b at fa fb = nothing_fits

  abbrev form_built : Form → ℕ → Built
  form_built f = folds.fold-Form (ℕ → Built) Built (value.form_step main) value.expr_step f

  FormFits : Form → Type 0
  FormFits f = (at : ℕ) → Fit (form_built f at)

  BuiltFits : tree.Expr → Type 0
  BuiltFits e = Fit (built main e)

  abbrev bare_form : Form-F ((f : Form) × FormFits f) ((e : tree.Expr) × BuiltFits e) → Form-F Form tree.Expr
  bare_form y = folds.map-Form ((f : Form) × FormFits f) ((e : tree.Expr) × BuiltFits e) Form tree.Expr (λ f. f.0) (λ e. e.0) y

  form_layer : (y : Form-F ((f : Form) × FormFits f) ((e : tree.Expr) × BuiltFits e)) (at : ℕ) → Fit (value.form_step main (folds.map-Form Form tree.Expr (ℕ → Built) Built form_built (built main) (bare_form y)) at)
  unfolding FormFits BuiltFits
  form_layer (Form-F.Int n) at = record { number = number_fits (number.Expr-F.Number n) refl; truth = nothing_fits.truth }
  form_layer (Form-F.Word name) at = a_number_fits _ (variable_fits (variable_of main name) (below name (variables_of main)))
  form_layer (Form-F.Call facility name args) at = a_number_fits _ (remaining_fits (same_bytes name (codes "Remaining")))
  form_layer (Form-F.Not a) at = a_truth_fits _ (truth_fits (Guard-F.Not (built main a.0).truth) (a.1).truth)
  form_layer (Form-F.Minus a) at = a_number_fits _ (number_fits (number.Expr-F.Minus at (built main a.0).number) (a.1).number)
  form_layer (Form-F.Binary op a b) at = binary_fits op (built main a.0) (built main b.0) at a.1 b.1
  form_layer (Form-F.Single a) at = record { number = zero_fits; truth = nothing_fits.truth }
  form_layer f at = nothing_fits

  expr_layer : (y : Expr-F ((f : Form) × FormFits f) ((e : tree.Expr) × BuiltFits e)) → Fit (value.expr_step (folds.map-Expr Form tree.Expr (ℕ → Built) Built form_built (built main) (folds.map-Expr ((f : Form) × FormFits f) ((e : tree.Expr) × BuiltFits e) Form tree.Expr (λ f. f.0) (λ e. e.0) y)))
  unfolding FormFits BuiltFits
  expr_layer y = (y.form).1 y.at

  built_fits : (e : tree.Expr) → Fit (built main e)
  unfolding FormFits BuiltFits
  built_fits = folds.ind-Expr FormFits BuiltFits
      (λ x y is at.
      subst (λ (f : ℕ → Built). Fit (f at)) (sym (folds.fold-roll-Form (ℕ → Built) Built (value.form_step main) value.expr_step x))
      (subst (λ z. Fit (value.form_step main (folds.map-Form Form tree.Expr (ℕ → Built) Built form_built (built main) z) at)) is (form_layer y at)))
      (λ x y is.
      subst Fit (sym (folds.fold-roll-Expr (ℕ → Built) Built (value.form_step main) value.expr_step x))
      (subst (λ z. Fit (value.expr_step (folds.map-Expr Form tree.Expr (ℕ → Built) Built form_built (built main) z))) is (expr_layer y)))

  -- ---- statements

  stmt_step_fits : (x : stmt.Stmt-F Stmt) → stmt_step room (map-Stmt Stmt Bool (stmt_fits room) x) ≡ true → stmt_fits room (roll-Stmt x) ≡ true
  stmt_step_fits x h = fold-roll-Stmt Bool (stmt_step room) x ∙ h

  writing_fits : (e : Expr) → expr_fits room e ≡ true → stmt_fits room (value.writing e) ≡ true
  writing_fits e h = stmt_step_fits (stmt.Stmt-F.Write e) h

  assigned_fits : (o : Option ℕ) (e : Expr) → ((k : ℕ) → o ≡ Some k → k < room) → expr_fits room e ≡ true → stmt_fits room (value.assigned o e) ≡ true
  assigned_fits None e h f = writing_fits zero_number zero_fits
  assigned_fits (Some k) e h f = stmt_step_fits (stmt.Stmt-F.Assign k e) (and_from (ltb k room) (expr_fits room e) (below_test k room (h k refl)) f)

  reading_fits : (at : ℕ) (o : Option ℕ) → ((k : ℕ) → o ≡ Some k → k < room) → stmt_fits room (value.reading at o) ≡ true
  reading_fits at None h = writing_fits zero_number zero_fits
  reading_fits at (Some k) h = stmt_step_fits (stmt.Stmt-F.Read at k) (below_test k room (h k refl))

  word_below : (f : Form-F Form tree.Expr) (k : ℕ) → value.word_variable main f ≡ Some k → k < room
  word_below (Form-F.Word name) k h = below name (variables_of main) k h
  word_below f k h = absurd (cc)

  first_below : (args : List tree.Expr) (k : ℕ) → value.first_variable main args ≡ Some k → k < room
  first_below [] k h = absurd (cc)
  first_below (e ∷ es) k h = word_below _ k h

  first_fits : (args : List tree.Expr) → expr_fits room (value.first_number main args) ≡ true
  first_fits [] = zero_fits
  first_fits (e ∷ es) = (built_fits e).number

  called_fits : (b : Bool) (args : List tree.Expr) (at : ℕ) → stmt_fits room (if b then value.reading at (value.first_variable main args) else value.writing (value.first_number main args)) ≡ true
  called_fits true args at = reading_fits at (value.first_variable main args) (first_below args)
  called_fits false args at = writing_fits (value.first_number main args) (first_fits args)

  StmtFits : tree_stmt.Stmt → Type 0
  StmtFits x = stmt_fits room (stmt_of main x) ≡ true

  abbrev bare : List ((x : tree_stmt.Stmt) × StmtFits x) → List tree_stmt.Stmt
  bare ys = map (λ e. e.0) ys

  all_fit : (ys : List ((x : tree_stmt.Stmt) × StmtFits x)) → list_all (λ x. x) (map (stmt_fits room) (map (stmt_of main) (bare ys))) ≡ true
  unfolding StmtFits
  all_fit [] = refl
  all_fit (y ∷ ys) = and_from (stmt_fits room (stmt_of main y.0)) (list_all (λ x. x) (map (stmt_fits room) (map (stmt_of main) (bare ys)))) y.1 (all_fit ys)

  stmt_layer : (y : Stmt-F ((x : tree_stmt.Stmt) × StmtFits x)) → stmt_fits room (value.stmt_step main (stmt_folds.map-Stmt tree_stmt.Stmt Stmt (stmt_of main) (stmt_folds.map-Stmt ((x : tree_stmt.Stmt) × StmtFits x) tree_stmt.Stmt (λ e. e.0) y))) ≡ true
  stmt_layer (Stmt-F.Swap at a b) = writing_fits zero_number zero_fits
  stmt_layer (Stmt-F.Assign at p e) = assigned_fits (variable_of main p.base) (built main e).number (below p.base (variables_of main)) (built_fits e).number
  stmt_layer (Stmt-F.Call at facility name args) = called_fits (same_bytes name (codes "Read")) args at
  stmt_layer (Stmt-F.If at g a b) =
      let fa = all_fit a in
      let fb = all_fit b in
      stmt_step_fits (stmt.Stmt-F.If (built main g).truth (map (stmt_of main) (bare a)) (map (stmt_of main) (bare b)))
      (and_from (guard_fits room (built main g).truth && list_all (λ x. x) (map (stmt_fits room) (map (stmt_of main) (bare a)))) (list_all (λ x. x) (map (stmt_fits room) (map (stmt_of main) (bare b))))
      (and_from (guard_fits room (built main g).truth) (list_all (λ x. x) (map (stmt_fits room) (map (stmt_of main) (bare a)))) (built_fits g).truth fa) fb)
  stmt_layer (Stmt-F.While at g places invariant metric body) = writing_fits zero_number zero_fits

  stmt_of_fits : (x : tree_stmt.Stmt) → stmt_fits room (stmt_of main x) ≡ true
  unfolding StmtFits
  stmt_of_fits = stmt_folds.ind-Stmt StmtFits (λ x y is.
      ap (stmt_fits room) (stmt_folds.fold-roll-Stmt Stmt (value.stmt_step main) x)
      ∙ subst (λ z. stmt_fits room (value.stmt_step main (stmt_folds.map-Stmt tree_stmt.Stmt Stmt (stmt_of main) z)) ≡ true) is (stmt_layer y))

  body_fits : (xs : List tree_stmt.Stmt) → list_all (stmt_fits room) (map (stmt_of main) xs) ≡ true
  body_fits [] = refl
  body_fits (x ∷ xs) = and_from (stmt_fits room (stmt_of main x)) (list_all (stmt_fits room) (map (stmt_of main) xs)) (stmt_of_fits x) (body_fits xs)

-- ---- the module

by_is_form : (name : List ℕ) (o : Option Procedure) → IsForm (module_by name o)
by_is_form name None = refl
by_is_form name (Some main) = body_fits main main.body

is_form : (cs : List Component) → IsForm (module_of cs)
is_form [] = refl
is_form (component.Facility m ∷ cs) = by_is_form m.name (main_in m.operations)
is_form (c ∷ cs) = refl

by_shape : (o : Option (List ℕ × ℕ)) (n m : Module) → IsForm n → shape_by o n ≡ shape.Module m → IsForm m
by_shape None n m form e = let same : n ≡ m = cc in subst IsForm same form
by_shape (Some stray) n m form e = absurd (cc)

pub built_formed : BuiltIsFormed
built_formed cs m e = by_shape (file_first cs) (module_of cs) m (is_form cs) e
