-- The terms of accepted expressions have their sorts.
use Rattle.std.proofs.Common.{◌≡◌, ◌∙◌, sym, ap, refl, subst, ℕ, pos, Bool, true, false, List, [], ◌∷◌, map, Option, Some, None, Result, Ok, Err, if◌then◌else◌}
use Rattle.math_terms.specs.declared.descriptor.Sort.{Sort}
use Rattle.math_terms.specs.declared.descriptor.Sort.TheOpen.{Sort-F}
use Rattle.math_terms.specs.declared.descriptor.Sort.TheViews.{out-roll-Sort}
use Rattle.math_terms.specs.declared.term.Term.{Term}
use Rattle.math_terms.specs.declared.term.Term.TheOpen.{Term-F}
use Rattle.math_terms.specs.declared.term.Term.TheViews.{roll-Term}
use Rattle.math_terms.specs.declared.term.Term.TheFolds.{map-Term, fold-roll-Term}
use Rattle.math_terms.specs.declared.view.Unary.TheVariants as head
use Rattle.math_terms.specs.Sorts.{all_sorts, as_b, b, b_form, given_two, is_b, is_z, sort_step, tup, tuple_option, z, z_form}
use Rattle.math_terms.specs.Sorts as terms
use Rattle.res_ast.specs.declared.expression.BinOp.{BinOp}
use Rattle.res_ast.specs.declared.expression.BinOp.TheVariants as op
use Rattle.res_ast.specs.declared.expression.Expr.{Expr}
use Rattle.res_ast.specs.declared.expression.Form.{Form}
use Rattle.res_ast.specs.declared.expression.Form.TheOpen.{Form-F, Expr-F}
use Rattle.res_ast.specs.declared.expression.Form.TheFolds as folds
use Rattle.type_inst.specs.Assertions.{Names, is_between, is_reverse, number_in, zero_term}
use Rattle.type_inst.specs.Assertions as said
use Rattle.math_types.specs.declared.error.SortError.{SortError}
use Rattle.math_types.specs.declared.known.Known.{Known}
use Rattle.math_types.specs.Expressions as walk
use Rattle.math_types.specs.Expressions.{Checked, Formed, all, before, called, given, given_all}
use Rattle.math_types.specs.Laws.{AcceptedHaveSorts, Fits}

-- ---- what is accepted, step by step

given_ok : {P : Type 0} (rule : Sort → Option Sort) (c : Checked) (s : Sort) → given rule c ≡ Ok (Some s)
    → ((t : Sort) → c ≡ Ok t → rule t ≡ Some s → P) → P
given_ok rule (Err e) s h k = cc
given_ok rule (Ok t) s h k = k t refl cc

given_two_ok : {P : Type 0} (rule : Sort → Sort → Option Sort) (c d : Checked) (s : Sort) → walk.given_two rule c d ≡ Ok (Some s)
    → ((t u : Sort) → c ≡ Ok t → d ≡ Ok u → rule t u ≡ Some s → P) → P
given_two_ok rule (Err e) d s h k = cc
given_two_ok rule (Ok t) (Err e) s h k = cc
given_two_ok rule (Ok t) (Ok u) s h k = k t u refl refl cc

given_all_ok : {P : Type 0} (rule : List Sort → Option Sort) (r : Result (List Sort) SortError) (s : Sort) → given_all rule r ≡ Ok (Some s)
    → ((ss : List Sort) → r ≡ Ok ss → rule ss ≡ Some s → P) → P
given_all_ok rule (Err e) s h k = cc
given_all_ok rule (Ok ss) s h k = k ss refl cc

before_ok : {P : Type 0} (t : Sort) (r : Result (List Sort) SortError) (ss : List Sort) → before t r ≡ Ok ss
    → ((ts : List Sort) → r ≡ Ok ts → ss ≡ t ∷ ts → P) → P
before_ok t (Err e) ss h k = cc
before_ok t (Ok ts) ss h k = k ts refl cc

all_ok : {P : Type 0} (c : Checked) (cs : List Checked) (ss : List Sort) → all (c ∷ cs) ≡ Ok ss
    → ((t : Sort) (ts : List Sort) → c ≡ Ok t → all cs ≡ Ok ts → ss ≡ t ∷ ts → P) → P
all_ok (Err e) cs ss h k = cc
all_ok (Ok t) cs ss h k = before_ok t (all cs) ss h (λ ts e is. k t ts refl e is)

at_node_ok : (at : ℕ) (f : Formed) (s : Sort) → walk.at_node at f ≡ Ok s → f ≡ Ok (Some s)
at_node_ok at (Err e) s h = cc
at_node_ok at (Ok None) s h = cc
at_node_ok at (Ok (Some t)) s h =
    let e : t ≡ s = cc in
    ap (λ u. Ok (Some u)) e

-- ---- rules of nodes

z_is : is_z z ≡ true
z_is = ap z_form (out-roll-Sort Sort-F.Z)

b_is : is_b b ≡ true
b_is = ap b_form (out-roll-Sort Sort-F.B)

-- `0 - a` has the sort of `a - a`
minus_from_zero : (t s : Sort) → given_two is_z z (Some t) (Some t) ≡ Some s → given_two is_z z (Some z) (Some t) ≡ Some s
minus_from_zero t s h = chosen (is_z t) h
  where
    chosen : (c : Bool) → (if c then (if c then Some z else None) else None) ≡ Some s → (if c then (if is_z z then Some z else None) else None) ≡ Some s
    chosen true h = ap (λ (c : Bool). if c then Some z else None) z_is ∙ h
    chosen false h = h

-- Tests of two sides go the other way round too.
other_way : (test : Sort → Bool) (r t u s : Sort) → given_two test r (Some t) (Some u) ≡ Some s → given_two test r (Some u) (Some t) ≡ Some s
other_way test r t u s h = chosen (test u) (test t) h
  where
    chosen : (c d : Bool) → (if c then (if d then Some r else None) else None) ≡ Some s → (if d then (if c then Some r else None) else None) ≡ Some s
    chosen true true h = h
    chosen true false h = cc
    chosen false true h = cc
    chosen false false h = cc

-- what is a truth value can be negated
negated : (o : Option Sort) (s : Sort) → as_b o ≡ Some s → (if is_b s then Some b else None) ≡ Some s
negated None s h = cc
negated (Some t) s h =
    let e : b ≡ s = cc in
    ap (λ r. if is_b r then Some b else None) (sym e) ∙ ap (λ (c : Bool). if c then Some b else None) b_is ∙ h

module _ (known : List Known) (types : List (List ℕ × ℕ)) (vars : List Sort) (names : Names) (fits : Fits known types vars names) where
  abbrev sorted : Term → Sort → Type 0
  sorted t s = terms.sort vars t ≡ Some s

  rolled : (x : Term-F Term) → terms.sort vars (roll-Term x) ≡ sort_step vars (map-Term Term (Option Sort) (terms.sort vars) x)
  rolled x = fold-roll-Term (Option Sort) (sort_step vars) x

  FormFits : Form → Type 0
  FormFits f = (s : Sort) → walk.form_checked known types f ≡ Ok (Some s) → sorted (said.form_assertion names f) s

  ExprFits : Expr → Type 0
  ExprFits e = (s : Sort) → walk.checked known types e ≡ Ok s → sorted (said.assertion names e) s

  abbrev Fitting : Type 0
  Fitting = (e : Expr) × ExprFits e

  abbrev check : Expr → Checked
  check e = walk.checked known types e

  abbrev term : Expr → Term
  term e = said.assertion names e

  abbrev bare_form : Form-F ((f : Form) × FormFits f) Fitting → Form-F Form Expr
  bare_form y = folds.map-Form ((f : Form) × FormFits f) Fitting Form Expr (λ f. f.0) (λ e. e.0) y

  abbrev exprs : List Fitting → List Expr
  exprs es = map (λ (e : Fitting). e.0) es

  zero_sorted : sorted zero_term z
  zero_sorted = rolled (Term-F.Num (pos 0))

  binary_sorted : (o : BinOp) (x y : Term) (t u s : Sort) → sorted x t → sorted y u → walk.two (walk.binary o) t u ≡ Some s → sorted (said.binary o x y) s
  binary_sorted op.Add x y t u s hx hy r = rolled (Term-F.Add x y) ∙ (λ i. sort_step vars (Term-F.Add (hx i) (hy i))) ∙ r
  binary_sorted op.Sub x y t u s hx hy r = rolled (Term-F.Sub x y) ∙ (λ i. sort_step vars (Term-F.Sub (hx i) (hy i))) ∙ r
  binary_sorted op.Mul x y t u s hx hy r = rolled (Term-F.Mul x y) ∙ (λ i. sort_step vars (Term-F.Mul (hx i) (hy i))) ∙ r
  binary_sorted op.Div x y t u s hx hy r = rolled (Term-F.Div x y) ∙ (λ i. sort_step vars (Term-F.Div (hx i) (hy i))) ∙ r
  binary_sorted op.Mod x y t u s hx hy r = rolled (Term-F.Mod x y) ∙ (λ i. sort_step vars (Term-F.Mod (hx i) (hy i))) ∙ r
  binary_sorted op.Cat x y t u s hx hy r = rolled (Term-F.Cat x y) ∙ (λ i. sort_step vars (Term-F.Cat (hx i) (hy i))) ∙ r
  binary_sorted op.Eq x y t u s hx hy r = rolled (Term-F.Eq x y) ∙ (λ i. sort_step vars (Term-F.Eq (hx i) (hy i))) ∙ r
  binary_sorted op.NotEq x y t u s hx hy r =
      let same : sorted (roll-Term (Term-F.Eq x y)) s = rolled (Term-F.Eq x y) ∙ (λ i. sort_step vars (Term-F.Eq (hx i) (hy i))) ∙ r in
      rolled (Term-F.Not (roll-Term (Term-F.Eq x y))) ∙ (λ i. sort_step vars (Term-F.Not (same i))) ∙ negated (terms.meet t u) s r
  binary_sorted op.Less x y t u s hx hy r = rolled (Term-F.Less x y) ∙ (λ i. sort_step vars (Term-F.Less (hx i) (hy i))) ∙ r
  binary_sorted op.LessEq x y t u s hx hy r = rolled (Term-F.LessEq x y) ∙ (λ i. sort_step vars (Term-F.LessEq (hx i) (hy i))) ∙ r
  binary_sorted op.Greater x y t u s hx hy r = rolled (Term-F.Less y x) ∙ (λ i. sort_step vars (Term-F.Less (hy i) (hx i))) ∙ other_way is_z b t u s r
  binary_sorted op.GreaterEq x y t u s hx hy r = rolled (Term-F.LessEq y x) ∙ (λ i. sort_step vars (Term-F.LessEq (hy i) (hx i))) ∙ other_way is_z b t u s r
  binary_sorted op.And x y t u s hx hy r = rolled (Term-F.And x y) ∙ (λ i. sort_step vars (Term-F.And (hx i) (hy i))) ∙ r
  binary_sorted op.Or x y t u s hx hy r = rolled (Term-F.Or x y) ∙ (λ i. sort_step vars (Term-F.Or (hx i) (hy i))) ∙ r
  binary_sorted op.Implies x y t u s hx hy r = rolled (Term-F.Implies x y) ∙ (λ i. sort_step vars (Term-F.Implies (hx i) (hy i))) ∙ r

  parts_sorted : (es : List Fitting) (ss : List Sort) → all (map check (exprs es)) ≡ Ok ss → all_sorts (map (terms.sort vars) (map term (exprs es))) ≡ Some ss
  unfolding ExprFits
  parts_sorted [] ss h =
      let e : [] ≡ ss = cc in
      ap (λ xs. Some xs) e
  parts_sorted (e ∷ es) ss h =
      all_ok (check e.0) (map check (exprs es)) ss h
      (λ t ts first rest is.
      (λ i. terms.both_sorts ((e.1) t first i) (parts_sorted es ts rest i)) ∙ ap (λ xs. Some xs) (sym is))

  reversed_sorted : (name : List ℕ) (x : Term) (t s : Sort) → sorted x t → called name (t ∷ []) ≡ Some s → sorted (said.call name (x ∷ [])) s
  unfolding called
  reversed_sorted name x t s hx r = chosen (is_reverse name) r
    where
      chosen : (c : Bool) → (if c then walk.one head.Reverse t else None) ≡ Some s → sorted (if c then roll-Term (Term-F.Reverse x) else zero_term) s
      chosen true r = rolled (Term-F.Reverse x) ∙ (λ i. sort_step vars (Term-F.Reverse (hx i))) ∙ r
      chosen false r = cc

  between_sorted : (name : List ℕ) (x y w : Term) (t u v s : Sort) → sorted x t → sorted y u → sorted w v → called name (t ∷ u ∷ v ∷ []) ≡ Some s
      → sorted (said.call name (x ∷ y ∷ w ∷ [])) s
  unfolding called
  between_sorted name x y w t u v s hx hy hw r = chosen (is_between name) r
    where
      chosen : (c : Bool) → (if c then walk.between t u v else None) ≡ Some s → sorted (if c then roll-Term (Term-F.Part x y w) else zero_term) s
      chosen true r = rolled (Term-F.Part x y w) ∙ (λ i. sort_step vars (Term-F.Part (hx i) (hy i) (hw i))) ∙ r
      chosen false r = cc

  call_sorted : (name : List ℕ) (es : List Fitting) (ss : List Sort) (s : Sort) → all (map check (exprs es)) ≡ Ok ss → called name ss ≡ Some s
      → sorted (said.call name (map term (exprs es))) s
  unfolding ExprFits called
  call_sorted name [] ss s h r =
      let e : [] ≡ ss = cc in
      let n : called name [] ≡ Some s = subst (λ xs. called name xs ≡ Some s) (sym e) r in
      cc
  call_sorted name (a ∷ []) ss s h r =
      all_ok (check a.0) [] ss h
      (λ t ts first rest is.
      let e : [] ≡ ts = cc in
      reversed_sorted name (term a.0) t s ((a.1) t first) (subst (λ xs. called name xs ≡ Some s) (is ∙ ap (λ xs. t ∷ xs) (sym e)) r))
  call_sorted name (a ∷ c ∷ []) ss s h r =
      all_ok (check a.0) (map check (exprs (c ∷ []))) ss h
      (λ t ts first rest is. all_ok (check c.0) [] ts rest
      (λ u us second none is2.
      let e : [] ≡ us = cc in
      let n : called name (t ∷ u ∷ []) ≡ Some s = subst (λ xs. called name xs ≡ Some s) (is ∙ ap (λ xs. t ∷ xs) (is2 ∙ ap (λ xs. u ∷ xs) (sym e))) r in
      cc))
  call_sorted name (a ∷ c ∷ d ∷ []) ss s h r =
      all_ok (check a.0) (map check (exprs (c ∷ d ∷ []))) ss h
      (λ t ts first rest is. all_ok (check c.0) (map check (exprs (d ∷ []))) ts rest
      (λ u us second rest2 is2. all_ok (check d.0) [] us rest2
      (λ v vs third none is3.
      let e : [] ≡ vs = cc in
      between_sorted name (term a.0) (term c.0) (term d.0) t u v s ((a.1) t first) ((c.1) u second) ((d.1) v third)
      (subst (λ xs. called name xs ≡ Some s) (is ∙ ap (λ xs. t ∷ xs) (is2 ∙ ap (λ xs. u ∷ xs) (is3 ∙ ap (λ xs. v ∷ xs) (sym e)))) r))))
  call_sorted name (a ∷ c ∷ d ∷ f ∷ es) ss s h r =
      all_ok (check a.0) (map check (exprs (c ∷ d ∷ f ∷ es))) ss h
      (λ t ts first rest is. all_ok (check c.0) (map check (exprs (d ∷ f ∷ es))) ts rest
      (λ u us second rest2 is2. all_ok (check d.0) (map check (exprs (f ∷ es))) us rest2
      (λ v vs third rest3 is3. all_ok (check f.0) (map check (exprs es)) vs rest3
      (λ w ws fourth rest4 is4.
      let n : called name (t ∷ u ∷ v ∷ w ∷ ws) ≡ Some s = subst (λ xs. called name xs ≡ Some s) (is ∙ ap (λ xs. t ∷ xs) (is2 ∙ ap (λ xs. u ∷ xs) (is3 ∙ ap (λ xs. v ∷ xs) is4))) r in
      cc))))

  initial_sorted : (k n : Option ℕ) (x : Term) (t s : Sort) → n ≡ k → sorted x t → walk.initial k t ≡ Some s → sorted (said.initial n x) s
  initial_sorted None n x t s e hx r = cc
  initial_sorted (Some k) n x t s e hx r =
      ap (λ m. terms.sort vars (said.initial m x)) e ∙ rolled (Term-F.Initial k x) ∙ (λ i. sort_step vars (Term-F.Initial k (hx i))) ∙ r

  form_layer : (y : Form-F ((f : Form) × FormFits f) Fitting) (s : Sort)
      → walk.form_step known types (folds.map-Form Form Expr Formed Checked (walk.form_checked known types) check (bare_form y)) ≡ Ok (Some s)
      → sorted (said.form_step names (folds.map-Form Form Expr Term Term (said.form_assertion names) term (bare_form y))) s
  unfolding FormFits ExprFits
  form_layer (Form-F.Int n) s h = rolled (Term-F.Num n) ∙ (cc)
  form_layer (Form-F.Truth x) s h = rolled (Term-F.Truth x) ∙ (cc)
  form_layer Form-F.MinInt s h = rolled Term-F.MinInt ∙ (cc)
  form_layer Form-F.MaxInt s h = rolled Term-F.MaxInt ∙ (cc)
  form_layer (Form-F.Word x) s h = fits.words false x s (cc)
  form_layer (Form-F.Old x) s h = fits.words true x s (cc)
  form_layer (Form-F.Dot x p) s h = fits.parts false x p s (cc)
  form_layer (Form-F.OldDot x p) s h = fits.parts true x p s (cc)
  form_layer (Form-F.Call None name args) s h =
      given_all_ok (called name) (all (map check (exprs args))) s h (λ ss e r. call_sorted name args ss s e r)
  form_layer (Form-F.Call (Some facility) name args) s h =
      given_all_ok walk.no_sort (all (map check (exprs args))) s h (λ ss e r. cc)
  form_layer (Form-F.Initial x a) s h =
      given_ok (walk.initial (number_in types x)) (check a.0) s h
      (λ t e r. initial_sorted (number_in types x) (names.formal x) (term a.0) t s (fits.formals x) ((a.1) t e) r)
  form_layer (Form-F.Not a) s h =
      given_ok (walk.one head.Not) (check a.0) s h (λ t e r. rolled (Term-F.Not (term a.0)) ∙ (λ i. sort_step vars (Term-F.Not ((a.1) t e i))) ∙ r)
  form_layer (Form-F.Minus a) s h =
      given_ok walk.minus (check a.0) s h
      (λ t e r. rolled (Term-F.Sub zero_term (term a.0)) ∙ (λ i. sort_step vars (Term-F.Sub (zero_sorted i) ((a.1) t e i))) ∙ minus_from_zero t s r)
  form_layer (Form-F.Binary o a c) s h =
      given_two_ok (walk.two (walk.binary o)) (check a.0) (check c.0) s h
      (λ t u e f r. binary_sorted o (term a.0) (term c.0) t u s ((a.1) t e) ((c.1) u f) r)
  form_layer Form-F.Empty s h = rolled Term-F.Empty ∙ (cc)
  form_layer (Form-F.Single a) s h =
      given_ok (walk.one head.Single) (check a.0) s h (λ t e r. rolled (Term-F.Single (term a.0)) ∙ (λ i. sort_step vars (Term-F.Single ((a.1) t e i))) ∙ r)
  form_layer (Form-F.Bars a) s h =
      given_ok (walk.one head.Len) (check a.0) s h (λ t e r. rolled (Term-F.Len (term a.0)) ∙ (λ i. sort_step vars (Term-F.Len ((a.1) t e i))) ∙ r)
  form_layer (Form-F.Tuple parts) s h =
      given_all_ok walk.product (all (map check (exprs parts))) s h
      (λ ss e r. rolled (Term-F.Tuple (map term (exprs parts))) ∙ ap tuple_option (parts_sorted parts ss e) ∙ r)

  expr_layer : (y : Expr-F ((f : Form) × FormFits f) Fitting) (s : Sort)
      → walk.expr_step (folds.map-Expr Form Expr Formed Checked (walk.form_checked known types) check (folds.map-Expr ((f : Form) × FormFits f) Fitting Form Expr (λ f. f.0) (λ e. e.0) y)) ≡ Ok s
      → sorted (said.expr_step (folds.map-Expr Form Expr Term Term (said.form_assertion names) term (folds.map-Expr ((f : Form) × FormFits f) Fitting Form Expr (λ f. f.0) (λ e. e.0) y))) s
  unfolding FormFits ExprFits
  expr_layer y s h = (y.form).1 s (at_node_ok y.at (walk.form_checked known types (y.form).0) s h)

  accepted : (e : Expr) → ExprFits e
  unfolding FormFits ExprFits
  accepted = folds.ind-Expr FormFits ExprFits
      (λ x y is s h.
      subst (λ (t : Term). sorted t s) (sym (folds.fold-roll-Form Term Term (said.form_step names) said.expr_step x))
      (subst (λ w. sorted (said.form_step names (folds.map-Form Form Expr Term Term (said.form_assertion names) term w)) s) is
      (form_layer y s (subst (λ w. walk.form_step known types (folds.map-Form Form Expr Formed Checked (walk.form_checked known types) check w) ≡ Ok (Some s)) (sym is)
      (sym (folds.fold-roll-Form Formed Checked (walk.form_step known types) walk.expr_step x) ∙ h)))))
      (λ x y is s h.
      subst (λ (t : Term). sorted t s) (sym (folds.fold-roll-Expr Term Term (said.form_step names) said.expr_step x))
      (subst (λ w. sorted (said.expr_step (folds.map-Expr Form Expr Term Term (said.form_assertion names) term w)) s) is
      (expr_layer y s (subst (λ w. walk.expr_step (folds.map-Expr Form Expr Formed Checked (walk.form_checked known types) check w) ≡ Ok s) (sym is)
      (sym (folds.fold-roll-Expr Formed Checked (walk.form_step known types) walk.expr_step x) ∙ h)))))

  accepted_sorted : (e : Expr) (s : Sort) → walk.checked known types e ≡ Ok s → sorted (said.assertion names e) s
  unfolding ExprFits
  accepted_sorted e s h = accepted e s h

pub accepted_have_sorts : AcceptedHaveSorts
accepted_have_sorts known types vars names e s fits h = accepted_sorted known types vars names fits e s h
