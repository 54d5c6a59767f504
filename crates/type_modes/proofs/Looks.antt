-- What is seen of expressions, form by form.
use Rattle.std.proofs.Common.{◌≡◌, ◌∙◌, ℕ, Bool, not, List, [], ◌∷◌, ◌++◌, map, Option, Some, refl, ap, sym, append-nil}
use Rattle.std.specs.List.{flat_map, zip}
use Rattle.res_ast.specs.declared.expression.BinOp.{BinOp}
use Rattle.res_ast.specs.declared.expression.Expr.{Expr}
use Rattle.res_ast.specs.declared.expression.Form.{Form}
use Rattle.res_ast.specs.declared.expression.Form.TheVariants as form
use Rattle.res_ast.specs.declared.expression.Form.TheOpen.{Form-F}
use Rattle.res_ast.specs.declared.expression.Form.TheViews.{roll-Form, out-Form, roll-out-Form}
use Rattle.res_ast.specs.declared.expression.Form.TheFolds.{fold-roll-Form, fold_out-Expr, map-Form}
use Rattle.type_rules.specs.declared.error.ModeError.{ModeError}
use Rattle.type_rules.specs.declared.error.ModeError.TheVariants.{OfType, Order}
use Rattle.type_rules.specs.Breaches.{least_of, refuse}
use Rattle.type_rules.specs.Origins.{Origin}
use Rattle.type_modes.specs.Calls.{Look, arguments, call, each, fits, moved, overlapping}
use Rattle.type_modes.specs.Expressions.{answering, binary, call_of, expr_step, form_step, look, unary, unused}
use Rattle.type_modes.specs.Places.{Body}
use Rattle.type_modes.specs.Signatures.{Called}
use Rattle.type_modes.specs.working.Found.{form_look, params_of, unanswered}
use Rattle.type_modes.proofs.Blocks.{least_both}
use Rattle.type_modes.proofs.Moved.{least_of_append}

abbrev pub breaches_of : List Look → List ModeError
breaches_of parts = flat_map (λ (p : Look). p.breaches) parts

-- ---- the breaches of the parts, and then the own one

pub answered : (o : Option Origin) (parts : List Look) (place : ℕ) (before between after : Option ModeError)
    → between ≡ least_of before (breaches_of parts) → after ≡ least_of between (unanswered o place) → after ≡ least_of before (answering o parts place).breaches
answered o parts place before between after first second =
    second
    ∙ ap (λ l. least_of l (unanswered o place)) first
    ∙ sym (least_of_append before (breaches_of parts) (unanswered o place))

pub one_part : (a : Look) (before after : Option ModeError) → after ≡ least_of before a.breaches → after ≡ least_of before (breaches_of (a ∷ []))
one_part a before after noted = noted ∙ ap (least_of before) (sym (append-nil a.breaches))

pub two_parts : (a b : Look) (before between after : Option ModeError) → between ≡ least_of before a.breaches → after ≡ least_of between b.breaches → after ≡ least_of before (breaches_of (a ∷ b ∷ []))
two_parts a b before between after first second =
    one_part b between after second
    ∙ ap (λ l. least_of l (breaches_of (b ∷ []))) first
    ∙ sym (least_of_append before a.breaches (breaches_of (b ∷ [])))

-- the breaches in the arguments, and then those of the call itself
pub call_noted : (b : Body) (wants_value : Bool) (c : Called) (o : Option Called) (looks : List Look) (place : ℕ) (fitting : Bool) (z l m n p : Option ModeError)
    → o ≡ Some c → fitting ≡ fits wants_value c looks
    → l ≡ least_of z (each b (params_of o) looks) → m ≡ least_of l (overlapping [] (flat_map moved (zip (params_of o) looks)))
    → n ≡ least_of m (refuse (not fitting) (OfType place)) → p ≡ least_of n (refuse (not c.in_order) (Order place))
    → p ≡ least_of z (call b wants_value o looks place)
call_noted b wants_value c o looks place fitting z l m n p is fits_is first second third fourth =
    let params = c.signature.params in
    let overlaps = λ (q : Option Called). overlapping [] (flat_map moved (zip (params_of q) looks)) in
    let unfit = λ (f : Bool). refuse (not f) (OfType place) in
    let own = first ∙ ap (λ q. least_of z (each b (params_of q) looks)) is in
    let moves = second ∙ ap (λ q. least_of l (overlaps q)) is in
    least_both z n p (arguments b params looks ++ unfit fitting) (refuse (not c.in_order) (Order place))
    (least_both z m n (arguments b params looks) (unfit fitting) (least_both z l m (each b params looks) (overlaps (Some c)) own moves) third) fourth
    ∙ ap (λ f. least_of z (arguments b params looks ++ unfit f ++ refuse (not c.in_order) (Order place))) fits_is
    ∙ ap (λ q. least_of z (call b wants_value q looks place)) (sym is)

-- ---- what is seen of each form

module _ (b : Body) where
  rolled : (f : Form) (x : Form-F Form Expr) (place : ℕ) → f ≡ roll-Form x → form_look b f place ≡ form_step b (map-Form Form Expr (ℕ → Look) Look (form_look b) (look b) x) place
  rolled f x place is =
      ap (λ g. form_look b g place) is
      ∙ ap (λ (h : ℕ → Look). h place) (fold-roll-Form (ℕ → Look) Look (form_step b) expr_step x)

  pub initial_look : (f : Form) (name : List ℕ) (a : Expr) (place : ℕ) → f ≡ form.Initial name a → form_look b f place ≡ unused (look b a ∷ []) place
  initial_look f name a place is = rolled f (Form-F.Initial name a) place (is ∙ sym (form.rolls-Initial name a))

  pub not_look : (f : Form) (a : Expr) (place : ℕ) → f ≡ form.Not a → form_look b f place ≡ answering (unary Origin.Boolean (look b a).origin) (look b a ∷ []) place
  not_look f a place is = rolled f (Form-F.Not a) place (is ∙ sym (form.rolls-Not a))

  pub minus_look : (f : Form) (a : Expr) (place : ℕ) → f ≡ form.Minus a → form_look b f place ≡ answering (unary Origin.Integer (look b a).origin) (look b a ∷ []) place
  minus_look f a place is = rolled f (Form-F.Minus a) place (is ∙ sym (form.rolls-Minus a))

  pub binary_look : (f : Form) (op : BinOp) (x y : Expr) (place : ℕ) → f ≡ form.Binary op x y → form_look b f place ≡ answering (binary op (look b x).origin (look b y).origin) (look b x ∷ look b y ∷ []) place
  binary_look f op x y place is = rolled f (Form-F.Binary op x y) place (is ∙ sym (form.rolls-Binary op x y))

  pub single_look : (f : Form) (a : Expr) (place : ℕ) → f ≡ form.Single a → form_look b f place ≡ unused (look b a ∷ []) place
  single_look f a place is = rolled f (Form-F.Single a) place (is ∙ sym (form.rolls-Single a))

  pub bars_look : (f : Form) (a : Expr) (place : ℕ) → f ≡ form.Bars a → form_look b f place ≡ unused (look b a ∷ []) place
  bars_look f a place is = rolled f (Form-F.Bars a) place (is ∙ sym (form.rolls-Bars a))

  pub tuple_look : (f : Form) (parts : List Expr) (place : ℕ) → f ≡ form.Tuple parts → form_look b f place ≡ unused (map (look b) parts) place
  tuple_look f parts place is = rolled f (Form-F.Tuple parts) place (is ∙ sym (form.rolls-Tuple parts))

  pub call_look : (f : Form) (facility : Option (List ℕ)) (name : List ℕ) (args : List Expr) (place : ℕ) → f ≡ form.Call facility name args → form_look b f place ≡ call_of b facility name (map (look b) args) place
  call_look f facility name args place is = rolled f (Form-F.Call facility name args) place (is ∙ sym (form.rolls-Call facility name args))

  -- an expression is seen at its place
  step_at : (x : Form-F (ℕ → Look) Look) (place : ℕ) → (form_step b x place).at ≡ place
  step_at (Form-F.Int n) place = refl
  step_at x place = refl

  form_at : (f : Form) (place : ℕ) → (form_look b f place).at ≡ place
  form_at f place =
      ap (λ (l : Look). l.at) (rolled f (out-Form f) place (sym (roll-out-Form f)))
      ∙ step_at (map-Form Form Expr (ℕ → Look) Look (form_look b) (look b) (out-Form f)) place

  pub expr_look : (e : Expr) → look b e ≡ form_look b e.form e.at
  expr_look e = fold_out-Expr (ℕ → Look) Look (form_step b) expr_step e

  pub look_at : (e : Expr) → (look b e).at ≡ e.at
  look_at e = ap (λ (l : Look). l.at) (expr_look e) ∙ form_at e.form e.at
