-- What a loop notes of what changes, part by part.
use Rattle.std.proofs.Common.{◌≡◌, ◌∙◌, ℕ, ◌+◌, ◌<◌, ◌≤◌, arith, Bool, true, false, not, List, [], ◌∷◌, ◌++◌, map, drop, get_or, length, Option, None, Some, cond, refl, ap, sym, inl, inr}
use Rattle.std.specs.Prelude.{is_some, slice_get}
use Rattle.std.specs.List.{flat_map}
use Rattle.std.specs.Option.{option_map, option_map_or}
use Rattle.std.proofs.lemmas.List.{append-nil, at_drop_all, at_drop_more, drop_more}
use Rattle.std.proofs.lemmas.List.Sums.{fold-append}
use Rattle.std.proofs.lemmas.Grind.{flat_map-append}
use Rattle.std.proofs.lemmas.Option.{slice_get_cases}
use Rattle.res_ast.specs.declared.expression.BinOp.{BinOp}
use Rattle.res_ast.specs.declared.expression.Expr.{Expr}
use Rattle.res_ast.specs.declared.expression.Form.{Form}
use Rattle.res_ast.specs.declared.expression.Form.TheVariants as form
use Rattle.res_ast.specs.declared.expression.Form.TheOpen.{Form-F}
use Rattle.res_ast.specs.declared.expression.Form.TheViews.{out-Form, roll-Form, roll-out-Form}
use Rattle.res_ast.specs.declared.expression.Form.TheFolds.{fold-roll-Form, fold_out-Expr, map-Form}
use Rattle.type_rules.specs.declared.error.ModeError.{ModeError}
use Rattle.type_rules.specs.declared.error.ModeError.TheVariants.{Changing}
use Rattle.type_rules.specs.Breaches.{least_of, lesser, refuse}
use Rattle.type_modes.specs.Calls.{Look, Param, changes, declared, is_changing}
use Rattle.type_modes.specs.Expressions.{expr_step, form_step, look}
use Rattle.type_modes.specs.Places.{Body, Spot, at, is_listed}
use Rattle.type_modes.specs.Statements.{unlisted}
use Rattle.type_modes.specs.working.Found.{form_look, moved_changes, noted}
use Rattle.type_modes.specs.working.Seen.{Listing}

-- ---- what is noted

pub noted_nil : (l : Listing) (o : Option ModeError) → noted l o [] ≡ o
unfolding noted
noted_nil l o = refl

pub noted_append : (l : Listing) (o : Option ModeError) (xs ys : List Spot) → noted l o (xs ++ ys) ≡ noted l (noted l o xs) ys
unfolding noted
noted_append l o xs ys =
    let own = unlisted l.body l.listed l.at in
    ap (least_of o) (flat_map-append own xs ys) ∙ fold-append lesser o (flat_map own xs) (flat_map own ys)

-- some places, and then others
pub noted_both : (l : Listing) (o p q : Option ModeError) (xs ys : List Spot) → p ≡ noted l o xs → q ≡ noted l p ys → q ≡ noted l o (xs ++ ys)
noted_both l o p q xs ys first second = second ∙ ap (λ r. noted l r ys) first ∙ sym (noted_append l o xs ys)

pub noted_three : (l : Listing) (o p q r : Option ModeError) (xs ys zs : List Spot) → p ≡ noted l o xs → q ≡ noted l p ys → r ≡ noted l q zs → r ≡ noted l o (xs ++ ys ++ zs)
noted_three l o p q r xs ys zs first second third =
    noted_both l o q r (xs ++ ys) zs (noted_both l o p q xs ys first second) third

-- a part alone, in a list of parts
pub noted_alone : (l : Listing) (o p : Option ModeError) (xs : List Spot) → p ≡ noted l o xs → p ≡ noted l o (xs ++ [])
noted_alone l o p xs is = is ∙ ap (noted l o) (sym (append-nil xs))

-- a place, where something is declared, and where nothing is
one_place : (o : Option ModeError) (rule : Spot → List ModeError) (s : Spot) (here : Bool) → here ≡ true → least_of o (rule s) ≡ least_of o (flat_map rule (cond here (s ∷ []) []))
one_place o rule s here is =
    ap (least_of o) (sym (append-nil (rule s))) ∙ ap (λ b. least_of o (flat_map rule (cond b (s ∷ []) []))) (sym is)

pub mapped_some : {A B : Type 0} (f : A → B) (o : Option A) → is_some (option_map f o) ≡ is_some o
mapped_some f None = refl
mapped_some f (Some x) = refl

pub noted_here : (l : Listing) (o : Option ModeError) (s : Spot) → is_some (at l.body s) ≡ true → least_of o (refuse (not (is_listed l.body l.listed s)) (Changing l.at s.0)) ≡ noted l o (declared l.body s)
unfolding noted
noted_here l o s is = one_place o (unlisted l.body l.listed l.at) s (is_some (at l.body s)) is

pub noted_away : (l : Listing) (o : Option ModeError) (s : Spot) → is_some (at l.body s) ≡ false → o ≡ noted l o (declared l.body s)
noted_away l o s is = sym (noted_nil l o) ∙ ap (λ b. noted l o (cond b (s ∷ []) [])) (sym is)

-- ---- arguments that are moved

pub moved_noted : (l : Listing) (o p : Option ModeError) (wanted : Option Param) (w : Param) (a : Look) (s : Spot)
    → wanted ≡ Some w → is_changing w.0 ≡ true → a.spot ≡ Some s → p ≡ noted l o (declared l.body s) → p ≡ noted l o (moved_changes l.body wanted a)
moved_noted l o p wanted w a s is changing place own =
    own
    ∙ ap (λ q. noted l o (option_map_or (declared l.body) q [])) (sym place)
    ∙ ap (λ b. noted l o (cond b (option_map_or (declared l.body) a.spot []) [])) (sym changing)
    ∙ ap (λ q. noted l o (moved_changes l.body q a)) (sym is)

abbrev nothing : Bool → List Spot
nothing b = cond b [] []

moves_nothing : (b : Body) (wanted : Option Param) (a : Look) → a.spot ≡ None → moved_changes b wanted a ≡ []
moves_nothing b None a place = refl
moves_nothing b (Some w) a place =
    ap (λ q. cond (is_changing w.0) (option_map_or (declared b) q []) []) place
    ∙ elim (is_changing w.0) as (λ c. nothing c ≡ []) [ true ↦ refl | false ↦ refl ]

pub moved_nowhere : (l : Listing) (o : Option ModeError) (wanted : Option Param) (a : Look) → a.spot ≡ None → o ≡ noted l o (moved_changes l.body wanted a)
moved_nowhere l o wanted a place = sym (noted_nil l o) ∙ ap (noted l o) (sym (moves_nothing l.body wanted a place))

-- ---- loops over parts

-- what is left, from the part of number i on
pub noted_next : {X Y : Type 0} (l : Listing) (f : X → Y) (h : Y → List Spot) (o p r : Option ModeError) (xs : List X) (i : ℕ) (x : X)
    → i < length xs → x ≡ get_or xs i x → p ≡ noted l o (h (f x)) → noted l o (flat_map h (map f (drop i xs))) ≡ r → noted l p (flat_map h (map f (drop (i + 1) xs))) ≡ r
noted_next l f h o p r xs i x below is own so =
    let rest = flat_map h (map f (drop (i + 1) xs)) in
    ap (λ q. noted l q rest) own
    ∙ sym (noted_append l o (h (f x)) rest)
    ∙ ap (λ y. noted l o (h (f y) ++ rest)) is
    ∙ sym (at_drop_more (λ ys. noted l o (flat_map h (map f ys))) xs i x below)
    ∙ so

pub noted_ended : {X Y : Type 0} (l : Listing) (f : X → Y) (h : Y → List Spot) (o r : Option ModeError) (xs : List X) (i : ℕ)
    → length xs ≤ i → noted l o (flat_map h (map f (drop i xs))) ≡ r → o ≡ r
noted_ended l f h o r xs i past so =
    sym (noted_nil l o) ∙ sym (at_drop_all (λ ys. noted l o (flat_map h (map f ys))) xs i past) ∙ so

-- ---- arguments with their parameters

changes_some : (b : Body) (f : Expr → Look) (ps : List Param) (args : List Expr) (k : ℕ) (a : Expr) (p : Param)
    → drop k args ≡ a ∷ drop (k + 1) args → drop k ps ≡ p ∷ drop (k + 1) ps → slice_get ps k ≡ Some p
    → changes b (drop k ps) (map f (drop k args)) ≡ (f a).changes ++ moved_changes b (slice_get ps k) (f a) ++ changes b (drop (k + 1) ps) (map f (drop (k + 1) args))
changes_some b f ps args k a p first second third =
    let rest = map f (drop (k + 1) args) in
    ap (λ xs. changes b (drop k ps) (map f xs)) first
    ∙ ap (λ qs. changes b qs (f a ∷ rest)) second
    ∙ ap (λ o. (f a).changes ++ moved_changes b o (f a) ++ changes b (drop (k + 1) ps) rest) (sym third)

changes_none : (b : Body) (f : Expr → Look) (ps : List Param) (args : List Expr) (k : ℕ) (a : Expr)
    → drop k args ≡ a ∷ drop (k + 1) args → drop k ps ≡ [] → drop (k + 1) ps ≡ [] → slice_get ps k ≡ None
    → changes b (drop k ps) (map f (drop k args)) ≡ (f a).changes ++ moved_changes b (slice_get ps k) (f a) ++ changes b (drop (k + 1) ps) (map f (drop (k + 1) args))
changes_none b f ps args k a first second third fourth =
    let rest = map f (drop (k + 1) args) in
    ap (λ xs. changes b (drop k ps) (map f xs)) first
    ∙ ap (λ qs. changes b qs (f a ∷ rest)) second
    ∙ ap (λ xs. xs ++ changes b [] rest) (sym (append-nil (f a).changes))
    ∙ ap (λ qs. (f a).changes ++ [] ++ changes b qs rest) (sym third)
    ∙ ap (λ o. (f a).changes ++ moved_changes b o (f a) ++ changes b (drop (k + 1) ps) rest) (sym fourth)

changes_at : (b : Body) (f : Expr → Look) (ps : List Param) (args : List Expr) (k : ℕ) (a : Expr) → k < length args → a ≡ get_or args k a
    → changes b (drop k ps) (map f (drop k args)) ≡ (f a).changes ++ moved_changes b (slice_get ps k) (f a) ++ changes b (drop (k + 1) ps) (map f (drop (k + 1) args))
changes_at b f ps args k a below is =
    let first : drop k args ≡ a ∷ drop (k + 1) args = drop_more args k a below ∙ ap (λ x. x ∷ drop (k + 1) args) (sym is) in
    elim (slice_get_cases ps k).1 [
      | inl w ↦ changes_some b f ps args k a w.0 first (drop_more ps k w.0 w.1 ∙ ap (λ x. x ∷ drop (k + 1) ps) w.3) w.2
      | inr w ↦ changes_none b f ps args k a first (at_drop_all (λ qs. qs) ps k w.0) (at_drop_all (λ qs. qs) ps (k + 1) (omega (arith, w.0))) w.1
    ]

pub each_next : (l : Listing) (f : Expr → Look) (o p q r : Option ModeError) (ps : List Param) (args : List Expr) (k : ℕ) (a : Expr) (wanted : Option Param)
    → k < length args → a ≡ get_or args k a → wanted ≡ slice_get ps k → p ≡ noted l o (f a).changes → q ≡ noted l p (moved_changes l.body wanted (f a))
    → noted l o (changes l.body (drop k ps) (map f (drop k args))) ≡ r → noted l q (changes l.body (drop (k + 1) ps) (map f (drop (k + 1) args))) ≡ r
each_next l f o p q r ps args k a wanted below is param first second so =
    let rest = changes l.body (drop (k + 1) ps) (map f (drop (k + 1) args)) in
    noted_three l o p q (noted l q rest) (f a).changes (moved_changes l.body wanted (f a)) rest first second refl
    ∙ ap (λ w. noted l o ((f a).changes ++ moved_changes l.body w (f a) ++ rest)) param
    ∙ ap (noted l o) (sym (changes_at l.body f ps args k a below is))
    ∙ so

pub each_ended : (l : Listing) (f : Expr → Look) (o r : Option ModeError) (ps : List Param) (args : List Expr) (k : ℕ)
    → length args ≤ k → noted l o (changes l.body (drop k ps) (map f (drop k args))) ≡ r → o ≡ r
each_ended l f o r ps args k past so =
    sym (noted_nil l o) ∙ sym (at_drop_all (λ xs. noted l o (changes l.body (drop k ps) (map f xs))) args k past) ∙ so

-- ---- expressions

pub form_changes : (b : Body) (f : Form) (x : Form-F Form Expr) (place : ℕ) → f ≡ roll-Form x
    → (form_step b (map-Form Form Expr (ℕ → Look) Look (form_look b) (look b) x) place).changes ≡ (form_look b f place).changes
form_changes b f x place is =
    ap (λ (h : ℕ → Look). (h place).changes) (sym (fold-roll-Form (ℕ → Look) Look (form_step b) expr_step x))
    ∙ ap (λ g. (form_look b g place).changes) (sym is)

expr_look : (b : Body) (e : Expr) → look b e ≡ form_look b e.form e.at
expr_look b e = fold_out-Expr (ℕ → Look) Look (form_step b) expr_step e

-- what an expression of this layer changes
pub opened : (b : Body) (e : Expr) (x : Form-F Form Expr) → e.form ≡ roll-Form x
    → (form_step b (map-Form Form Expr (ℕ → Look) Look (form_look b) (look b) x) e.at).changes ≡ (look b e).changes
opened b e x is =
    form_changes b e.form x e.at is
    ∙ ap (λ (k : Look). k.changes) (sym (expr_look b e))

module _ (l : Listing) (o p : Option ModeError) (e : Expr) where
  abbrev part : Form-F Form Expr → List Spot
  part x = (form_step l.body (map-Form Form Expr (ℕ → Look) Look (form_look l.body) (look l.body) x) e.at).changes

  rolled : (x : Form-F Form Expr) (f : Form) → e.form ≡ f → roll-Form x ≡ f → p ≡ noted l o (part x) → p ≡ noted l o (look l.body e).changes
  rolled x f is rolls own = own ∙ ap (noted l o) (opened l.body e x (is ∙ sym rolls))

  pub binary_noted : (m : Option ModeError) (operator : BinOp) (a b : Expr) → e.form ≡ form.Binary operator a b
      → m ≡ noted l o (look l.body a).changes → p ≡ noted l m (look l.body b).changes → p ≡ noted l o (look l.body e).changes
  binary_noted m operator a b is first second =
      rolled (Form-F.Binary operator a b) (form.Binary operator a b) is (form.rolls-Binary operator a b)
      (noted_both l o m p (look l.body a).changes ((look l.body b).changes ++ []) first (noted_alone l m p (look l.body b).changes second))

-- an expression without parts changes nothing
module _ (l : Listing) (o : Option ModeError) (e : Expr)
    (no_call : (facility : Option (List ℕ)) (name : List ℕ) (args : List Expr) → e.form ≡ form.Call facility name args → ⊥)
    (no_initial : (name : List ℕ) (a : Expr) → e.form ≡ form.Initial name a → ⊥)
    (no_not : (a : Expr) → e.form ≡ form.Not a → ⊥)
    (no_minus : (a : Expr) → e.form ≡ form.Minus a → ⊥)
    (no_binary : (operator : BinOp) (a b : Expr) → e.form ≡ form.Binary operator a b → ⊥)
    (no_single : (a : Expr) → e.form ≡ form.Single a → ⊥)
    (no_bars : (a : Expr) → e.form ≡ form.Bars a → ⊥)
    (no_tuple : (parts : List Expr) → e.form ≡ form.Tuple parts → ⊥) where
  quiet : (x : Form-F Form Expr) → e.form ≡ roll-Form x → o ≡ noted l o (look l.body e).changes
  quiet (Form-F.Call facility name args) is = absurd (no_call facility name args (is ∙ form.rolls-Call facility name args))
  quiet (Form-F.Initial name a) is = absurd (no_initial name a (is ∙ form.rolls-Initial name a))
  quiet (Form-F.Not a) is = absurd (no_not a (is ∙ form.rolls-Not a))
  quiet (Form-F.Minus a) is = absurd (no_minus a (is ∙ form.rolls-Minus a))
  quiet (Form-F.Binary operator a b) is = absurd (no_binary operator a b (is ∙ form.rolls-Binary operator a b))
  quiet (Form-F.Single a) is = absurd (no_single a (is ∙ form.rolls-Single a))
  quiet (Form-F.Bars a) is = absurd (no_bars a (is ∙ form.rolls-Bars a))
  quiet (Form-F.Tuple parts) is = absurd (no_tuple parts (is ∙ form.rolls-Tuple parts))
  quiet x is = sym (noted_nil l o) ∙ ap (noted l o) (opened l.body e x is)

  pub quiet_noted : o ≡ noted l o (look l.body e).changes
  quiet_noted = quiet (out-Form e.form) (sym (roll-out-Form e.form))
