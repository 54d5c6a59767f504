-- Plain terms have one value, whatever is initial and whatever the variables are.
use Rattle.std.proofs.Common.{◌≡◌, ◌∙◌, sym, ap, refl, subst, ℕ, Bool, true, ◌&&◌, List, [], ◌∷◌, map}
use Rattle.std.proofs.Math.Bool.{and-true, and_assoc}
use Rattle.std.proofs.lemmas.Bool.{and_parts, false≢true}
use Rattle.std.specs.List.{list_all}
use Rattle.math_terms.specs.declared.term.Term.{Term}
use Rattle.math_terms.specs.declared.term.Term.TheOpen.{Term-F}
use Rattle.math_terms.specs.declared.term.Term.TheFolds.{map-Term, fold-roll-Term, ind-Term}
use Rattle.math_terms.specs.Values.{Val}
use Rattle.math_terms.specs.Terms.{every_child}
use Rattle.math_terms.specs.Meaning.{Valuation, value_step, value_where}
use Rattle.math_terms.specs.Descriptors.{nothing, zeros}
use Rattle.math_terms.specs.Plain.{is_fixed, is_narrow, plain_step}
use Rattle.math_terms.specs.working.Evaluating.{plain}
use Rattle.math_terms.specs.Heads.{children}
use Rattle.math_terms.proofs.Folds.{map-map}
use Rattle.math_terms.proofs.SameTerms.{mapped_heads, same_heads}

-- all children pass where all of their list do
pub all_children : (x : Term-F Bool) → every_child x ≡ list_all (λ b. b) (children x)
all_children (Term-F.Num n) = refl
all_children (Term-F.Truth b) = refl
all_children Term-F.MinInt = refl
all_children Term-F.MaxInt = refl
all_children (Term-F.Var k) = refl
all_children Term-F.Empty = refl
all_children (Term-F.Part i j a) = and_assoc i j a ∙ ap (λ b. i && (j && b)) (sym (and-true a))
all_children (Term-F.Tuple parts) = refl
all_children x = simp and-true refl

module _ {Z V : Type 0} (p : Z → Bool) (f g : Z → V) (same_where : (z : Z) → p z ≡ true → f z ≡ g z) where
  lists_agree : (zs : List Z) → list_all (λ b. b) (map p zs) ≡ true → map f zs ≡ map g zs
  lists_agree [] h = refl
  lists_agree (z ∷ zs) h =
      let q = and_parts (p z) (list_all (λ b. b) (map p zs)) h in
      λ i. same_where z q.0 i ∷ lists_agree zs q.1 i

  -- A node maps to one node where its children do.
  pub nodes_agree : (x : Term-F Z) → every_child (map-Term Z Bool p x) ≡ true → map-Term Z V f x ≡ map-Term Z V g x
  nodes_agree x h =
      let m = mapped_heads f x in
      let n = mapped_heads g x in
      same_heads (map-Term Z V f x) (map-Term Z V g x) (m.0 ∙ sym n.0) (m.1 ∙ sym n.1)
      (m.2 ∙ lists_agree (children x) (ap (list_all (λ b. b)) (sym (mapped_heads p x).2) ∙ sym (all_children (map-Term Z Bool p x)) ∙ h) ∙ sym n.2)

-- the value of a fixed node depends on nothing else
fixed_value : (starts : ℕ → Val → Bool) (w : Valuation) (x : Term-F Val) → is_fixed x ≡ true → value_step starts w x ≡ value_step nothing zeros x
fixed_value starts w (Term-F.Var k) h = absurd (false≢true h)
fixed_value starts w (Term-F.Initial k a) h = absurd (false≢true h)
fixed_value starts w x h = refl

-- whether a node is fixed does not depend on the children
fixed_maps : {X Y : Type 0} (f : X → Y) (x : Term-F X) → is_fixed (map-Term X Y f x) ≡ is_fixed x
fixed_maps f (Term-F.Num n) = refl
fixed_maps f x = refl

module _ (starts : ℕ → Val → Bool) (w : Valuation) where
  HasValue : Term → Type 0
  HasValue t = (plain t).1 ≡ true → value_where starts w t ≡ (plain t).0

  -- the same of a node, where it holds of the children
  value_of_node : (y : Term-F ((t : Term) × HasValue t)) →
      (plain_step (map-Term Term (Val × Bool) plain (map-Term ((t : Term) × HasValue t) Term (λ e. e.0) y))).1 ≡ true →
      value_step starts w (map-Term Term Val (value_where starts w) (map-Term ((t : Term) × HasValue t) Term (λ e. e.0) y))
      ≡ (plain_step (map-Term Term (Val × Bool) plain (map-Term ((t : Term) × HasValue t) Term (λ e. e.0) y))).0
  unfolding HasValue
  value_of_node y h =
      let E : Type 0 = (t : Term) × HasValue t in
      let x : Term-F Term = map-Term E Term (λ e. e.0) y in
      let kids : Term-F (Val × Bool) = map-Term Term (Val × Bool) plain x in
      let passes = map-map plain (λ (k : Val × Bool). k.1) x ∙ map-map (λ (e : E). e.0) (λ (t : Term). (plain t).1) y in
      let values = map-map plain (λ (k : Val × Bool). k.0) x ∙ map-map (λ (e : E). e.0) (λ (t : Term). (plain t).0) y in
      let q = and_parts (is_fixed kids && every_child (map-Term (Val × Bool) Bool (λ k. k.1) kids)) (is_narrow (plain_step kids).0) h in
      let r = and_parts (is_fixed kids) (every_child (map-Term (Val × Bool) Bool (λ k. k.1) kids)) q.0 in
      let agree = nodes_agree (λ (e : E). (plain e.0).1) (λ e. value_where starts w e.0) (λ e. (plain e.0).0) (λ e. e.1) y (subst (λ z. every_child z ≡ true) passes r.1) in
      ap (value_step starts w) (map-map (λ (e : E). e.0) (value_where starts w) y ∙ agree ∙ sym values)
      ∙ fixed_value starts w (map-Term (Val × Bool) Val (λ k. k.0) kids) (fixed_maps (λ (k : Val × Bool). k.0) kids ∙ r.0)

  -- A plain term has the value that it is evaluated to.
  pub value_of_plain : (t : Term) → (plain t).1 ≡ true → value_where starts w t ≡ (plain t).0
  unfolding HasValue
  value_of_plain = ind-Term HasValue (λ x y is h.
      let opened = fold-roll-Term (Val × Bool) plain_step x in
      fold-roll-Term Val (value_step starts w) x
      ∙ subst (λ z. (plain_step (map-Term Term (Val × Bool) plain z)).1 ≡ true → value_step starts w (map-Term Term Val (value_where starts w) z) ≡ (plain_step (map-Term Term (Val × Bool) plain z)).0) is
      (value_of_node y) (subst (λ (k : Val × Bool). k.1 ≡ true) opened h)
      ∙ ap (λ (k : Val × Bool). k.0) (sym opened))
