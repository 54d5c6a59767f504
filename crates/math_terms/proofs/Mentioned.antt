-- What is not mentioned does not matter, and what a view tells of what is.
use Rattle.std.proofs.Common.{◌≡◌, ◌∙◌, sym, ap, refl, subst, ℕ, ◌==◌, Bool, true, false, not, ◌||◌, List, [], ◌∷◌, map}
use Rattle.std.specs.List.{list_all, list_any}
use Rattle.math_terms.specs.declared.term.Term.{Term}
use Rattle.math_terms.specs.declared.term.Term.TheOpen.{Term-F}
use Rattle.math_terms.specs.declared.term.Term.TheViews.{roll-Term}
use Rattle.math_terms.specs.declared.term.Term.TheFolds.{map-Term, fold-roll-Term, ind-Term}
use Rattle.math_terms.specs.declared.view.Binary.{Binary}
use Rattle.math_terms.specs.declared.view.Unary.{Unary}
use Rattle.math_terms.specs.Views.{binary_node, unary_node}
use Rattle.math_terms.specs.Values.{Val}
use Rattle.math_terms.specs.Heads.{children}
use Rattle.math_terms.specs.Meaning.{Valuation, value_step, value_where}
use Rattle.math_terms.specs.Descriptors.{starts_in}
use Rattle.math_terms.specs.Mentions.{OthersDoNotMatter, mentions, mentions_step}
use Rattle.math_terms.proofs.Closedness.{all_children, nodes_agree}
use Rattle.math_terms.proofs.Folds.{map-map}
use Rattle.math_terms.proofs.Heads.{fold_at, fold_at_one, fold_at_two}
use Rattle.math_terms.proofs.SameTerms.{mapped_heads}

not_false : (b : Bool) → not b ≡ true → b ≡ false
not_false true h = cc
not_false false h = refl

none_passes : {Z : Type 0} (q : Z → Bool) (zs : List Z) → list_any (λ b. b) (map q zs) ≡ false → list_all (λ b. b) (map (λ z. not (q z)) zs) ≡ true
none_passes q [] h = refl
none_passes q (z ∷ zs) h = first (q z) (none_passes q zs) h
  where
    first : (b : Bool) → (list_any (λ c. c) (map q zs) ≡ false → list_all (λ c. c) (map (λ y. not (q y)) zs) ≡ true)
        → (b || list_any (λ c. c) (map q zs)) ≡ false → list_all (λ c. c) (not b ∷ map (λ y. not (q y)) zs) ≡ true
    first true rest k = cc
    first false rest k = rest k

module _ (v : ℕ) (starts : ℕ → Val → Bool) (w u : Valuation) (agree : (k : ℕ) → (k == v) ≡ false → w k ≡ u k) where
  Free : Term → Type 0
  Free t = mentions v t ≡ false → value_where starts w t ≡ value_where starts u t

  abbrev Known : Type 0
  Known = (t : Term) × Free t

  kids_agree : (y : Term-F Known) → list_any (λ b. b) (children (map-Term Known Bool (λ e. mentions v e.0) y)) ≡ false
      → map-Term Known Val (λ e. value_where starts w e.0) y ≡ map-Term Known Val (λ e. value_where starts u e.0) y
  unfolding Free
  kids_agree y h =
      let q : Known → Bool = λ e. mentions v e.0 in
      let p : Known → Bool = λ e. not (mentions v e.0) in
      nodes_agree p (λ e. value_where starts w e.0) (λ e. value_where starts u e.0) (λ e k. e.1 (not_false (q e) k)) y
      (all_children (map-Term Known Bool p y)
      ∙ ap (list_all (λ b. b)) (mapped_heads p y).2
      ∙ none_passes q (children y) (ap (list_any (λ b. b)) (sym (mapped_heads q y).2) ∙ h))

  node_free : (y : Term-F Known) → mentions_step v (map-Term Known Bool (λ e. mentions v e.0) y) ≡ false
      → value_step starts w (map-Term Known Val (λ e. value_where starts w e.0) y) ≡ value_step starts u (map-Term Known Val (λ e. value_where starts u e.0) y)
  node_free (Term-F.Var k) h = agree k h
  node_free y h = ap (value_step starts w) (kids_agree y h)

  all_free : (t : Term) → mentions v t ≡ false → value_where starts w t ≡ value_where starts u t
  unfolding Free
  all_free = ind-Term Free (λ x y is h.
      fold-roll-Term Val (value_step starts w) x
      ∙ subst (λ z. mentions_step v (map-Term Term Bool (mentions v) z) ≡ false → value_step starts w (map-Term Term Val (value_where starts w) z) ≡ value_step starts u (map-Term Term Val (value_where starts u) z)) is
      (λ g.
      ap (value_step starts w) (map-map (λ (e : Known). e.0) (value_where starts w) y)
      ∙ node_free y (ap (mentions_step v) (sym (map-map (λ (e : Known). e.0) (mentions v) y)) ∙ g)
      ∙ ap (value_step starts u) (sym (map-map (λ (e : Known). e.0) (value_where starts u) y)))
      (sym (fold-roll-Term Bool (mentions_step v) x) ∙ h)
      ∙ sym (fold-roll-Term Val (value_step starts u) x))

pub others_do_not_matter : OthersDoNotMatter
others_do_not_matter v t h I w u agree = all_free v (starts_in I) w u agree t h

-- what a term mentions, by its view
mentions_binary : (v : ℕ) (op : Binary) (p q : Bool) → mentions_step v (binary_node op p q) ≡ (p || (q || false))
mentions_binary v Binary.Add p q = refl
mentions_binary v op p q = refl

mentions_unary : (v : ℕ) (op : Unary) (p : Bool) → mentions_step v (unary_node op p) ≡ (p || false)
mentions_unary v Unary.Len p = refl
mentions_unary v op p = refl

pub mentions_at_two : (v : ℕ) (op : Binary) (a b t : Term) → t ≡ roll-Term (binary_node op a b) → mentions v t ≡ (mentions v a || (mentions v b || false))
mentions_at_two v op a b t is = fold_at_two (mentions_step v) op a b t is ∙ mentions_binary v op (mentions v a) (mentions v b)

pub mentions_at_one : (v : ℕ) (op : Unary) (a t : Term) → t ≡ roll-Term (unary_node op a) → mentions v t ≡ (mentions v a || false)
mentions_at_one v op a t is = fold_at_one (mentions_step v) op a t is ∙ mentions_unary v op (mentions v a)

any_mapped : {A : Type 0} (f : A → Bool) (xs : List A) → list_any (λ b. b) (map f xs) ≡ list_any f xs
any_mapped f [] = refl
any_mapped f (x ∷ xs) = ap (λ b. f x || b) (any_mapped f xs)

pub mentions_at_tuple : (v : ℕ) (parts : List Term) (t : Term) → t ≡ roll-Term (Term-F.Tuple parts) → mentions v t ≡ list_any (mentions v) parts
mentions_at_tuple v parts t is = fold_at (mentions_step v) (Term-F.Tuple parts) t is ∙ any_mapped (mentions v) parts
