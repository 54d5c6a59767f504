-- What chains hold.
use Rattle.std.proofs.Common.{◌≡◌, ◌∙◌, sym, ap, refl, subst, false, List, [], ◌∷◌, ◌++◌, Some, append_assoc}
use Rattle.std.proofs.lemmas.List.{append-nil}
use Rattle.std.specs.List.{AllByRecursion}
use Rattle.math_terms.specs.declared.descriptor.Sort.{Sort}
use Rattle.math_terms.specs.declared.term.Term.{Term}
use Rattle.math_terms.specs.declared.term.Term.TheOpen.{Term-F}
use Rattle.math_terms.specs.declared.term.Term.TheViews.{out-Term, roll-Term, roll-out-Term}
use Rattle.math_terms.specs.declared.term.Term.TheFolds.{map-Term, fold-roll-Term, ind-Term}
use Rattle.math_terms.specs.Sorts.{any, str}
use Rattle.math_terms.specs.Values.{Val}
use Rattle.math_terms.specs.Meaning.{Valuation}
use Rattle.math_terms.specs.Descriptors.{Interpretation}
use Rattle.str_theory.specs.Forms.{cat, empty, empty_form}
use Rattle.str_theory.specs.Chains.{Chained, cat_shape, chain, chain_step, chained, front, joined, last, rebuilt}
use Rattle.str_theory.specs.Laws.{ChainsOpen}
use Rattle.math_terms.specs.Kinding.{HasKind, kinding}
use Rattle.str_theory.proofs.Folds.{map-map}
use Rattle.str_theory.proofs.Kinded.{make_cat, make_empty, open_cat}
use Rattle.str_theory.proofs.Worth.{held, held_cat, held_empty}

chained_roll : (x : Term-F Term) → chained (roll-Term x) ≡ (rebuilt (map-Term Term Chained chained x), chain_step (map-Term Term Chained chained x))
chained_roll x = fold-roll-Term Chained (λ x. (rebuilt x, chain_step x)) x

-- with its chain a term is kept as it is
IsKept : Term → Type 0
IsKept t = (chained t).0 ≡ t

kept : (y : Term-F ((t : Term) × IsKept t)) → rebuilt (map-Term Term Chained chained (map-Term ((t : Term) × IsKept t) Term (λ e. e.0) y)) ≡ roll-Term (map-Term ((t : Term) × IsKept t) Term (λ e. e.0) y)
unfolding IsKept
kept y = ap roll-Term (
    map-map chained (λ (p : Chained). p.0) (map-Term ((t : Term) × IsKept t) Term (λ e. e.0) y)
    ∙ map-map (λ (e : (t : Term) × IsKept t). e.0) (λ t. (chained t).0) y
    ∙ (λ i. map-Term ((t : Term) × IsKept t) Term (λ e. e.1 i) y))

chained_term : (t : Term) → (chained t).0 ≡ t
unfolding IsKept
chained_term = ind-Term IsKept (λ x y is.
    ap (λ (p : Chained). p.0) (chained_roll x)
    ∙ subst (λ q. rebuilt (map-Term Term Chained chained q) ≡ roll-Term q) is (kept y))

chain_roll : (x : Term-F Term) → chain (roll-Term x) ≡ chain_step (map-Term Term Chained chained x)
chain_roll x = ap (λ (p : Chained). p.1) (chained_roll x)

rebuilt_term : (x : Term-F Term) → rebuilt (map-Term Term Chained chained x) ≡ roll-Term x
rebuilt_term x = sym (ap (λ (p : Chained). p.0) (chained_roll x)) ∙ chained_term (roll-Term x)

pub chain_cat : (a b : Term) → chain (cat a b) ≡ a ∷ chain b
chain_cat a b = chain_roll (Term-F.Cat a b) ∙ ap (λ t. t ∷ chain b) (chained_term a)

pub chain_empty : chain empty ≡ []
chain_empty = chain_roll Term-F.Empty

chain_other : (x : Term-F Term) → cat_shape x ≡ false → empty_form x ≡ false → chain (roll-Term x) ≡ roll-Term x ∷ []
chain_other (Term-F.Cat a b) f e = cc
chain_other Term-F.Empty f e = cc
chain_other x f e = chain_roll x ∙ ap (λ t. t ∷ []) (rebuilt_term x)

pub chains_open : ChainsOpen
chains_open = record {
  of_cat = chain_cat;
  of_empty = chain_empty;
  of_other = λ t f e. subst (λ u. chain u ≡ u ∷ []) (roll-out-Term t) (chain_other (out-Term t) f e);
}

module _ (vars : List Sort) (I : Interpretation) (w : Valuation) where
  abbrev pub AreStrings : List Term → Type 0
  AreStrings ts = AllByRecursion (λ t. HasKind I w t (str any)) ts

  -- what the parts of a chain hold, one after another
  abbrev pub held_all : List Term → List Val
  held_all [] = []
  held_all (t ∷ ts) = held I w t ++ held_all ts

  ChainHolds : Term → Type 0
  ChainHolds t = HasKind I w t (str any) → (held I w t ≡ held_all (chain t)) × AreStrings (chain t)

  alone : (x : Term-F Term) → chain_step (map-Term Term Chained chained x) ≡ rebuilt (map-Term Term Chained chained x) ∷ [] → ChainHolds (roll-Term x)
  unfolding ChainHolds
  alone x e h =
      let one : chain (roll-Term x) ≡ roll-Term x ∷ [] = chain_roll x ∙ e ∙ ap (λ t. t ∷ []) (rebuilt_term x) in (
        sym (append-nil (held I w (roll-Term x))) ∙ ap held_all (sym one),
        subst AreStrings (sym one) (h, tt),
      )

  chain_node : (y : Term-F ((t : Term) × ChainHolds t)) → ChainHolds (roll-Term (map-Term ((t : Term) × ChainHolds t) Term (λ e. e.0) y))
  unfolding ChainHolds
  chain_node (Term-F.Cat a c) h =
      let k = open_cat I w a.0 c.0 (str any) h in
      let more = c.1 k.2 in (
        held_cat I w a.0 c.0 ∙ ap (λ vs. held I w a.0 ++ vs) more.0 ∙ ap held_all (sym (chain_cat a.0 c.0)),
        subst AreStrings (sym (chain_cat a.0 c.0)) (k.1, more.1),
      )
  chain_node Term-F.Empty h = (held_empty I w ∙ ap held_all (sym chain_empty), subst AreStrings (sym chain_empty) tt)
  chain_node (Term-F.Num n) h = alone (Term-F.Num n) refl h
  chain_node x h = alone (map-Term ((t : Term) × ChainHolds t) Term (λ e. e.0) x) refl h

  -- a string holds what its chain holds, part by part
  pub chain_holds : (t : Term) → HasKind I w t (str any) → (held I w t ≡ held_all (chain t)) × AreStrings (chain t)
  unfolding ChainHolds
  chain_holds = ind-Term ChainHolds (λ x y is. subst (λ q. ChainHolds (roll-Term q)) is (chain_node y))

  pub joined_kind : (ts : List Term) → AreStrings ts → HasKind I w (joined ts) (str any)
  joined_kind [] h = make_empty I w
  joined_kind (t ∷ []) h = h.0
  joined_kind (t ∷ u ∷ us) h = make_cat I w t (joined (u ∷ us)) h.0 (joined_kind (u ∷ us) h.1)

  pub joined_holds : (ts : List Term) → held I w (joined ts) ≡ held_all ts
  joined_holds [] = held_empty I w
  joined_holds (t ∷ []) = sym (append-nil (held I w t))
  joined_holds (t ∷ u ∷ us) = held_cat I w t (joined (u ∷ us)) ∙ ap (λ vs. held I w t ++ vs) (joined_holds (u ∷ us))

  -- the last part of a chain
  pub last_holds : (ts : List Term) (t : Term) → last ts ≡ Some t → held_all ts ≡ held_all (front ts) ++ held I w t
  last_holds [] t e = cc
  last_holds (u ∷ []) t e =
      let same : u ≡ t = cc in
      append-nil (held I w u) ∙ ap (held I w) same
  last_holds (u ∷ v ∷ vs) t e = ap (λ xs. held I w u ++ xs) (last_holds (v ∷ vs) t e) ∙ sym (append_assoc (held I w u) (held_all (front (v ∷ vs))) (held I w t))

  pub front_strings : (ts : List Term) → AreStrings ts → AreStrings (front ts)
  front_strings [] h = tt
  front_strings (t ∷ []) h = tt
  front_strings (t ∷ u ∷ us) h = (h.0, front_strings (u ∷ us) h.1)

  pub last_string : (ts : List Term) (t : Term) → last ts ≡ Some t → AreStrings ts → HasKind I w t (str any)
  last_string [] t e h = cc
  last_string (u ∷ []) t e h =
      let same : u ≡ t = cc in
      ap (kinding I w) (sym same) ∙ h.0
  last_string (u ∷ v ∷ vs) t e h = last_string (v ∷ vs) t e h.1
