-- A term that has a sort has its kind.
use Rattle.std.proofs.Common.{◌≡◌, ◌∙◌, sym, ap, refl, subst, ℕ, zero, suc, Bool, true, false, List, [], ◌∷◌, map, Option, Some, None, option_and_then, slice_get, if◌then◌else◌}
use Rattle.math_terms.specs.declared.descriptor.Sort.{Sort}
use Rattle.math_terms.specs.declared.descriptor.Sort.TheOpen.{Sort-F}
use Rattle.math_terms.specs.declared.descriptor.Sort.TheViews.{roll-Sort, out-Sort, out-roll-Sort, roll-out-Sort}
use Rattle.math_terms.specs.declared.descriptor.Sort.TheFolds.{map-Sort, fold-roll-Sort}
use Rattle.math_terms.specs.declared.term.Term.{Term}
use Rattle.math_terms.specs.declared.term.Term.TheOpen.{Term-F}
use Rattle.math_terms.specs.declared.term.Term.TheFolds.{map-Term, fold-roll-Term, ind-Term}
use Rattle.math_terms.specs.Sorts.{z, b, any, str, tup, param, Meeting, all_sorts, as_b, both_sorts, given, given_two, is_b, is_str, is_z, kept, mapped, meet, meet_str, meeting, part_form, part_of, sort, sort_step, str_form, tuple_option}
use Rattle.math_terms.specs.Kinds.{forget, forget_step, forget_option, kind, kind_step, or_any}
use Rattle.math_terms.specs.Laws.{SortsHaveKinds}
use Rattle.math_terms.proofs.Meets.{meet_roll, with_meets}

pub forget_roll : (x : Sort-F Sort) → forget (roll-Sort x) ≡ forget_step (map-Sort Sort Sort forget x)
forget_roll x = fold-roll-Sort Sort forget_step x

forget_z : (s : Sort) → z ≡ s → z ≡ forget s
forget_z s e = sym (forget_roll Sort-F.Z) ∙ ap forget e

forget_b : (s : Sort) → b ≡ s → b ≡ forget s
forget_b s e = sym (forget_roll Sort-F.B) ∙ ap forget e

-- what the rules of nodes give, where they give a sort
given_gives : (test : Sort → Bool) (r : Sort) (x : Option Sort) (s : Sort) → given test r x ≡ Some s → r ≡ s
given_gives test r None s h = cc
given_gives test r (Some t) s h = choice_gives (test t) (Some r) s h
  where
    choice_gives : (c : Bool) (o : Option Sort) (s : Sort) → (if c then Some r else None) ≡ Some s → r ≡ s
    choice_gives true o s h = cc
    choice_gives false o s h = cc

given_two_gives : (test : Sort → Bool) (r : Sort) (x y : Option Sort) (s : Sort) → given_two test r x y ≡ Some s → r ≡ s
given_two_gives test r x None s h = cc
given_two_gives test r x (Some t) s h = given_gives test r x s (chosen (test t) h)
  where
    chosen : (c : Bool) → (if c then given test r x else None) ≡ Some s → given test r x ≡ Some s
    chosen true h = h
    chosen false h = cc

as_b_gives : (x : Option Sort) (s : Sort) → as_b x ≡ Some s → b ≡ s
as_b_gives None s h = cc
as_b_gives (Some t) s h = cc

forget_string : (t : Sort) → forget (str t) ≡ str any
forget_string t = forget_roll (Sort-F.Str t)

mapped_string : (x : Option Sort) (s : Sort) → mapped str x ≡ Some s → forget s ≡ str any
mapped_string None s h = cc
mapped_string (Some t) s h =
    let e : str t ≡ s = cc in
    ap forget (sym e) ∙ forget_string t

-- a sort of strings
form_string : (x : Sort-F Sort) → str_form x ≡ true → forget (roll-Sort x) ≡ str any
form_string Sort-F.Z h = cc
form_string Sort-F.B h = cc
form_string (Sort-F.Str t) h = forget_string t
form_string (Sort-F.Tup ss) h = cc
form_string (Sort-F.Param k) h = cc
form_string Sort-F.Any h = cc

is_string : (s : Sort) → is_str s ≡ true → forget s ≡ str any
is_string s h = ap forget (sym (roll-out-Sort s)) ∙ form_string (out-Sort s) h

kept_string : (x : Option Sort) (s : Sort) → kept is_str x ≡ Some s → forget s ≡ str any
kept_string None s h = cc
kept_string (Some t) s h = chosen (is_str t) refl h
  where
    chosen : (c : Bool) → is_str t ≡ c → (if c then Some t else None) ≡ Some s → forget s ≡ str any
    chosen true e h =
        let same : t ≡ s = cc in
        ap forget (sym same) ∙ is_string t e
    chosen false e h = cc

then_kept : (x y : Option Sort) (s : Sort) → option_and_then (λ n. y) x ≡ Some s → y ≡ Some s
then_kept None y s h = cc
then_kept (Some t) y s h = h

-- what a string gives where it meets another sort
met_string : (m : Meeting) (x : Sort-F Sort) (s : Sort) → meet_str m x ≡ Some s → forget s ≡ str any
met_string m Sort-F.Z s h = cc
met_string m Sort-F.B s h = cc
met_string m (Sort-F.Str t) s h = mapped_string (m.1 t) s h
met_string m (Sort-F.Tup ss) s h = cc
met_string m (Sort-F.Param k) s h = cc
met_string m Sort-F.Any s h =
    let e : str m.0 ≡ s = cc in
    ap forget (sym e) ∙ forget_string m.0

form_meets : (x : Sort-F Sort) (t s : Sort) → str_form x ≡ true → meet (roll-Sort x) t ≡ Some s → forget s ≡ str any
form_meets Sort-F.Z t s h e = cc
form_meets Sort-F.B t s h e = cc
form_meets (Sort-F.Str r) t s h e = met_string (with_meets r) (out-Sort t) s (sym (meet_roll (Sort-F.Str r) t) ∙ e)
form_meets (Sort-F.Tup ss) t s h e = cc
form_meets (Sort-F.Param k) t s h e = cc
form_meets Sort-F.Any t s h e = cc

meeting_string : (x y : Option Sort) (s : Sort) → meeting (kept is_str x) y ≡ Some s → forget s ≡ str any
meeting_string None y s h = cc
meeting_string (Some t) y s h = chosen (is_str t) y refl h
  where
    chosen : (c : Bool) (y : Option Sort) → is_str t ≡ c → meeting (if c then Some t else None) y ≡ Some s → forget s ≡ str any
    chosen true None e h = cc
    chosen true (Some r) e h = form_meets (out-Sort t) r s e (ap (λ k. meet k r) (roll-out-Sort t) ∙ h)
    chosen false y e h = cc

-- part k of a product
list_part : (k : ℕ) (ss : List Sort) (s : Sort) → slice_get ss k ≡ Some s → slice_get (map forget ss) k ≡ Some (forget s)
list_part k [] s h = cc
list_part zero (r ∷ rs) s h = ap (λ o. Some o) (ap forget cc)
list_part (suc k) (r ∷ rs) s h = list_part k rs s h

form_part : (k : ℕ) (x : Sort-F Sort) (s : Sort) → part_form k x ≡ Some s → part_form k (out-Sort (forget (roll-Sort x))) ≡ Some (forget s)
form_part k Sort-F.Z s h = cc
form_part k Sort-F.B s h = cc
form_part k (Sort-F.Str t) s h = cc
form_part k (Sort-F.Tup ss) s h =
    ap (λ r. part_form k (out-Sort r)) (forget_roll (Sort-F.Tup ss)) ∙ ap (part_form k) (out-roll-Sort (Sort-F.Tup (map forget ss))) ∙ list_part k ss s h
form_part k (Sort-F.Param j) s h = cc
form_part k Sort-F.Any s h = cc

part_kinds : (k : ℕ) (x : Option Sort) (kind_of_x s : Sort) → ((w : Sort) → x ≡ Some w → kind_of_x ≡ forget w) → part_of k x ≡ Some s → or_any (part_form k (out-Sort kind_of_x)) ≡ forget s
part_kinds k None q s same h = cc
part_kinds k (Some w) q s same h =
    ap (λ r. or_any (part_form k (out-Sort r))) (same w refl ∙ ap forget (sym (roll-out-Sort w))) ∙ ap or_any (form_part k (out-Sort w) s h)

module _ (vars : List Sort) where
  HasKind : Term → Type 0
  HasKind t = (s : Sort) → sort vars t ≡ Some s → kind vars t ≡ forget s

  all_kinds : (parts : List ((t : Term) × HasKind t)) (ss : List Sort) → all_sorts (map (sort vars) (map (λ (e : (t : Term) × HasKind t). e.0) parts)) ≡ Some ss
      → map (kind vars) (map (λ (e : (t : Term) × HasKind t). e.0) parts) ≡ map forget ss
  unfolding HasKind
  all_kinds [] ss h =
      let empty : [] ≡ ss = cc in
      ap (map forget) empty
  all_kinds (e ∷ es) ss h = first_and_rest (sort vars e.0) (all_sorts (map (sort vars) (map (λ (k : (t : Term) × HasKind t). k.0) es))) e.1 (λ rs. all_kinds es rs) h
    where
      first_and_rest : (x : Option Sort) (xs : Option (List Sort)) → ((s : Sort) → x ≡ Some s → kind vars e.0 ≡ forget s)
          → ((rs : List Sort) → xs ≡ Some rs → map (kind vars) (map (λ (k : (t : Term) × HasKind t). k.0) es) ≡ map forget rs)
          → both_sorts x xs ≡ Some ss → kind vars e.0 ∷ map (kind vars) (map (λ (k : (t : Term) × HasKind t). k.0) es) ≡ map forget ss
      first_and_rest None xs f g h = cc
      first_and_rest (Some s) None f g h = cc
      first_and_rest (Some s) (Some rs) f g h =
          let whole : s ∷ rs ≡ ss = cc in
          (λ i. f s refl i ∷ g rs refl i) ∙ ap (map forget) whole

  tuple_kinds : (parts : List ((t : Term) × HasKind t)) (s : Sort) → tuple_option (all_sorts (map (sort vars) (map (λ (e : (t : Term) × HasKind t). e.0) parts))) ≡ Some s
      → tup (map (kind vars) (map (λ (e : (t : Term) × HasKind t). e.0) parts)) ≡ forget s
  tuple_kinds parts s h = chosen (all_sorts (map (sort vars) (map (λ (e : (t : Term) × HasKind t). e.0) parts))) (all_kinds parts) h
    where
      chosen : (x : Option (List Sort)) → ((ss : List Sort) → x ≡ Some ss → map (kind vars) (map (λ (e : (t : Term) × HasKind t). e.0) parts) ≡ map forget ss)
          → tuple_option x ≡ Some s → tup (map (kind vars) (map (λ (e : (t : Term) × HasKind t). e.0) parts)) ≡ forget s
      chosen None f h = cc
      chosen (Some ss) f h =
          let same : tup ss ≡ s = cc in
          ap tup (f ss refl) ∙ sym (forget_roll (Sort-F.Tup ss)) ∙ ap forget same

  -- the same of a node, where it holds of the children
  node_kinds : (y : Term-F ((t : Term) × HasKind t)) (s : Sort) →
      sort_step vars (map-Term Term (Option Sort) (sort vars) (map-Term ((t : Term) × HasKind t) Term (λ e. e.0) y)) ≡ Some s →
      kind_step vars (map-Term Term Sort (kind vars) (map-Term ((t : Term) × HasKind t) Term (λ e. e.0) y)) ≡ forget s
  unfolding HasKind
  node_kinds (Term-F.Num n) s h = forget_z s cc
  node_kinds (Term-F.Truth c) s h = forget_b s cc
  node_kinds Term-F.MinInt s h = forget_z s cc
  node_kinds Term-F.MaxInt s h = forget_z s cc
  node_kinds (Term-F.Var k) s h = ap forget_option h
  node_kinds (Term-F.Add x y) s h = forget_z s (given_two_gives is_z z (sort vars x.0) (sort vars y.0) s h)
  node_kinds (Term-F.Sub x y) s h = forget_z s (given_two_gives is_z z (sort vars x.0) (sort vars y.0) s h)
  node_kinds (Term-F.Mul x y) s h = forget_z s (given_two_gives is_z z (sort vars x.0) (sort vars y.0) s h)
  node_kinds (Term-F.Div x y) s h = forget_z s (given_two_gives is_z z (sort vars x.0) (sort vars y.0) s h)
  node_kinds (Term-F.Mod x y) s h = forget_z s (given_two_gives is_z z (sort vars x.0) (sort vars y.0) s h)
  node_kinds (Term-F.Len x) s h = forget_z s (given_gives is_str z (sort vars x.0) s h)
  node_kinds Term-F.Empty s h = sym (forget_roll (Sort-F.Str any)) ∙ ap forget cc
  node_kinds (Term-F.Single x) s h = sym (mapped_string (sort vars x.0) s h)
  node_kinds (Term-F.Cat x y) s h = sym (meeting_string (sort vars x.0) (kept is_str (sort vars y.0)) s h)
  node_kinds (Term-F.Reverse x) s h = sym (kept_string (sort vars x.0) s h)
  node_kinds (Term-F.Part i j x) s h = sym (kept_string (sort vars x.0) s (then_kept (given_two is_z z (sort vars i.0) (sort vars j.0)) (kept is_str (sort vars x.0)) s h))
  node_kinds (Term-F.Tuple parts) s h = tuple_kinds parts s h
  node_kinds (Term-F.Proj k x) s h = part_kinds k (sort vars x.0) (kind vars x.0) s x.1 h
  node_kinds (Term-F.Eq x y) s h = forget_b s (as_b_gives (meeting (sort vars x.0) (sort vars y.0)) s h)
  node_kinds (Term-F.Less x y) s h = forget_b s (given_two_gives is_z b (sort vars x.0) (sort vars y.0) s h)
  node_kinds (Term-F.LessEq x y) s h = forget_b s (given_two_gives is_z b (sort vars x.0) (sort vars y.0) s h)
  node_kinds (Term-F.Not x) s h = forget_b s (given_gives is_b b (sort vars x.0) s h)
  node_kinds (Term-F.And x y) s h = forget_b s (given_two_gives is_b b (sort vars x.0) (sort vars y.0) s h)
  node_kinds (Term-F.Or x y) s h = forget_b s (given_two_gives is_b b (sort vars x.0) (sort vars y.0) s h)
  node_kinds (Term-F.Implies x y) s h = forget_b s (given_two_gives is_b b (sort vars x.0) (sort vars y.0) s h)
  node_kinds (Term-F.Initial k x) s h = forget_b s (as_b_gives (meeting (sort vars x.0) (Some (param k))) s h)

  pub has_kind : (t : Term) (s : Sort) → sort vars t ≡ Some s → kind vars t ≡ forget s
  unfolding HasKind
  has_kind = ind-Term HasKind (λ x y is s h.
      fold-roll-Term Sort (kind_step vars) x
      ∙ subst (λ q. (r : Sort) → sort_step vars (map-Term Term (Option Sort) (sort vars) q) ≡ Some r → kind_step vars (map-Term Term Sort (kind vars) q) ≡ forget r) is
      (node_kinds y) s (sym (fold-roll-Term (Option Sort) (sort_step vars) x) ∙ h))

pub sorts_have_kinds : SortsHaveKinds
sorts_have_kinds vars t s h = has_kind vars t s h
