-- Terms that have sorts are well-valued.
use Rattle.std.proofs.Common.{◌≡◌, ◌∙◌, sym, ap, refl, subst, ℕ, Bool, true, false, ◌&&◌, List, [], ◌∷◌, map, Option, Some, None}
use Rattle.std.specs.Prelude.{option_and_then, if◌then◌else◌}
use Rattle.std.proofs.lemmas.Bool.{and_from}
use Rattle.std.specs.List.{list_all}
use Rattle.math_terms.specs.declared.descriptor.Sort.{Sort}
use Rattle.math_terms.specs.declared.descriptor.Sort.TheOpen.{Sort-F}
use Rattle.math_terms.specs.declared.descriptor.Sort.TheViews.{roll-Sort, out-Sort, roll-out-Sort}
use Rattle.math_terms.specs.declared.term.Term.{Term}
use Rattle.math_terms.specs.declared.term.Term.TheOpen.{Term-F}
use Rattle.math_terms.specs.declared.term.Term.TheFolds.{map-Term, fold-roll-Term, ind-Term}
use Rattle.math_terms.specs.Laws.{SortedAreWell}
use Rattle.math_terms.specs.Sorts.{z, b, any, all_sorts, as_b, b_form, both_sorts, given, given_two, is_b, is_str, is_z, kept, mapped, meeting, part_of, sort, sort_step, str, str_form, tuple_option, z_form}
use Rattle.math_terms.specs.Kinds.{forget, kind, sort_of_desc}
use Rattle.math_terms.specs.Values.{Val, Num, Truth, is_number, is_string, is_truth}
use Rattle.math_terms.specs.Meaning.{Valuation}
use Rattle.math_terms.specs.Descriptors.{Interpretation, value}
use Rattle.math_terms.specs.Kinding.{IsFormula, Valued, kind_of, valued, valued_step}
use Rattle.math_terms.proofs.Shaped.{strings_have_kinds, values_have_kinds}
use Rattle.math_terms.proofs.SortsToKinds.{forget_roll, sorts_have_kinds}
use Rattle.math_terms.proofs.WellValued.{is_b_b, is_str_str, is_z_z, string_kind, valued_roll, valued_value}

-- what the tests of sorts tell of their kinds
z_tells : (x : Sort-F Sort) → z_form x ≡ true → forget (roll-Sort x) ≡ z
z_tells Sort-F.Z h = forget_roll Sort-F.Z
z_tells x h = cc

b_tells : (x : Sort-F Sort) → b_form x ≡ true → forget (roll-Sort x) ≡ b
b_tells Sort-F.B h = forget_roll Sort-F.B
b_tells x h = cc

str_tells : (x : Sort-F Sort) → str_form x ≡ true → forget (roll-Sort x) ≡ str any
str_tells (Sort-F.Str s) h = forget_roll (Sort-F.Str s)
str_tells x h = cc

number_kind : (v : Val) → is_number v ≡ true → kind_of v ≡ z
number_kind (Num n) h = refl
number_kind v h = cc

truth_kind : (v : Val) → is_truth v ≡ true → kind_of v ≡ b
truth_kind (Truth c) h = refl
truth_kind v h = cc

-- a sort that passes a test
pub record Passes (test : Sort → Bool) (x : Option Sort) : Type 0 where
  pub sort_of : Sort
  pub is : x ≡ Some sort_of
  pub test_is : test sort_of ≡ true

given_tells : (test : Sort → Bool) (r : Sort) (x : Option Sort) (s : Sort) → given test r x ≡ Some s → Passes test x
given_tells test r None s h = cc
given_tells test r (Some t) s h = by_test (test t) refl h
  where
    by_test : (c : Bool) → test t ≡ c → (if c then Some r else None) ≡ Some s → Passes test (Some t)
    by_test true e h = record { sort_of = t; is = refl; test_is = e }
    by_test false e h = cc

kept_tells : (test : Sort → Bool) (x : Option Sort) (s : Sort) → kept test x ≡ Some s → Passes test x
kept_tells test None s h = cc
kept_tells test (Some t) s h = by_test (test t) refl h
  where
    by_test : (c : Bool) → test t ≡ c → (if c then Some t else None) ≡ Some s → Passes test (Some t)
    by_test true e h = record { sort_of = t; is = refl; test_is = e }
    by_test false e h = cc

two_tell : (test : Sort → Bool) (r : Sort) (x y : Option Sort) (s : Sort) → given_two test r x y ≡ Some s → Passes test x × Passes test y
two_tell test r x None s h = cc
two_tell test r x (Some t) s h = by_test (test t) refl h
  where
    by_test : (c : Bool) → test t ≡ c → (if c then given test r x else None) ≡ Some s → Passes test x × Passes test (Some t)
    by_test true e h = (given_tells test r x s h, record { sort_of = t; is = refl; test_is = e })
    by_test false e h = cc

meeting_tells : (x y : Option Sort) (s : Sort) → meeting x y ≡ Some s → ((r : Sort) × (x ≡ Some r)) × ((r : Sort) × (y ≡ Some r))
meeting_tells None y s h = cc
meeting_tells (Some r) None s h = cc
meeting_tells (Some r) (Some q) s h = ((r, refl), (q, refl))

as_b_tells : (x : Option Sort) (s : Sort) → as_b x ≡ Some s → (r : Sort) × (x ≡ Some r)
as_b_tells None s h = cc
as_b_tells (Some r) s h = (r, refl)

mapped_tells : (f : Sort → Sort) (x : Option Sort) (s : Sort) → mapped f x ≡ Some s → (r : Sort) × (x ≡ Some r)
mapped_tells f None s h = cc
mapped_tells f (Some r) s h = (r, refl)

part_tells : (k : ℕ) (x : Option Sort) (s : Sort) → part_of k x ≡ Some s → (r : Sort) × (x ≡ Some r)
part_tells k None s h = cc
part_tells k (Some r) s h = (r, refl)

then_tells : (x y : Option Sort) (s : Sort) → option_and_then (λ n. y) x ≡ Some s → ((r : Sort) × (x ≡ Some r)) × (y ≡ Some s)
then_tells None y s h = cc
then_tells (Some r) y s h = ((r, refl), h)

module _ (vars : List Sort) (I : Interpretation) (w : Valuation)
    (values : (t : Term) → (kind vars t ≡ z → is_number (value I w t) ≡ true) × (kind vars t ≡ b → is_truth (value I w t) ≡ true))
    (strings : (t : Term) → is_str (kind vars t) ≡ true → is_string (value I w t) ≡ true) where
  IsWell : Term → Type 0
  IsWell t = (s : Sort) → sort vars t ≡ Some s → (valued I w t).1 ≡ true

  number_of : (t : Term) → Passes is_z (sort vars t) → is_z (kind_of (valued I w t).0) ≡ true
  number_of t p =
      let k : kind vars t ≡ z = sorts_have_kinds vars t p.sort_of p.is ∙ ap forget (sym (roll-out-Sort p.sort_of)) ∙ z_tells (out-Sort p.sort_of) p.test_is in
      ap (λ v. is_z (kind_of v)) (valued_value I w t) ∙ ap is_z (number_kind (value I w t) ((values t).0 k)) ∙ is_z_z

  truth_of : (t : Term) → Passes is_b (sort vars t) → is_b (kind_of (valued I w t).0) ≡ true
  truth_of t p =
      let k : kind vars t ≡ b = sorts_have_kinds vars t p.sort_of p.is ∙ ap forget (sym (roll-out-Sort p.sort_of)) ∙ b_tells (out-Sort p.sort_of) p.test_is in
      ap (λ v. is_b (kind_of v)) (valued_value I w t) ∙ ap is_b (truth_kind (value I w t) ((values t).1 k)) ∙ is_b_b

  string_of : (t : Term) → Passes is_str (sort vars t) → is_str (kind_of (valued I w t).0) ≡ true
  string_of t p =
      let k : kind vars t ≡ str any = sorts_have_kinds vars t p.sort_of p.is ∙ ap forget (sym (roll-out-Sort p.sort_of)) ∙ str_tells (out-Sort p.sort_of) p.test_is in
      ap (λ v. is_str (kind_of v)) (valued_value I w t) ∙ ap is_str (string_kind (value I w t) (strings t (ap is_str k ∙ is_str_str))) ∙ is_str_str

  abbrev Whole : Type 0
  Whole = (t : Term) × IsWell t

  ok_of : (e : Whole) → (x : Option Sort) → sort vars e.0 ≡ x → (r : Sort) × (x ≡ Some r) → (valued I w e.0).1 ≡ true
  unfolding IsWell
  ok_of e x is p = e.1 p.0 (is ∙ p.1)

  well : (test : Sort → Bool) (e : Whole) → Passes test (sort vars e.0) → (valued I w e.0).1 ≡ true
  unfolding IsWell
  well test e p = e.1 p.sort_of p.is

  numbers_well : (a c : Whole) (r s : Sort) → given_two is_z r (sort vars a.0) (sort vars c.0) ≡ Some s
      → ((is_z (kind_of (valued I w a.0).0) && is_z (kind_of (valued I w c.0).0)) && ((valued I w a.0).1 && (valued I w c.0).1)) ≡ true
  numbers_well a c r s h =
      let p = two_tell is_z r (sort vars a.0) (sort vars c.0) s h in
      and_from _ _ (and_from _ _ (number_of a.0 p.0) (number_of c.0 p.1)) (and_from _ _ (well is_z a p.0) (well is_z c p.1))

  truths_well : (a c : Whole) (r s : Sort) → given_two is_b r (sort vars a.0) (sort vars c.0) ≡ Some s
      → ((is_b (kind_of (valued I w a.0).0) && is_b (kind_of (valued I w c.0).0)) && ((valued I w a.0).1 && (valued I w c.0).1)) ≡ true
  truths_well a c r s h =
      let p = two_tell is_b r (sort vars a.0) (sort vars c.0) s h in
      and_from _ _ (and_from _ _ (truth_of a.0 p.0) (truth_of c.0 p.1)) (and_from _ _ (well is_b a p.0) (well is_b c p.1))

  one_well : (test : Sort → Bool) (a : Whole) → ((t : Term) → Passes test (sort vars t) → test (kind_of (valued I w t).0) ≡ true) → Passes test (sort vars a.0)
      → (test (kind_of (valued I w a.0).0) && (valued I w a.0).1) ≡ true
  one_well test a tells p = and_from _ _ (tells a.0 p) (well test a p)

  parts_well : (es : List Whole) (ss : List Sort) → all_sorts (map (sort vars) (map (λ (e : Whole). e.0) es)) ≡ Some ss
      → list_all (λ (p : Bool). p) (map (λ (p : Valued). p.1) (map (valued I w) (map (λ (e : Whole). e.0) es))) ≡ true
  parts_well [] ss h = refl
  parts_well (e ∷ es) ss h = both (sort vars e.0) (all_sorts (map (sort vars) (map (λ (e : Whole). e.0) es))) refl (λ rs k. parts_well es rs k) h
    where
      both : (x : Option Sort) (xs : Option (List Sort)) → sort vars e.0 ≡ x
          → ((rs : List Sort) → xs ≡ Some rs → list_all (λ (p : Bool). p) (map (λ (p : Valued). p.1) (map (valued I w) (map (λ (e : Whole). e.0) es))) ≡ true)
          → both_sorts x xs ≡ Some ss → ((valued I w e.0).1 && list_all (λ (p : Bool). p) (map (λ (p : Valued). p.1) (map (valued I w) (map (λ (e : Whole). e.0) es)))) ≡ true
      both None xs is more h = cc
      both (Some r) None is more h = cc
      both (Some r) (Some rs) is more h = and_from _ _ (ok_of e (Some r) is (r, refl)) (more rs refl)

  tuple_tells : (x : Option (List Sort)) (s : Sort) → tuple_option x ≡ Some s → (ss : List Sort) × (x ≡ Some ss)
  tuple_tells None s h = cc
  tuple_tells (Some ss) s h = (ss, refl)

  node_well : (y : Term-F Whole) (s : Sort) → sort_step vars (map-Term Term (Option Sort) (sort vars) (map-Term Whole Term (λ e. e.0) y)) ≡ Some s
      → (valued_step I w (map-Term Term Valued (valued I w) (map-Term Whole Term (λ e. e.0) y))).1 ≡ true
  node_well (Term-F.Num n) s h = refl
  node_well (Term-F.Truth c) s h = refl
  node_well Term-F.MinInt s h = refl
  node_well Term-F.MaxInt s h = refl
  node_well (Term-F.Var k) s h = refl
  node_well (Term-F.Add x y) s h = numbers_well x y z s h
  node_well (Term-F.Sub x y) s h = numbers_well x y z s h
  node_well (Term-F.Mul x y) s h = numbers_well x y z s h
  node_well (Term-F.Div x y) s h = numbers_well x y z s h
  node_well (Term-F.Mod x y) s h = numbers_well x y z s h
  node_well (Term-F.Len x) s h = one_well is_str x string_of (given_tells is_str z (sort vars x.0) s h)
  node_well Term-F.Empty s h = refl
  node_well (Term-F.Single x) s h = ok_of x (sort vars x.0) refl (mapped_tells str (sort vars x.0) s h)
  node_well (Term-F.Cat x y) s h =
      let p = meeting_tells (kept is_str (sort vars x.0)) (kept is_str (sort vars y.0)) s h in
      let f = kept_tells is_str (sort vars x.0) p.0.0 p.0.1 in
      let g = kept_tells is_str (sort vars y.0) p.1.0 p.1.1 in
      and_from _ _ (and_from _ _ (string_of x.0 f) (string_of y.0 g)) (and_from _ _ (well is_str x f) (well is_str y g))
  node_well (Term-F.Reverse x) s h = one_well is_str x string_of (kept_tells is_str (sort vars x.0) s h)
  node_well (Term-F.Part i j x) s h =
      let p = then_tells (given_two is_z z (sort vars i.0) (sort vars j.0)) (kept is_str (sort vars x.0)) s h in
      let n = two_tell is_z z (sort vars i.0) (sort vars j.0) p.0.0 p.0.1 in
      let f = kept_tells is_str (sort vars x.0) s p.1 in
      and_from _ _ (and_from _ _ (and_from _ _ (number_of i.0 n.0) (number_of j.0 n.1)) (string_of x.0 f))
      (and_from _ _ (and_from _ _ (well is_z i n.0) (well is_z j n.1)) (well is_str x f))
  node_well (Term-F.Tuple es) s h =
      let p = tuple_tells (all_sorts (map (sort vars) (map (λ (e : Whole). e.0) es))) s h in
      parts_well es p.0 p.1
  node_well (Term-F.Proj k x) s h = ok_of x (sort vars x.0) refl (part_tells k (sort vars x.0) s h)
  node_well (Term-F.Eq x y) s h =
      let q = as_b_tells (meeting (sort vars x.0) (sort vars y.0)) s h in
      let p = meeting_tells (sort vars x.0) (sort vars y.0) q.0 q.1 in
      and_from _ _ (ok_of x (sort vars x.0) refl p.0) (ok_of y (sort vars y.0) refl p.1)
  node_well (Term-F.Less x y) s h = numbers_well x y b s h
  node_well (Term-F.LessEq x y) s h = numbers_well x y b s h
  node_well (Term-F.Not x) s h = one_well is_b x truth_of (given_tells is_b b (sort vars x.0) s h)
  node_well (Term-F.And x y) s h = truths_well x y b s h
  node_well (Term-F.Or x y) s h = truths_well x y b s h
  node_well (Term-F.Implies x y) s h = truths_well x y b s h
  node_well (Term-F.Initial k x) s h =
      let q = as_b_tells (meeting (sort vars x.0) (Some (roll-Sort (Sort-F.Param k)))) s h in
      ok_of x (sort vars x.0) refl (meeting_tells (sort vars x.0) (Some (roll-Sort (Sort-F.Param k))) q.0 q.1).0

  pub sorted_well : (t : Term) (s : Sort) → sort vars t ≡ Some s → (valued I w t).1 ≡ true
  unfolding IsWell
  sorted_well = ind-Term IsWell (λ x y is s h.
      ap (λ (p : Valued). p.1) (valued_roll I w x)
      ∙ subst (λ q. (r : Sort) → sort_step vars (map-Term Term (Option Sort) (sort vars) q) ≡ Some r → (valued_step I w (map-Term Term Valued (valued I w) q)).1 ≡ true) is
      (node_well y) s (sym (fold-roll-Term (Option Sort) (sort_step vars) x) ∙ h))

  pub sorted_formula : (f : Term) → sort vars f ≡ Some b → IsFormula I w f
  sorted_formula f h =
      let k : kind vars f ≡ b = sorts_have_kinds vars f b h ∙ forget_roll Sort-F.B in
      (λ i. ((ap kind_of (valued_value I w f) ∙ truth_kind (value I w f) ((values f).1 k)) i, sorted_well f b h i))

pub sorted_are_well : SortedAreWell
sorted_are_well params I good w descs lies f h =
    sorted_formula (map sort_of_desc descs) I w (values_have_kinds params I good w descs lies) (strings_have_kinds params I good w descs lies) f h
