-- The value of a term is of the term's kind.
use Rattle.std.proofs.Common.{◌≡◌, ◌∙◌, sym, ap, refl, subst, ℕ, zero, suc, ◌+◌, pos, Bool, true, false, List, [], ◌∷◌, map, slice_get, slice_index_or, arith}
use Rattle.std.proofs.lemmas.Bool.{and_parts, and_from}
use Rattle.std.specs.List.{list_all}
use Rattle.math_terms.specs.declared.descriptor.Sort.{Sort}
use Rattle.math_terms.specs.declared.descriptor.Sort.TheOpen.{Sort-F}
use Rattle.math_terms.specs.declared.descriptor.Sort.TheViews.{roll-Sort, out-Sort}
use Rattle.math_terms.specs.declared.descriptor.Sort.TheFolds.{map-Sort, fold-Sort, fold-roll-Sort, fold_out-Sort}
use Rattle.math_terms.specs.declared.descriptor.Desc.{Desc}
use Rattle.math_terms.specs.declared.descriptor.Shape.{Shape}
use Rattle.math_terms.specs.declared.descriptor.Shape.TheOpen.{Shape-F, Desc-F}
use Rattle.math_terms.specs.declared.descriptor.Shape.TheFolds.{fold-Shape, fold-roll-Desc, fold-roll-Shape, map-Shape, map-Desc, ind-Desc}
use Rattle.math_terms.specs.declared.term.Term.{Term}
use Rattle.math_terms.specs.declared.term.Term.TheOpen.{Term-F}
use Rattle.math_terms.specs.declared.term.Term.TheFolds.{map-Term, fold-roll-Term, ind-Term}
use Rattle.math_terms.specs.Values.{Val, Num, Truth, Str, Tup, list_of, is_number, is_truth, is_string, truth, entries, tuple, projected}
use Rattle.math_terms.specs.Meaning.{Valuation, set_to, value_step, value_where}
use Rattle.math_terms.specs.Descriptors.{Interpretation, each_in, shape_step, member_step, member_where, lies_in, starts_in, member, value}
use Rattle.math_terms.specs.Sorts.{any, part_form, sort_of_var, str_form}
use Rattle.math_terms.specs.Kinds.{or_any, forget, forget_step, forget_option, kind, kind_step, sort_of_desc, sort_of_desc_step, sort_of_shape, sort_of_shape_step}
use Rattle.math_terms.specs.Validity.{lies_from}
use Rattle.math_terms.proofs.Sameness.{list_of-vals_of}
use Rattle.math_terms.specs.Laws.{StringsHaveKinds, ValuesHaveKinds}

-- whether a value has the form that a kind asks for; what a string holds is not asked
abbrev shaped_step : Sort-F (Val → Bool) → Val → Bool
shaped_step Sort-F.Z v = is_number v
shaped_step Sort-F.B v = is_truth v
shaped_step (Sort-F.Str s) v = is_string v
shaped_step (Sort-F.Tup ss) (Num n) = false
shaped_step (Sort-F.Tup ss) (Truth b) = false
shaped_step (Sort-F.Tup ss) (Str vs) = false
shaped_step (Sort-F.Tup ss) (Tup vs) = each_in ss (list_of vs)
shaped_step (Sort-F.Param k) v = true
shaped_step Sort-F.Any v = true

abbrev shaped : Sort → Val → Bool
shaped s v = fold-Sort (Val → Bool) shaped_step s v

shaped_roll : (x : Sort-F Sort) (v : Val) → shaped (roll-Sort x) v ≡ shaped_step (map-Sort Sort (Val → Bool) shaped x) v
shaped_roll x v = ap (λ (f : Val → Bool). f v) (fold-roll-Sort (Val → Bool) shaped_step x)

shaped_out : (s : Sort) (v : Val) → shaped s v ≡ shaped_step (map-Sort Sort (Val → Bool) shaped (out-Sort s)) v
shaped_out s v = ap (λ (f : Val → Bool). f v) (fold_out-Sort (Val → Bool) shaped_step s)

shaped_forget : (x : Sort-F Sort) (v : Val) → shaped (forget (roll-Sort x)) v ≡ shaped (forget_step (map-Sort Sort Sort forget x)) v
shaped_forget x v = ap (λ s. shaped s v) (fold-roll-Sort Sort forget_step x)

module _ (params : ℕ → Val → Bool) (starts : ℕ → Val → Bool) (w : Valuation) where
  abbrev member_of : Desc → Val → Bool
  member_of d v = member_where params starts d w v

  abbrev has_shape : Shape → Val → Bool
  has_shape s v = fold-Shape (Val → Bool) (Val → Bool) (shape_step params) (member_step starts w) s v

  ShapeGives : Shape → Type 0
  ShapeGives s = (v : Val) → has_shape s v ≡ true → shaped (forget (sort_of_shape s)) v ≡ true

  DescGives : Desc → Type 0
  DescGives d = (v : Val) → member_of d v ≡ true → shaped (forget (sort_of_desc d)) v ≡ true

  parts_give : (ds : List ((d : Desc) × DescGives d)) (vs : List Val) → each_in (map member_of (map (λ (e : (d : Desc) × DescGives d). e.0) ds)) vs ≡ true
      → each_in (map shaped (map forget (map sort_of_desc (map (λ (e : (d : Desc) × DescGives d). e.0) ds)))) vs ≡ true
  unfolding DescGives
  parts_give [] [] h = refl
  parts_give [] (v ∷ vs) h = cc
  parts_give (e ∷ es) [] h = cc
  parts_give (e ∷ es) (v ∷ vs) h =
      let q = and_parts (member_of e.0 v) (each_in (map member_of (map (λ (k : (d : Desc) × DescGives d). k.0) es)) vs) h in
      and_from (shaped (forget (sort_of_desc e.0)) v) (each_in (map shaped (map forget (map sort_of_desc (map (λ (k : (d : Desc) × DescGives d). k.0) es)))) vs) (e.1 v q.0) (parts_give es vs q.1)

  shape_gives : (y : Shape-F ((s : Shape) × ShapeGives s) ((d : Desc) × DescGives d)) (v : Val) →
      shape_step params (map-Shape Shape Desc (Val → Bool) (Val → Bool) has_shape member_of (map-Shape ((s : Shape) × ShapeGives s) ((d : Desc) × DescGives d) Shape Desc (λ e. e.0) (λ e. e.0) y)) v ≡ true →
      shaped (forget (sort_of_shape_step (map-Shape Shape Desc Sort Sort sort_of_shape sort_of_desc (map-Shape ((s : Shape) × ShapeGives s) ((d : Desc) × DescGives d) Shape Desc (λ e. e.0) (λ e. e.0) y)))) v ≡ true
  shape_gives Shape-F.Z v h = shaped_forget Sort-F.Z v ∙ shaped_roll Sort-F.Z v ∙ h
  shape_gives Shape-F.B v h = shaped_forget Sort-F.B v ∙ shaped_roll Sort-F.B v ∙ h
  shape_gives (Shape-F.Str e) v h =
      shaped_forget (Sort-F.Str (sort_of_desc e.0)) v ∙ shaped_roll (Sort-F.Str any) v ∙ (and_parts (is_string v) (list_all (member_of e.0) (entries v)) h).0
  shape_gives (Shape-F.Tup es) (Num n) h = cc
  shape_gives (Shape-F.Tup es) (Truth c) h = cc
  shape_gives (Shape-F.Tup es) (Str vs) h = cc
  shape_gives (Shape-F.Tup es) (Tup vs) h =
      let sorts : List Sort = map sort_of_desc (map (λ (e : (d : Desc) × DescGives d). e.0) es) in
      shaped_forget (Sort-F.Tup sorts) (Tup vs) ∙ shaped_roll (Sort-F.Tup (map forget sorts)) (Tup vs) ∙ parts_give es (list_of vs) h
  shape_gives (Shape-F.Param k) v h = shaped_forget (Sort-F.Param k) v ∙ shaped_roll (Sort-F.Param k) v

  desc_gives : (y : Desc-F ((s : Shape) × ShapeGives s) ((d : Desc) × DescGives d)) (v : Val) →
      member_step starts w (map-Desc Shape Desc (Val → Bool) (Val → Bool) has_shape member_of (map-Desc ((s : Shape) × ShapeGives s) ((d : Desc) × DescGives d) Shape Desc (λ e. e.0) (λ e. e.0) y)) v ≡ true →
      shaped (forget (sort_of_desc_step (map-Desc Shape Desc Sort Sort sort_of_shape sort_of_desc (map-Desc ((s : Shape) × ShapeGives s) ((d : Desc) × DescGives d) Shape Desc (λ e. e.0) (λ e. e.0) y)))) v ≡ true
  unfolding ShapeGives
  desc_gives y v h =
      let d : Desc-F (Val → Bool) (Val → Bool) = map-Desc Shape Desc (Val → Bool) (Val → Bool) has_shape member_of (map-Desc ((s : Shape) × ShapeGives s) ((d : Desc) × DescGives d) Shape Desc (λ e. e.0) (λ e. e.0) y) in
      y.shape.1 v (and_parts (d.shape v) (truth (value_where starts (set_to 0 v w) d.constraint)) h).0

  -- a member has the form of the descriptor's sort
  member_gives : (d : Desc) (v : Val) → member_of d v ≡ true → shaped (forget (sort_of_desc d)) v ≡ true
  unfolding ShapeGives DescGives
  member_gives = ind-Desc ShapeGives DescGives
      (λ x y is v h.
      ap (λ s. shaped (forget s) v) (fold-roll-Shape Sort Sort sort_of_shape_step sort_of_desc_step x)
      ∙ subst (λ z. (u : Val) → shape_step params (map-Shape Shape Desc (Val → Bool) (Val → Bool) has_shape member_of z) u ≡ true → shaped (forget (sort_of_shape_step (map-Shape Shape Desc Sort Sort sort_of_shape sort_of_desc z))) u ≡ true) is
      (shape_gives y) v (ap (λ (f : Val → Bool). f v) (sym (fold-roll-Shape (Val → Bool) (Val → Bool) (shape_step params) (member_step starts w) x)) ∙ h))
      (λ x y is v h.
      ap (λ s. shaped (forget s) v) (fold-roll-Desc Sort Sort sort_of_shape_step sort_of_desc_step x)
      ∙ subst (λ z. (u : Val) → member_step starts w (map-Desc Shape Desc (Val → Bool) (Val → Bool) has_shape member_of z) u ≡ true → shaped (forget (sort_of_desc_step (map-Desc Shape Desc Sort Sort sort_of_shape sort_of_desc z))) u ≡ true) is
      (desc_gives y) v (ap (λ (f : Val → Bool). f v) (sym (fold-roll-Desc (Val → Bool) (Val → Bool) (shape_step params) (member_step starts w) x)) ∙ h))

-- variables that lie in their descriptors
lying_shaped : (I : Interpretation) (w : Valuation) (k j : ℕ) (ds : List Desc) → lies_from I w k ds ≡ true → shaped (forget_option (slice_get (map sort_of_desc ds) j)) (w (k + j)) ≡ true
lying_shaped I w k j [] h = shaped_roll Sort-F.Any (w (k + j))
lying_shaped I w k zero (d ∷ ds) h =
    let e : k + 0 ≡ k = omega arith in
    ap (λ n. shaped (forget (sort_of_desc d)) (w n)) e
    ∙ member_gives (lies_in I) (starts_in I) w d (w k) (and_parts (member I w d (w k)) (lies_from I w (k + 1) ds) h).0
lying_shaped I w k (suc j) (d ∷ ds) h =
    let e : k + suc j ≡ k + 1 + j = omega arith in
    ap (λ n. shaped (forget_option (slice_get (map sort_of_desc ds) j)) (w n)) e
    ∙ lying_shaped I w (k + 1) j ds (and_parts (member I w d (w k)) (lies_from I w (k + 1) ds) h).1

variables_shaped : (I : Interpretation) (w : Valuation) (ds : List Desc) → lies_from I w 1 ds ≡ true → (k : ℕ) → shaped (forget_option (sort_of_var (map sort_of_desc ds) k)) (w k) ≡ true
variables_shaped I w ds h zero = shaped_roll Sort-F.Any (w 0)
variables_shaped I w ds h (suc k) =
    let e : suc k ≡ 1 + k = omega arith in
    ap (λ n. shaped (forget_option (slice_get (map sort_of_desc ds) k)) (w n)) e ∙ lying_shaped I w 1 k ds h

-- part k of a tuple
list_part_shaped : (k : ℕ) (ss : List Sort) (vs : List Val) → each_in (map shaped ss) vs ≡ true → shaped (or_any (slice_get ss k)) (slice_index_or vs k (Num (pos 0))) ≡ true
list_part_shaped k [] vs h = shaped_roll Sort-F.Any (slice_index_or vs k (Num (pos 0)))
list_part_shaped k (s ∷ ss) [] h = cc
list_part_shaped zero (s ∷ ss) (v ∷ vs) h = (and_parts (shaped s v) (each_in (map shaped ss) vs) h).0
list_part_shaped (suc k) (s ∷ ss) (v ∷ vs) h = list_part_shaped k ss vs (and_parts (shaped s v) (each_in (map shaped ss) vs) h).1

form_part_shaped : (k : ℕ) (x : Sort-F Sort) (v : Val) → shaped_step (map-Sort Sort (Val → Bool) shaped x) v ≡ true → shaped (or_any (part_form k x)) (projected k v) ≡ true
form_part_shaped k Sort-F.Z v h = shaped_roll Sort-F.Any (projected k v)
form_part_shaped k Sort-F.B v h = shaped_roll Sort-F.Any (projected k v)
form_part_shaped k (Sort-F.Str s) v h = shaped_roll Sort-F.Any (projected k v)
form_part_shaped k (Sort-F.Tup ss) (Num n) h = cc
form_part_shaped k (Sort-F.Tup ss) (Truth b) h = cc
form_part_shaped k (Sort-F.Tup ss) (Str vs) h = cc
form_part_shaped k (Sort-F.Tup ss) (Tup vs) h = list_part_shaped k ss (list_of vs) h
form_part_shaped k (Sort-F.Param j) v h = shaped_roll Sort-F.Any (projected k v)
form_part_shaped k Sort-F.Any v h = shaped_roll Sort-F.Any (projected k v)

part_shaped : (k : ℕ) (s : Sort) (v : Val) → shaped s v ≡ true → shaped (or_any (part_form k (out-Sort s))) (projected k v) ≡ true
part_shaped k s v h = form_part_shaped k (out-Sort s) v (sym (shaped_out s v) ∙ h)

module _ (starts : ℕ → Val → Bool) (w : Valuation) (vars : List Sort) (vars_shaped : (k : ℕ) → shaped (forget_option (sort_of_var vars k)) (w k) ≡ true) where
  HasKind : Term → Type 0
  HasKind t = shaped (kind vars t) (value_where starts w t) ≡ true

  -- the kinds and the values of the children
  abbrev kinds : Term-F ((t : Term) × HasKind t) → Term-F Sort
  kinds y = map-Term Term Sort (kind vars) (map-Term ((t : Term) × HasKind t) Term (λ e. e.0) y)

  abbrev values : Term-F ((t : Term) × HasKind t) → Term-F Val
  values y = map-Term Term Val (value_where starts w) (map-Term ((t : Term) × HasKind t) Term (λ e. e.0) y)

  all_shaped : (parts : List ((t : Term) × HasKind t)) →
      each_in (map shaped (map (kind vars) (map (λ (e : (t : Term) × HasKind t). e.0) parts))) (map (value_where starts w) (map (λ (e : (t : Term) × HasKind t). e.0) parts)) ≡ true
  unfolding HasKind
  all_shaped [] = refl
  all_shaped (e ∷ es) =
      let terms : List Term = map (λ (k : (t : Term) × HasKind t). k.0) es in
      and_from (shaped (kind vars e.0) (value_where starts w e.0)) (each_in (map shaped (map (kind vars) terms)) (map (value_where starts w) terms)) e.1 (all_shaped es)

  tuple_shaped : (parts : List ((t : Term) × HasKind t)) →
      shaped (kind_step vars (kinds (Term-F.Tuple parts))) (value_step starts w (values (Term-F.Tuple parts))) ≡ true
  tuple_shaped parts =
      let terms : List Term = map (λ (k : (t : Term) × HasKind t). k.0) parts in
      shaped_roll (Sort-F.Tup (map (kind vars) terms)) (tuple (map (value_where starts w) terms))
      ∙ ap (each_in (map shaped (map (kind vars) terms))) (list_of-vals_of (map (value_where starts w) terms))
      ∙ all_shaped parts

  -- the same of a node, where it holds of the children
  node_shaped : (y : Term-F ((t : Term) × HasKind t)) → shaped (kind_step vars (kinds y)) (value_step starts w (values y)) ≡ true
  unfolding HasKind
  node_shaped (Term-F.Num n) = shaped_roll Sort-F.Z (value_step starts w (values (Term-F.Num n)))
  node_shaped (Term-F.Truth b) = shaped_roll Sort-F.B (value_step starts w (values (Term-F.Truth b)))
  node_shaped Term-F.MinInt = shaped_roll Sort-F.Z (value_step starts w (values Term-F.MinInt))
  node_shaped Term-F.MaxInt = shaped_roll Sort-F.Z (value_step starts w (values Term-F.MaxInt))
  node_shaped (Term-F.Var k) = vars_shaped k
  node_shaped (Term-F.Add a b) = shaped_roll Sort-F.Z (value_step starts w (values (Term-F.Add a b)))
  node_shaped (Term-F.Sub a b) = shaped_roll Sort-F.Z (value_step starts w (values (Term-F.Sub a b)))
  node_shaped (Term-F.Mul a b) = shaped_roll Sort-F.Z (value_step starts w (values (Term-F.Mul a b)))
  node_shaped (Term-F.Div a b) = shaped_roll Sort-F.Z (value_step starts w (values (Term-F.Div a b)))
  node_shaped (Term-F.Mod a b) = shaped_roll Sort-F.Z (value_step starts w (values (Term-F.Mod a b)))
  node_shaped (Term-F.Len a) = shaped_roll Sort-F.Z (value_step starts w (values (Term-F.Len a)))
  node_shaped Term-F.Empty = shaped_roll (Sort-F.Str any) (value_step starts w (values Term-F.Empty))
  node_shaped (Term-F.Single a) = shaped_roll (Sort-F.Str any) (value_step starts w (values (Term-F.Single a)))
  node_shaped (Term-F.Cat a b) = shaped_roll (Sort-F.Str any) (value_step starts w (values (Term-F.Cat a b)))
  node_shaped (Term-F.Reverse a) = shaped_roll (Sort-F.Str any) (value_step starts w (values (Term-F.Reverse a)))
  node_shaped (Term-F.Part i j a) = shaped_roll (Sort-F.Str any) (value_step starts w (values (Term-F.Part i j a)))
  node_shaped (Term-F.Tuple parts) = tuple_shaped parts
  node_shaped (Term-F.Proj k a) = part_shaped k (kind vars a.0) (value_where starts w a.0) a.1
  node_shaped (Term-F.Eq a b) = shaped_roll Sort-F.B (value_step starts w (values (Term-F.Eq a b)))
  node_shaped (Term-F.Less a b) = shaped_roll Sort-F.B (value_step starts w (values (Term-F.Less a b)))
  node_shaped (Term-F.LessEq a b) = shaped_roll Sort-F.B (value_step starts w (values (Term-F.LessEq a b)))
  node_shaped (Term-F.Not a) = shaped_roll Sort-F.B (value_step starts w (values (Term-F.Not a)))
  node_shaped (Term-F.And a b) = shaped_roll Sort-F.B (value_step starts w (values (Term-F.And a b)))
  node_shaped (Term-F.Or a b) = shaped_roll Sort-F.B (value_step starts w (values (Term-F.Or a b)))
  node_shaped (Term-F.Implies a b) = shaped_roll Sort-F.B (value_step starts w (values (Term-F.Implies a b)))
  node_shaped (Term-F.Initial k a) = shaped_roll Sort-F.B (value_step starts w (values (Term-F.Initial k a)))

  -- The value of a term is of the term's kind.
  pub value_shaped : (t : Term) → shaped (kind vars t) (value_where starts w t) ≡ true
  unfolding HasKind
  value_shaped = ind-Term HasKind (λ x y is.
      (λ i. shaped (fold-roll-Term Sort (kind_step vars) x i) (fold-roll-Term Val (value_step starts w) x i))
      ∙ subst (λ z. shaped (kind_step vars (map-Term Term Sort (kind vars) z)) (value_step starts w (map-Term Term Val (value_where starts w) z)) ≡ true) is (node_shaped y))

pub values_have_kinds : ValuesHaveKinds
values_have_kinds params I good w descs lies t =
    let vars : List Sort = map sort_of_desc descs in
    let h : shaped (kind vars t) (value I w t) ≡ true = value_shaped (starts_in I) w vars (variables_shaped I w descs lies) t in (
      λ e. sym (shaped_roll Sort-F.Z (value I w t)) ∙ ap (λ s. shaped s (value I w t)) (sym e) ∙ h,
      λ e. sym (shaped_roll Sort-F.B (value I w t)) ∙ ap (λ s. shaped s (value I w t)) (sym e) ∙ h,
    )

string_form : (x : Sort-F Sort) (v : Val) → str_form x ≡ true → shaped_step (map-Sort Sort (Val → Bool) shaped x) v ≡ true → is_string v ≡ true
string_form (Sort-F.Str s) v h e = e
string_form x v h e = cc

pub strings_have_kinds : StringsHaveKinds
strings_have_kinds params I good w descs lies t e =
    let vars : List Sort = map sort_of_desc descs in
    let h : shaped (kind vars t) (value I w t) ≡ true = value_shaped (starts_in I) w vars (variables_shaped I w descs lies) t in
    string_form (out-Sort (kind vars t)) (value I w t) e (sym (shaped_out (kind vars t) (value I w t)) ∙ h)
