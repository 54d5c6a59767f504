-- The kinds of terms by the cells where they stand.
use Rattle.std.proofs.Common.{◌≡◌, ◌∙◌, sym, ap, refl, subst, ℕ, zero, suc, ◌+◌, ◌<◌, ◌≤◌, pos, unsigned_abs, true, false, List, [], ◌∷◌, map, length, Option, Some, None, slice_get, arith}
use Rattle.std.specs.Borrow.{Bor}
use Rattle.std.proofs.lemmas.Bool.{eq-eqb, false≢true}
use Rattle.math_terms.specs.declared.descriptor.Desc.{Desc}
use Rattle.math_terms.specs.declared.descriptor.Sort.{Sort}
use Rattle.math_terms.specs.declared.descriptor.Sort.TheOpen.{Sort-F}
use Rattle.math_terms.specs.declared.descriptor.Sort.TheViews.{out-Sort, out-roll-Sort}
use Rattle.math_terms.specs.declared.name.Name.{Name}
use Rattle.math_terms.specs.declared.term.Term.{Term}
use Rattle.math_terms.specs.declared.term.Term.TheOpen.{Term-F}
use Rattle.math_terms.specs.declared.term.Term.TheViews.{out-Term}
use Rattle.math_terms.specs.declared.term.Term.TheFolds.{map-Term, fold_out-Term}
use Rattle.math_terms.specs.Heads.{children, form, own}
use Rattle.math_terms.specs.Kinds.{forget_option, kind, kind_step, or_any, sort_of_desc}
use Rattle.math_terms.specs.Sorts.{z, b, any, is_str, str, str_form, tup, part_form, sort_of_var}
use Rattle.term_cells.specs.declared.cell.Cell.{Cell}
use Rattle.term_cells.specs.declared.kind.Kind.{Kind}
use Rattle.term_cells.specs.declared.kind.Kind.TheVariants.{Number, Truth, Text, Parts, Descs, Other}
use Rattle.term_cells.specs.KindShown.{PartAt, PartsBelow, Shows, ShowsIn, is_number_form, is_truth_form, is_other, kind_of_desc, sorts_of_vars}
use Rattle.term_cells.specs.Standing.{few_stand, parts_stand, stands, stands_below}
use Rattle.term_cells.proofs.Apart.{below_parts}
use Rattle.term_cells.proofs.ByForm.{its_form, its_own, its_few, its_count, leaf_is}
use Rattle.term_cells.proofs.Comparing.{first_below, end_cell, link_cell, parts_below}
use Rattle.term_cells.proofs.Forms.{mapped_heads, remade, node_remade}
use Rattle.term_cells.proofs.Openings.{opens}
use Rattle.term_cells.proofs.Telling.{parts_of}

number_step : (sorts : List Sort) (x : Term-F Sort) → is_number_form (form x) ≡ true → kind_step sorts x ≡ z
number_step sorts (Term-F.Num n) h = refl
number_step sorts Term-F.MinInt h = refl
number_step sorts Term-F.MaxInt h = refl
number_step sorts (Term-F.Add a b) h = refl
number_step sorts (Term-F.Sub a b) h = refl
number_step sorts (Term-F.Mul a b) h = refl
number_step sorts (Term-F.Div a b) h = refl
number_step sorts (Term-F.Mod a b) h = refl
number_step sorts (Term-F.Len a) h = refl
number_step sorts x h = cc

truth_step : (sorts : List Sort) (x : Term-F Sort) → is_truth_form (form x) ≡ true → kind_step sorts x ≡ b
truth_step sorts (Term-F.Truth b) h = refl
truth_step sorts (Term-F.Eq a b) h = refl
truth_step sorts (Term-F.Less a b) h = refl
truth_step sorts (Term-F.LessEq a b) h = refl
truth_step sorts (Term-F.Not a) h = refl
truth_step sorts (Term-F.And a b) h = refl
truth_step sorts (Term-F.Or a b) h = refl
truth_step sorts (Term-F.Implies a b) h = refl
truth_step sorts (Term-F.Initial k a) h = refl
truth_step sorts x h = cc

string_step : (sorts : List Sort) (x : Term-F Sort) → is_number_form (form x) ≡ false → is_truth_form (form x) ≡ false → (form x ≡ 16 → ⊥) → (form x ≡ 4 → ⊥) → (form x ≡ 17 → ⊥) →
    kind_step sorts x ≡ str any
string_step sorts (Term-F.Var k) h i f g k' = absurd (g refl)
string_step sorts Term-F.Empty h i f g k' = refl
string_step sorts (Term-F.Single a) h i f g k' = refl
string_step sorts (Term-F.Cat a b) h i f g k' = refl
string_step sorts (Term-F.Reverse a) h i f g k' = refl
string_step sorts (Term-F.Part l j a) h i f g k' = refl
string_step sorts (Term-F.Tuple parts) h i f g k' = absurd (f refl)
string_step sorts (Term-F.Proj k a) h i f g k' = absurd (k' refl)
string_step sorts x h i f g k' = cc

kind_out : (sorts : List Sort) (t : Term) → kind sorts t ≡ kind_step sorts (map-Term Term Sort (kind sorts) (out-Term t))
kind_out sorts t = fold_out-Term Sort (kind_step sorts) t

tuple_is : (x : Term-F Term) → form x ≡ 16 → x ≡ Term-F.Tuple (children x)
tuple_is x e =
    let all : Some (Term-F.Tuple (children x)) ≡ Some x = (λ i. remade (sym e i) (own x) (children x)) ∙ node_remade x in
    cc

projection_is : (x : Term-F Term) (y : Term) → form x ≡ 17 → children x ≡ y ∷ [] → x ≡ Term-F.Proj (unsigned_abs (own x)) y
projection_is x y e f =
    let all : Some (Term-F.Proj (unsigned_abs (own x)) y) ≡ Some x = (λ i. remade (sym e i) (own x) (sym f i)) ∙ node_remade x in
    cc

single : (ts : List Term) → length ts ≡ 1 → (t : Term) × (ts ≡ t ∷ [])
single [] l = cc
single (t ∷ []) l = (t, refl)
single (t ∷ s ∷ ts) l = cc

-- a projection, its number and what it is of
pub record IsProjection (cells : List Cell) (sorts : List Sort) (t : Term) (p : ℕ) (c : Cell) : Type 0 where
  pub number : ℕ
  pub of_term : Term
  pub own_is : c.own ≡ pos number
  pub kind_is : kind sorts t ≡ or_any (part_form number (out-Sort (kind sorts of_term)))
  pub stands_is : stands_below (stands cells of_term) c.a p ≡ true

-- a variable and its number
pub record IsVariable (sorts : List Sort) (t : Term) (c : Cell) : Type 0 where
  pub number : ℕ
  pub own_is : c.own ≡ pos number
  pub kind_is : kind sorts t ≡ forget_option (sort_of_var sorts number)

module _ (cells : List Cell) (sorts : List Sort) (t : Term) (p : ℕ) (c : Cell) (at_p : slice_get cells p ≡ Some c) (h : stands cells t p ≡ true) where
  mapped : Term-F Sort
  mapped = map-Term Term Sort (kind sorts) (out-Term t)

  mapped_form : form mapped ≡ c.form
  unfolding mapped
  mapped_form = (mapped_heads (kind sorts) (out-Term t)).0 ∙ its_form cells t p c c.form at_p refl h

  pub number_kind : is_number_form c.form ≡ true → kind sorts t ≡ z
  unfolding mapped
  number_kind e = kind_out sorts t ∙ number_step sorts mapped (ap is_number_form mapped_form ∙ e)

  pub truth_kind : is_truth_form c.form ≡ true → kind sorts t ≡ b
  unfolding mapped
  truth_kind e = kind_out sorts t ∙ truth_step sorts mapped (ap is_truth_form mapped_form ∙ e)

  pub string_kind : is_number_form c.form ≡ false → is_truth_form c.form ≡ false → (c.form ≡ 16 → ⊥) → (c.form ≡ 4 → ⊥) → (c.form ≡ 17 → ⊥) → is_str (kind sorts t) ≡ true
  unfolding mapped
  string_kind e f g i j =
      let same : kind sorts t ≡ str any =
      kind_out sorts t
      ∙ string_step sorts mapped (ap is_number_form mapped_form ∙ e) (ap is_truth_form mapped_form ∙ f)
      (λ k. g (sym mapped_form ∙ k)) (λ k. i (sym mapped_form ∙ k)) (λ k. j (sym mapped_form ∙ k)) in
      ap is_str same ∙ ap str_form (out-roll-Sort (Sort-F.Str any))

  pub tuple_kind : c.form ≡ 16 → kind sorts t ≡ tup (map (kind sorts) (children (out-Term t)))
  tuple_kind e =
      kind_out sorts t
      ∙ ap (λ x. kind_step sorts (map-Term Term Sort (kind sorts) x)) (tuple_is (out-Term t) (its_form cells t p c 16 at_p e h))

  pub tuple_parts : c.form ≡ 16 → parts_stand cells (map (stands cells) (children (out-Term t))) c.a p ≡ true
  tuple_parts e = parts_of cells c.form (map (stands cells) (children (out-Term t))) c p (eq-eqb c.form 16 e) (opens cells t p c at_p h).children_are

  pub variable_kind : c.form ≡ 4 → IsVariable sorts t c
  variable_kind e =
      let n = unsigned_abs c.own in
      let x = leaf_is cells t p c 4 at_p e h refl refl (Term-F.Var n) refl in
      record {
        number = n;
        own_is = sym (its_own cells t p c 4 at_p e h) ∙ ap own x;
        kind_is = kind_out sorts t ∙ ap (λ y. kind_step sorts (map-Term Term Sort (kind sorts) y)) x;
      }

  pub projection_kind : c.form ≡ 17 → IsProjection cells sorts t p c
  projection_kind e =
      let n = unsigned_abs (own (out-Term t)) in
      let one = single (children (out-Term t)) (its_count cells t p c 17 at_p e h refl) in
      let y = one.0 in
      let x = projection_is (out-Term t) y (its_form cells t p c 17 at_p e h) one.1 in
      record {
        number = n;
        of_term = y;
        own_is = sym (its_own cells t p c 17 at_p e h) ∙ ap own x;
        kind_is = kind_out sorts t ∙ ap (λ k. kind_step sorts (map-Term Term Sort (kind sorts) k)) x;
        stands_is = first_below cells y [] c p (ap (λ ts. few_stand (map (stands cells) ts) c p) (sym one.1) ∙ its_few cells t p c 17 at_p e h refl);
      }

pub shows_in : (cells : List Cell) (sorts : List Sort) (k : Kind) (s : Sort) → ShowsIn k s → Shows cells sorts k s
shows_in cells sorts Number s h = h
shows_in cells sorts Truth s h = h
shows_in cells sorts Text s h = h
shows_in cells sorts (Parts at) s h = absurd h
shows_in cells sorts (Descs ds) s h = h
shows_in cells sorts Other s h = h

pub in_below : (k : Kind) (s : Sort) (p : ℕ) → ShowsIn k s → PartsBelow p k
in_below Number s p h = tt
in_below Truth s p h = tt
in_below Text s p h = tt
in_below (Parts at) s p h = absurd h
in_below (Descs ds) s p h = tt
in_below Other s p h = tt

pub get_past : {X : Type 0} (xs : List X) (k : ℕ) → length xs ≤ k → slice_get xs k ≡ None
get_past [] k l = refl
get_past (x ∷ xs) zero l = absurd (omega arith)
get_past (x ∷ xs) (suc k) l = get_past xs k (omega arith)

get_map : {X Y : Type 0} (f : X → Y) (xs : List X) (k : ℕ) (x : X) → slice_get xs k ≡ Some x → slice_get (map f xs) k ≡ Some (f x)
get_map f [] k x e = cc
get_map f (y ∷ xs) zero x e = ap (λ v. Some (f v)) cc
get_map f (y ∷ xs) (suc k) x e = get_map f xs k x e

pub get_map_none : {X Y : Type 0} (f : X → Y) (xs : List X) (k : ℕ) → slice_get xs k ≡ None → slice_get (map f xs) k ≡ None
get_map_none f [] k e = refl
get_map_none f (y ∷ xs) zero e = cc
get_map_none f (y ∷ xs) (suc k) e = get_map_none f xs k e

pub any_is_other : is_other (out-Sort any) ≡ true
any_is_other = ap is_other (out-roll-Sort Sort-F.Any)

-- one of a list that may not be there
pub entry_shows : (vars : List (Name × Desc)) (k : ℕ) (v : Name × Desc) (r : Kind) → slice_get vars k ≡ Some v → ShowsIn r (kind_of_desc v.1) → ShowsIn r (forget_option (slice_get (sorts_of_vars vars) k))
entry_shows vars k v r e h = subst (λ o. ShowsIn r (forget_option o)) (sym (get_map (λ (x : Name × Desc). sort_of_desc x.1) vars k v e)) h

pub no_entry : (vars : List (Name × Desc)) (k : ℕ) → slice_get vars k ≡ None → is_other (out-Sort (forget_option (slice_get (sorts_of_vars vars) k))) ≡ true
no_entry vars k e = ap (λ o. is_other (out-Sort (forget_option o))) (get_map_none (λ (x : Name × Desc). sort_of_desc x.1) vars k e) ∙ any_is_other

pub desc_shows : (ds : List Desc) (k : ℕ) (d : Desc) (r : Kind) → slice_get ds k ≡ Some d → ShowsIn r (kind_of_desc d) → ShowsIn r (or_any (slice_get (map kind_of_desc ds) k))
desc_shows ds k d r e h = subst (λ o. ShowsIn r (or_any o)) (sym (get_map kind_of_desc ds k d e)) h

pub no_desc : (ds : List Desc) (k : ℕ) → slice_get ds k ≡ None → is_other (out-Sort (or_any (slice_get (map kind_of_desc ds) k))) ≡ true
no_desc ds k e = ap (λ o. is_other (out-Sort (or_any o))) (get_map_none kind_of_desc ds k e) ∙ any_is_other

-- the part of a tuple
part_of_tuple : (n : ℕ) (ss : List Sort) (s : Sort) → s ≡ tup ss → part_form n (out-Sort s) ≡ slice_get ss n
part_of_tuple n ss s e = ap (λ v. part_form n (out-Sort v)) e ∙ ap (part_form n) (out-roll-Sort (Sort-F.Tup ss))

pub part_shows : (cells : List Cell) (sorts : List Sort) (s : Sort) (ts : List Term) (n : ℕ) (t : Term) (r : Kind) → s ≡ tup (map (kind sorts) ts) → slice_get ts n ≡ Some t → Shows cells sorts r (kind sorts t) →
    Shows cells sorts r (or_any (part_form n (out-Sort s)))
part_shows cells sorts s ts n t r e f h =
    subst (λ o. Shows cells sorts r (or_any o)) (sym (part_of_tuple n (map (kind sorts) ts) s e ∙ get_map (kind sorts) ts n t f)) h

pub no_part : (sorts : List Sort) (s : Sort) (ts : List Term) (n : ℕ) → s ≡ tup (map (kind sorts) ts) → slice_get ts n ≡ None → is_other (out-Sort (or_any (part_form n (out-Sort s)))) ≡ true
no_part sorts s ts n e f =
    ap (λ o. is_other (out-Sort (or_any o))) (part_of_tuple n (map (kind sorts) ts) s e ∙ get_map_none (kind sorts) ts n f) ∙ any_is_other

pub descs_show : (cells : List Cell) (sorts : List Sort) (s : Sort) (ds : List Desc) (n : ℕ) (r : Kind) → s ≡ tup (map kind_of_desc ds) → ShowsIn r (or_any (slice_get (map kind_of_desc ds) n)) →
    Shows cells sorts r (or_any (part_form n (out-Sort s)))
descs_show cells sorts s ds n r e h =
    subst (λ o. Shows cells sorts r (or_any o)) (sym (part_of_tuple n (map kind_of_desc ds) s e)) (shows_in cells sorts r (or_any (slice_get (map kind_of_desc ds) n)) h)

-- what is no tuple has no parts
no_parts_form : (x : Sort-F Sort) (n : ℕ) → ((ss : List Sort) → x ≡ Sort-F.Tup ss → ⊥) → part_form n x ≡ None
no_parts_form Sort-F.Z n f = refl
no_parts_form Sort-F.B n f = refl
no_parts_form (Sort-F.Str s) n f = refl
no_parts_form (Sort-F.Tup ss) n f = absurd (f ss refl)
no_parts_form (Sort-F.Param k) n f = refl
no_parts_form Sort-F.Any n f = refl

no_tuple_shown : (cells : List Cell) (sorts : List Sort) (r : Kind) (s : Sort) → ((at : ℕ) → r ≡ Parts at → ⊥) → ((ds : Bor (List Desc)) → r ≡ Descs ds → ⊥) → Shows cells sorts r s →
    (ss : List Sort) → out-Sort s ≡ Sort-F.Tup ss → ⊥
no_tuple_shown cells sorts Number s f g h ss e =
    let same : Sort-F.Z ≡ Sort-F.Tup ss = sym (ap out-Sort h ∙ out-roll-Sort Sort-F.Z) ∙ e in
    cc
no_tuple_shown cells sorts Truth s f g h ss e =
    let same : Sort-F.B ≡ Sort-F.Tup ss = sym (ap out-Sort h ∙ out-roll-Sort Sort-F.B) ∙ e in
    cc
no_tuple_shown cells sorts Text s f g h ss e = false≢true (ap str_form (sym e) ∙ h)
no_tuple_shown cells sorts (Parts at) s f g h ss e = f at refl
no_tuple_shown cells sorts (Descs ds) s f g h ss e = g ds refl
no_tuple_shown cells sorts Other s f g h ss e = false≢true (ap is_other (sym e) ∙ h)

pub plain_part : (cells : List Cell) (sorts : List Sort) (r : Kind) (s : Sort) (n : ℕ) → ((at : ℕ) → r ≡ Parts at → ⊥) → ((ds : Bor (List Desc)) → r ≡ Descs ds → ⊥) → Shows cells sorts r s →
    is_other (out-Sort (or_any (part_form n (out-Sort s)))) ≡ true
plain_part cells sorts r s n f g h =
    ap (λ o. is_other (out-Sort (or_any o))) (no_parts_form (out-Sort s) n (no_tuple_shown cells sorts r s f g h)) ∙ any_is_other

-- numbers and truth values are shown as such
pub no_number : (cells : List Cell) (sorts : List Sort) (r : Kind) (s : Sort) → (r ≡ Number → ⊥) → Shows cells sorts r s → s ≡ z → ⊥
no_number cells sorts Number s f h e = f refl
no_number cells sorts Truth s f h e =
    let same : Sort-F.B ≡ Sort-F.Z = sym (ap out-Sort h ∙ out-roll-Sort Sort-F.B) ∙ ap out-Sort e ∙ out-roll-Sort Sort-F.Z in
    cc
no_number cells sorts Text s f h e = false≢true (sym (ap str_form (ap out-Sort e ∙ out-roll-Sort Sort-F.Z)) ∙ h)
no_number cells sorts (Parts at) s f h e =
    let same : Sort-F.Tup (map (kind sorts) h.0) ≡ Sort-F.Z = sym (ap out-Sort h.1 ∙ out-roll-Sort (Sort-F.Tup (map (kind sorts) h.0))) ∙ ap out-Sort e ∙ out-roll-Sort Sort-F.Z in
    cc
no_number cells sorts (Descs ds) s f h e =
    let same : Sort-F.Tup (map kind_of_desc ds.now) ≡ Sort-F.Z = sym (ap out-Sort h ∙ out-roll-Sort (Sort-F.Tup (map kind_of_desc ds.now))) ∙ ap out-Sort e ∙ out-roll-Sort Sort-F.Z in
    cc
no_number cells sorts Other s f h e = false≢true (sym (ap is_other (ap out-Sort e ∙ out-roll-Sort Sort-F.Z)) ∙ h)

pub no_truth : (cells : List Cell) (sorts : List Sort) (r : Kind) (s : Sort) → (r ≡ Truth → ⊥) → Shows cells sorts r s → s ≡ b → ⊥
no_truth cells sorts Number s f h e =
    let same : Sort-F.Z ≡ Sort-F.B = sym (ap out-Sort h ∙ out-roll-Sort Sort-F.Z) ∙ ap out-Sort e ∙ out-roll-Sort Sort-F.B in
    cc
no_truth cells sorts Truth s f h e = f refl
no_truth cells sorts Text s f h e = false≢true (sym (ap str_form (ap out-Sort e ∙ out-roll-Sort Sort-F.B)) ∙ h)
no_truth cells sorts (Parts at) s f h e =
    let same : Sort-F.Tup (map (kind sorts) h.0) ≡ Sort-F.B = sym (ap out-Sort h.1 ∙ out-roll-Sort (Sort-F.Tup (map (kind sorts) h.0))) ∙ ap out-Sort e ∙ out-roll-Sort Sort-F.B in
    cc
no_truth cells sorts (Descs ds) s f h e =
    let same : Sort-F.Tup (map kind_of_desc ds.now) ≡ Sort-F.B = sym (ap out-Sort h ∙ out-roll-Sort (Sort-F.Tup (map kind_of_desc ds.now))) ∙ ap out-Sort e ∙ out-roll-Sort Sort-F.B in
    cc
no_truth cells sorts Other s f h e = false≢true (sym (ap is_other (ap out-Sort e ∙ out-roll-Sort Sort-F.B)) ∙ h)

no_str_form : (x : Sort-F Sort) → is_other x ≡ true → false ≡ str_form x
no_str_form Sort-F.Z h = refl
no_str_form Sort-F.B h = refl
no_str_form (Sort-F.Str s) h = absurd (false≢true h)
no_str_form (Sort-F.Tup ss) h = refl
no_str_form (Sort-F.Param k) h = refl
no_str_form Sort-F.Any h = refl

pub no_string : (cells : List Cell) (sorts : List Sort) (r : Kind) (s : Sort) → (r ≡ Text → ⊥) → Shows cells sorts r s → false ≡ is_str s
no_string cells sorts Number s f h = sym (ap str_form (ap out-Sort h ∙ out-roll-Sort Sort-F.Z))
no_string cells sorts Truth s f h = sym (ap str_form (ap out-Sort h ∙ out-roll-Sort Sort-F.B))
no_string cells sorts Text s f h = absurd (f refl)
no_string cells sorts (Parts at) s f h = sym (ap str_form (ap out-Sort h.1 ∙ out-roll-Sort (Sort-F.Tup (map (kind sorts) h.0))))
no_string cells sorts (Descs ds) s f h = sym (ap str_form (ap out-Sort h ∙ out-roll-Sort (Sort-F.Tup (map kind_of_desc ds.now))))
no_string cells sorts Other s f h = no_str_form (out-Sort s) h

-- the parts of a list one after another
module _ (cells : List Cell) (p limit : ℕ) (c : Cell) (at_p : slice_get cells p ≡ Some c) where
  pub no_more_parts : (c.form ≡ 27 → ⊥) → (ts : List Term) (k : ℕ) → parts_stand cells (map (stands cells) ts) p limit ≡ true → slice_get ts k ≡ None
  no_more_parts f [] k h = refl
  no_more_parts f (t ∷ ts) k h = absurd (f (link_cell cells t ts p limit c at_p h).form_is)

  pub first_part : c.form ≡ 27 → (ts : List Term) (k : ℕ) → k ≡ 0 → parts_stand cells (map (stands cells) ts) p limit ≡ true → PartAt cells ts k (Some c.a)
  first_part f [] k e h = absurd (omega (arith, end_cell cells p limit c at_p h))
  first_part f (t ∷ ts) zero e h = (t, refl, (below_parts (stands cells t) c.a p (link_cell cells t ts p limit c at_p h).part_is).1)
  first_part f (t ∷ ts) (suc k) e h = absurd (omega arith)

  pub later_part : c.form ≡ 27 → (ts : List Term) (k j : ℕ) (r : Option ℕ) → (k ≡ 0 → ⊥) → j + 1 ≡ k →
      ((us : List Term) → parts_stand cells (map (stands cells) us) c.b p ≡ true → PartAt cells us j r) → parts_stand cells (map (stands cells) ts) p limit ≡ true → PartAt cells ts k r
  later_part f [] k j r e l answer h = absurd (omega (arith, end_cell cells p limit c at_p h))
  later_part f (t ∷ ts) zero j r e l answer h = absurd (e refl)
  later_part f (t ∷ ts) (suc k) j r e l answer h =
      let same : j ≡ k = omega arith in
      subst (λ i. PartAt cells ts i r) same (answer ts (link_cell cells t ts p limit c at_p h).rest_is)

  pub parts_inside_list : c.form ≡ 27 → (ts : List Term) → parts_stand cells (map (stands cells) ts) p limit ≡ true → (c.a < p) × (c.b < p)
  parts_inside_list f [] h = absurd (omega (arith, end_cell cells p limit c at_p h))
  parts_inside_list f (t ∷ ts) h =
      let l = link_cell cells t ts p limit c at_p h in
      ((below_parts (stands cells t) c.a p l.part_is).0, parts_below cells (map (stands cells) ts) c.b p l.rest_is)
