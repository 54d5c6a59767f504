-- Filling keeps terms well-valued.
use Rattle.std.proofs.Common.{◌≡◌, ◌∙◌, sym, ap, refl, subst, ℕ, ◌==◌, Bool, true, false, ◌&&◌, List, [], Option, Some, None, slice_get, unwrap_or, if◌then◌else◌}
use Rattle.std.proofs.Math.Bool.{and-true, true-and}
use Rattle.std.proofs.lemmas.Bool.{and_parts, false≢true}
use Rattle.std.specs.Option.{option_map_or}
use Rattle.math_terms.specs.declared.descriptor.Desc.{Desc}
use Rattle.math_terms.specs.declared.descriptor.Shape.TheViews.{out-Desc}
use Rattle.math_terms.specs.declared.descriptor.Sort.{Sort}
use Rattle.math_terms.specs.declared.descriptor.Sort.TheOpen.{Sort-F}
use Rattle.math_terms.specs.declared.descriptor.Sort.TheViews.{out-roll-Sort}
use Rattle.math_terms.specs.declared.term.Term.{Term}
use Rattle.math_terms.specs.declared.term.Term.TheOpen.{Term-F}
use Rattle.math_terms.specs.declared.term.Term.TheViews.{roll-Term}
use Rattle.math_terms.specs.declared.term.Term.TheFolds.{fold-Term, fold-roll-Term, ind-Term, map-Term}
use Rattle.math_terms.specs.Values.{Val, Num, Truth, Str, Tup, truth}
use Rattle.math_terms.specs.Positions.{numbered}
use Rattle.math_terms.specs.Sorts.{any, b_form, is_b, str, tup, z}
use Rattle.math_terms.specs.Terms.{every_child, put, put_step}
use Rattle.math_terms.specs.Meaning.{Valuation, set_to, value_step}
use Rattle.math_terms.specs.Descriptors.{Interpretation, starts_in, starts_where, value}
use Rattle.math_terms.specs.Filling.{filled, filled_starts, filled_step, filled_valuation, initial_about}
use Rattle.math_terms.specs.Kinding.{Kinding, Valued, IsFormula, asking, asking_step, asks, fits, kind_of, valued, valued_step}
use Rattle.math_terms.specs.Laws.{AllMayBeAsked, FillingKeepsKinds}
use Rattle.math_terms.proofs.Closedness.{nodes_agree}
use Rattle.math_terms.proofs.Folds.{fold_fusion, map-map}
use Rattle.math_terms.proofs.WellValued.{is_b_b, valued_roll, valued_value}

passing : (I : Interpretation) (w : Valuation) (x : Term-F Valued) → asks (λ k v. true) (map-Term Valued Val (λ p. p.0) x) ≡ true
passing I w (Term-F.Num n) = refl
passing I w x = refl

all_step : (I : Interpretation) (w : Valuation) (x : Term-F Valued) → asking_step (λ k v. true) I w x ≡ valued_step I w x
all_step I w x = λ i. ((valued_step I w x).0, (ap (λ c. (valued_step I w x).1 && c) (passing I w x) ∙ and-true (valued_step I w x).1) i)

pub all_may_be_asked : AllMayBeAsked
all_may_be_asked I w t s h =
    let same : asking (λ k v. true) I w t ≡ valued I w t = λ i. fold-Term Valued (λ x. all_step I w x i) t in
    ap (λ (p : Valued). (kind_of p.0, p.1)) same ∙ h

-- a value of the kind of truth values
b_of_z : is_b z ≡ false
b_of_z = ap b_form (out-roll-Sort Sort-F.Z)

b_of_str : is_b (str any) ≡ false
b_of_str = ap b_form (out-roll-Sort (Sort-F.Str any))

b_of_tup : is_b (tup []) ≡ false
b_of_tup = ap b_form (out-roll-Sort (Sort-F.Tup []))

truth_of_kind : (v : Val) → is_b (kind_of v) ≡ true → v ≡ Truth (truth v)
truth_of_kind (Num n) h = absurd (false≢true (sym b_of_z ∙ h))
truth_of_kind (Truth c) h = refl
truth_of_kind (Str vs) h = absurd (false≢true (sym b_of_str ∙ h))
truth_of_kind (Tup vs) h = absurd (false≢true (sym b_of_tup ∙ h))

module _ (I : Interpretation) (w : Valuation) (v : ℕ) (by : Term) (well : (valued I w by).1 ≡ true) where
  put_step_valued : (x : Term-F Term) → valued I w (put_step v by x) ≡ valued_step I (set_to v (value I w by) w) (map-Term Term Valued (valued I w) x)
  put_step_valued (Term-F.Var k) = chosen (k == v)
    where
      chosen : (c : Bool) → valued I w (if c then by else roll-Term (Term-F.Var k)) ≡ (if c then value I w by else w k, true)
      chosen true = λ i. (valued_value I w by i, well i)
      chosen false = valued_roll I w (Term-F.Var k)
  put_step_valued x = valued_roll I w x

  -- a well-valued term, put for a variable
  put_valued : (t : Term) → valued I w (put v by t) ≡ valued I (set_to v (value I w by) w) t
  put_valued = fold_fusion (put_step v by) (valued_step I (set_to v (value I w by) w)) (valued I w) put_step_valued

-- what is asked of what is put, and of the terms in which it is put
pub record Fits (I J : Interpretation) (w : Valuation) (vars : List Term) (descs : List Desc) (test : ℕ → Val → Bool) : Type 0 where
  pub agree : (k : ℕ) (v : Val) → starts_in J k v ≡ filled_starts (starts_in I) w descs k v
  pub wells : (k : ℕ) (x : Term) → numbered k vars ≡ Some x → (valued I w x).1 ≡ true
  pub formulas : (k : ℕ) (d : Desc) → slice_get descs k ≡ Some d → (v : Val) → test k v ≡ true → IsFormula I (set_to 0 v w) (out-Desc d).initial

module _ (I J : Interpretation) (w : Valuation) (vars : List Term) (descs : List Desc) (test : ℕ → Val → Bool) (fit : Fits I J w vars descs test) where
  abbrev u : Valuation
  u = filled_valuation (starts_in I) w vars

  variable_valued : (k : ℕ) (o : Option Term) → numbered k vars ≡ o → valued I w (unwrap_or o (roll-Term (Term-F.Var k))) ≡ (option_map_or (value I w) o (w k), true)
  variable_valued k None e = valued_roll I w (Term-F.Var k)
  variable_valued k (Some x) e = λ i. (valued_value I w x i, fit.wells k x e i)

  initial_valued : (k : ℕ) (a : Term) → (valued I w a).1 ≡ true → test k (valued I w a).0 ≡ true → (o : Option Desc) → slice_get descs k ≡ o →
      valued I w (initial_about o k a) ≡ (Truth (option_map_or (λ d. starts_where (starts_in I) d w (valued I w a).0) o (starts_in I k (valued I w a).0)), true)
  initial_valued k a well asked None e =
      valued_roll I w (Term-F.Initial k a) ∙ (λ i. (Truth (starts_in I k (valued I w a).0), (true-and (valued I w a).1 ∙ well) i))
  initial_valued k a well asked (Some d) e =
      let n : Term = (out-Desc d).initial in
      let v : Valuation = set_to 0 (valued I w a).0 w in
      let formula : IsFormula I v n = fit.formulas k d e (valued I w a).0 asked in
      let kind : is_b (kind_of (valued I v n).0) ≡ true = ap (λ (p : Kinding). is_b p.0) formula ∙ is_b_b in
      put_valued I w 0 a well n
      ∙ (λ i. valued I (set_to 0 (sym (valued_value I w a) i) w) n)
      ∙ (λ i. ((truth_of_kind (valued I v n).0 kind ∙ ap (λ x. Truth (truth x)) (valued_value I v n)) i, ap (λ (p : Kinding). p.1) formula i))

  kept_node : (x : Term-F Term) → (asking_step test J u (map-Term Term Valued (valued I w) x)).1 ≡ true →
      valued I w (filled_step vars descs x) ≡ asking_step test J u (map-Term Term Valued (valued I w) x)
  kept_node (Term-F.Var k) h = variable_valued k (numbered k vars) refl
  kept_node (Term-F.Initial k a) h =
      let p = and_parts (true && (valued I w a).1) (test k (valued I w a).0) h in
      initial_valued k a (sym (true-and (valued I w a).1) ∙ p.0) p.1 (slice_get descs k) refl
      ∙ (λ i. (Truth (sym (fit.agree k (valued I w a).0) i), sym h i))
  kept_node x h =
      let m : Term-F Valued = map-Term Term Valued (valued I w) x in
      valued_roll I w x ∙ (λ i. ((valued_step I w m).0, sym (and-true (valued_step I w m).1) i))

  Kept : Term → Type 0
  Kept t = (asking test J u t).1 ≡ true → valued I w (filled vars descs t) ≡ asking test J u t

  kept_of_node : (y : Term-F ((t : Term) × Kept t)) →
      (asking_step test J u (map-Term Term Valued (asking test J u) (map-Term ((t : Term) × Kept t) Term (λ e. e.0) y))).1 ≡ true →
      valued I w (filled_step vars descs (map-Term Term Term (filled vars descs) (map-Term ((t : Term) × Kept t) Term (λ e. e.0) y)))
      ≡ asking_step test J u (map-Term Term Valued (asking test J u) (map-Term ((t : Term) × Kept t) Term (λ e. e.0) y))
  unfolding Kept
  kept_of_node y h =
      let E : Type 0 = (t : Term) × Kept t in
      let x : Term-F Term = map-Term E Term (λ e. e.0) y in
      let kids : Term-F Valued = map-Term Term Valued (asking test J u) x in
      let flags = map-map (asking test J u) (λ (p : Valued). p.1) x ∙ map-map (λ (e : E). e.0) (λ t. (asking test J u t).1) y in
      let q = and_parts (valued_step J u kids).1 (asks test (map-Term Valued Val (λ p. p.0) kids)) h in
      let r = and_parts (fits (map-Term Valued Sort (λ p. kind_of p.0) kids)) (every_child (map-Term Valued Bool (λ p. p.1) kids)) q.0 in
      let same = nodes_agree (λ (e : E). (asking test J u e.0).1) (λ e. valued I w (filled vars descs e.0)) (λ e. asking test J u e.0) (λ e. e.1) y (subst (λ z. every_child z ≡ true) flags r.1) in
      let children : map-Term Term Valued (valued I w) (map-Term Term Term (filled vars descs) x) ≡ kids =
      map-map (filled vars descs) (valued I w) x ∙ map-map (λ (e : E). e.0) (λ t. valued I w (filled vars descs t)) y ∙ same ∙ sym (map-map (λ (e : E). e.0) (asking test J u) y) in
      kept_node (map-Term Term Term (filled vars descs) x) (ap (λ z. (asking_step test J u z).1) children ∙ h) ∙ ap (asking_step test J u) children

  kept : (t : Term) → (asking test J u t).1 ≡ true → valued I w (filled vars descs t) ≡ asking test J u t
  unfolding Kept
  kept = ind-Term Kept (λ x y is h.
      let opened = fold-roll-Term Valued (asking_step test J u) x in
      ap (valued I w) (fold-roll-Term Term (filled_step vars descs) x)
      ∙ subst (λ z. (asking_step test J u (map-Term Term Valued (asking test J u) z)).1 ≡ true → valued I w (filled_step vars descs (map-Term Term Term (filled vars descs) z)) ≡ asking_step test J u (map-Term Term Valued (asking test J u) z)) is
      (kept_of_node y) (subst (λ (k : Valued). k.1 ≡ true) opened h)
      ∙ sym opened)

  asking_value : (t : Term) → (asking test J u t).0 ≡ value J u t
  asking_value = fold_fusion (asking_step test J u) (value_step (starts_in J) u) (λ p. p.0) (λ x. refl)

pub filling_keeps_kinds : FillingKeepsKinds
filling_keeps_kinds I J w vars descs test agree wells formulas t s h =
    let fit : Fits I J w vars descs test = record { agree = agree; wells = wells; formulas = formulas } in
    let same = kept I J w vars descs test fit t (ap (λ (p : Kinding). p.1) h) in (
      ap (λ (p : Valued). (kind_of p.0, p.1)) same ∙ h,
      sym (valued_value I w (filled vars descs t)) ∙ ap (λ (p : Valued). p.0) same ∙ asking_value I J w vars descs test fit t,
    )
