-- Well-valued terms: their values, their nodes, and substitution.
use Rattle.std.proofs.Common.{◌≡◌, ◌∙◌, sym, ap, refl, ℕ, ◌==◌, Bool, true, false}
use Rattle.std.specs.Prelude.{if◌then◌else◌}
use Rattle.std.proofs.lemmas.Bool.{eqb-true}
use Rattle.math_terms.specs.declared.descriptor.Sort.TheOpen.{Sort-F}
use Rattle.math_terms.specs.declared.descriptor.Sort.TheViews.{out-roll-Sort}
use Rattle.math_terms.specs.declared.term.Term.{Term}
use Rattle.math_terms.specs.declared.term.Term.TheOpen.{Term-F}
use Rattle.math_terms.specs.declared.term.Term.TheViews.{roll-Term}
use Rattle.math_terms.specs.declared.term.Term.TheFolds.{map-Term, fold-roll-Term}
use Rattle.math_terms.specs.Sorts.{z, b, any, str, is_b, is_str, is_z, b_form, str_form, z_form}
use Rattle.math_terms.specs.Values.{Val, Str, is_string}
use Rattle.math_terms.specs.Terms.{put, put_step}
use Rattle.math_terms.specs.Meaning.{Valuation, value_step}
use Rattle.math_terms.specs.Descriptors.{Interpretation, starts_in, value}
use Rattle.math_terms.specs.Kinding.{Kinding, Valued, kind_of, valued, valued_step}
use Rattle.math_terms.specs.Laws.{SubstitutionKeepsKinds}
use Rattle.math_terms.proofs.Folds.{fold_fusion}

pub is_str_str : is_str (str any) ≡ true
is_str_str = ap str_form (out-roll-Sort (Sort-F.Str any))

pub is_z_z : is_z z ≡ true
is_z_z = ap z_form (out-roll-Sort Sort-F.Z)

pub is_b_b : is_b b ≡ true
is_b_b = ap b_form (out-roll-Sort Sort-F.B)

pub string_kind : (v : Val) → is_string v ≡ true → kind_of v ≡ str any
string_kind (Str vs) h = refl
string_kind v h = cc

module _ (I : Interpretation) (w : Valuation) where
  -- the first of a valued term is its value
  pub valued_value : (t : Term) → (valued I w t).0 ≡ value I w t
  valued_value = fold_fusion (valued_step I w) (value_step (starts_in I) w) (λ p. p.0) (λ x. refl)

  pub valued_roll : (x : Term-F Term) → valued I w (roll-Term x) ≡ valued_step I w (map-Term Term Valued (valued I w) x)
  valued_roll x = fold-roll-Term Valued (valued_step I w) x

  module _ (v : ℕ) (by : Term) (same : valued I w by ≡ valued I w (roll-Term (Term-F.Var v))) where
    put_step_valued : (x : Term-F Term) → valued I w (put_step v by x) ≡ valued_step I w (map-Term Term Valued (valued I w) x)
    put_step_valued (Term-F.Var k) = chosen (k == v) refl
      where
        chosen : (c : Bool) → (k == v) ≡ c → valued I w (if c then by else roll-Term (Term-F.Var k)) ≡ valued_step I w (map-Term Term Valued (valued I w) (Term-F.Var k))
        chosen true e = same ∙ ap (λ n. valued I w (roll-Term (Term-F.Var n))) (sym (eqb-true k v e)) ∙ valued_roll (Term-F.Var k)
        chosen false e = valued_roll (Term-F.Var k)
    put_step_valued x = valued_roll x

    valued_put : (t : Term) → valued I w (put v by t) ≡ valued I w t
    valued_put = fold_fusion (put_step v by) (valued_step I w) (valued I w) put_step_valued

pub substitution_keeps_kinds : SubstitutionKeepsKinds
substitution_keeps_kinds I w v by f s r hb e h =
    let var : valued I w (roll-Term (Term-F.Var v)) ≡ (w v, true) = valued_roll I w (Term-F.Var v) in
    let same : valued I w by ≡ valued I w (roll-Term (Term-F.Var v)) = (λ i. ((valued_value I w by ∙ e) i, ap (λ (p : Kinding). p.1) hb i)) ∙ sym var in
    let all : valued I w (put v by f) ≡ valued I w f = valued_put I w v by same f in (
      ap (λ (p : Valued). (kind_of p.0, p.1)) all ∙ h,
      sym (valued_value I w (put v by f)) ∙ ap (λ (p : Valued). p.0) all ∙ valued_value I w f,
    )
