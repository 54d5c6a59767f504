-- The rules that compare terms, use a fact or take a tuple's part.
use Rattle.std.proofs.Common.{◌≡◌, ◌∙◌, sym, ap, refl, ℕ, zero, suc, ◌≤◌, ◌⊎◌, inl, inr, ⊎_elim, pos, int_le, Bool, true, ◌&&◌, List, [], ◌∷◌, ◌++◌, length, map, Option, Some, None, slice_get, slice_index_or, append_assoc, arith}
use Rattle.std.specs.Prelude.{IfSome, option_and_then}
use Rattle.std.proofs.lemmas.Bool.{and_parts}
use Rattle.std.proofs.lemmas.List.{nil_from_length}
use Rattle.std.proofs.lemmas.Option.{same_Some}
use Rattle.std.specs.List.{list_all}
use Rattle.math_terms.specs.declared.descriptor.Sort.{Sort}
use Rattle.math_terms.specs.declared.term.Term.{Term}
use Rattle.math_terms.specs.declared.term.Term.TheOpen.{Term-F}
use Rattle.math_terms.specs.Heads.{same_term}
use Rattle.math_terms.specs.Laws.{EqualityIsSameness, SameTermsAreEqual}
use Rattle.math_terms.specs.Sorts.{b, any, str, is_str}
use Rattle.math_terms.specs.Kinds.{kind}
use Rattle.math_terms.specs.Values.{Num, Truth, between, entries, is_string, parts, string, truth as truth_of}
use Rattle.math_terms.specs.Meaning.{Valuation}
use Rattle.math_terms.specs.Descriptors.{Interpretation, holds, value}
use Rattle.str_theory.specs.Forms.{zero as zero_term, cat, empty, eq, is_name, len, less_eq, part, proj, single, truth, tuple}
use Rattle.math_terms.specs.Kinding.{HasKind, IsFormula, Valued, kind_of, kinding, valued}
use Rattle.str_theory.specs.Laws.{used_holds}
use Rattle.str_theory.specs.Rules.{Given, gives, gives_if, or_else, s14, s22_by, s22_with, s23, s23_rest, s24, s25}
use Rattle.str_theory.proofs.Lists.{between_adjoining, between_three, place_le}
use Rattle.str_theory.proofs.Kinded.{make_cat, make_empty, make_len, make_less_eq, make_num, make_part, make_truth, open_cat, open_eq, open_part, open_single, opened, string_well, valued_roll, valued_value}
use Rattle.str_theory.proofs.Telling.{cat_tells, eq_tells, part_tells, proj_tells, single_tells, tuple_tells, when_tells}
use Rattle.str_theory.proofs.Worth.{held, held_cat, held_part, int, int_len, list_of-vals_of, string_cat, string_part, value_roll}
use Rattle.str_theory.proofs.Keeping.{IsRewriting, IsSound, as_kind, below_zero, in_order, of_kind, one_true, plain, three_true, two_true, under, whole_string}

or_else_tells : (g k : Given) (r : Term × List Term) → or_else g k ≡ Some r → (g ≡ Some r) ⊎ (k ≡ Some r)
or_else_tells (Some q) k r h = inl h
or_else_tells None k r h = inr h

-- the entry of a list of which another list is made
pub mapped_entry : {A B : Type 0} (f : A → B) (xs : List A) (k : ℕ) (x : A) → slice_get xs k ≡ Some x → slice_get (map f xs) k ≡ Some (f x)
mapped_entry f [] k x h = cc
mapped_entry f (y ∷ ys) zero x h = ap (λ a. Some (f a)) (same_Some y x h)
mapped_entry f (y ∷ ys) (suc k) x h = mapped_entry f ys k x h

entry_or : {A : Type 0} (xs : List A) (k : ℕ) (x d : A) → slice_get xs k ≡ Some x → slice_index_or xs k d ≡ x
entry_or [] k x d h = cc
entry_or (y ∷ ys) zero x d h = same_Some y x h
entry_or (y ∷ ys) (suc k) x d h = entry_or ys k x d h

pub all_entry : (xs : List Bool) (k : ℕ) (x : Bool) → slice_get xs k ≡ Some x → list_all (λ p. p) xs ≡ true → x ≡ true
all_entry [] k x h a = cc
all_entry (y ∷ ys) zero x h a = sym (same_Some y x h) ∙ (and_parts y (list_all (λ p. p) ys) a).0
all_entry (y ∷ ys) (suc k) x h a = all_entry ys k x h (and_parts y (list_all (λ p. p) ys) a).1

module _ (vars : List Sort) (I : Interpretation) (w : Valuation) (used : Option Term) (equality : EqualityIsSameness) (same_terms : SameTermsAreEqual) where
  pub s14_keeps : ((t : Term) → is_str (kind vars t) ≡ true → is_string (value I w t) ≡ true) → IsSound vars I w used (s14 vars)
  s14_keeps strings t s r h g =
      let q = when_tells (is_name t && is_str (kind vars t)) (gives_if (less_eq (len t) zero_term ∷ []) empty) r g in
      let hs : HasKind I w t (str any) = string_well I w t (strings t (and_parts (is_name t) (is_str (kind vars t)) q.0).1) (ap (λ p. p.1) h) in
      let e : str any ≡ s = sym (ap (λ p. p.0) hs) ∙ ap (λ p. p.0) h in
      under vars I w used t empty (less_eq (len t) zero_term ∷ []) s r (as_kind vars I w used empty (str any) s (make_empty I w) e)
      (make_less_eq I w (len t) zero_term (make_len I w t hs) (make_num I w (pos 0)), tt)
      (λ c u.
      value_roll I w Term-F.Empty
      ∙ ap string (sym (nil_from_length (held I w t) (no_length (one_true vars I w used (less_eq (len t) zero_term) c))))
      ∙ sym (whole_string vars I w used t hs)) q.1
    where
      no_length : holds I w (less_eq (len t) zero_term) ≡ true → length (held I w t) ≡ 0
      no_length c =
          let low : length (held I w t) ≤ 0 = place_le (pos (length (held I w t))) (pos 0) (ap (λ n. int_le n (pos 0)) (sym (int_len I w t)) ∙ below_zero vars I w used (len t) c) in
          omega arith

  -- a fact on a string of one element and a part
  s22_by_keeps : (t f p : Term) (s : Sort) (r : Term × List Term) → HasKind I w t s → (kinding I w f).1 ≡ true → (kinding I w p).1 ≡ true
      → (used_holds I w used ≡ true → value I w f ≡ value I w p) → s22_by t f p ≡ Some r → IsRewriting vars I w used t s r
  s22_by_keeps t f p s r h okf okp says g =
      let o = part_tells t _ r g in
      let i : Term = o.0 in
      let j : Term = o.1 in
      let a : Term = o.2 in
      let x = single_tells f _ r o.4 in
      let q = part_tells p _ r x.2 in
      let m : Term = q.0 in
      let n : Term = q.1 in
      let y = when_tells (same_term a q.2) _ r q.4 in
      let ac : a ≡ q.2 = (same_terms a q.2).0 y.0 in
      let pe : p ≡ part m n a = q.3 ∙ ap (part m n) (sym ac) in
      let k = open_part I w i j a s (of_kind vars I w used t (part i j a) s o.3 h) in
      let l = open_part I w m n a (kinding I w p).0 (of_kind vars I w used p (part m n a) (kinding I w p).0 pe (λ d. ((kinding I w p).0, okp d))) in
      let fs = open_single I w x.0 (kinding I w f).0 (of_kind vars I w used f (single x.0) (kinding I w f).0 x.1 (λ d. ((kinding I w f).0, okf d))) in
      let kf : HasKind I w f (str any) = (λ d. (sym fs.0 d, okf d)) in
      let u : Term = cat (part i m a) (cat f (part n j a)) in
      under vars I w used t u (less_eq i m ∷ less_eq m n ∷ less_eq n j ∷ []) s r
      (as_kind vars I w used u (str any) s (make_cat I w (part i m a) (cat f (part n j a)) (make_part I w i m a k.1 l.1 k.3) (make_cat I w f (part n j a) kf (make_part I w n j a l.2 k.2 k.3))) k.0)
      (make_less_eq I w i m k.1 l.1, (make_less_eq I w m n l.1 l.2, (make_less_eq I w n j l.2 k.2, tt)))
      (λ c true_fact.
      let facts = three_true vars I w used (less_eq i m) (less_eq m n) (less_eq n j) c in
      string_cat I w (part i m a) (cat f (part n j a))
      ∙ ap string (held_cat I w (part i m a) (cat f (part n j a))
      ∙ ap (λ vs. held I w (part i m a) ++ vs) (held_cat I w f (part n j a)
      ∙ (λ d. (ap (λ v. entries v) (says true_fact ∙ ap (value I w) pe) ∙ held_part I w m n a) d ++ held_part I w n j a d))
      ∙ ap (λ vs. vs ++ (between (int I w m) (int I w n) (held I w a) ++ between (int I w n) (int I w j) (held I w a))) (held_part I w i m a)
      ∙ between_three (int I w i) (int I w m) (int I w n) (int I w j) (held I w a) (in_order vars I w used i m facts.0) (in_order vars I w used m n facts.1) (in_order vars I w used n j facts.2))
      ∙ sym (value_roll I w (Term-F.Part i j a))
      ∙ ap (value I w) (sym o.3)) y.1

  -- two parts of a string that adjoin
  s23_rest_keeps : (t p q : Term) (after : Term → Term) (s : Sort) (r : Term × List Term) → HasKind I w p (str any) → HasKind I w q (str any)
      → ((u : Term) → HasKind I w u (str any) → HasKind I w (after u) s)
      → ((u : Term) → held I w u ≡ held I w p ++ held I w q → value I w u ≡ string (held I w u) → value I w (after u) ≡ value I w t)
      → s23_rest p after q ≡ Some r → IsRewriting vars I w used t s r
  s23_rest_keeps t p q after s r hp hq kinds values g =
      let o = part_tells p _ r g in
      let i : Term = o.0 in
      let j : Term = o.1 in
      let a : Term = o.2 in
      let x = part_tells q _ r o.4 in
      let n : Term = x.1 in
      let y = when_tells (same_term j x.0 && same_term a x.2) _ r x.4 in
      let sames = and_parts (same_term j x.0) (same_term a x.2) y.0 in
      let qe : q ≡ part j n a = x.3 ∙ (λ d. part (sym ((same_terms j x.0).0 sames.0) d) n (sym ((same_terms a x.2).0 sames.1) d)) in
      let k = open_part I w i j a (str any) (of_kind vars I w used p (part i j a) (str any) o.3 hp) in
      let l = open_part I w j n a (str any) (of_kind vars I w used q (part j n a) (str any) qe hq) in
      under vars I w used t (after (part i n a)) (less_eq i j ∷ less_eq j n ∷ []) s r (kinds (part i n a) (make_part I w i n a k.1 l.2 k.3))
      (make_less_eq I w i j k.1 k.2, (make_less_eq I w j n k.2 l.2, tt))
      (λ c true_fact.
      let facts = two_true vars I w used (less_eq i j) (less_eq j n) c in
      values (part i n a)
      (held_part I w i n a
      ∙ sym (between_adjoining (int I w i) (int I w j) (int I w n) (held I w a) (in_order vars I w used i j facts.0) (in_order vars I w used j n facts.1))
      ∙ (λ d. (sym (held_part I w i j a) ∙ ap (held I w) (sym o.3)) d ++ (sym (held_part I w j n a) ∙ ap (held I w) (sym qe)) d))
      (string_part I w i n a)) y.1

  pub s23_keeps : IsSound vars I w used s23
  s23_keeps t s r h g =
      let o = cat_tells t _ r g in
      let p : Term = o.0 in
      let q : Term = o.1 in
      let k = open_cat I w p q s (of_kind vars I w used t (cat p q) s o.2 h) in
      ⊎_elim
      (λ first. s23_rest_keeps t p q (λ u. u) s r k.1 k.2 (λ u hu. as_kind vars I w used u (str any) s hu k.0)
      (λ u e v. v ∙ ap string e ∙ sym (value_roll I w (Term-F.Cat p q)) ∙ ap (value I w) (sym o.2)) first)
      (λ second.
      let x = cat_tells q _ r second in
      let n : Term = x.0 in
      let c : Term = x.1 in
      let l = open_cat I w n c (str any) (of_kind vars I w used q (cat n c) (str any) x.2 k.2) in
      s23_rest_keeps t p n (λ u. cat u c) s r k.1 l.1 (λ u hu. as_kind vars I w used (cat u c) (str any) s (make_cat I w u c hu l.2) k.0)
      (λ u e v.
      string_cat I w u c
      ∙ ap string (held_cat I w u c ∙ ap (λ vs. vs ++ held I w c) e ∙ append_assoc (held I w p) (held I w n) (held I w c) ∙ ap (λ vs. held I w p ++ vs) (sym (held_cat I w n c) ∙ ap (held I w) (sym x.2)))
      ∙ sym (value_roll I w (Term-F.Cat p q))
      ∙ ap (value I w) (sym o.2)) x.3)
      (or_else_tells _ _ r o.3)

  pub s24_keeps : IsSound vars I w used s24
  s24_keeps t s r h g =
      let o = proj_tells t _ r g in
      let q = tuple_tells o.1 _ r o.3 in
      let n : ℕ = o.0 in
      let ts : List Term = q.0 in
      let e : t ≡ proj n (tuple ts) = o.2 ∙ ap (proj n) q.1 in
      entry (slice_get ts n) n ts refl e q.2
    where
      oks_of : List Term → List Bool
      oks_of ts = map (λ (p : Valued). p.1) (map (valued I w) ts)

      entry : (x : Option Term) (n : ℕ) (ts : List Term) → slice_get ts n ≡ x → t ≡ proj n (tuple ts) → option_and_then gives x ≡ Some r → IsRewriting vars I w used t s r
      entry None n ts is e g = cc
      entry (Some u) n ts is e g =
          let oks : (kinding I w (tuple ts)).1 ≡ true = ap (λ p. p.1) (opened I w (Term-F.Proj n (tuple ts)) s (of_kind vars I w used t (proj n (tuple ts)) s e h)) in
          let whole : (valued I w (tuple ts)).1 ≡ list_all (λ p. p) (oks_of ts) = ap (λ (p : Valued). p.1) (valued_roll I w (Term-F.Tuple ts)) in
          let fine : (valued I w u).1 ≡ true =
          all_entry (oks_of ts) n (valued I w u).1 (mapped_entry (λ (p : Valued). p.1) (map (valued I w) ts) n (valued I w u) (mapped_entry (valued I w) ts n u is)) (sym whole ∙ oks) in
          let same_value : value I w u ≡ value I w t =
          sym (entry_or (map (value I w) ts) n (value I w u) (Num (pos 0)) (mapped_entry (value I w) ts n u is))
          ∙ ap (λ vs. slice_index_or vs n (Num (pos 0))) (sym (list_of-vals_of (map (value I w) ts)))
          ∙ ap (λ v. slice_index_or (parts v) n (Num (pos 0))) (sym (value_roll I w (Term-F.Tuple ts)))
          ∙ sym (value_roll I w (Term-F.Proj n (tuple ts)))
          ∙ ap (value I w) (sym e) in
          let sort : (kinding I w u).0 ≡ s = ap kind_of (valued_value I w u ∙ same_value ∙ sym (valued_value I w t)) ∙ ap (λ p. p.0) h in
          plain vars I w used t u s r (λ i. (sort i, fine i)) same_value g

  pub s25_keeps : IsSound vars I w used s25
  s25_keeps t s r h g =
      let o = eq_tells t _ r g in
      let a : Term = o.0 in
      let c : Term = o.1 in
      let q = when_tells (same_term a c) (gives (truth true)) r o.3 in
      let k = open_eq I w a c s (of_kind vars I w used t (eq a c) s o.2 h) in
      plain vars I w used t (truth true) s r (as_kind vars I w used (truth true) b s (make_truth I w true) k.0)
      (value_roll I w (Term-F.Truth true)
      ∙ ap (λ x. Truth x) (sym ((equality (value I w a) (value I w c)).1 (ap (value I w) ((same_terms a c).0 q.0))))
      ∙ sym (value_roll I w (Term-F.Eq a c))
      ∙ ap (value I w) (sym o.2)) q.1

  pub s22_keeps : IfSome used (IsFormula I w) → IsSound vars I w used (s22_with used)
  s22_keeps formula t s r h g = with_fact used refl formula g
    where
      with_fact : (o : Option Term) → used ≡ o → IfSome o (IsFormula I w) → s22_with o t ≡ Some r → IsRewriting vars I w used t s r
      with_fact None is f g = cc
      with_fact (Some fact) is f g =
          let o = eq_tells fact _ r g in
          let u : Term = o.0 in
          let v : Term = o.1 in
          let k = open_eq I w u v b (of_kind vars I w used fact (eq u v) b o.2 f) in
          let says : used_holds I w used ≡ true → value I w u ≡ value I w v = λ true_fact.
          (equality (value I w u) (value I w v)).0 (sym (ap truth_of (value_roll I w (Term-F.Eq u v))) ∙ ap (holds I w) (sym o.2) ∙ ap (used_holds I w) (sym is) ∙ true_fact) in
          ⊎_elim
          (λ one. s22_by_keeps t u v s r h k.1 k.2 says one)
          (λ other. s22_by_keeps t v u s r h k.2 k.1 (λ true_fact. sym (says true_fact)) other)
          (or_else_tells _ _ r o.3)
