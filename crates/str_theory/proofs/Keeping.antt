-- What rules give has the kind and the value of what it stands for.
use Rattle.std.proofs.Common.{◌≡◌, ◌∙◌, sym, ap, subst, pos, ◌+ℤ◌, ◌-ℤ◌, int_le, true, ◌&&◌, List, [], ◌∷◌, ◌++◌, length, reverse, Option, Some, append_assoc}
use Rattle.std.proofs.lemmas.Bool.{and_parts}
use Rattle.std.proofs.lemmas.List.{append-nil, length-append, length-reverse, reverse-append, reverse-reverse}
use Rattle.std.proofs.lemmas.Option.{same_Some}
use Rattle.std.specs.List.{list_all, AllByRecursion}
use Rattle.math_terms.specs.declared.descriptor.Sort.{Sort}
use Rattle.math_terms.specs.declared.term.Term.{Term}
use Rattle.math_terms.specs.declared.term.Term.TheOpen.{Term-F}
use Rattle.math_terms.specs.Sorts.{z, any, str}
use Rattle.math_terms.specs.Values.{Num, between, string}
use Rattle.math_terms.specs.Meaning.{Valuation}
use Rattle.math_terms.specs.Descriptors.{Interpretation, holds, value}
use Rattle.str_theory.specs.Forms.{zero as zero_term, add, cat, empty, is_empty, len, less_eq, num, part, reversed, single, sub}
use Rattle.math_terms.specs.Kinding.{HasKind, IsFormula, kinding}
use Rattle.str_theory.specs.Laws.{used_holds}
use Rattle.str_theory.specs.Rules.{Given, gives, gives_if, s2, s3, s4, s5, s6, s7, s8, s9, s10, s11, s12, s13, s15, s16, s17, s18, s19, s20, s21}
use Rattle.str_theory.proofs.Lists.{between_append, between_between, between_end, between_none, between_past, between_reverse, between_whole, length-between}
use Rattle.str_theory.proofs.Kinded.{is_string_of, make_add, make_cat, make_empty, make_len, make_less_eq, make_num, make_part, make_reversed, make_sub, open_cat, open_len, open_part, open_reversed}
use Rattle.str_theory.proofs.Telling.{cat_tells, empty_tells, len_tells, part_tells, reverse_tells, single_tells, when_tells}
use Rattle.str_theory.proofs.Worth.{held, held_cat, held_empty, held_part, held_reversed, held_single, holds_less_eq, int, int_add, int_len, int_num, int_sub, string_cat, string_entries, string_part, string_reversed, value_roll}

module _ (vars : List Sort) (I : Interpretation) (w : Valuation) (used : Option Term) where
  -- What a rule gives for a term of a kind: a term of this kind with side conditions that are formulas; it has the value of
  -- the term where these and the used fact are true.
  pub record IsRewriting (t : Term) (s : Sort) (r : Term × List Term) : Type 0 where
    pub kind_is : list_all (holds I w) r.1 ≡ true → used_holds I w used ≡ true → HasKind I w r.0 s
    pub conditions_are : AllByRecursion (IsFormula I w) r.1
    pub value_is : list_all (holds I w) r.1 ≡ true → used_holds I w used ≡ true → value I w r.0 ≡ value I w t

  abbrev pub IsSound : (Term → Given) → Type 0
  IsSound rule = (t : Term) (s : Sort) (r : Term × List Term) → HasKind I w t s → rule t ≡ Some r → IsRewriting t s r

  pub plain : (t x : Term) (s : Sort) (r : Term × List Term) → HasKind I w x s → value I w x ≡ value I w t → gives x ≡ Some r → IsRewriting t s r
  plain t x s r k e g = subst (IsRewriting t s) (same_Some (x, []) r g) (record { kind_is = λ c u. k; conditions_are = tt; value_is = λ c u. e })

  pub under : (t x : Term) (cs : List Term) (s : Sort) (r : Term × List Term) → HasKind I w x s → AllByRecursion (IsFormula I w) cs
      → (list_all (holds I w) cs ≡ true → used_holds I w used ≡ true → value I w x ≡ value I w t) → gives_if cs x ≡ Some r → IsRewriting t s r
  under t x cs s r k a e g = subst (IsRewriting t s) (same_Some (x, cs) r g) (record { kind_is = λ c u. k; conditions_are = a; value_is = e })

  pub of_kind : (t u : Term) (s : Sort) → t ≡ u → HasKind I w t s → HasKind I w u s
  of_kind t u s e h = ap (kinding I w) (sym e) ∙ h

  pub as_kind : (t : Term) (s r : Sort) → HasKind I w t s → s ≡ r → HasKind I w t r
  as_kind t s r h e = h ∙ (λ i. (e i, true))

  -- side conditions as facts on numbers
  pub one_true : (f : Term) → list_all (holds I w) (f ∷ []) ≡ true → holds I w f ≡ true
  one_true f h = (and_parts (holds I w f) true h).0

  pub two_true : (f g : Term) → list_all (holds I w) (f ∷ g ∷ []) ≡ true → (holds I w f ≡ true) × (holds I w g ≡ true)
  two_true f g h = let p = and_parts (holds I w f) (holds I w g && true) h in (p.0, one_true g p.1)

  pub three_true : (f g k : Term) → list_all (holds I w) (f ∷ g ∷ k ∷ []) ≡ true → (holds I w f ≡ true) × (holds I w g ≡ true) × (holds I w k ≡ true)
  three_true f g k h = let p = and_parts (holds I w f) (holds I w g && (holds I w k && true)) h in let q = two_true g k p.1 in (p.0, q.0, q.1)

  pub in_order : (a c : Term) → holds I w (less_eq a c) ≡ true → int_le (int I w a) (int I w c) ≡ true
  in_order a c h = sym (holds_less_eq I w a c) ∙ h

  pub above_zero : (a : Term) → holds I w (less_eq zero_term a) ≡ true → int_le (pos 0) (int I w a) ≡ true
  above_zero a h = ap (λ n. int_le n (int I w a)) (sym (int_num I w (pos 0))) ∙ in_order zero_term a h

  pub below_zero : (a : Term) → holds I w (less_eq a zero_term) ≡ true → int_le (int I w a) (pos 0) ≡ true
  below_zero a h = ap (int_le (int I w a)) (sym (int_num I w (pos 0))) ∙ in_order a zero_term h

  pub below_len : (a c : Term) → holds I w (less_eq a (len c)) ≡ true → int_le (int I w a) (pos (length (held I w c))) ≡ true
  below_len a c h = ap (int_le (int I w a)) (sym (int_len I w c)) ∙ in_order a (len c) h

  pub above_len : (a c : Term) → holds I w (less_eq (len c) a) ≡ true → int_le (pos (length (held I w c))) (int I w a) ≡ true
  above_len a c h = ap (λ n. int_le n (int I w a)) (sym (int_len I w c)) ∙ in_order (len c) a h

  -- lengths
  pub s2_keeps : IsSound s2
  s2_keeps t s r h g =
      let p = len_tells t _ r g in
      let q = when_tells (is_empty p.0) (gives zero_term) r p.2 in
      let e : t ≡ len empty = p.1 ∙ ap len (empty_tells p.0 q.0) in
      let k = open_len I w empty s (of_kind t (len empty) s e h) in
      plain t zero_term s r (as_kind zero_term z s (make_num I w (pos 0)) k.0)
      (value_roll I w (Term-F.Num (pos 0)) ∙ ap (λ vs. Num (pos (length vs))) (sym (held_empty I w)) ∙ sym (value_roll I w (Term-F.Len empty)) ∙ ap (value I w) (sym e)) q.1

  pub s3_keeps : IsSound s3
  s3_keeps t s r h g =
      let p = len_tells t _ r g in
      let q = single_tells p.0 _ r p.2 in
      let e : t ≡ len (single q.0) = p.1 ∙ ap len q.1 in
      let k = open_len I w (single q.0) s (of_kind t (len (single q.0)) s e h) in
      plain t (num (pos 1)) s r (as_kind (num (pos 1)) z s (make_num I w (pos 1)) k.0)
      (value_roll I w (Term-F.Num (pos 1)) ∙ ap (λ vs. Num (pos (length vs))) (sym (held_single I w q.0)) ∙ sym (value_roll I w (Term-F.Len (single q.0))) ∙ ap (value I w) (sym e)) q.2

  pub s4_keeps : IsSound s4
  s4_keeps t s r h g =
      let p = len_tells t _ r g in
      let q = cat_tells p.0 _ r p.2 in
      let e : t ≡ len (cat q.0 q.1) = p.1 ∙ ap len q.2 in
      let k = open_len I w (cat q.0 q.1) s (of_kind t (len (cat q.0 q.1)) s e h) in
      let l = open_cat I w q.0 q.1 (str any) k.1 in
      let x : Term = add (len q.0) (len q.1) in
      plain t x s r (as_kind x z s (make_add I w (len q.0) (len q.1) (make_len I w q.0 l.1) (make_len I w q.1 l.2)) k.0)
      (value_roll I w (Term-F.Add (len q.0) (len q.1))
      ∙ (λ i. Num (int_len I w q.0 i +ℤ int_len I w q.1 i))
      ∙ ap (λ n. Num (pos n)) (sym (length-append (held I w q.0) (held I w q.1)))
      ∙ ap (λ vs. Num (pos (length vs))) (sym (held_cat I w q.0 q.1))
      ∙ sym (value_roll I w (Term-F.Len (cat q.0 q.1)))
      ∙ ap (value I w) (sym e)) q.3

  pub s5_keeps : IsSound s5
  s5_keeps t s r h g =
      let p = len_tells t _ r g in
      let q = reverse_tells p.0 _ r p.2 in
      let e : t ≡ len (reversed q.0) = p.1 ∙ ap len q.1 in
      let k = open_len I w (reversed q.0) s (of_kind t (len (reversed q.0)) s e h) in
      let l = open_reversed I w q.0 (str any) k.1 in
      plain t (len q.0) s r (as_kind (len q.0) z s (make_len I w q.0 l.1) k.0)
      (value_roll I w (Term-F.Len q.0)
      ∙ ap (λ n. Num (pos n)) (sym (length-reverse (held I w q.0)))
      ∙ ap (λ vs. Num (pos (length vs))) (sym (held_reversed I w q.0))
      ∙ sym (value_roll I w (Term-F.Len (reversed q.0)))
      ∙ ap (value I w) (sym e)) q.2

  pub s6_keeps : IsSound s6
  s6_keeps t s r h g =
      let p = len_tells t _ r g in
      let q = part_tells p.0 _ r p.2 in
      let i : Term = q.0 in
      let j : Term = q.1 in
      let a : Term = q.2 in
      let e : t ≡ len (part i j a) = p.1 ∙ ap len q.3 in
      let k = open_len I w (part i j a) s (of_kind t (len (part i j a)) s e h) in
      let l = open_part I w i j a (str any) k.1 in
      under t (sub j i) (less_eq zero_term i ∷ less_eq i j ∷ less_eq j (len a) ∷ []) s r (as_kind (sub j i) z s (make_sub I w j i l.2 l.1) k.0)
      (make_less_eq I w zero_term i (make_num I w (pos 0)) l.1, (make_less_eq I w i j l.1 l.2, (make_less_eq I w j (len a) l.2 (make_len I w a l.3), tt)))
      (λ c u.
      let true_ones = three_true (less_eq zero_term i) (less_eq i j) (less_eq j (len a)) c in
      value_roll I w (Term-F.Sub j i)
      ∙ ap Num (sym (length-between (int I w i) (int I w j) (held I w a) (above_zero i true_ones.0) (in_order i j true_ones.1) (below_len j a true_ones.2)))
      ∙ ap (λ vs. Num (pos (length vs))) (sym (held_part I w i j a))
      ∙ sym (value_roll I w (Term-F.Len (part i j a)))
      ∙ ap (value I w) (sym e)) q.4

  -- concatenations
  pub s9_keeps : IsSound s9
  s9_keeps t s r h g =
      let p = cat_tells t _ r g in
      let q = cat_tells p.0 _ r p.3 in
      let a : Term = q.0 in
      let c : Term = q.1 in
      let d : Term = p.1 in
      let e : t ≡ cat (cat a c) d = p.2 ∙ ap (λ u. cat u d) q.2 in
      let k = open_cat I w (cat a c) d s (of_kind t (cat (cat a c) d) s e h) in
      let l = open_cat I w a c (str any) k.1 in
      let x : Term = cat a (cat c d) in
      plain t x s r (as_kind x (str any) s (make_cat I w a (cat c d) l.1 (make_cat I w c d l.2 k.2)) k.0)
      (string_cat I w a (cat c d)
      ∙ ap string (held_cat I w a (cat c d)
      ∙ ap (λ vs. held I w a ++ vs) (held_cat I w c d)
      ∙ sym (append_assoc (held I w a) (held I w c) (held I w d))
      ∙ ap (λ vs. vs ++ held I w d) (sym (held_cat I w a c))
      ∙ sym (held_cat I w (cat a c) d))
      ∙ sym (string_cat I w (cat a c) d)
      ∙ ap (value I w) (sym e)) q.3

  -- reversed strings
  pub s10_keeps : IsSound s10
  s10_keeps t s r h g =
      let p = reverse_tells t _ r g in
      let q = when_tells (is_empty p.0) (gives empty) r p.2 in
      let e : t ≡ reversed empty = p.1 ∙ ap reversed (empty_tells p.0 q.0) in
      let k = open_reversed I w empty s (of_kind t (reversed empty) s e h) in
      plain t empty s r (as_kind empty (str any) s (make_empty I w) k.0)
      (value_roll I w Term-F.Empty ∙ ap (λ vs. string (reverse vs)) (sym (held_empty I w)) ∙ sym (value_roll I w (Term-F.Reverse empty)) ∙ ap (value I w) (sym e)) q.1

  pub s11_keeps : IsSound s11
  s11_keeps t s r h g =
      let p = reverse_tells t _ r g in
      let q = single_tells p.0 _ r p.2 in
      let e : t ≡ reversed (single q.0) = p.1 ∙ ap reversed q.1 in
      let k = open_reversed I w (single q.0) s (of_kind t (reversed (single q.0)) s e h) in
      plain t p.0 s r (as_kind p.0 (str any) s (ap (kinding I w) q.1 ∙ k.1) k.0)
      (ap (value I w) q.1
      ∙ value_roll I w (Term-F.Single q.0)
      ∙ ap (λ vs. string (reverse vs)) (sym (held_single I w q.0))
      ∙ sym (value_roll I w (Term-F.Reverse (single q.0)))
      ∙ ap (value I w) (sym e)) q.2

  pub s12_keeps : IsSound s12
  s12_keeps t s r h g =
      let p = reverse_tells t _ r g in
      let q = cat_tells p.0 _ r p.2 in
      let a : Term = q.0 in
      let c : Term = q.1 in
      let e : t ≡ reversed (cat a c) = p.1 ∙ ap reversed q.2 in
      let k = open_reversed I w (cat a c) s (of_kind t (reversed (cat a c)) s e h) in
      let l = open_cat I w a c (str any) k.1 in
      let x : Term = cat (reversed c) (reversed a) in
      plain t x s r (as_kind x (str any) s (make_cat I w (reversed c) (reversed a) (make_reversed I w c l.2) (make_reversed I w a l.1)) k.0)
      (string_cat I w (reversed c) (reversed a)
      ∙ ap string (held_cat I w (reversed c) (reversed a)
      ∙ (λ i. held_reversed I w c i ++ held_reversed I w a i)
      ∙ sym (reverse-append (held I w a) (held I w c))
      ∙ ap reverse (sym (held_cat I w a c)))
      ∙ sym (value_roll I w (Term-F.Reverse (cat a c)))
      ∙ ap (value I w) (sym e)) q.3

  -- parts
  pub s15_keeps : IsSound s15
  s15_keeps t s r h g =
      let p = part_tells t _ r g in
      let k = open_part I w p.0 p.1 p.2 s (of_kind t (part p.0 p.1 p.2) s p.3 h) in
      under t empty (less_eq p.1 p.0 ∷ []) s r (as_kind empty (str any) s (make_empty I w) k.0) (make_less_eq I w p.1 p.0 k.2 k.1, tt)
      (λ c u.
      value_roll I w Term-F.Empty
      ∙ ap string (sym (between_none (int I w p.0) (int I w p.1) (held I w p.2) (in_order p.1 p.0 (one_true (less_eq p.1 p.0) c))))
      ∙ sym (value_roll I w (Term-F.Part p.0 p.1 p.2))
      ∙ ap (value I w) (sym p.3)) p.4

  pub s16_keeps : IsSound s16
  s16_keeps t s r h g =
      let p = part_tells t _ r g in
      let k = open_part I w p.0 p.1 p.2 s (of_kind t (part p.0 p.1 p.2) s p.3 h) in
      under t empty (less_eq p.1 zero_term ∷ []) s r (as_kind empty (str any) s (make_empty I w) k.0) (make_less_eq I w p.1 zero_term k.2 (make_num I w (pos 0)), tt)
      (λ c u.
      value_roll I w Term-F.Empty
      ∙ ap string (sym (between_end (int I w p.0) (int I w p.1) (held I w p.2) (below_zero p.1 (one_true (less_eq p.1 zero_term) c))))
      ∙ sym (value_roll I w (Term-F.Part p.0 p.1 p.2))
      ∙ ap (value I w) (sym p.3)) p.4

  pub s17_keeps : IsSound s17
  s17_keeps t s r h g =
      let p = part_tells t _ r g in
      let k = open_part I w p.0 p.1 p.2 s (of_kind t (part p.0 p.1 p.2) s p.3 h) in
      under t empty (less_eq (len p.2) p.0 ∷ []) s r (as_kind empty (str any) s (make_empty I w) k.0) (make_less_eq I w (len p.2) p.0 (make_len I w p.2 k.3) k.1, tt)
      (λ c u.
      value_roll I w Term-F.Empty
      ∙ ap string (sym (between_past (int I w p.0) (int I w p.1) (held I w p.2) (above_len p.0 p.2 (one_true (less_eq (len p.2) p.0) c))))
      ∙ sym (value_roll I w (Term-F.Part p.0 p.1 p.2))
      ∙ ap (value I w) (sym p.3)) p.4

  pub s19_keeps : IsSound s19
  s19_keeps t s r h g =
      let p = part_tells t _ r g in
      let q = cat_tells p.2 _ r p.4 in
      let i : Term = p.0 in
      let j : Term = p.1 in
      let a : Term = q.0 in
      let c : Term = q.1 in
      let e : t ≡ part i j (cat a c) = p.3 ∙ ap (part i j) q.2 in
      let k = open_part I w i j (cat a c) s (of_kind t (part i j (cat a c)) s e h) in
      let l = open_cat I w a c (str any) k.3 in
      let m : Term = sub i (len a) in
      let n : Term = sub j (len a) in
      let la = make_len I w a l.1 in
      let x : Term = cat (part i j a) (part m n c) in
      plain t x s r (as_kind x (str any) s (make_cat I w (part i j a) (part m n c) (make_part I w i j a k.1 k.2 l.1) (make_part I w m n c (make_sub I w i (len a) k.1 la) (make_sub I w j (len a) k.2 la) l.2)) k.0)
      (string_cat I w (part i j a) (part m n c)
      ∙ ap string (held_cat I w (part i j a) (part m n c)
      ∙ (λ d. held_part I w i j a d ++ held_part I w m n c d)
      ∙ (λ d. between (int I w i) (int I w j) (held I w a) ++ between (less_length i a d) (less_length j a d) (held I w c))
      ∙ sym (between_append (int I w i) (int I w j) (held I w a) (held I w c))
      ∙ ap (between (int I w i) (int I w j)) (sym (held_cat I w a c)))
      ∙ sym (value_roll I w (Term-F.Part i j (cat a c)))
      ∙ ap (value I w) (sym e)) q.3
    where
      less_length : (i a : Term) → int I w (sub i (len a)) ≡ int I w i -ℤ pos (length (held I w a))
      less_length i a = int_sub I w i (len a) ∙ ap (λ n. int I w i -ℤ n) (int_len I w a)

  pub s20_keeps : IsSound s20
  s20_keeps t s r h g =
      let p = part_tells t _ r g in
      let q = reverse_tells p.2 _ r p.4 in
      let i : Term = p.0 in
      let j : Term = p.1 in
      let a : Term = q.0 in
      let e : t ≡ part i j (reversed a) = p.3 ∙ ap (part i j) q.1 in
      let k = open_part I w i j (reversed a) s (of_kind t (part i j (reversed a)) s e h) in
      let l = open_reversed I w a (str any) k.3 in
      let m : Term = sub (len a) j in
      let n : Term = sub (len a) i in
      let la = make_len I w a l.1 in
      let x : Term = reversed (part m n a) in
      plain t x s r (as_kind x (str any) s (make_reversed I w (part m n a) (make_part I w m n a (make_sub I w (len a) j la k.2) (make_sub I w (len a) i la k.1) l.1)) k.0)
      (string_reversed I w (part m n a)
      ∙ ap string (held_reversed I w (part m n a)
      ∙ ap reverse (held_part I w m n a ∙ (λ d. between (length_less j a d) (length_less i a d) (held I w a)))
      ∙ sym (between_reverse (int I w i) (int I w j) (held I w a))
      ∙ ap (between (int I w i) (int I w j)) (sym (held_reversed I w a)))
      ∙ sym (value_roll I w (Term-F.Part i j (reversed a)))
      ∙ ap (value I w) (sym e)) q.2
    where
      length_less : (i a : Term) → int I w (sub (len a) i) ≡ pos (length (held I w a)) -ℤ int I w i
      length_less i a = int_sub I w (len a) i ∙ ap (λ n. n -ℤ int I w i) (int_len I w a)

  pub s21_keeps : IsSound s21
  s21_keeps t s r h g =
      let p = part_tells t _ r g in
      let q = part_tells p.2 _ r p.4 in
      let i : Term = p.0 in
      let j : Term = p.1 in
      let m : Term = q.0 in
      let n : Term = q.1 in
      let a : Term = q.2 in
      let e : t ≡ part i j (part m n a) = p.3 ∙ ap (part i j) q.3 in
      let k = open_part I w i j (part m n a) s (of_kind t (part i j (part m n a)) s e h) in
      let l = open_part I w m n a (str any) k.3 in
      let x : Term = part (add m i) (add m j) a in
      let mi = make_add I w m i l.1 k.1 in
      let mj = make_add I w m j l.1 k.2 in
      under t x (less_eq zero_term m ∷ less_eq zero_term i ∷ less_eq (add m j) n ∷ []) s r (as_kind x (str any) s (make_part I w (add m i) (add m j) a mi mj l.3) k.0)
      (make_less_eq I w zero_term m (make_num I w (pos 0)) l.1, (make_less_eq I w zero_term i (make_num I w (pos 0)) k.1, (make_less_eq I w (add m j) n mj l.2, tt)))
      (λ c u.
      let facts = three_true (less_eq zero_term m) (less_eq zero_term i) (less_eq (add m j) n) c in
      string_part I w (add m i) (add m j) a
      ∙ ap string (held_part I w (add m i) (add m j) a
      ∙ (λ d. between (int_add I w m i d) (int_add I w m j d) (held I w a))
      ∙ sym (between_between (int I w i) (int I w j) (int I w m) (int I w n) (held I w a) (above_zero m facts.0) (above_zero i facts.1)
      (ap (λ y. int_le y (int I w n)) (sym (int_add I w m j)) ∙ in_order (add m j) n facts.2))
      ∙ ap (between (int I w i) (int I w j)) (sym (held_part I w m n a)))
      ∙ sym (value_roll I w (Term-F.Part i j (part m n a)))
      ∙ ap (value I w) (sym e)) q.4

  -- rules that give a string
  pub whole_string : (t : Term) → HasKind I w t (str any) → value I w t ≡ string (held I w t)
  whole_string t h = string_entries (value I w t) (is_string_of I w t h)

  pub s7_keeps : IsSound s7
  s7_keeps t s r h g =
      let p = cat_tells t _ r g in
      let q = when_tells (is_empty p.0) (gives p.1) r p.3 in
      let a : Term = p.1 in
      let e : t ≡ cat empty a = p.2 ∙ ap (λ u. cat u a) (empty_tells p.0 q.0) in
      let k = open_cat I w empty a s (of_kind t (cat empty a) s e h) in
      plain t a s r (as_kind a (str any) s k.2 k.0)
      (whole_string a k.2
      ∙ ap (λ vs. string (vs ++ held I w a)) (sym (held_empty I w))
      ∙ sym (value_roll I w (Term-F.Cat empty a))
      ∙ ap (value I w) (sym e)) q.1

  pub s8_keeps : IsSound s8
  s8_keeps t s r h g =
      let p = cat_tells t _ r g in
      let q = when_tells (is_empty p.1) (gives p.0) r p.3 in
      let a : Term = p.0 in
      let e : t ≡ cat a empty = p.2 ∙ ap (cat a) (empty_tells p.1 q.0) in
      let k = open_cat I w a empty s (of_kind t (cat a empty) s e h) in
      plain t a s r (as_kind a (str any) s k.1 k.0)
      (whole_string a k.1
      ∙ ap string (sym (append-nil (held I w a)) ∙ ap (λ vs. held I w a ++ vs) (sym (held_empty I w)))
      ∙ sym (value_roll I w (Term-F.Cat a empty))
      ∙ ap (value I w) (sym e)) q.1

  pub s13_keeps : IsSound s13
  s13_keeps t s r h g =
      let p = reverse_tells t _ r g in
      let q = reverse_tells p.0 _ r p.2 in
      let a : Term = q.0 in
      let e : t ≡ reversed (reversed a) = p.1 ∙ ap reversed q.1 in
      let k = open_reversed I w (reversed a) s (of_kind t (reversed (reversed a)) s e h) in
      let l = open_reversed I w a (str any) k.1 in
      plain t a s r (as_kind a (str any) s l.1 k.0)
      (whole_string a l.1
      ∙ ap string (sym (reverse-reverse (held I w a)) ∙ ap reverse (sym (held_reversed I w a)))
      ∙ sym (value_roll I w (Term-F.Reverse (reversed a)))
      ∙ ap (value I w) (sym e)) q.2

  pub s18_keeps : IsSound s18
  s18_keeps t s r h g =
      let p = part_tells t _ r g in
      let i : Term = p.0 in
      let j : Term = p.1 in
      let a : Term = p.2 in
      let k = open_part I w i j a s (of_kind t (part i j a) s p.3 h) in
      under t a (less_eq i zero_term ∷ less_eq (len a) j ∷ []) s r (as_kind a (str any) s k.3 k.0)
      (make_less_eq I w i zero_term k.1 (make_num I w (pos 0)), (make_less_eq I w (len a) j (make_len I w a k.3) k.2, tt))
      (λ c u.
      let facts = two_true (less_eq i zero_term) (less_eq (len a) j) c in
      whole_string a k.3
      ∙ ap string (sym (between_whole (int I w i) (int I w j) (held I w a) (below_zero i facts.0) (above_len j a facts.1)))
      ∙ sym (value_roll I w (Term-F.Part i j a))
      ∙ ap (value I w) (sym p.3)) p.4
