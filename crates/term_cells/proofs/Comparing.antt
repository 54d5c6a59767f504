-- What comparing the cells of two places tells of the terms there.
use Rattle.std.proofs.Common.{◌≡◌, ◌∙◌, sym, ap, refl, ℕ, ◌==◌, ◌<◌, Bool, true, false, ◌&&◌, ◌↔◌, List, [], ◌∷◌, map, length, Some, slice_get, arith}
use Rattle.std.proofs.lemmas.Bool.{and_parts, eq-eqb, ne_eqb, false≢true}
use Rattle.math_terms.specs.declared.term.Term.{Term}
use Rattle.math_terms.specs.declared.term.Term.TheViews.{out-Term}
use Rattle.math_terms.specs.Heads.{children, form, own}
use Rattle.term_cells.specs.declared.cell.Cell.{Cell}
use Rattle.term_cells.specs.working.Arity.{arity}
use Rattle.term_cells.specs.Standing.{few_stand, parts_stand, stands, stands_below}
use Rattle.term_cells.proofs.Apart.{below_from, below_parts, end_parts, link_parts}
use Rattle.term_cells.proofs.Forms.{children_counted, same_terms}
use Rattle.term_cells.proofs.Openings.{opens}
use Rattle.term_cells.proofs.Telling.{few_of, parts_of}

-- false and true as answers to whether two things are the same
pub no : {A : Type 0} (x y : A) → (x ≡ y → ⊥) → (false ≡ true) ↔ (x ≡ y)
no x y f = (λ e. absurd (false≢true e), λ e. absurd (f e))

pub yes : {A : Type 0} (x y : A) → x ≡ y → (true ≡ true) ↔ (x ≡ y)
yes x y e = (λ h. e, λ h. refl)

module _ (cells : List Cell) where
  pub first_below : (t : Term) (ts : List Term) (c : Cell) (node : ℕ) → few_stand (map (stands cells) (t ∷ ts)) c node ≡ true → stands_below (stands cells t) c.a node ≡ true
  first_below t [] c node h = h
  first_below t (s ∷ []) c node h = (and_parts (stands_below (stands cells t) c.a node) (stands_below (stands cells s) c.b node) h).0
  first_below t (s ∷ r ∷ []) c node h =
      let p = and_parts (stands_below (stands cells t) c.a node && stands_below (stands cells s) c.b node) (stands_below (stands cells r) c.c node) h in
      (and_parts (stands_below (stands cells t) c.a node) (stands_below (stands cells s) c.b node) p.0).0
  first_below t (s ∷ r ∷ q ∷ ts) c node h = absurd (false≢true h)

  pub second_below : (t s : Term) (ts : List Term) (c : Cell) (node : ℕ) → few_stand (map (stands cells) (t ∷ s ∷ ts)) c node ≡ true → stands_below (stands cells s) c.b node ≡ true
  second_below t s [] c node h = (and_parts (stands_below (stands cells t) c.a node) (stands_below (stands cells s) c.b node) h).1
  second_below t s (r ∷ []) c node h =
      let p = and_parts (stands_below (stands cells t) c.a node && stands_below (stands cells s) c.b node) (stands_below (stands cells r) c.c node) h in
      (and_parts (stands_below (stands cells t) c.a node) (stands_below (stands cells s) c.b node) p.0).1
  second_below t s (r ∷ q ∷ ts) c node h = absurd (false≢true h)

  pub third_below : (t s r : Term) (ts : List Term) (c : Cell) (node : ℕ) → few_stand (map (stands cells) (t ∷ s ∷ r ∷ ts)) c node ≡ true → (stands_below (stands cells r) c.c node ≡ true) × (ts ≡ [])
  third_below t s r [] c node h = ((and_parts (stands_below (stands cells t) c.a node && stands_below (stands cells s) c.b node) (stands_below (stands cells r) c.c node) h).1, refl)
  third_below t s r (q ∷ ts) c node h = absurd (false≢true h)

  -- An answer tells whether the terms at two places, of which the first is below a node, are the same.
  abbrev pub Answers : Bool → ℕ → ℕ → ℕ → Type 0
  Answers b p node q = (t u : Term) → stands_below (stands cells t) p node ≡ true → stands cells u q ≡ true → (b ≡ true) ↔ (t ≡ u)

  module _ (c d : Cell) (node other : ℕ) where
    first_answer : (b : Bool) → Answers b c.a node d.a → (t u : Term) (ts us : List Term) → few_stand (map (stands cells) (t ∷ ts)) c node ≡ true → few_stand (map (stands cells) (u ∷ us)) d other ≡ true →
        (b ≡ true) ↔ (t ≡ u)
    first_answer b answer t u ts us h k = answer t u (first_below t ts c node h) (below_parts (stands cells u) d.a other (first_below u us d other k)).1

    second_answer : (b : Bool) → Answers b c.b node d.b → (t s u v : Term) (ts us : List Term) → few_stand (map (stands cells) (t ∷ s ∷ ts)) c node ≡ true → few_stand (map (stands cells) (u ∷ v ∷ us)) d other ≡ true →
        (b ≡ true) ↔ (s ≡ v)
    second_answer b answer t s u v ts us h k =
        answer s v (second_below t s ts c node h) (below_parts (stands cells v) d.b other (second_below u v us d other k)).1

    pub first_differs : Answers false c.a node d.a → (n : ℕ) → (n ≡ 0 → ⊥) → (ts us : List Term) → length ts ≡ n → length us ≡ n →
        few_stand (map (stands cells) ts) c node ≡ true → few_stand (map (stands cells) us) d other ≡ true → (false ≡ true) ↔ (ts ≡ us)
    first_differs answer n some [] us l m h k = absurd (some (sym l))
    first_differs answer n some (t ∷ ts) [] l m h k = absurd (some (sym m))
    first_differs answer n some (t ∷ ts) (u ∷ us) l m h k =
        no (t ∷ ts) (u ∷ us) (λ e. let same : t ≡ u = cc in false≢true ((first_answer false answer t u ts us h k).1 same))

    pub one_same : Answers true c.a node d.a → (n : ℕ) → n ≡ 1 → (ts us : List Term) → length ts ≡ n → length us ≡ n →
        few_stand (map (stands cells) ts) c node ≡ true → few_stand (map (stands cells) us) d other ≡ true → (true ≡ true) ↔ (ts ≡ us)
    one_same answer n one [] us l m h k = absurd (omega arith)
    one_same answer n one (t ∷ ts) [] l m h k = absurd (omega arith)
    one_same answer n one (t ∷ []) (u ∷ []) l m h k = yes (t ∷ []) (u ∷ []) (ap (λ v. v ∷ []) ((first_answer true answer t u [] [] h k).0 refl))
    one_same answer n one (t ∷ []) (u ∷ v ∷ us) l m h k = absurd (omega arith)
    one_same answer n one (t ∷ s ∷ ts) (u ∷ us) l m h k = absurd (omega arith)

    pub second_differs : Answers false c.b node d.b → (n : ℕ) → (n ≡ 0 → ⊥) → (n ≡ 1 → ⊥) → (ts us : List Term) → length ts ≡ n → length us ≡ n →
        few_stand (map (stands cells) ts) c node ≡ true → few_stand (map (stands cells) us) d other ≡ true → (false ≡ true) ↔ (ts ≡ us)
    second_differs answer n some more [] us l m h k = absurd (some (sym l))
    second_differs answer n some more (t ∷ ts) [] l m h k = absurd (some (sym m))
    second_differs answer n some more (t ∷ []) (u ∷ us) l m h k = absurd (more (sym l))
    second_differs answer n some more (t ∷ s ∷ ts) (u ∷ []) l m h k = absurd (more (sym m))
    second_differs answer n some more (t ∷ s ∷ ts) (u ∷ v ∷ us) l m h k =
        no (t ∷ s ∷ ts) (u ∷ v ∷ us) (λ e. let same : s ≡ v = cc in false≢true ((second_answer false answer t s u v ts us h k).1 same))

    pub two_same : Answers true c.a node d.a → Answers true c.b node d.b → (n : ℕ) → n ≡ 2 → (ts us : List Term) → length ts ≡ n → length us ≡ n →
        few_stand (map (stands cells) ts) c node ≡ true → few_stand (map (stands cells) us) d other ≡ true → (true ≡ true) ↔ (ts ≡ us)
    two_same one two n is [] us l m h k = absurd (omega arith)
    two_same one two n is (t ∷ ts) [] l m h k = absurd (omega arith)
    two_same one two n is (t ∷ []) (u ∷ us) l m h k = absurd (omega arith)
    two_same one two n is (t ∷ s ∷ ts) (u ∷ []) l m h k = absurd (omega arith)
    two_same one two n is (t ∷ s ∷ []) (u ∷ v ∷ []) l m h k =
        let e = (first_answer true one t u (s ∷ []) (v ∷ []) h k).0 refl in
        let f = (second_answer true two t s u v [] [] h k).0 refl in
        yes (t ∷ s ∷ []) (u ∷ v ∷ []) (λ i. e i ∷ f i ∷ [])
    two_same one two n is (t ∷ s ∷ []) (u ∷ v ∷ w ∷ us) l m h k = absurd (omega arith)
    two_same one two n is (t ∷ s ∷ r ∷ ts) (u ∷ v ∷ us) l m h k = absurd (omega arith)

    pub three_same : (b : Bool) → Answers true c.a node d.a → Answers true c.b node d.b → Answers b c.c node d.c → (n : ℕ) → (n ≡ 0 → ⊥) → (n ≡ 1 → ⊥) → (n ≡ 2 → ⊥) →
        (ts us : List Term) → length ts ≡ n → length us ≡ n → few_stand (map (stands cells) ts) c node ≡ true → few_stand (map (stands cells) us) d other ≡ true → (b ≡ true) ↔ (ts ≡ us)
    three_same b one two three n x y z [] us l m h k = absurd (x (sym l))
    three_same b one two three n x y z (t ∷ ts) [] l m h k = absurd (x (sym m))
    three_same b one two three n x y z (t ∷ []) (u ∷ us) l m h k = absurd (y (sym l))
    three_same b one two three n x y z (t ∷ s ∷ ts) (u ∷ []) l m h k = absurd (y (sym m))
    three_same b one two three n x y z (t ∷ s ∷ []) (u ∷ v ∷ us) l m h k = absurd (z (sym l))
    three_same b one two three n x y z (t ∷ s ∷ r ∷ ts) (u ∷ v ∷ []) l m h k = absurd (z (sym m))
    three_same b one two three n x y z (t ∷ s ∷ r ∷ ts) (u ∷ v ∷ w ∷ us) l m h k =
        let e = (first_answer true one t u (s ∷ r ∷ ts) (v ∷ w ∷ us) h k).0 refl in
        let f = (second_answer true two t s u v (r ∷ ts) (w ∷ us) h k).0 refl in
        let p = third_below t s r ts c node h in
        let q = third_below u v w us d other k in
        let last = three r w p.0 (below_parts (stands cells w) d.c other q.0).1 in
        let ends : ts ≡ us = p.1 ∙ sym q.1 in (
          λ g. let i3 = last.0 g in λ i. e i ∷ f i ∷ i3 i ∷ ends i,
          λ g. let same : r ≡ w = cc in last.1 same,
        )

  module _ (t u : Term) (p q : ℕ) (c d : Cell) (at_p : slice_get cells p ≡ Some c) (at_q : slice_get cells q ≡ Some d) (h : stands cells t p ≡ true) (k : stands cells u q ≡ true) where
    -- the same terms have cells of the same heads
    pub heads_same : t ≡ u → (c.form ≡ d.form) × (c.own ≡ d.own)
    heads_same e =
        let n = opens cells t p c at_p h in
        let o = opens cells u q d at_q k in
        (n.form_is ∙ ap (λ v. form (out-Term v)) e ∙ sym o.form_is, n.own_is ∙ ap (λ v. own (out-Term v)) e ∙ sym o.own_is)

    -- where forms and own numbers are the same, the children tell
    by_children : (b : Bool) → c.form ≡ d.form → c.own ≡ d.own → (b ≡ true) ↔ (children (out-Term t) ≡ children (out-Term u)) → (b ≡ true) ↔ (t ≡ u)
    by_children b e f answer =
        let n = opens cells t p c at_p h in
        let o = opens cells u q d at_q k in (
          λ g. same_terms t u (sym n.form_is ∙ e ∙ o.form_is) (sym n.own_is ∙ f ∙ o.own_is) (answer.0 g),
          λ g. answer.1 (ap (λ v. children (out-Term v)) g),
        )

    t_parts : c.form ≡ 16 → parts_stand cells (map (stands cells) (children (out-Term t))) c.a p ≡ true
    t_parts e = parts_of cells c.form (map (stands cells) (children (out-Term t))) c p (eq-eqb c.form 16 e) (opens cells t p c at_p h).children_are

    u_parts : d.form ≡ 16 → parts_stand cells (map (stands cells) (children (out-Term u))) d.a q ≡ true
    u_parts e = parts_of cells d.form (map (stands cells) (children (out-Term u))) d q (eq-eqb d.form 16 e) (opens cells u q d at_q k).children_are

    pub tuples : (b : Bool) → c.form ≡ d.form → c.own ≡ d.own → c.form ≡ 16 →
        ((m n : ℕ) (ts us : List Term) → parts_stand cells (map (stands cells) ts) c.a m ≡ true → parts_stand cells (map (stands cells) us) d.a n ≡ true → (b ≡ true) ↔ (ts ≡ us)) → (b ≡ true) ↔ (t ≡ u)
    tuples b e f g answer = by_children b e f (answer p q (children (out-Term t)) (children (out-Term u)) (t_parts g) (u_parts (sym e ∙ g)))

    pub few : (b : Bool) → c.form ≡ d.form → c.own ≡ d.own → (c.form ≡ 16 → ⊥) → (n : ℕ) → n ≡ arity c.form →
        ((other : ℕ) (ts us : List Term) → length ts ≡ n → length us ≡ n → few_stand (map (stands cells) ts) c p ≡ true → few_stand (map (stands cells) us) d other ≡ true → (b ≡ true) ↔ (ts ≡ us)) → (b ≡ true) ↔ (t ≡ u)
    few b e f g n count answer =
        let x = opens cells t p c at_p h in
        let y = opens cells u q d at_q k in
        let no_tuple : (c.form == 16) ≡ false = ne_eqb c.form 16 g in
        let no_tuple' : (d.form == 16) ≡ false = ap (λ m. m == 16) (sym e) ∙ no_tuple in
        by_children b e f (answer q (children (out-Term t)) (children (out-Term u))
        (children_counted (out-Term t) (ap (λ m. m == 16) (sym x.form_is) ∙ no_tuple) ∙ ap arity (sym x.form_is) ∙ sym count)
        (children_counted (out-Term u) (ap (λ m. m == 16) (sym y.form_is) ∙ no_tuple') ∙ ap arity (sym y.form_is ∙ sym e) ∙ sym count)
        (few_of cells c.form (map (stands cells) (children (out-Term t))) c p no_tuple x.children_are)
        (few_of cells d.form (map (stands cells) (children (out-Term u))) d q no_tuple' y.children_are))

  -- lists of parts stand below
  pub parts_below : (ps : List (ℕ → Bool)) (at node : ℕ) → parts_stand cells ps at node ≡ true → at < node
  parts_below [] at node h = (end_parts cells at node h).below
  parts_below (p ∷ ps) at node h = (link_parts cells p ps at node h).below

  pub tuple_below : (t : Term) (p : ℕ) (c : Cell) → slice_get cells p ≡ Some c → c.form ≡ 16 → stands cells t p ≡ true → c.a < p
  tuple_below t p c e f h =
      parts_below (map (stands cells) (children (out-Term t))) c.a p
      (parts_of cells c.form (map (stands cells) (children (out-Term t))) c p (eq-eqb c.form 16 f) (opens cells t p c e h).children_are)

  -- the cell of a list of parts
  pub end_cell : (p m : ℕ) (c : Cell) → slice_get cells p ≡ Some c → parts_stand cells [] p m ≡ true → c.form ≡ 26
  end_cell p m c e h =
      let l = end_parts cells p m h in
      let one : Some c ≡ Some l.cell = sym e ∙ l.cell_is in
      let same : c ≡ l.cell = cc in
      ap (λ (x : Cell). x.form) same ∙ l.form_is

  pub record IsLinkCell (t : Term) (ts : List Term) (p : ℕ) (c : Cell) : Type 0 where
    pub form_is : c.form ≡ 27
    pub part_is : stands_below (stands cells t) c.a p ≡ true
    pub rest_is : parts_stand cells (map (stands cells) ts) c.b p ≡ true

  pub link_cell : (t : Term) (ts : List Term) (p m : ℕ) (c : Cell) → slice_get cells p ≡ Some c → parts_stand cells (map (stands cells) (t ∷ ts)) p m ≡ true → IsLinkCell t ts p c
  link_cell t ts p m c e h =
      let l = link_parts cells (stands cells t) (map (stands cells) ts) p m h in
      let one : Some l.cell ≡ Some c = sym l.cell_is ∙ e in
      let same : l.cell ≡ c = cc in
      record {
        form_is = ap (λ (x : Cell). x.form) (sym same) ∙ l.form_is;
        part_is = ap (λ (x : Cell). stands_below (stands cells t) x.a p) (sym same) ∙ below_from (stands cells t) l.cell.a p l.part_below l.part_is;
        rest_is = ap (λ (x : Cell). parts_stand cells (map (stands cells) ts) x.b p) (sym same) ∙ l.rest_is;
      }

  pub parts_inside : (ts : List Term) (p m : ℕ) → parts_stand cells (map (stands cells) ts) p m ≡ true → (c : Cell) × (slice_get cells p ≡ Some c)
  parts_inside [] p m h =
      let l = end_parts cells p m h in
      (l.cell, l.cell_is)
  parts_inside (t ∷ ts) p m h =
      let l = link_parts cells (stands cells t) (map (stands cells) ts) p m h in
      (l.cell, l.cell_is)

  module _ (p q m n : ℕ) (c d : Cell) (at_p : slice_get cells p ≡ Some c) (at_q : slice_get cells q ≡ Some d) where
    pub lists_differ : (c.form ≡ d.form → ⊥) → (ts us : List Term) → parts_stand cells (map (stands cells) ts) p m ≡ true → parts_stand cells (map (stands cells) us) q n ≡ true → (false ≡ true) ↔ (ts ≡ us)
    lists_differ f [] [] h k = absurd (f (end_cell p m c at_p h ∙ sym (end_cell q n d at_q k)))
    lists_differ f [] (u ∷ us) h k = no [] (u ∷ us) (λ e. cc)
    lists_differ f (t ∷ ts) [] h k = no (t ∷ ts) [] (λ e. cc)
    lists_differ f (t ∷ ts) (u ∷ us) h k = absurd (f ((link_cell t ts p m c at_p h).form_is ∙ sym (link_cell u us q n d at_q k).form_is))

    pub lists_end : c.form ≡ d.form → (c.form ≡ 27 → ⊥) → (ts us : List Term) → parts_stand cells (map (stands cells) ts) p m ≡ true → parts_stand cells (map (stands cells) us) q n ≡ true → (true ≡ true) ↔ (ts ≡ us)
    lists_end e f [] [] h k = yes [] [] refl
    lists_end e f [] (u ∷ us) h k = absurd (f (e ∙ (link_cell u us q n d at_q k).form_is))
    lists_end e f (t ∷ ts) us h k = absurd (f (link_cell t ts p m c at_p h).form_is)

    -- two links
    links : (b : Bool) → c.form ≡ d.form → c.form ≡ 27 →
        ((t u : Term) (ts us : List Term) → IsLinkCell t ts p c → IsLinkCell u us q d → (b ≡ true) ↔ (t ∷ ts ≡ u ∷ us)) →
        (ts us : List Term) → parts_stand cells (map (stands cells) ts) p m ≡ true → parts_stand cells (map (stands cells) us) q n ≡ true → (b ≡ true) ↔ (ts ≡ us)
    links b e f answer [] us h k = absurd (omega (arith, end_cell p m c at_p h))
    links b e f answer (t ∷ ts) [] h k = absurd (omega (arith, end_cell q n d at_q k))
    links b e f answer (t ∷ ts) (u ∷ us) h k = answer t u ts us (link_cell t ts p m c at_p h) (link_cell u us q n d at_q k)

    pub parts_differ : c.form ≡ d.form → c.form ≡ 27 → Answers false c.a p d.a → (ts us : List Term) →
        parts_stand cells (map (stands cells) ts) p m ≡ true → parts_stand cells (map (stands cells) us) q n ≡ true → (false ≡ true) ↔ (ts ≡ us)
    parts_differ e f answer =
        links false e f (λ t u ts us l r. no (t ∷ ts) (u ∷ us) (λ g.
        let same : t ≡ u = cc in
        false≢true ((answer t u l.part_is (below_parts (stands cells u) d.a q r.part_is).1).1 same)))

    pub rests_tell : (b : Bool) → c.form ≡ d.form → c.form ≡ 27 → Answers true c.a p d.a →
        ((m n : ℕ) (ts us : List Term) → parts_stand cells (map (stands cells) ts) c.b m ≡ true → parts_stand cells (map (stands cells) us) d.b n ≡ true → (b ≡ true) ↔ (ts ≡ us)) →
        (ts us : List Term) → parts_stand cells (map (stands cells) ts) p m ≡ true → parts_stand cells (map (stands cells) us) q n ≡ true → (b ≡ true) ↔ (ts ≡ us)
    rests_tell b e f answer rest =
        links b e f (λ t u ts us l r.
        let first : t ≡ u = (answer t u l.part_is (below_parts (stands cells u) d.a q r.part_is).1).0 refl in
        let others = rest p q ts us l.rest_is r.rest_is in
        (λ g. let same = others.0 g in λ i. first i ∷ same i, λ g. let same : ts ≡ us = cc in others.1 same))

    pub rest_below : c.form ≡ 27 → (ts : List Term) → parts_stand cells (map (stands cells) ts) p m ≡ true → c.b < p
    rest_below f [] h = absurd (omega (arith, end_cell p m c at_p h))
    rest_below f (t ∷ ts) h = parts_below (map (stands cells) ts) c.b p (link_cell t ts p m c at_p h).rest_is
