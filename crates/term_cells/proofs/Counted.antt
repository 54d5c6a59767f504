-- Counting the nodes of what stands at places.
use Rattle.std.proofs.Common.{◌≡◌, ◌∙◌, sym, ap, refl, subst, ℕ, ◌+◌, ◌==◌, ◌<◌, ◌≤◌, true, false, List, [], ◌∷◌, map, length, sum_by, Option, Some, None, slice_get, arith}
use Rattle.std.proofs.lemmas.Bool.{eq-eqb, ne_eqb}
use Rattle.std.proofs.lemmas.List.Sums.{sum_by-cons}
use Rattle.math_terms.specs.declared.term.Term.{Term}
use Rattle.math_terms.specs.declared.term.Term.TheViews.{out-Term}
use Rattle.math_terms.specs.Heads.{children}
use Rattle.math_terms.specs.Terms.{nodes}
use Rattle.term_cells.specs.declared.cell.Cell.{Cell}
use Rattle.term_cells.specs.working.Arity.{arity}
use Rattle.term_cells.specs.working.Counting.{Leaves}
use Rattle.term_cells.specs.Standing.{few_stand, parts_stand, stands, stands_below}
use Rattle.term_cells.proofs.Comparing.{first_below, second_below, third_below, end_cell, link_cell}
use Rattle.term_cells.proofs.Forms.{children_counted, nodes_by_list}
use Rattle.term_cells.proofs.Openings.{opens}
use Rattle.term_cells.proofs.Telling.{few_of, parts_of}

-- more taken from more
leaves_more : (number rest a b : ℕ) (r : Option ℕ) → rest + a ≡ number → Leaves rest b r → Leaves number (a + b) r
leaves_more number rest a b None e h = omega arith
leaves_more number rest a b (Some left) e h = omega arith

pub no_node : (number : ℕ) → (1 ≤ number → ⊥) → (t : Term) → number < nodes t
no_node number f t =
    let n = nodes_by_list t (children (out-Term t)) refl in
    omega (arith, f)

module _ (cells : List Cell) where
  module _ (t : Term) (p : ℕ) (c : Cell) (at_p : slice_get cells p ≡ Some c) (h : stands cells t p ≡ true) (number rest : ℕ) (one : rest + 1 ≡ number) (r : Option ℕ) where
    pub tuple_counted : c.form ≡ 16 → ((ts : List Term) → parts_stand cells (map (stands cells) ts) c.a p ≡ true → Leaves rest (sum_by nodes ts) r) → Leaves number (nodes t) r
    tuple_counted e answer =
        let ts = children (out-Term t) in
        let all = leaves_more number rest 1 (sum_by nodes ts) r one (answer ts (parts_of cells c.form (map (stands cells) ts) c p (eq-eqb c.form 16 e) (opens cells t p c at_p h).children_are)) in
        subst (λ n. Leaves number n r) (sym (nodes_by_list t ts refl)) all

    pub few_counted : (c.form ≡ 16 → ⊥) → (n : ℕ) → n ≡ arity c.form →
        ((ts : List Term) → length ts ≡ n → few_stand (map (stands cells) ts) c p ≡ true → Leaves rest (sum_by nodes ts) r) → Leaves number (nodes t) r
    few_counted e n count answer =
        let ts = children (out-Term t) in
        let x = opens cells t p c at_p h in
        let no_tuple : (c.form == 16) ≡ false = ne_eqb c.form 16 e in
        let counted = children_counted (out-Term t) (ap (λ m. m == 16) (sym x.form_is) ∙ no_tuple) ∙ ap arity (sym x.form_is) ∙ sym count in
        let all = leaves_more number rest 1 (sum_by nodes ts) r one (answer ts counted (few_of cells c.form (map (stands cells) ts) c p no_tuple x.children_are)) in
        subst (λ n. Leaves number n r) (sym (nodes_by_list t ts refl)) all

  -- what a child leaves
  abbrev pub ChildLeaves : ℕ → ℕ → ℕ → Option ℕ → Type 0
  ChildLeaves p limit number r = (t : Term) → stands_below (stands cells t) p limit ≡ true → Leaves number (nodes t) r

  module _ (c : Cell) (node number : ℕ) where
    pub first_too_large : ChildLeaves c.a node number None → (n : ℕ) → (n ≡ 0 → ⊥) → (ts : List Term) → length ts ≡ n → few_stand (map (stands cells) ts) c node ≡ true → number < sum_by nodes ts
    first_too_large answer n some [] l h = absurd (some (sym l))
    first_too_large answer n some (t ∷ ts) l h = omega (arith, answer t (first_below cells t ts c node h), sum_by-cons nodes t ts)

    module _ (left : ℕ) (first : ChildLeaves c.a node number (Some left)) where
      pub one_counted : (n : ℕ) → n ≡ 1 → (ts : List Term) → length ts ≡ n → few_stand (map (stands cells) ts) c node ≡ true → left + sum_by nodes ts ≡ number
      one_counted n one [] l h = absurd (omega arith)
      one_counted n one (t ∷ []) l h = omega (arith, first t (first_below cells t [] c node h), sum_by-cons nodes t [])
      one_counted n one (t ∷ s ∷ ts) l h = absurd (omega arith)

      pub second_too_large : ChildLeaves c.b node left None → (n : ℕ) → (n ≡ 0 → ⊥) → (n ≡ 1 → ⊥) → (ts : List Term) → length ts ≡ n → few_stand (map (stands cells) ts) c node ≡ true → number < sum_by nodes ts
      second_too_large answer n some more [] l h = absurd (some (sym l))
      second_too_large answer n some more (t ∷ []) l h = absurd (more (sym l))
      second_too_large answer n some more (t ∷ s ∷ ts) l h =
          omega (arith, first t (first_below cells t (s ∷ ts) c node h), answer s (second_below cells t s ts c node h), sum_by-cons nodes t (s ∷ ts), sum_by-cons nodes s ts)

      module _ (last : ℕ) (second : ChildLeaves c.b node left (Some last)) where
        pub two_counted : (n : ℕ) → n ≡ 2 → (ts : List Term) → length ts ≡ n → few_stand (map (stands cells) ts) c node ≡ true → last + sum_by nodes ts ≡ number
        two_counted n two [] l h = absurd (omega arith)
        two_counted n two (t ∷ []) l h = absurd (omega arith)
        two_counted n two (t ∷ s ∷ []) l h =
            omega (arith, first t (first_below cells t (s ∷ []) c node h), second s (second_below cells t s [] c node h), sum_by-cons nodes t (s ∷ []), sum_by-cons nodes s [])
        two_counted n two (t ∷ s ∷ r ∷ ts) l h = absurd (omega arith)

        pub three_counted : (r : Option ℕ) → ChildLeaves c.c node last r → (n : ℕ) → (n ≡ 0 → ⊥) → (n ≡ 1 → ⊥) → (n ≡ 2 → ⊥) → (ts : List Term) → length ts ≡ n → few_stand (map (stands cells) ts) c node ≡ true →
            Leaves number (sum_by nodes ts) r
        three_counted r third n x y z [] l h = absurd (x (sym l))
        three_counted r third n x y z (t ∷ []) l h = absurd (y (sym l))
        three_counted r third n x y z (t ∷ s ∷ []) l h = absurd (z (sym l))
        three_counted r third n x y z (t ∷ s ∷ u ∷ ts) l h =
            let p = third_below cells t s u ts c node h in
            let one = first t (first_below cells t (s ∷ u ∷ ts) c node h) in
            let two = second s (second_below cells t s (u ∷ ts) c node h) in
            let both : last + (nodes t + nodes s) ≡ number = omega arith in
            let all = leaves_more number last (nodes t + nodes s) (nodes u) r both (third u p.0) in
            let sum : (nodes t + nodes s) + nodes u ≡ sum_by nodes (t ∷ s ∷ u ∷ ts) =
            omega (arith, sum_by-cons nodes t (s ∷ u ∷ ts), sum_by-cons nodes s (u ∷ ts), sum_by-cons nodes u ts, ap (sum_by nodes) p.1) in
            subst (λ k. Leaves number k r) sum all

  module _ (p limit number : ℕ) (c : Cell) (at_p : slice_get cells p ≡ Some c) where
    pub end_counted : (c.form ≡ 27 → ⊥) → (ts : List Term) → parts_stand cells (map (stands cells) ts) p limit ≡ true → number + sum_by nodes ts ≡ number
    end_counted f [] h = omega arith
    end_counted f (t ∷ ts) h = absurd (f (link_cell cells t ts p limit c at_p h).form_is)

    pub part_too_large : c.form ≡ 27 → ChildLeaves c.a p number None → (ts : List Term) → parts_stand cells (map (stands cells) ts) p limit ≡ true → number < sum_by nodes ts
    part_too_large f answer [] h = absurd (omega (arith, end_cell cells p limit c at_p h))
    part_too_large f answer (t ∷ ts) h = omega (arith, answer t (link_cell cells t ts p limit c at_p h).part_is, sum_by-cons nodes t ts)

    pub rest_counted : c.form ≡ 27 → (left : ℕ) → ChildLeaves c.a p number (Some left) → (r : Option ℕ) →
        ((ts : List Term) → parts_stand cells (map (stands cells) ts) c.b p ≡ true → Leaves left (sum_by nodes ts) r) →
        (ts : List Term) → parts_stand cells (map (stands cells) ts) p limit ≡ true → Leaves number (sum_by nodes ts) r
    rest_counted f left part r rest [] h = absurd (omega (arith, end_cell cells p limit c at_p h))
    rest_counted f left part r rest (t ∷ ts) h =
        let l = link_cell cells t ts p limit c at_p h in
        let all = leaves_more number left (nodes t) (sum_by nodes ts) r (part t l.part_is) (rest ts l.rest_is) in
        subst (λ k. Leaves number k r) (sym (sum_by-cons nodes t ts)) all
