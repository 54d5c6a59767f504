-- The pieces of what stands at places.
use Rattle.std.proofs.Common.{◌≡◌, ◌∙◌, sym, ap, refl, subst, ℕ, suc, ◌==◌, ◌<◌, ◌≤◌, ltb, Bool, true, false, List, [], ◌∷◌, map, length, drop, Some, None, slice_get, codes, if◌then◌else◌, inl, inr, ⊎_elim, arith}
use Rattle.std.proofs.lemmas.Bool.{eqb-true, lt-ltb, le-ltb}
use Rattle.std.proofs.lemmas.List.{drop_all, get_or_past, length-map}
use Rattle.math_terms.specs.declared.term.Term.{Term}
use Rattle.math_terms.specs.declared.term.Term.TheViews.{out-Term}
use Rattle.math_terms.specs.declared.form.Form.{Form}
use Rattle.math_terms.specs.Forms.{form, form_number}
use Rattle.math_terms.specs.Heads.{children}
use Rattle.num_theory.specs.Texts.{Piece, at_least, listed}
use Rattle.term_cells.specs.declared.cell.Cell.{Cell}
use Rattle.term_cells.specs.declared.before.Next.{Next}
use Rattle.term_cells.specs.declared.before.Next.TheVariants.{Mark, Number, Child, Done}
use Rattle.term_cells.specs.working.Arity.{arity}
use Rattle.term_cells.specs.working.Marks.{left_least, right_least, strength, symbol}
use Rattle.term_cells.specs.working.Pieces.{HasPieces, NextIs, Says, child_count, child_texts, comma_before, joined, list_pieces, node_pieces, nth, operands, piece_of, term_pieces}
use Rattle.term_cells.specs.Standing.{few_stand, parts_stand, stands, stands_below}
use Rattle.term_cells.proofs.Apart.{below_parts}
use Rattle.term_cells.proofs.Comparing.{end_cell, first_below, link_cell, parts_below, parts_inside, second_below, third_below}
use Rattle.term_cells.proofs.FormNumbers.{NoForm, few_forms}
use Rattle.term_cells.proofs.Forms.{children_counted}
use Rattle.term_cells.proofs.Laid.{list_joined, operand_joined, term_joined}
use Rattle.term_cells.proofs.Openings.{cell_of, not_there, opens}
use Rattle.term_cells.proofs.Telling.{few_of, parts_of}

-- the form of the cell where a term stands
pub term_form : (cells : List Cell) (t : Term) (p : ℕ) (c : Cell) → slice_get cells p ≡ Some c → stands cells t p ≡ true → c.form ≡ form_number (form (out-Term t))
term_form cells t p c e h = (opens cells t p c e h).form_is

pub no_term : (cells : List Cell) (t : Term) (p : ℕ) (c : Cell) → slice_get cells p ≡ Some c → NoForm c.form → stands cells t p ≡ true → ⊥
no_term cells t p c e f h = f (form (out-Term t)) (term_form cells t p c e h)

-- what says these bytes is the piece of these bytes
pub says_next : (cells : List Cell) (place : ℕ) (ps : List (List ℕ)) (k : ℕ) (r : Next) (bytes : List ℕ) → Says r bytes → bytes ≡ nth ps k → NextIs cells place ps k r
says_next cells place ps k (Mark mark) bytes h e = h ∙ e
says_next cells place ps k (Number n) bytes h e = h ∙ e
says_next cells place ps k (Child q w) bytes h e = absurd h
says_next cells place ps k Done bytes h e = absurd h

-- a child that is a term, and one that is a list of parts
child_next : (cells : List Cell) (u : Term) (q place least : ℕ) (r : Next) → q < place → stands cells u q ≡ true →
    ((c : Cell) → slice_get cells q ≡ Some c → r ≡ Child q (ltb (strength c.form) least)) → (ps : List (List ℕ)) (k : ℕ) → nth ps k ≡ at_least least (piece_of u) → NextIs cells place ps k r
child_next cells u q place least r below h answer ps k e =
    let d = cell_of cells u q h in
    let n = opens cells u q d.0 d.1 h in
    let w = ltb (strength (form_number (form (out-Term u)))) least in
    let same : r ≡ Child q w = answer d.0 d.1 ∙ ap (λ f. Child q (ltb (strength f) least)) n.form_is in
    let next : NextIs cells place ps k (Child q w) = (below, (term_pieces w u, inl (u, h, refl), operand_joined least u ∙ sym e)) in
    subst (λ s. NextIs cells place ps k s) (sym same) next

list_next : (cells : List Cell) (ts : List Term) (q place : ℕ) (r : Next) → parts_stand cells (map (stands cells) ts) q place ≡ true →
    ((c : Cell) → slice_get cells q ≡ Some c → r ≡ Child q (ltb (strength c.form) 0)) → (ps : List (List ℕ)) (k : ℕ) → nth ps k ≡ listed (map piece_of ts) → NextIs cells place ps k r
list_next cells ts q place r h answer ps k e =
    let d = parts_inside cells ts q place h in
    let same : r ≡ Child q false = answer d.0 d.1 ∙ ap (λ b. Child q b) (le-ltb (strength d.0.form) 0 (omega arith)) in
    let next : NextIs cells place ps k (Child q false) = (parts_below cells (map (stands cells) ts) q place h, (list_pieces ts, inr (ts, (place, h), refl), list_joined ts ∙ sym e)) in
    subst (λ s. NextIs cells place ps k s) (sym same) next

operands_counted : (k : ℕ) (ps : List Piece) → length (operands k ps) ≡ length ps
operands_counted k [] = refl
operands_counted k (p ∷ ps) = ap suc (length-map ps (at_least (right_least k)))

-- the texts of a node's children, those of a tuple and others
texts : ℕ → Bool → List Term → List (List ℕ)
texts k tuple ts = if tuple then listed (map piece_of ts) ∷ [] else operands k (map piece_of ts)

texts_counted : (k : ℕ) (tuple : Bool) (ts : List Term) → (tuple ≡ false → length ts ≡ arity k) → length (texts k tuple ts) ≡ (if tuple then 1 else arity k)
unfolding texts
texts_counted k true ts f = refl
texts_counted k false ts f = operands_counted k (map piece_of ts) ∙ length-map ts piece_of ∙ f refl

module _ (cells : List Cell) (t : Term) (place : ℕ) (c : Cell) (at : slice_get cells place ≡ Some c) (h : stands cells t place ≡ true) where
  pub its_texts : List (List ℕ)
  its_texts = child_texts c.form (map piece_of (children (out-Term t)))

  its_pieces : (w : Bool) → term_pieces w t ≡ node_pieces w c.form c.own its_texts
  unfolding its_texts
  its_pieces w =
      let n = opens cells t place c at h in
      λ i. node_pieces w (sym n.form_is i) (sym n.own_is i) (child_texts (sym n.form_is i) (map piece_of (children (out-Term t))))

  its_number : (c.form == 16) ≡ false → length (children (out-Term t)) ≡ arity c.form
  its_number e =
      let n = opens cells t place c at h in
      children_counted (out-Term t) (ap (λ m. m == 16) (sym n.form_is) ∙ e) ∙ ap arity (sym n.form_is)

  its_count : length its_texts ≡ child_count c.form
  unfolding its_texts texts
  its_count = texts_counted c.form (c.form == 16) (children (out-Term t)) its_number

  -- the bytes of a piece
  pub stage_says : (w : Bool) (k : ℕ) (r : Next) (bytes : List ℕ) → Says r bytes → bytes ≡ nth (node_pieces w c.form c.own its_texts) k → NextIs cells place (term_pieces w t) k r
  stage_says w k r bytes says e = says_next cells place (term_pieces w t) k r bytes says (e ∙ ap (λ ps. nth ps k) (sym (its_pieces w)))

  pub stage_between : (there : Bool) (m count : ℕ) → there ≡ ltb m count → count ≡ child_count c.form → (mark : List ℕ) → mark ≡ symbol c.form →
      (if there then mark else []) ≡ (if ltb m (length its_texts) then symbol c.form else [])
  stage_between there m count e f mark g = λ i. if (e ∙ ap (ltb m) (f ∙ sym its_count)) i then g i else []

  nth_pieces : (w : Bool) (k : ℕ) (s : List ℕ) → nth (node_pieces w c.form c.own its_texts) k ≡ s → nth (term_pieces w t) k ≡ s
  nth_pieces w k s e = ap (λ ps. nth ps k) (its_pieces w) ∙ e

  -- a child that is not there
  no_child : (w : Bool) (k m : ℕ) (r : Next) → nth (node_pieces w c.form c.own its_texts) k ≡ nth its_texts m → length its_texts ≤ m → Says r [] → NextIs cells place (term_pieces w t) k r
  no_child w k m r e l says = stage_says w k r [] says (sym (e ∙ get_or_past its_texts m [] l))

  -- a child that is there
  some_child : (w : Bool) (k m q least : ℕ) (r : Next) (u : Term) → nth (node_pieces w c.form c.own its_texts) k ≡ nth its_texts m → nth its_texts m ≡ at_least least (piece_of u) →
      stands_below (stands cells u) q place ≡ true → ((d : Cell) → slice_get cells q ≡ Some d → r ≡ Child q (ltb (strength d.form) least)) → NextIs cells place (term_pieces w t) k r
  some_child w k m q least r u e f below answer =
      let b = below_parts (stands cells u) q place below in
      child_next cells u q place least r b.0 b.1 answer (term_pieces w t) k (nth_pieces w k (at_least least (piece_of u)) (e ∙ f))

few_kids : (cells : List Cell) (t : Term) (place : ℕ) (c : Cell) → slice_get cells place ≡ Some c → stands cells t place ≡ true → (c.form == 16) ≡ false → few_stand (map (stands cells) (children (out-Term t))) c place ≡ true
few_kids cells t place c at h e = few_of cells c.form (map (stands cells) (children (out-Term t))) c place e (opens cells t place c at h).children_are

-- what an operand answers
abbrev pub OperandIs : List Cell → Bool → ℕ → ℕ → Next → Type 0
OperandIs cells there q least r = ((d : Cell) → there ≡ true → slice_get cells q ≡ Some d → r ≡ Child q (ltb (strength d.form) least)) × (there ≡ false → Says r [])

module _ (cells : List Cell) (t : Term) (place : ℕ) (c : Cell) (at : slice_get cells place ≡ Some c) (h : stands cells t place ≡ true) (w : Bool) (there : Bool) (count : ℕ) (r : Next) where
  -- the operands of a node that is no tuple
  first_kid : (ts : List Term) → its_texts cells t place c at h ≡ operands c.form (map piece_of ts) → length ts ≡ count → few_stand (map (stands cells) ts) c place ≡ true →
      there ≡ ltb 0 count → OperandIs cells there c.a (left_least c.form) r → NextIs cells place (term_pieces w t) 2 r
  first_kid [] e l few is answer =
      no_child cells t place c at h w 2 0 r refl (omega (arith, ap length e)) (answer.1 (is ∙ le-ltb 0 count (omega arith)))
  first_kid (u ∷ us) e l few is answer =
      some_child cells t place c at h w 2 0 c.a (left_least c.form) r u refl (ap (λ ps. nth ps 0) e) (first_below cells u us c place few)
      (λ d f. answer.0 d (is ∙ lt-ltb 0 count (omega arith)) f)

  second_kid : (ts : List Term) → its_texts cells t place c at h ≡ operands c.form (map piece_of ts) → length ts ≡ count → few_stand (map (stands cells) ts) c place ≡ true →
      there ≡ ltb 1 count → OperandIs cells there c.b (right_least c.form) r → NextIs cells place (term_pieces w t) 4 r
  second_kid [] e l few is answer =
      no_child cells t place c at h w 4 1 r refl (omega (arith, ap length e)) (answer.1 (is ∙ le-ltb 1 count (omega arith)))
  second_kid (u ∷ []) e l few is answer =
      no_child cells t place c at h w 4 1 r refl (omega (arith, ap length e)) (answer.1 (is ∙ le-ltb 1 count (omega arith)))
  second_kid (u ∷ v ∷ us) e l few is answer =
      some_child cells t place c at h w 4 1 c.b (right_least c.form) r v refl (ap (λ ps. nth ps 1) e) (second_below cells u v us c place few)
      (λ d f. answer.0 d (is ∙ lt-ltb 1 count (omega arith)) f)

  third_kid : (ts : List Term) → its_texts cells t place c at h ≡ operands c.form (map piece_of ts) → length ts ≡ count → few_stand (map (stands cells) ts) c place ≡ true →
      there ≡ ltb 2 count → OperandIs cells there c.c (right_least c.form) r → NextIs cells place (term_pieces w t) 6 r
  third_kid [] e l few is answer =
      no_child cells t place c at h w 6 2 r refl (omega (arith, ap length e)) (answer.1 (is ∙ le-ltb 2 count (omega arith)))
  third_kid (u ∷ []) e l few is answer =
      no_child cells t place c at h w 6 2 r refl (omega (arith, ap length e)) (answer.1 (is ∙ le-ltb 2 count (omega arith)))
  third_kid (u ∷ v ∷ []) e l few is answer =
      no_child cells t place c at h w 6 2 r refl (omega (arith, ap length e)) (answer.1 (is ∙ le-ltb 2 count (omega arith)))
  third_kid (u ∷ v ∷ x ∷ us) e l few is answer =
      some_child cells t place c at h w 6 2 c.c (right_least c.form) r x refl (ap (λ ps. nth ps 2) e) (third_below cells u v x us c place few).0
      (λ d f. answer.0 d (is ∙ lt-ltb 2 count (omega arith)) f)

  module _ (count_is : count ≡ child_count c.form) where
    -- a tuple has one text inside, that of its parts
    tuple_texts : (c.form == 16) ≡ true → its_texts cells t place c at h ≡ listed (map piece_of (children (out-Term t))) ∷ []
    unfolding its_texts
    tuple_texts e = ap (λ b. if b then listed (map piece_of (children (out-Term t))) ∷ [] else operands c.form (map piece_of (children (out-Term t)))) e

    other_texts : (c.form == 16) ≡ false → its_texts cells t place c at h ≡ operands c.form (map piece_of (children (out-Term t)))
    unfolding its_texts
    other_texts e = ap (λ b. if b then listed (map piece_of (children (out-Term t))) ∷ [] else operands c.form (map piece_of (children (out-Term t)))) e

    tuple_count : (c.form == 16) ≡ true → count ≡ 1
    tuple_count e = count_is ∙ ap (λ b. if b then 1 else arity c.form) e

    other_count : (c.form == 16) ≡ false → length (children (out-Term t)) ≡ count
    other_count e = its_number cells t place c at h e ∙ sym (count_is ∙ ap (λ b. if b then 1 else arity c.form) e)

    tuple_more : (c.form == 16) ≡ true → (k m q : ℕ) → nth (node_pieces w c.form c.own (its_texts cells t place c at h)) k ≡ nth (its_texts cells t place c at h) m → 1 ≤ m →
        there ≡ ltb m count → OperandIs cells there q (right_least c.form) r → NextIs cells place (term_pieces w t) k r
    tuple_more e k m q f l is answer =
        no_child cells t place c at h w k m r f (omega (arith, ap length (tuple_texts e))) (answer.1 (is ∙ le-ltb m count (omega (arith, tuple_count e))))

    pub first_operand : (b : Bool) → (c.form == 16) ≡ b → there ≡ ltb 0 count → OperandIs cells there c.a (left_least c.form) r → NextIs cells place (term_pieces w t) 2 r
    first_operand true e is answer =
        let sixteen : c.form ≡ 16 = eqb-true c.form 16 e in
        let least : left_least c.form ≡ 0 = ap left_least sixteen in
        let here = parts_of cells c.form (map (stands cells) (children (out-Term t))) c place e (opens cells t place c at h).children_are in
        list_next cells (children (out-Term t)) c.a place r here
        (λ d f. answer.0 d (is ∙ lt-ltb 0 count (omega (arith, tuple_count e))) f ∙ ap (λ n. Child c.a (ltb (strength d.form) n)) least)
        (term_pieces w t) 2 (nth_pieces cells t place c at h w 2 (listed (map piece_of (children (out-Term t)))) (ap (λ ps. nth ps 0) (tuple_texts e)))
    first_operand false e is answer = first_kid (children (out-Term t)) (other_texts e) (other_count e) (few_kids cells t place c at h e) is answer

    pub second_operand : (b : Bool) → (c.form == 16) ≡ b → there ≡ ltb 1 count → OperandIs cells there c.b (right_least c.form) r → NextIs cells place (term_pieces w t) 4 r
    second_operand true e is answer = tuple_more e 4 1 c.b refl (omega arith) is answer
    second_operand false e is answer = second_kid (children (out-Term t)) (other_texts e) (other_count e) (few_kids cells t place c at h e) is answer

    pub third_operand : (b : Bool) → (c.form == 16) ≡ b → there ≡ ltb 2 count → OperandIs cells there c.c (right_least c.form) r → NextIs cells place (term_pieces w t) 6 r
    third_operand true e is answer = tuple_more e 6 2 c.c refl (omega arith) is answer
    third_operand false e is answer = third_kid (children (out-Term t)) (other_texts e) (other_count e) (few_kids cells t place c at h e) is answer

-- past the last piece
pub no_more_pieces : (w : Bool) (t : Term) (k : ℕ) → 10 ≤ k → joined (drop k (term_pieces w t)) ≡ []
no_more_pieces w t k l = ap joined (drop_all k (term_pieces w t) (omega arith))

-- the pieces of a list of parts
module _ (cells : List Cell) (place limit : ℕ) (c : Cell) (t : Term) (ts : List Term) (at : slice_get cells place ≡ Some c) (h : parts_stand cells (map (stands cells) (t ∷ ts)) place limit ≡ true) where
  pub first_listed : NextIs cells place (list_pieces (t ∷ ts)) 0 (Child c.a false)
  first_listed =
      let l = link_cell cells t ts place limit c at h in
      let b = below_parts (stands cells t) c.a place l.part_is in
      (b.0, (term_pieces false t, inl (t, b.1, refl), term_joined false t))

  pub others_listed : NextIs cells place (list_pieces (t ∷ ts)) 2 (Child c.b false)
  others_listed =
      let l = link_cell cells t ts place limit c at h in
      (parts_below cells (map (stands cells) ts) c.b place l.rest_is, (list_pieces ts, inr (ts, (place, l.rest_is), refl), list_joined ts))

  pub rest_stands : parts_stand cells (map (stands cells) ts) c.b place ≡ true
  rest_stands = (link_cell cells t ts place limit c at h).rest_is

pub no_more_listed : (t : Term) (ts : List Term) (k : ℕ) → 3 ≤ k → joined (drop k (list_pieces (t ∷ ts))) ≡ []
no_more_listed t ts k l = ap joined (drop_all k (list_pieces (t ∷ ts)) (omega arith))

-- the comma between parts
pub comma_there : (cells : List Cell) (p limit : ℕ) (c : Cell) (ts : List Term) → slice_get cells p ≡ Some c → parts_stand cells (map (stands cells) ts) p limit ≡ true → c.form ≡ 27 → codes ", " ≡ comma_before ts
comma_there cells p limit c [] e h f = absurd (omega (arith, end_cell cells p limit c e h))
comma_there cells p limit c (t ∷ ts) e h f = refl

pub no_comma : (cells : List Cell) (p limit : ℕ) (c : Cell) (ts : List Term) → slice_get cells p ≡ Some c → parts_stand cells (map (stands cells) ts) p limit ≡ true → (c.form ≡ 27 → ⊥) → [] ≡ comma_before ts
no_comma cells p limit c [] e h f = refl
no_comma cells p limit c (t ∷ ts) e h f = absurd (f (link_cell cells t ts p limit c e h).form_is)

-- the pieces of a place, by its cell
pub nothing_there : (cells : List Cell) (p : ℕ) (w : Bool) (ps : List (List ℕ)) → slice_get cells p ≡ None → HasPieces cells p w ps → ⊥
nothing_there cells p w ps e h =
    ⊎_elim (λ x. not_there cells x.0 p e x.1) (λ x. none_inside cells x.0 p x.1.0 e x.1.1) h
  where
    none_inside : (cells : List Cell) (ts : List Term) (p m : ℕ) → slice_get cells p ≡ None → parts_stand cells (map (stands cells) ts) p m ≡ true → ⊥
    none_inside cells ts p m e h =
        let d = parts_inside cells ts p m h in
        let f = d.1 in
        cc

module _ (cells : List Cell) (p : ℕ) (w : Bool) (c : Cell) (at : slice_get cells p ≡ Some c) (ps : List (List ℕ)) (has : HasPieces cells p w ps) where
  end_joined : (ts : List Term) (limit k : ℕ) → (c.form ≡ 27 → ⊥) → parts_stand cells (map (stands cells) ts) p limit ≡ true → ps ≡ list_pieces ts → joined (drop k ps) ≡ []
  end_joined [] limit k f h e = ap (λ qs. joined (drop k qs)) e ∙ ap joined (drop_all k [] (omega arith))
  end_joined (t ∷ ts) limit k f h e = absurd (f (link_cell cells t ts p limit c at h).form_is)

  pub ends_here : (k : ℕ) → NoForm c.form → (c.form ≡ 27 → ⊥) → joined (drop k ps) ≡ []
  ends_here k f g =
      ⊎_elim (λ x. absurd (no_term cells x.0 p c at f x.1)) (λ x. end_joined x.0 x.1.0 k g x.1.1 x.2) has

  link_pieces : (ts : List Term) (limit k : ℕ) (r : Next) → c.form ≡ 27 → parts_stand cells (map (stands cells) ts) p limit ≡ true → ps ≡ list_pieces ts →
      ((limit : ℕ) (t : Term) (us : List Term) → parts_stand cells (map (stands cells) (t ∷ us)) p limit ≡ true → NextIs cells p (list_pieces (t ∷ us)) k r) → NextIs cells p ps k r
  link_pieces [] limit k r f h e answer = absurd (omega (arith, end_cell cells p limit c at h))
  link_pieces (t ∷ ts) limit k r f h e answer = subst (λ qs. NextIs cells p qs k r) (sym e) (answer limit t ts h)

  pub list_here : (k : ℕ) (r : Next) → c.form ≡ 27 →
      ((limit : ℕ) (t : Term) (us : List Term) → parts_stand cells (map (stands cells) (t ∷ us)) p limit ≡ true → NextIs cells p (list_pieces (t ∷ us)) k r) → NextIs cells p ps k r
  list_here k r f answer =
      ⊎_elim (λ x. absurd (omega (arith, f, term_form cells x.0 p c at x.1, few_forms (form (out-Term x.0))))) (λ x. link_pieces x.0 x.1.0 k r f x.1.1 x.2 answer) has

  no_list : (ts : List Term) (limit : ℕ) → c.form < 26 → parts_stand cells (map (stands cells) ts) p limit ≡ true → ⊥
  no_list [] limit l h = omega (arith, end_cell cells p limit c at h)
  no_list (t ∷ ts) limit l h = omega (arith, (link_cell cells t ts p limit c at h).form_is)

  pub term_here : (k : ℕ) (r : Next) (f : Form) → c.form ≡ form_number f →
      ((t : Term) → stands cells t p ≡ true → NextIs cells p (term_pieces w t) k r) → NextIs cells p ps k r
  term_here k r f e answer =
      ⊎_elim (λ x. subst (λ qs. NextIs cells p qs k r) (sym x.2) (answer x.0 x.1)) (λ x. absurd (no_list x.0 x.1.0 (omega (arith, few_forms f)) x.1.1)) has
