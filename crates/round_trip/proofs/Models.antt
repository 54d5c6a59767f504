-- Families and their models: each way of their parts.
use Rattle.std.proofs.Common.{◌≡◌, ◌∙◌, ap, refl, sym, List, [], ◌∷◌, ◌++◌, map, reverse, append-nil, append_assoc, Some, None, codes}
use Rattle.std.proofs.lemmas.List.{reverse-append}
use Rattle.res_ast.specs.declared.model.MPart.{MPart}
use Rattle.res_ast.specs.declared.model.MPart.TheVariants as part
use Rattle.res_grammar.specs.Classes.{class_of_word}
use Rattle.res_grammar.specs.Language.{language_rules}
use Rattle.res_grammar.specs.Numbers as n
use Rattle.module_parser.specs.Models as models
use Rattle.module_parser.specs.declared.state.State.{State}
use Rattle.res_printer.specs.Components.{clause, exemplar, family, initially, is_modeled_by, modeled}
use Rattle.res_printer.specs.Models.{below, below_factors, factor, factors, finished, model_step, product, top}
use Rattle.res_printer.specs.Pieces.{Piece, closes, opens, row, says, semicolon}
use Rattle.round_trip.proofs.Canonical.{act, done, line, name, way, way_as, word, ◌▹◌}
use Rattle.round_trip.proofs.Chains.{Claim}
use Rattle.round_trip.proofs.Claims.{FactorParts, FamilyRead, Hold, ModelParts, Name, Outside, add_factors, add_model, added_all, factor_names, factor_texts, put_family, stacked, top_added}

-- ---- what models print

finished_both : (ps qs : List MPart) (stack : List Piece) → finished (ps ++ qs) stack ≡ finished qs (finished ps stack)
finished_both [] qs stack = refl
finished_both (p ∷ ps) qs stack = finished_both ps qs (model_step p stack)

factors_both : (xs ys : List Name) (found stack : List Piece) → factors (xs ++ ys) found stack ≡ factors ys (factors xs found stack) (below_factors xs stack)
factors_both [] ys found stack = refl
factors_both (x ∷ xs) ys found stack = factors_both xs ys (factor x (top stack) ∷ found) (below stack)

below_both : (xs ys : List Name) (stack : List Piece) → below_factors (xs ++ ys) stack ≡ below_factors ys (below_factors xs stack)
below_both [] ys stack = refl
below_both (x ∷ xs) ys stack = below_both xs ys (below stack)

abbrev pieces : List (Name × Piece) → List Piece
pieces fs = map (λ f. f.1) fs

-- The names of a product take the pieces on the stack, from the last to the first.
below_taken : (fs : List (Name × Piece)) (stack : List Piece) → below_factors (reverse (factor_names fs)) (stacked (pieces fs) stack) ≡ stack
below_taken [] stack = refl
below_taken (f ∷ fs) stack =
    ap (λ z. below_factors z (stacked (pieces fs) (f.1 ∷ stack))) (reverse-append (f.0 ∷ []) (factor_names fs))
    ∙ below_both (reverse (factor_names fs)) (f.0 ∷ []) (stacked (pieces fs) (f.1 ∷ stack))
    ∙ ap below (below_taken fs (f.1 ∷ stack))

factors_taken : (fs : List (Name × Piece)) (found stack : List Piece) → factors (reverse (factor_names fs)) found (stacked (pieces fs) stack) ≡ factor_texts fs ++ found
factors_taken [] found stack = refl
factors_taken (f ∷ fs) found stack =
    ap (λ z. factors z found (stacked (pieces fs) (f.1 ∷ stack))) (reverse-append (f.0 ∷ []) (factor_names fs))
    ∙ factors_both (reverse (factor_names fs)) (f.0 ∷ []) found (stacked (pieces fs) (f.1 ∷ stack))
    ∙ ap (λ z. factor f.0 (top z) ∷ factors (reverse (factor_names fs)) found (stacked (pieces fs) (f.1 ∷ stack))) (below_taken fs (f.1 ∷ stack))
    ∙ ap (λ z. factor f.0 f.1 ∷ z) (factors_taken fs found (f.1 ∷ stack))

product_finishes : (x : Name) (a : ModelParts) (b : FactorParts) (stack : List Piece) → finished (a.parts ++ (b.parts ++ (part.Prod (x ∷ factor_names b.factors) ∷ []))) stack ≡ product (factor x a.piece ∷ factor_texts b.factors) ∷ stack
product_finishes x a b stack =
    let fs : List (Name × Piece) = (x, a.piece) ∷ b.factors in
    let names = factor_names b.factors in
    finished_both a.parts (b.parts ++ (part.Prod (x ∷ names) ∷ [])) stack
    ∙ ap (finished (b.parts ++ (part.Prod (x ∷ names) ∷ []))) (a.finishes stack)
    ∙ finished_both b.parts (part.Prod (x ∷ names) ∷ []) (a.piece ∷ stack)
    ∙ ap (finished (part.Prod (x ∷ names) ∷ [])) (b.finishes (a.piece ∷ stack))
    ∙ ap (λ z. product z ∷ below_factors (reverse (x ∷ names)) (stacked (pieces fs) stack)) (factors_taken fs [] stack ∙ append-nil (factor_texts fs))
    ∙ ap (λ z. product (factor_texts fs) ∷ z) (below_taken fs stack)

-- ---- models

str_parts : ModelParts → ModelParts
str_parts a = record {
  parts = a.parts ++ (part.Str ∷ []);
  piece = row (says (codes "Str") ∷ opens ∷ a.piece ∷ closes ∷ []);
  finishes = λ stack. finished_both a.parts (part.Str ∷ []) stack ∙ ap (finished (part.Str ∷ [])) (a.finishes stack);
}

product_parts : Name → ModelParts → FactorParts → ModelParts
product_parts x a b = record {
  parts = a.parts ++ (b.parts ++ (part.Prod (x ∷ factor_names b.factors) ∷ []));
  piece = product (factor x a.piece ∷ factor_texts b.factors);
  finishes = product_finishes x a b;
}

pub model_ways : (E : Claim) → Hold E n.model_part
unfolding language_rules class_of_word str_parts product_parts
model_ways E = (
  (let v : ModelParts = record { parts = part.Z ∷ []; piece = says (codes "Z"); finishes = λ stack. refl } in
      record { value = v; light = _; canonical = way n.model_part 0 refl (word 37 refl ▹ act n.model_z_mark refl ▹ done) (add_model (part.Z ∷ [])) (λ w. refl) (λ w. refl) }),
  (
    (let v : ModelParts = record { parts = part.B ∷ []; piece = says (codes "B"); finishes = λ stack. refl } in
        record { value = v; light = _; canonical = way n.model_part 1 refl (word 38 refl ▹ act n.model_b_mark refl ▹ done) (add_model (part.B ∷ [])) (λ w. refl) (λ w. refl) }),
    (
      (λ m s0 a. record {
        value = str_parts a.value;
        light = _;
        canonical = way n.model_part 2 refl (word 39 refl ▹ word 13 refl ▹ a.canonical.going ▹ word 14 refl ▹ act n.model_str_mark refl ▹ done) (add_model (str_parts a.value).parts)
            (λ w. ap (λ z. record w.state { model = z }) (append_assoc w.state.model a.value.parts (part.Str ∷ []))) (λ w. ap (λ z. record w.state { model = z }) (append_assoc w.state.model a.value.parts (part.Str ∷ [])));
      }),
      (
        (λ x e i m s0 a d s1 b.
            let v = product_parts x a.value b.value in
            let p : List MPart = part.Prod (x ∷ factor_names b.value.factors) ∷ [] in
            let same : (s : State) → models.product (record s { model = (s.model ++ a.value.parts) ++ b.value.parts; factors = added_all (factor_names b.value.factors) ((x ∷ []) ∷ s.factors) }) ≡ add_model v.parts s = λ s.
            ap (λ z. models.product (record s { model = (s.model ++ a.value.parts) ++ b.value.parts; factors = z })) (top_added (factor_names b.value.factors) (x ∷ []) s.factors)
            ∙ ap (λ z. record s { model = z }) (append_assoc (s.model ++ a.value.parts) b.value.parts p ∙ append_assoc s.model a.value.parts (b.value.parts ++ p)) in
            record { value = v; light = _; canonical = way n.model_part 3 refl (word 40 refl ▹ act n.factors_mark refl ▹ name x e i ▹ act n.keep_mark refl ▹ word 17 refl ▹ a.canonical.going ▹ act n.add_factor_mark refl ▹ b.canonical.going ▹ word 27 refl ▹ act n.model_product_mark refl ▹ done) (add_model v.parts) (λ w. same w.state) (λ w. same w.state) }),
        (
          (λ x e i.
              let v : ModelParts = record { parts = part.Param x ∷ []; piece = says x; finishes = λ stack. refl } in
              record { value = v; light = _; canonical = way n.model_part 4 refl (name x e i ▹ act n.model_param_mark refl ▹ done) (add_model (part.Param x ∷ [])) (λ w. refl) (λ w. refl) }),
          tt,
        ),
      ),
    ),
  ),
)

pub more_factors_ways : (E : Claim) → Hold E n.more_factors_part
unfolding language_rules
more_factors_ways E = (
  (λ x e i m s0 a d s1 b.
      let v : FactorParts = record { factors = (x, a.value.piece) ∷ b.value.factors; parts = a.value.parts ++ b.value.parts; finishes = λ stack. finished_both a.value.parts b.value.parts stack ∙ ap (finished b.value.parts) (a.value.finishes stack) ∙ b.value.finishes (a.value.piece ∷ stack) } in
      let same : (s : State) → record s { model = (s.model ++ a.value.parts) ++ b.value.parts; factors = added_all (factor_names v.factors) s.factors } ≡ add_factors v s = λ s. ap (λ z. record s { model = z; factors = added_all (factor_names v.factors) s.factors }) (append_assoc s.model a.value.parts b.value.parts) in
      record { value = v; light = _; canonical = way n.more_factors_part 0 refl (line 16 refl ▹ name x e i ▹ act n.keep_mark refl ▹ word 17 refl ▹ a.canonical.going ▹ act n.add_factor_mark refl ▹ b.canonical.going ▹ done) (add_factors v) (λ w. same w.state) (λ w. same w.state) }),
  (
    (let v : FactorParts = record { factors = []; parts = []; finishes = λ stack. refl } in
        record { value = v; light = _; canonical = way n.more_factors_part 1 refl done (add_factors v) (λ w. ap (λ z. record w.state { model = z }) (sym (append-nil w.state.model))) (λ w. ap (λ z. record w.state { model = z }) (sym (append-nil w.state.model))) }),
    tt,
  ),
)

-- ---- families

pub family_ways : (E : Claim) → Outside E → Hold E n.family_part
unfolding language_rules class_of_word is_modeled_by modeled initially
family_ways E o = (
  (λ x e i m s0 a y f j d s1 c g s2 b.
      let q = o.expression g b in
      let v : FamilyRead = record { family = λ p. Some (record { at = 0; name = x; model = record { parts = p ++ a.value.parts }; exemplar = y; constraint = c.value; initial = q.value }); left = λ p. []; clean = refl } in
      record {
        value = v;
        light = _;
        canonical = way_as n.family_part 0 refl (word 28 refl ▹ act n.keep_mark refl ▹ word 29 refl ▹ name x e i ▹ act n.keep_mark refl ▹ word 30 refl ▹ word 31 refl ▹ word 32 refl ▹ a.canonical.going ▹ line 16 refl ▹ word 33 refl ▹ name y f j ▹ act n.keep_mark refl ▹ line 16 refl ▹ c.canonical.going ▹ word 35 refl ▹ word 36 refl ▹ q.canonical.going ▹ line 16 refl ▹ act n.family_mark refl ▹ done)
            (λ k. family (v.family []))
            (λ k z. ap (λ (t : List Piece). says (codes "Type") (says (codes "Family") (says x (is_modeled_by (top t (semicolon (exemplar y (clause (codes "constraint") c.value (initially q.value z))))))))) (a.value.finishes []))
            (put_family v) (λ w. refl) (λ w. refl);
      }),
  (
    (let v : FamilyRead = record { family = λ p. None; left = λ p. p; clean = refl } in
        record { value = v; light = _; canonical = way n.family_part 1 refl (act n.no_family_mark refl ▹ done) (put_family v) (λ w. refl) (λ w. refl) }),
    tt,
  ),
)
