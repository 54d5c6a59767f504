use Rattle.std.proofs.Common.{◌≡◌, ◌∙◌, ◌==◌, ap, refl, subst, sym, ℕ, ltb, [], if◌then◌else◌, w64, rules}
use Rattle.std.specs.Fmt.{signed_decimal}
use Rattle.std.proofs.lemmas.Int.{to_z-of_z}
use Rattle.term_cells.specs.declared.before.Next.TheVariants.{Mark, Child}
use Rattle.term_cells.specs.working.Marks.{closing, is_numbered, left_least, opening, right_least, strength, symbol}
use Rattle.term_cells.specs.working.Pieces.{NextIs, term_pieces}
use Rattle.term_cells.proofs.PieceOf.{OperandIs, first_operand, second_operand, third_operand, stage_says, stage_between}
use Rattle.term_cells.proofs.cells.Cells.node_piece.Goals as goal

pub returns-in-1-clause-piece : goal.returns-in-1-clause-piece
returns-in-1-clause-piece c = λ place t e form_is h.
    let cells = c.args.self.now.0 in
    let cell = c.args.cell in
    let says : c.opening.result.now ≡ opening cell.form cell.own = c.opening.ensures.text ∙ (λ i. opening (sym form_is i) (to_z-of_z w64 cell.own (search rules) i)) in
    subst (λ (k : ℕ). NextIs cells place (term_pieces c.args.wrapped t) k (Mark c.opening.result)) (sym c.in-1.is)
    (stage_says cells t place cell e h c.args.wrapped 1 (Mark c.opening.result) (opening cell.form cell.own) says refl)

pub returns-in-2-clause-piece : goal.returns-in-2-clause-piece
returns-in-2-clause-piece c = λ place t e form_is h.
    let cells = c.args.self.now.0 in
    let cell = c.args.cell in
    let there = ltb 0 c.child_count-count.result in
    let least : left_least cell.form ≡ c.left_least.result = ap left_least form_is ∙ sym c.left_least.ensures in
    let answer : OperandIs cells there cell.a (left_least cell.form) c.operand.result = (
      λ d f g. c.operand.ensures.some d f g ∙ ap (λ n. Child cell.a (ltb (strength d.form) n)) (sym least),
      c.operand.ensures.none,
    ) in
    subst (λ (k : ℕ). NextIs cells place (term_pieces c.args.wrapped t) k c.operand.result) (sym c.in-2.is)
    (first_operand cells t place cell e h c.args.wrapped there c.child_count-count.result c.operand.result c.child_count-count.ensures (cell.form == 16) refl refl answer)

pub returns-in-3-clause-piece : goal.returns-in-3-clause-piece
returns-in-3-clause-piece c = λ place t e form_is h.
    let cells = c.args.self.now.0 in
    let cell = c.args.cell in
    let there = ltb 1 c.child_count-count.result in
    subst (λ (k : ℕ). NextIs cells place (term_pieces c.args.wrapped t) k c.mark_if-in-3.result) (sym c.in-3.is)
    (stage_says cells t place cell e h c.args.wrapped 3 c.mark_if-in-3.result (if there then c.symbol.result.now else []) c.mark_if-in-3.ensures.says
    (stage_between cells t place cell e h there 1 c.child_count-count.result refl c.child_count-count.ensures c.symbol.result.now (c.symbol.ensures.text ∙ ap symbol (sym form_is))))

pub returns-in-4-clause-piece : goal.returns-in-4-clause-piece
returns-in-4-clause-piece c = λ place t e form_is h.
    let cells = c.args.self.now.0 in
    let cell = c.args.cell in
    let there = ltb 1 c.child_count-count.result in
    let least : right_least cell.form ≡ c.right_least.result = ap right_least form_is ∙ sym c.right_least.ensures in
    let answer : OperandIs cells there cell.b (right_least cell.form) c.operand-in-4.result = (
      λ d f g. c.operand-in-4.ensures.some d f g ∙ ap (λ n. Child cell.b (ltb (strength d.form) n)) (sym least),
      c.operand-in-4.ensures.none,
    ) in
    subst (λ (k : ℕ). NextIs cells place (term_pieces c.args.wrapped t) k c.operand-in-4.result) (sym c.in-4.is)
    (second_operand cells t place cell e h c.args.wrapped there c.child_count-count.result c.operand-in-4.result c.child_count-count.ensures (cell.form == 16) refl refl answer)

pub returns-in-5-clause-piece : goal.returns-in-5-clause-piece
returns-in-5-clause-piece c = λ place t e form_is h.
    let cells = c.args.self.now.0 in
    let cell = c.args.cell in
    let there = ltb 2 c.child_count-count.result in
    subst (λ (k : ℕ). NextIs cells place (term_pieces c.args.wrapped t) k c.mark_if-in-5.result) (sym c.in-5.is)
    (stage_says cells t place cell e h c.args.wrapped 5 c.mark_if-in-5.result (if there then c.symbol-in-5.result.now else []) c.mark_if-in-5.ensures.says
    (stage_between cells t place cell e h there 2 c.child_count-count.result refl c.child_count-count.ensures c.symbol-in-5.result.now (c.symbol-in-5.ensures.text ∙ ap symbol (sym form_is))))

pub returns-in-6-clause-piece : goal.returns-in-6-clause-piece
returns-in-6-clause-piece c = λ place t e form_is h.
    let cells = c.args.self.now.0 in
    let cell = c.args.cell in
    let there = ltb 2 c.child_count-count.result in
    let least : right_least cell.form ≡ c.right_least-in-6.result = ap right_least form_is ∙ sym c.right_least-in-6.ensures in
    let answer : OperandIs cells there cell.c (right_least cell.form) c.operand-in-6.result = (
      λ d f g. c.operand-in-6.ensures.some d f g ∙ ap (λ n. Child cell.c (ltb (strength d.form) n)) (sym least),
      c.operand-in-6.ensures.none,
    ) in
    subst (λ (k : ℕ). NextIs cells place (term_pieces c.args.wrapped t) k c.operand-in-6.result) (sym c.in-6.is)
    (third_operand cells t place cell e h c.args.wrapped there c.child_count-count.result c.operand-in-6.result c.child_count-count.ensures (cell.form == 16) refl refl answer)

pub returns-in-7-clause-piece : goal.returns-in-7-clause-piece
returns-in-7-clause-piece c = λ place t e form_is h.
    let cells = c.args.self.now.0 in
    let cell = c.args.cell in
    subst (λ (k : ℕ). NextIs cells place (term_pieces c.args.wrapped t) k (Mark c.closing.result)) (sym c.in-7.is)
    (stage_says cells t place cell e h c.args.wrapped 7 (Mark c.closing.result) (closing cell.form) (c.closing.ensures.text ∙ ap closing (sym form_is)) refl)

pub returns-in-8-clause-piece : goal.returns-in-8-clause-piece
returns-in-8-clause-piece c = λ place t e form_is h.
    let cells = c.args.self.now.0 in
    let cell = c.args.cell in
    let own = to_z-of_z w64 cell.own (search rules) in
    subst (λ (k : ℕ). NextIs cells place (term_pieces c.args.wrapped t) k c.number_if.result) (sym c.in-8.is)
    (stage_says cells t place cell e h c.args.wrapped 8 c.number_if.result _ c.number_if.ensures.says (λ i. if (c.is_numbered.ensures ∙ ap is_numbered (sym form_is)) i then signed_decimal (own i) else []))
