use Rattle.std.proofs.Common.{◌≡◌, ◌∙◌, sym, ap, pos, true, false, length, SFits, w64, rules}
use lib.Signed.{lt_z}
use Rattle.std.proofs.lemmas.Bool.{eqb-true}
use Rattle.std.proofs.lemmas.Int.{to_z-of_z}
use Rattle.math_terms.specs.declared.term.Term.TheViews.{out-Term}
use Rattle.term_cells.specs.Standing.{stands}
use Rattle.term_cells.proofs.Apart.{below_parts}
use Rattle.term_cells.proofs.Openings.{not_there}
use Rattle.cell_rows.specs.working.Facts.{literal_of}
use Rattle.cell_rows.proofs.Quotients.{div_facts, facts_high, facts_low, high_from, low_from, its_quotient, len_facts, no_facts}
use Rattle.cell_rows.proofs.fact.count_facts.Goals as goal

pub returns-in_default-clause-count : goal.returns-in_default-clause-count
returns-in_default-clause-count c = λ t h. absurd (not_there c.args.cells.now.0 t c.args.p (sym c.in_default.ensures) h)

pub returns-then-is-clause-count : goal.returns-then-is-clause-count
returns-then-is-clause-count c = λ t h. sym (ap length (len_facts c.args.cells.now.0 t c.args.p c.in-Some.cell (sym c.in-Some.ensures) h (eqb-true c.in-Some.cell.form 10 (sym c.if-is.ensures))))

pub returns-then-literal-gt0-clause-count : goal.returns-then-literal-gt0-clause-count
returns-then-literal-gt0-clause-count c = λ t h.
    let cells = c.args.cells.now.0 in
    let cell = c.in-Some.cell in
    let s = its_quotient cells t c.args.p cell (sym c.in-Some.ensures) h (eqb-true c.in-Some.cell.form 8 (sym c.if-is-2.ensures)) in
    let right = below_parts (stands cells s.right) cell.b c.args.p s.right_is in
    let is = c.literal.ensures s.right right.1 in
    let fits : SFits w64 c.literal.result = search rules in
    let test : lt_z (pos 0) c.literal.result ≡ true = simp to_z-of_z at c.if-literal-gt0.true in
    sym (ap length (div_facts cells t c.args.p cell (sym c.in-Some.ensures) h s ∙ facts_high t s.left (literal_of (out-Term s.right)) (high_from c.literal.result (literal_of (out-Term s.right)) is test)))

pub returns-else-literal-gt0-clause-count : goal.returns-else-literal-gt0-clause-count
returns-else-literal-gt0-clause-count c = λ t h.
    let cells = c.args.cells.now.0 in
    let cell = c.in-Some.cell in
    let s = its_quotient cells t c.args.p cell (sym c.in-Some.ensures) h (eqb-true c.in-Some.cell.form 8 (sym c.if-is-2.ensures)) in
    let right = below_parts (stands cells s.right) cell.b c.args.p s.right_is in
    let is = c.literal.ensures s.right right.1 in
    let fits : SFits w64 c.literal.result = search rules in
    let test : lt_z (pos 0) c.literal.result ≡ false = simp to_z-of_z at c.if-literal-gt0.false in
    sym (ap length (div_facts cells t c.args.p cell (sym c.in-Some.ensures) h s ∙ facts_low t s.left (literal_of (out-Term s.right)) (low_from c.literal.result (literal_of (out-Term s.right)) is test)))

pub returns-clause-count : goal.returns-clause-count
returns-clause-count c = λ t h. sym (ap length (no_facts c.args.cells.now.0 t c.args.p c.in-Some.cell (sym c.in-Some.ensures) h (sym c.if-is.ensures) (sym c.if-is-2.ensures)))
