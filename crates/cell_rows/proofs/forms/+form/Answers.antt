use Rattle.std.proofs.Common.{pos, false, ◌≤ℤ◌, ◌<ℤ◌, ◌==◌, ◌≡◌, Some, ◌∙◌, List, ◌≤◌, length, sym, ap, refl, subst, ◌+◌, ◌-◌, drop, SFits, w64, rules, true, take, ◌++◌, arith}
use Rattle.std.proofs.lemmas.Bool.{eqb-true}
use Rattle.std.proofs.lemmas.Int.{to_z-of_z}
use Rattle.math_terms.specs.declared.term.Term.TheOpen.{Term-F}
use Rattle.math_terms.specs.declared.term.Term.TheViews.{roll-Term}
use Rattle.math_terms.specs.Terms.{nodes}
use lib.Signed.{le_z}
use Rattle.num_theory.specs.Linear.{Form, atom_form, constant_form, formed, plus, times, product_form, remainder_form, is_constant, minus_one, multiple}
use Rattle.num_theory.specs.Number.{is_zero}
use Rattle.num_theory.proofs.Forming.{form_at, product_atom}
use Rattle.term_cells.specs.Standing.{stands}
use Rattle.std.specs.List.{list_all}
use Rattle.term_cells.proofs.Apart.{below_parts}
use Rattle.term_cells.proofs.ByForm.{its_form, leaves_open, quotient_stands_there}
use Rattle.term_cells.proofs.Openings.{not_there}
use Rattle.cell_rows.specs.Forms.{Mark, FormOrShort, FormStands}
use Rattle.cell_rows.proofs.Nodes.{remainder_no_number, remainder_by_low, remainder_by_high, above_zero, not_above_zero, two_at, widened, number_formed, other_formed, some_nodes, kept, low_part, wide_part, behind, behind_counted, all_taken, product_second, product_first}
use Rattle.cell_rows.proofs.Marks.{tested}
use Rattle.cell_rows.proofs.forms.+form.Goals as goal

pub form-returns-in_err-cell-clause-form : goal.form-returns-in_err-cell-clause-form
form-returns-in_err-cell-clause-form m c = λ t h. absurd (not_there c.args.cells.now.0 t c.args.p (sym c.in_err-cell.ensures) h)

pub form-returns-then-is-clause-form : goal.form-returns-then-is-clause-form
form-returns-then-is-clause-form m c = λ t h.
    let cells = c.args.cells.now.0 in
    let fits : SFits w64 c.in_ok-cell.cell.own = search rules in
    subst (λ x. FormStands cells x (nodes t) c.constant_form.result c.args.marks.now)
    (sym (number_formed cells t c.args.p c.in_ok-cell.cell (sym c.in_ok-cell.ensures) h (eqb-true c.in_ok-cell.cell.form 0 (sym c.if-is.ensures))))
    (simp to_z-of_z at (c.constant_form.ensures.form cells (nodes t) c.args.marks.now))

pub form-returns-then-is-2-clause-form : goal.form-returns-then-is-2-clause-form
form-returns-then-is-2-clause-form m c = λ t h.
    let cells = c.args.cells.now.0 in
    let s = two_at Term-F.Add 5 (λ a b. record { form_is = refl; own_is = refl; children_are = refl }) refl cells t c.args.p c.in_ok-cell.cell (sym c.in_ok-cell.ensures) (eqb-true c.in_ok-cell.cell.form 5 (sym c.if-is-2.ensures)) h in
    widened cells (plus (formed s.left).1 (formed s.right).1) (formed t).1 (nodes s.left + nodes s.right) (nodes t) c.sum_form.result c.sum_form.new.marks
    (sym (form_at (Term-F.Add s.left s.right) t s.term_is)) (omega (arith, s.nodes_are)) (c.sum_form.ensures.form s.left s.right s.left_is s.right_is)

pub form-returns-then-is-4-clause-form : goal.form-returns-then-is-4-clause-form
form-returns-then-is-4-clause-form m c = λ t h.
    let cells = c.args.cells.now.0 in
    let s = two_at Term-F.Mul 7 (λ a b. record { form_is = refl; own_is = refl; children_are = refl }) refl cells t c.args.p c.in_ok-cell.cell (sym c.in_ok-cell.ensures) (eqb-true c.in_ok-cell.cell.form 7 (sym c.if-is-4.ensures)) h in
    let node : stands cells (roll-Term (Term-F.Mul s.left s.right)) c.args.p ≡ true = subst (λ v. stands cells v c.args.p ≡ true) s.term_is h in
    widened cells (product_form (formed s.left) (formed s.right)) (formed t).1 (1 + nodes s.left + nodes s.right) (nodes t) c.product_form.result c.product_form.new.marks
    (sym (form_at (Term-F.Mul s.left s.right) t s.term_is)) (omega (arith, s.nodes_are)) (c.product_form.ensures.form s.left s.right node s.left_is s.right_is)

pub form-returns-then-is-5-clause-form : goal.form-returns-then-is-5-clause-form
form-returns-then-is-5-clause-form m c = λ t h.
    let cells = c.args.cells.now.0 in
    let s = two_at Term-F.Mod 9 (λ a b. record { form_is = refl; own_is = refl; children_are = refl }) refl cells t c.args.p c.in_ok-cell.cell (sym c.in_ok-cell.ensures) (eqb-true c.in_ok-cell.cell.form 9 (sym c.if-is-5.ensures)) h in
    let node : stands cells (roll-Term (Term-F.Mod s.left s.right)) c.args.p ≡ true = subst (λ v. stands cells v c.args.p ≡ true) s.term_is h in
    let quotient = quotient_stands_there cells s.left s.right c.args.p c.in_ok-cell.cell (sym c.in_ok-cell.ensures) node in
    widened cells (remainder_form (formed s.left) (formed s.right)) (formed t).1 (1 + nodes s.left + nodes s.right) (nodes t) c.remainder_form.result c.remainder_form.new.marks
    (sym (form_at (Term-F.Mod s.left s.right) t s.term_is)) (omega (arith, s.nodes_are)) (c.remainder_form.ensures.form s.left s.right node quotient.1 s.left_is s.right_is)

pub form-returns-clause-form : goal.form-returns-clause-form
form-returns-clause-form m c = λ t h.
    let cells = c.args.cells.now.0 in
    let cell = c.in_ok-cell.cell in
    let some = some_nodes cells t c.args.p cell (sym c.in_ok-cell.ensures) h in
    subst (λ x. FormOrShort cells x (nodes t) c.atom_form.result c.atom_form.new.marks)
    (sym (other_formed cells t c.args.p cell (sym c.in_ok-cell.ensures) h (sym c.if-is.ensures) (sym c.if-is-2.ensures) (sym c.if-is-3.ensures) (sym c.if-is-4.ensures) (sym c.if-is-5.ensures)))
    (c.atom_form.ensures.form cells t (nodes t) h (omega (arith, some.1)))

pub sum_form-returns-clause-form : goal.sum_form-returns-clause-form
sum_form-returns-clause-form m c = λ t u h k.
    let cells = c.args.cells.now.0 in
    let n = c.in_ok-f.f.count in
    let first = c.form_below.new.marks in
    let second = c.form_below-2.new.marks in
    let rest : List Mark = drop (length first - n) (drop n first) in
    c.plus.ensures.form (formed t).1 (formed u).1 (nodes t) (nodes u)
    (kept cells (formed t).1 (nodes t) c.in_ok-f.f first (take n first ++ (second ++ rest)) (low_part n first (second ++ rest) c.in_ok-f.ensures.fits) (c.in_ok-f.ensures.form t h))
    (behind cells (formed u).1 (nodes u) c.in_ok-g.g n first second rest c.in_ok-f.ensures.fits c.in_ok-g.ensures.fits (c.in_ok-g.ensures.form u k))

pub form-returns-then-is-3-clause-form : goal.form-returns-then-is-3-clause-form
form-returns-then-is-3-clause-form m c = λ t h.
    let cells = c.args.cells.now.0 in
    let s = two_at Term-F.Sub 6 (λ a b. record { form_is = refl; own_is = refl; children_are = refl }) refl cells t c.args.p c.in_ok-cell.cell (sym c.in_ok-cell.ensures) (eqb-true c.in_ok-cell.cell.form 6 (sym c.if-is-3.ensures)) h in
    widened cells (plus (formed s.left).1 (times (minus_one) (formed s.right).1)) (formed t).1 (nodes s.left + nodes s.right) (nodes t) c.difference_form.result c.difference_form.new.marks
    (sym (form_at (Term-F.Sub s.left s.right) t s.term_is)) (omega (arith, s.nodes_are)) (c.difference_form.ensures.form s.left s.right s.left_is s.right_is)

pub difference_form-returns-clause-form : goal.difference_form-returns-clause-form
difference_form-returns-clause-form m c = λ t u h k.
    let cells = c.args.cells.now.0 in
    let n = c.in_ok-f.f.count in
    let first = c.form_below.new.marks in
    let second = c.form_below-2.new.marks in
    let third = c.times-negated.new.marks in
    let rest : List Mark = drop (length first - n) (drop n first) in
    let both : List Mark = take n first ++ (second ++ rest) in
    let last : List Mark = drop (length both - n) (drop n both) in
    let room : n ≤ length both = wide_part n first (second ++ rest) c.in_ok-f.ensures.fits in
    let fits : c.times-negated.result.count ≤ length third = omega (arith, c.times-negated.ensures.count, c.in_ok-g.ensures.fits, c.times-negated.auto.marks, ap length (all_taken n both), behind_counted n first second rest c.in_ok-f.ensures.fits) in
    c.plus.ensures.form (formed t).1 (times (minus_one) (formed u).1) (nodes t) (nodes u)
    (kept cells (formed t).1 (nodes t) c.in_ok-f.f first (take n both ++ (third ++ last)) (low_part n both (third ++ last) room ∙ low_part n first (second ++ rest) c.in_ok-f.ensures.fits) (c.in_ok-f.ensures.form t h))
    (behind cells (times (minus_one) (formed u).1) (nodes u) c.times-negated.result n both third last room fits
    (c.times-negated.ensures.form cells (formed u).1 (nodes u) (subst (FormStands cells (formed u).1 (nodes u) c.in_ok-g.g) (sym (all_taken n both)) (behind cells (formed u).1 (nodes u) c.in_ok-g.g n first second rest c.in_ok-f.ensures.fits c.in_ok-g.ensures.fits (c.in_ok-g.ensures.form u k)))))

pub product_form-returns-then-are_zero-clause-form : goal.product_form-returns-then-are_zero-clause-form
product_form-returns-then-are_zero-clause-form m c = λ t u node h k.
    let cells = c.args.cells.now.0 in
    let n = c.in_ok-f.f.count in
    let more = c.in_ok-g.g.count in
    let first = c.form_below.new.marks in
    let second = c.form_below-2.new.marks in
    let rest : List Mark = drop (length first - n) (drop n first) in
    let both : List Mark = take n first ++ (second ++ rest) in
    let low : FormStands cells (formed t).1 (nodes t) c.in_ok-f.f both = kept cells (formed t).1 (nodes t) c.in_ok-f.f first both (low_part n first (second ++ rest) c.in_ok-f.ensures.fits) (c.in_ok-f.ensures.form t h) in
    let high : FormStands cells (formed u).1 (nodes u) c.in_ok-g.g (drop n both) = behind cells (formed u).1 (nodes u) c.in_ok-g.g n first second rest c.in_ok-f.ensures.fits c.in_ok-g.ensures.fits (c.in_ok-g.ensures.form u k) in
    let span : more ≡ n + more - n = omega arith in
    let tested_high : is_constant (formed u).1 ≡ c.are_zero.result = sym (tested cells is_zero (formed u).1.products (take more (drop n both)) high.products_stand) ∙ ap (λ j. list_all (λ (m : Mark). is_zero m.0) (take j (drop n both))) span ∙ sym c.are_zero.ensures in
    widened cells (multiple (formed u).1 (formed t).1) (product_form (formed t) (formed u)) (nodes t) (1 + nodes t + nodes u) (Some c.multiple.result) c.multiple.new.marks
    (sym (product_second (formed t) (formed u) (tested_high ∙ c.if-are_zero.true))) (omega arith) (c.multiple.ensures.form cells (formed u).1 (formed t).1 (nodes t) high.constant_is high.narrow_is low)

pub product_form-returns-then-are_zero-2-clause-form : goal.product_form-returns-then-are_zero-2-clause-form
product_form-returns-then-are_zero-2-clause-form m c = λ t u node h k.
    let cells = c.args.cells.now.0 in
    let n = c.in_ok-f.f.count in
    let more = c.in_ok-g.g.count in
    let first = c.form_below.new.marks in
    let second = c.form_below-2.new.marks in
    let rest : List Mark = drop (length first - n) (drop n first) in
    let both : List Mark = take n first ++ (second ++ rest) in
    let low : FormStands cells (formed t).1 (nodes t) c.in_ok-f.f both = kept cells (formed t).1 (nodes t) c.in_ok-f.f first both (low_part n first (second ++ rest) c.in_ok-f.ensures.fits) (c.in_ok-f.ensures.form t h) in
    let high : FormStands cells (formed u).1 (nodes u) c.in_ok-g.g (drop n both) = behind cells (formed u).1 (nodes u) c.in_ok-g.g n first second rest c.in_ok-f.ensures.fits c.in_ok-g.ensures.fits (c.in_ok-g.ensures.form u k) in
    let span : more ≡ n + more - n = omega arith in
    let tested_high : is_constant (formed u).1 ≡ c.are_zero.result = sym (tested cells is_zero (formed u).1.products (take more (drop n both)) high.products_stand) ∙ ap (λ j. list_all (λ (m : Mark). is_zero m.0) (take j (drop n both))) span ∙ sym c.are_zero.ensures in
    let tested_low : is_constant (formed t).1 ≡ c.are_zero-2.result = sym (tested cells is_zero (formed t).1.products (take n both) low.products_stand) ∙ sym c.are_zero-2.ensures in
    let product = c.multiple-then-are_zero-2 in
    widened cells (multiple (formed t).1 (formed u).1) (product_form (formed t) (formed u)) (nodes u) (1 + nodes t + nodes u) (Some product.result) product.new.marks
    (sym (product_first (formed t) (formed u) (tested_high ∙ c.if-are_zero.false) (tested_low ∙ c.if-are_zero-2.true))) (omega arith)
    (product.ensures.form cells (formed t).1 (formed u).1 (nodes u) low.constant_is low.narrow_is (kept cells (formed u).1 (nodes u) c.in_ok-g.g (drop n both) c.move_down.new.marks c.move_down.ensures high))

pub product_form-returns-clause-form : goal.product_form-returns-clause-form
product_form-returns-clause-form m c = λ t u node h k.
    let cells = c.args.cells.now.0 in
    let n = c.in_ok-f.f.count in
    let more = c.in_ok-g.g.count in
    let first = c.form_below.new.marks in
    let second = c.form_below-2.new.marks in
    let rest : List Mark = drop (length first - n) (drop n first) in
    let both : List Mark = take n first ++ (second ++ rest) in
    let low : FormStands cells (formed t).1 (nodes t) c.in_ok-f.f both = kept cells (formed t).1 (nodes t) c.in_ok-f.f first both (low_part n first (second ++ rest) c.in_ok-f.ensures.fits) (c.in_ok-f.ensures.form t h) in
    let high : FormStands cells (formed u).1 (nodes u) c.in_ok-g.g (drop n both) = behind cells (formed u).1 (nodes u) c.in_ok-g.g n first second rest c.in_ok-f.ensures.fits c.in_ok-g.ensures.fits (c.in_ok-g.ensures.form u k) in
    let span : more ≡ n + more - n = omega arith in
    let tested_high : is_constant (formed u).1 ≡ c.are_zero.result = sym (tested cells is_zero (formed u).1.products (take more (drop n both)) high.products_stand) ∙ ap (λ j. list_all (λ (m : Mark). is_zero m.0) (take j (drop n both))) span ∙ sym c.are_zero.ensures in
    let tested_low : is_constant (formed t).1 ≡ c.are_zero-2.result = sym (tested cells is_zero (formed t).1.products (take n both) low.products_stand) ∙ sym c.are_zero-2.ensures in
    subst (λ x. FormOrShort cells x (1 + nodes t + nodes u) c.atom_form.result c.atom_form.new.marks)
    (sym (product_atom t u (roll-Term (Term-F.Mul t u)) refl (tested_low ∙ c.if-are_zero-2.false) (tested_high ∙ c.if-are_zero.false)))
    (c.atom_form.ensures.form cells (roll-Term (Term-F.Mul t u)) (1 + nodes t + nodes u) node (omega arith))

pub remainder_form-returns-in_err-divisor-clause-form : goal.remainder_form-returns-in_err-divisor-clause-form
remainder_form-returns-in_err-divisor-clause-form m c = λ t u node quotient h k.
    absurd (not_there c.args.cells.now.0 u c.args.cell.b (sym c.in_err-divisor.ensures) (below_parts (stands c.args.cells.now.0 u) c.args.cell.b c.args.p k).1)

pub remainder_form-returns-then-not-is-clause-form : goal.remainder_form-returns-then-not-is-clause-form
remainder_form-returns-then-not-is-clause-form m c = λ t u node quotient h k.
    let cells = c.args.cells.now.0 in
    let d = c.in_ok-divisor.divisor in
    let below = below_parts (stands cells u) c.args.cell.b c.args.p k in
    let head = its_form cells u c.args.cell.b d d.form (sym c.in_ok-divisor.ensures) refl below.1 in
    subst (λ x. FormOrShort cells x (1 + nodes t + nodes u) c.atom_form.result c.atom_form.new.marks)
    (sym (remainder_no_number t u (ap (λ n. n == 0) head ∙ sym c.if-not-is.ensures)))
    (c.atom_form.ensures.form cells (roll-Term (Term-F.Mod t u)) (1 + nodes t + nodes u) node (omega arith))

pub remainder_form-returns-then-divisor-le0-clause-form : goal.remainder_form-returns-then-divisor-le0-clause-form
remainder_form-returns-then-divisor-le0-clause-form m c = λ t u node quotient h k.
    let cells = c.args.cells.now.0 in
    let d = c.in_ok-divisor.divisor in
    let fits : SFits w64 d.own = search rules in
    let test : le_z d.own (pos 0) ≡ true = simp to_z-of_z at c.if-divisor-le0.true in
    let low : d.own ≤ℤ pos 0 = not_above_zero d.own test in
    let below = below_parts (stands cells u) c.args.cell.b c.args.p k in
    let number = leaves_open.num cells u c.args.cell.b d (sym c.in_ok-divisor.ensures) (eqb-true d.form 0 (sym c.if-not-is.ensures)) below.1 in
    subst (λ x. FormOrShort cells x (1 + nodes t + nodes u) c.atom_form-then-divisor-le0.result c.atom_form-then-divisor-le0.new.marks)
    (sym (remainder_by_low t u d.own number low))
    (c.atom_form-then-divisor-le0.ensures.form cells (roll-Term (Term-F.Mod t u)) (1 + nodes t + nodes u) node (omega arith))

pub remainder_form-returns-clause-form : goal.remainder_form-returns-clause-form
remainder_form-returns-clause-form m c = λ t u node quotient h k.
    let cells = c.args.cells.now.0 in
    let d = c.in_ok-divisor.divisor in
    let fits : SFits w64 d.own = search rules in
    let below = below_parts (stands cells u) c.args.cell.b c.args.p k in
    let number = leaves_open.num cells u c.args.cell.b d (sym c.in_ok-divisor.ensures) (eqb-true d.form 0 (sym c.if-not-is.ensures)) below.1 in
    let n = c.in_ok-f.f.count in
    let first = c.form_below.new.marks in
    let second = c.rounded_form.new.marks in
    let rest : List Mark = drop (length first - n) (drop n first) in
    let test : le_z d.own (pos 0) ≡ false = simp to_z-of_z at c.if-divisor-le0.false in
    let high : pos 0 <ℤ d.own = above_zero d.own test in
    let rounded : Form = multiple (times (minus_one) (constant_form d.own)) (atom_form (roll-Term (Term-F.Div t u))) in
    let second_stands : FormStands cells rounded 1 c.in_ok-g.g second = simp to_z-of_z at (c.in_ok-g.ensures.form cells (roll-Term (Term-F.Div t u)) quotient) in
    widened cells (plus (formed t).1 rounded) (remainder_form (formed t) (formed u)) (nodes t + 1) (1 + nodes t + nodes u) (Some c.plus.result) c.plus.new.marks
    (sym (remainder_by_high t u d.own number high)) (omega arith)
    (c.plus.ensures.form (formed t).1 rounded (nodes t) 1
    (kept cells (formed t).1 (nodes t) c.in_ok-f.f first (take n first ++ (second ++ rest)) (low_part n first (second ++ rest) c.in_ok-f.ensures.fits) (c.in_ok-f.ensures.form t h))
    (behind cells rounded 1 c.in_ok-g.g n first second rest c.in_ok-f.ensures.fits c.in_ok-g.ensures.fits second_stands))
