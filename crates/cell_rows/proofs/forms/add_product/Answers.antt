use Rattle.std.proofs.Common.{◌≡◌, ◌∙◌, sym, ap, subst, ◌<◌, ◌≤◌, pos, get_or, set, take, length, length-take, arith}
use Rattle.std.proofs.lemmas.List.{get_or-take, take_more_set}
use Rattle.std.proofs.Math.Seq.{take-set-lt}
use Rattle.std.specs.List.{position_or_len}
use Rattle.num_theory.specs.declared.number.Number.TheVariants.{Exact}
use Rattle.num_theory.proofs.Adding.{has}
use Rattle.num_theory.specs.Linear.{add_product}
use Rattle.num_theory.specs.Number.{sum}
use Rattle.cell_rows.specs.Forms.{Mark, RawStand}
use Rattle.cell_rows.proofs.Marks.{added_at, added_last}
use Rattle.cell_rows.proofs.forms.add_product.Goals as goal

pub returns-then-k-count-clause-added : goal.returns-then-k-count-clause-added
returns-then-k-count-clause-added c = λ t ps s h.
    let cells = c.args.cells.now.0 in
    let marks = c.args.marks.now in
    let k = c.place_of-k.result in
    let n = c.plus.result in
    let read : Mark = get_or marks k (Exact (pos 0), 0) in
    let got : get_or (take c.args.count marks) k (Exact (pos 0), 0) ≡ read = get_or-take c.args.count marks k (Exact (pos 0), 0) c.if-k-count.true in
    let is : n ≡ sum (get_or (take c.args.count marks) k (Exact (pos 0), 0)).0 c.args.coefficient = c.plus.ensures ∙ ap (λ (m : Mark). sum m.0 c.args.coefficient) (sym got) in
    let size : k < length (take c.args.count marks) = omega (arith, length-take c.args.count marks, c.if-k-count.true, c.requires) in
    let path = ap (λ (m : Mark). set (take c.args.count marks) k (n, m.1)) got ∙ sym (take-set-lt c.args.count marks k (n, read.1) c.if-k-count.true) in
    subst (RawStand cells (add_product (c.args.coefficient, t) ps)) path (added_at cells t c.args.coefficient ps (take c.args.count marks) h k (c.place_of-k.ensures.first t ps s h) size (Exact (pos 0), 0) n is)

pub returns-else-k-count-clause-added : goal.returns-else-k-count-clause-added
returns-else-k-count-clause-added c = λ t ps s h.
    let cells = c.args.cells.now.0 in
    let marks = c.args.marks.now in
    let past : length (take c.args.count marks) ≤ position_or_len (has t) ps = omega (arith, c.place_of-k.ensures.first t ps s h, c.if-k-count.false, length-take c.args.count marks) in
    subst (RawStand cells (add_product (c.args.coefficient, t) ps)) (sym (take_more_set marks c.args.count (c.args.coefficient, c.args.atom) (omega (arith, c.requires))))
    (added_last cells t c.args.coefficient c.args.atom s ps (take c.args.count marks) h past)
