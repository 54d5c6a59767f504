use Rattle.std.proofs.Common.{◌∙◌, ◌+◌, sym, ap, subst, ℕ, List, length, All, Err, arith}
use Rattle.linear_prover.specs.declared.rows_in_hand.Combination.{Combination}
use Rattle.linear_prover.specs.Elimination.{Numbered, numbered_from}
use Rattle.linear_prover.specs.working.Eliminating.{AreUsable, IsRow}
use Rattle.linear_prover.proofs.Refuting.{IsReady, numbered_rows, ready_at}
use Rattle.linear_prover.proofs.elimination.search.Goals as goal

pub eliminate_all-requires : goal.eliminate_all-requires
eliminate_all-requires c =
    let begun = c.in_ok-number_rows.ensures ∙ ap (numbered_from 0) c.as_slice-rows.ensures in
    subst (λ (atoms : ℕ). All (λ (r : Numbered). IsRow (atoms + 1) r.1) c.in_ok-number_rows.field-0.items) (sym c.len.ensures)
    (subst (λ (rows : List Numbered). All (λ r. IsRow (length c.args.table.now.atoms + 1) r.1) rows) (sym begun) (numbered_rows c.args.table.now c.requires))

-- what the lines need, where the search ended in a contradiction
ready : (c : goal.After-as_slice) → IsReady c.as_slice-rows.result.now c.eliminate_all.new.hand.made.items
ready c =
    ready_at c.args.table.now c.as_slice-rows.result.now c.in_ok-number_rows.field-0.items c.new.result.items c.len.result c.eliminate_all.new.hand c.eliminate_all.result c.requires
    c.as_slice-rows.ensures c.in_ok-number_rows.ensures c.new.ensures.items c.len.ensures (c.in-Err-Contradiction.is ∙ ap Err c.in-Err-Contradiction.field-0-is) c.eliminate_all.ensures

pub lines_of-requires-clause-some : goal.lines_of-requires-clause-some
lines_of-requires-clause-some c =
    let r = ready c in
    omega (arith, r.some, ap length c.as_slice.ensures.value)

pub lines_of-requires-clause-usable : goal.lines_of-requires-clause-usable
lines_of-requires-clause-usable c =
    let r = ready c in
    subst (λ (made : List Combination). AreUsable (length c.as_slice-rows.result.now) made) (sym c.as_slice.ensures.value) r.usable

pub lines_of-requires-clause-few : goal.lines_of-requires-clause-few
lines_of-requires-clause-few c =
    let r = ready c in
    omega (arith, r.few, ap length c.as_slice.ensures.value)
