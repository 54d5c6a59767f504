use Rattle.std.proofs.Common.{◌≡◌, ℤ, pos, SFits, w32, get_or, set, ap, ◌∙◌, rules, arith}
use Rattle.std.specs.Int.{int_div_euclid}
use Rattle.std.proofs.lemmas.Int.{to_z-of_z}
use Rattle.std.proofs.lemmas.List.{get_or_default}
use Rattle.std.proofs.lemmas.List.Edits.{map_over_more}
use Rattle.num_theory.proofs.row.divide_all.Goals as goal

pub loop-number-preserved : goal.loop-number-preserved
loop-number-preserved c =
    let before = c.loop-number.row in
    let i = c.loop-number.number-index in
    let number : ℤ = get_or before i (pos 0) in
    let divided = λ (z : ℤ). int_div_euclid z (pos c.args.by) in
    let fits : SFits w32 c.divide_down.result = search rules in
    let element : SFits w32 number = search rules in
    let is : c.divide_down.result ≡ divided number = simp to_z-of_z at c.divide_down.ensures in
    let step = map_over_more divided c.args.row.now before i number (omega arith) c.loop-number.invariant
    (get_or_default before i (pos 0) number (omega arith)) in
    simp to_z-of_z (ap (set before i) is ∙ step)
