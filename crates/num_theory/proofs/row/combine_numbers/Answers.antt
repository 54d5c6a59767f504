use Rattle.std.proofs.Common.{◌≡◌, ◌+ℤ◌, ◌*ℤ◌, pos, false, SFits, w32, w64, rules, ◌∙◌, sym, ap}
use Rattle.std.proofs.lemmas.Int.{to_z-of_z}
use Rattle.num_theory.specs.Rows.{combined_number, narrow}
use Rattle.num_theory.proofs.Magnitudes.{narrow_sum, sum_fits}
use Rattle.num_theory.proofs.row.combine_numbers.Goals as goal

pub returns-then-is_narrow-clause-fits : goal.returns-then-is_narrow-clause-fits
returns-then-is_narrow-clause-fits c =
    let r = c.times.result in
    let s = c.times-2.result in
    let left : SFits w32 c.args.x = c.ranges.x in
    let right : SFits w32 c.args.y = c.ranges.y in
    let first : SFits w64 r = search rules in
    let second : SFits w64 s = search rules in
    let sum : SFits w64 (r +ℤ s) = sum_fits r s c.times.ensures.bound c.times-2.ensures.bound in
    let known = narrow_sum r s first second sum (sym c.is_narrow.ensures ∙ c.if-is_narrow.true) in
    let r_is : r ≡ pos c.args.p *ℤ c.args.x = simp to_z-of_z at c.times.ensures.value in
    let s_is : s ≡ pos c.args.q *ℤ c.args.y = simp to_z-of_z at c.times-2.ensures.value in
    let total : r +ℤ s ≡ combined_number c.args.p c.args.x c.args.q c.args.y = cc in
    (known.0 ∙ total, ap narrow (sym total) ∙ known.1)

pub returns-else-is_narrow-clause-wide : goal.returns-else-is_narrow-clause-wide
returns-else-is_narrow-clause-wide c =
    let r = c.times.result in
    let s = c.times-2.result in
    let left : SFits w32 c.args.x = c.ranges.x in
    let right : SFits w32 c.args.y = c.ranges.y in
    let first : SFits w64 r = search rules in
    let second : SFits w64 s = search rules in
    let sum : SFits w64 (r +ℤ s) = sum_fits r s c.times.ensures.bound c.times-2.ensures.bound in
    let wide : narrow (r +ℤ s) ≡ false = simp to_z-of_z at (sym c.is_narrow.ensures ∙ c.if-is_narrow.false) in
    let r_is : r ≡ pos c.args.p *ℤ c.args.x = simp to_z-of_z at c.times.ensures.value in
    let s_is : s ≡ pos c.args.q *ℤ c.args.y = simp to_z-of_z at c.times-2.ensures.value in
    let total : r +ℤ s ≡ combined_number c.args.p c.args.x c.args.q c.args.y = cc in
    ap narrow (sym total) ∙ wide
