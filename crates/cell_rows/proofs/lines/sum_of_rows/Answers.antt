use Rattle.std.proofs.Common.{◌≡◌, take, pos, None, Some, SFits, w32, rules}
use Rattle.std.proofs.lemmas.Int.{to_z-of_z}
use Rattle.cell_rows.proofs.Replaying.{sum_by_numbers}
use Rattle.cell_rows.proofs.lines.sum_of_rows.Goals as goal

pub returns-in-Ok : goal.returns-in-Ok
returns-in-Ok c =
    let a = take c.args.width c.args.a.now in
    let b = take c.args.width c.args.b.now in
    let first : SFits w32 c.args.line.p = search rules in
    let second : SFits w32 c.args.line.q = search rules in
    let p_is : c.args.line.p ≡ pos c.in_ok-p.p = simp to_z-of_z at (c.in_ok-p.ensures.number a b) in
    let q_is : c.args.line.q ≡ pos c.in_ok-q.q = simp to_z-of_z at (c.in_ok-q.ensures.number a b) in
    sum_by_numbers c.args.line.p c.args.line.q c.in_ok-p.p c.in_ok-q.q a b (Some (take c.args.width c.add_in_front.new.out)) p_is q_is c.in-Ok.ensures

pub returns-in-Err : goal.returns-in-Err
returns-in-Err c =
    let a = take c.args.width c.args.a.now in
    let b = take c.args.width c.args.b.now in
    let first : SFits w32 c.args.line.p = search rules in
    let second : SFits w32 c.args.line.q = search rules in
    let p_is : c.args.line.p ≡ pos c.in_ok-p.p = simp to_z-of_z at (c.in_ok-p.ensures.number a b) in
    let q_is : c.args.line.q ≡ pos c.in_ok-q.q = simp to_z-of_z at (c.in_ok-q.ensures.number a b) in
    sum_by_numbers c.args.line.p c.args.line.q c.in_ok-p.p c.in_ok-q.q a b None p_is q_is c.in-Err.ensures
