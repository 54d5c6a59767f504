use Rattle.std.proofs.Common.{◌∙◌, take, drop}
use Rattle.std.proofs.lemmas.List.{length-take-le}
use Rattle.num_theory.specs.Lines.{sum_of}
use Rattle.cell_rows.proofs.Replaying.{front_of_sum}
use Rattle.cell_rows.proofs.lines.add_in_front.Goals as goal

pub returns : goal.returns
returns c =
    let width = c.args.width in
    front_of_sum c.add_up.result (sum_of c.args.p (take width c.args.a.now) c.args.q (take width c.args.b.now)) c.add_up.new.out (drop width c.args.out.now) width
    (c.add_up.auto.out ∙ length-take-le width c.args.out.now c.requires.out_long) c.add_up.ensures
