use Rattle.std.proofs.Common.{◌∙◌}
use Rattle.std.proofs.lemmas.Int.{to_z-of_z}
use Rattle.std.proofs.lemmas.Result.{IfOk-weaker}
use Rattle.math_terms.specs.Values.{place}
use Rattle.math_terms.proofs.Evaluations.{between_is}
use Rattle.math_terms.proofs.operations.entries_between.Goals as goal

pub returns : goal.returns
returns c =
    let fits_i = c.ranges.i in
    let fits_j = c.ranges.j in
    let end = simp to_z-of_z at c.place_within-end.ensures in
    let start = simp to_z-of_z at c.place_within-start.ensures in
    IfOk-weaker c.copy_values.result _ _
    (λ vs h. h ∙ between_is (place c.args.i) (place c.args.j) c.place_within-start.result c.place_within-end.result c.args.entries.now end start)
    c.copy_values.ensures
