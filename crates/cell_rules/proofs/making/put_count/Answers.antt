use Rattle.std.proofs.Common.{refl, subst}
use Rattle.math_terms.specs.declared.term.Term.TheOpen.{Term-F}
use Rattle.cell_rules.specs.declared.sketch.Count.{Count}
use Rattle.cell_rules.specs.Sketches.{ShowsCount}
use Rattle.cell_rules.proofs.Kept.{two_there}
use Rattle.cell_rules.proofs.making.put_count.Goals as goal

pub returns-in-Sum-clause-standing : goal.returns-in-Sum-clause-standing
returns-in-Sum-clause-standing c = λ t h.
    let d = subst (λ (x : Count). ShowsCount c.args.cells.now.0 x t) c.in-Sum.is h in
    two_there _ 5 (λ a b. Term-F.Add a b) d.0 d.1 t _ (record { form_is = refl; own_is = refl; children_are = refl }) (record { no_tuple = refl; no_remainder = refl }) d.4
    (c.put_two.ensures.standing d.0 d.1 d.2 d.3)

pub returns-in-Difference-clause-standing : goal.returns-in-Difference-clause-standing
returns-in-Difference-clause-standing c = λ t h.
    let d = subst (λ (x : Count). ShowsCount c.args.cells.now.0 x t) c.in-Difference.is h in
    two_there _ 6 (λ a b. Term-F.Sub a b) d.0 d.1 t _ (record { form_is = refl; own_is = refl; children_are = refl }) (record { no_tuple = refl; no_remainder = refl }) d.4
    (c.put_two-in-Difference.ensures.standing d.0 d.1 d.2 d.3)
