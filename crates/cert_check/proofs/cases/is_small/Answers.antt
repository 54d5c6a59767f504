use Rattle.std.proofs.Common.{◌∙◌, subst}
use Rattle.cert_check.specs.declared.cases.Part.{Part}
use Rattle.cert_check.specs.working.Cases.{PartIs}
use Rattle.cert_check.proofs.Sizes.{small_told, truth_small, not_small, over_small, negations_small, and_not_small}
use Rattle.cert_check.proofs.cases.is_small.Goals as goal

pub returns-in-At : goal.returns-in-At
returns-in-At c = λ t part. small_told c.nodes_up_to.result t (c.nodes_up_to.ensures t (subst (λ (x : Part). PartIs c.args.cells.now.0 x t) c.in-At.is part))

pub returns-in-Truth : goal.returns-in-Truth
returns-in-Truth c = λ t part. truth_small c.in-Truth.field-0 t (subst (λ (x : Part). PartIs c.args.cells.now.0 x t) c.in-Truth.is part)

pub returns-in-Not : goal.returns-in-Not
returns-in-Not c = λ t part.
    let d = (subst (λ (x : Part). PartIs c.args.cells.now.0 x t) c.in-Not.is part) in
    not_small c.nodes_up_to-in-Not.result d.0 t d.2 (c.nodes_up_to-in-Not.ensures d.0 d.1)

pub returns-in-Two : goal.returns-in-Two
returns-in-Two c = λ t part.
    let d = (subst (λ (x : Part). PartIs c.args.cells.now.0 x t) c.in-Two.is part) in
    c.are_few.ensures d.0 d.1 d.2 d.3 ∙ over_small c.in-Two.field-0 d.0 d.1 t d.4

pub returns-in-OfNegations : goal.returns-in-OfNegations
returns-in-OfNegations c = λ t part.
    let d = (subst (λ (x : Part). PartIs c.args.cells.now.0 x t) c.in-OfNegations.is part) in
    c.are_few-in-OfNegations.ensures d.0 d.1 d.2 d.3 ∙ negations_small c.in-OfNegations.field-0 d.0 d.1 t d.4

pub returns-in-AndNot : goal.returns-in-AndNot
returns-in-AndNot c = λ t part.
    let d = (subst (λ (x : Part). PartIs c.args.cells.now.0 x t) c.in-AndNot.is part) in
    c.are_few-in-AndNot.ensures d.0 d.1 d.2 d.3 ∙ and_not_small d.0 d.1 t d.4
