use Rattle.std.proofs.Common.{◌∙◌, ap, sym}
use Rattle.std.specs.List.{slice_get}
use Rattle.type_modes.specs.declared.callee.Kind.{Kind}
use Rattle.type_modes.specs.Signatures as spec
use Rattle.type_modes.specs.working.Found as found
use Rattle.type_modes.specs.working.Seen.{seen_kind}
use Rattle.type_modes.proofs.callee.Kind.param.Goals as goal

pub returns-in-Through : goal.returns-in-Through
returns-in-Through c =
    c.declared.ensures
    ∙ ap (λ (k : Kind). slice_get (spec.signature (found.type_of k) c.in-Through.heading.now).params c.args.index) c.in-Through.is
    ∙ ap (λ (k : Kind). slice_get (seen_kind k).params c.args.index) (sym c.in-Through.is)

pub returns-in-Within : goal.returns-in-Within
returns-in-Within c =
    c.declared-in-Within.ensures
    ∙ ap (λ (k : Kind). slice_get (spec.signature (found.type_of k) c.in-Within.heading.now).params c.args.index) c.in-Within.is
    ∙ ap (λ (k : Kind). slice_get (seen_kind k).params c.args.index) (sym c.in-Within.is)

pub returns-in-Own : goal.returns-in-Own
returns-in-Own c =
    c.declared-in-Own.ensures
    ∙ ap (λ (k : Kind). slice_get (spec.signature (found.type_of k) c.in-Own.heading.now).params c.args.index) c.in-Own.is
    ∙ ap (λ (k : Kind). slice_get (seen_kind k).params c.args.index) (sym c.in-Own.is)
