use Rattle.std.proofs.Common.{◌∙◌, None, Some, ap}
use Rattle.std.specs.Option.{option_copied, option_map}
use Rattle.type_rules.specs.working.Seen.{seen_scope}
use Rattle.type_modes.specs.working.Seen.{seen_callee, seen_kind}
use Rattle.type_modes.proofs.Facilities.{behind_is}
use Rattle.type_modes.proofs.callee.behind_facility.Goals as goal

pub returns-in_err-kind : goal.returns-in_err-kind
returns-in_err-kind c =
    ap (option_map seen_callee) c.from_residual-in_err-kind.ensures
    ∙ behind_is c.args.table.now c.args.component.now c.args.facility.now c.args.name.now
    c.declarations_of-declarations.result.now c.in_ok-index.index c.index-declarations-index.result
    c.behind-scope.result.table.now (seen_scope c.behind-scope.result) (option_copied c.own_concept.result) None
    c.declarations_of-declarations.ensures c.in_ok-index.ensures.value c.in_ok-index.ensures.within c.index-declarations-index.is
    c.own_concept.ensures c.behind-scope.ensures.scope c.behind-scope.ensures.table c.in_err-kind.ensures

pub returns : goal.returns
returns c =
    behind_is c.args.table.now c.args.component.now c.args.facility.now c.args.name.now
    c.declarations_of-declarations.result.now c.in_ok-index.index c.index-declarations-index.result
    c.behind-scope.result.table.now (seen_scope c.behind-scope.result) (option_copied c.own_concept.result) (Some (seen_kind c.in_ok-kind.kind))
    c.declarations_of-declarations.ensures c.in_ok-index.ensures.value c.in_ok-index.ensures.within c.index-declarations-index.is
    c.own_concept.ensures c.behind-scope.ensures.scope c.behind-scope.ensures.table c.in_ok-kind.ensures
