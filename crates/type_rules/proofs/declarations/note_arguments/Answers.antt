use Rattle.std.proofs.Common.{◌≤◌, ◌∙◌, ap, arith, length, min, sym}
use Rattle.std.specs.List.{flat_map}
use Rattle.type_rules.specs.Breaches.{least_of}
use Rattle.type_rules.specs.Declarations.{argument_for}
use Rattle.type_rules.specs.working.Seen.{seen_scope}
use Rattle.type_rules.proofs.Paired.{zip-ended}
use Rattle.type_rules.proofs.declarations.note_arguments.Goals as goal

pub returns : goal.returns
returns c =
    let formals = c.args.formals.now in
    let arguments = c.args.arguments.now in
    let rule = argument_for c.args.scope.now.table.now (seen_scope c.args.scope.now) c.args.hides in
    let past : min (length formals) (length arguments) ≤ c.loop-k.k = omega (arith, c.loop-k-test.false, c.min-k-end.ensures) in
    ap (λ ps. least_of c.loop-k.least (flat_map rule ps)) (sym (zip-ended formals arguments c.loop-k.k past)) ∙ c.loop-k.invariant
