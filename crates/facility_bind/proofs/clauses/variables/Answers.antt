use Rattle.std.proofs.Common.{◌≡◌, ◌∙◌, sym, ap, ◌+◌, ◌++◌, ◌∷◌, []}
use Rattle.facility_bind.specs.Clauses.{variable, variables}
use Rattle.facility_bind.proofs.Variables.{variables_more}
use Rattle.facility_bind.proofs.clauses.variables.Goals as goal

pub loop-k-preserved : goal.loop-k-preserved
loop-k-preserved c =
    let first = c.args.first in
    let k = c.loop-k.k in
    let pushed : c.push.new.self ≡ c.loop-k.out ++ c.variable.result ∷ [] = c.in_ok-push.ensures.ok in
    let item : c.variable.result ≡ variable (first + k) = c.variable.ensures ∙ ap variable c.in_ok-sum.ensures in
    let more : c.loop-k.out ++ c.variable.result ∷ [] ≡ variables first k ++ variable (first + k) ∷ [] = λ i. c.loop-k.invariant i ++ item i ∷ [] in
    pushed ∙ more ∙ sym (variables_more first k)
