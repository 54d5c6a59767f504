use Rattle.std.proofs.Common.{◌≡◌, map, take}
use Rattle.math_terms.specs.Kinds.{sort_of_desc}
use Rattle.vc_sequents.proofs.splitting.sorts_of.Given as goal

abbrev pub invariant-loop-v : goal.invariant-loop-v
invariant-loop-v l = l.out ≡ map (λ v. sort_of_desc v.1) (take l.v-index l.vars)
