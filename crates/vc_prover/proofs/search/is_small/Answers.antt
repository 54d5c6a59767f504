use Rattle.std.proofs.Common.{◌≡◌, ◌∙◌, ap, ℕ, min, leb, arith}
use Rattle.std.proofs.lemmas.Bool.Decides.{nat_tests}
use Rattle.cert_check.specs.Legality.{most_nodes}
use Rattle.vc_prover.proofs.search.is_small.Goals as goal

capped : (n : ℕ) → leb (min n 10001) 10000 ≡ leb n 10000
capped n = grind (arith, nat_tests)

pub returns : goal.returns
unfolding most_nodes
returns c = ap (λ n. leb n 10000) c.nodes_up_to.ensures ∙ capped _
