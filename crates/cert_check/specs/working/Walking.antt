-- What the steps from a number on do with a sequent.
use Rattle.std.specs.Prelude.{◌≡◌, ℕ, Bool, true, false, List, ◌∷◌, drop, Result, Ok, Err}
use Rattle.vc_sequents.specs.declared.sequent.Sequent.{Sequent}
use Rattle.cert_form.specs.declared.cert.Step.{Step}
use Rattle.cert_form.specs.declared.cert.Step.TheVariants as step
use Rattle.cert_check.specs.declared.verdict.Verdict.TheVariants as verdict
use Rattle.cert_check.specs.declared.walk.Stop.{Stop}
use Rattle.cert_check.specs.declared.walk.Stop.TheVariants.{Illegal, Full}
use Rattle.cert_check.specs.Legality.{verdict_from}

abbrev pub is_split : Step → Bool
is_split step.Same = false
is_split (step.Hyp k) = false
is_split (step.Absurd k) = false
is_split (step.Clash k l) = false
is_split (step.Linear rows lines) = false
is_split (step.Split k n) = true
is_split (step.Subst k) = false
is_split (step.Rewrite formula position rule with sides) = false

-- Whatever sequents stand behind it: the steps up to a number are allowed and leave those, or one is not allowed.
abbrev pub Walked : List Step → ℕ → Sequent → Result ℕ Stop → Type 0
Walked steps at s (Ok next) = (rest : List Sequent) → verdict_from (drop at steps) at (s ∷ rest) ≡ verdict_from (drop next steps) next rest
Walked steps at s (Err (Illegal k)) = (rest : List Sequent) → verdict_from (drop at steps) at (s ∷ rest) ≡ verdict.Illegal k
Walked steps at s (Err Full) = Unit {0}
