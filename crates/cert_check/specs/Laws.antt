-- What legal certificates show.
use Rattle.std.specs.Prelude.{List}
use Rattle.vc_sequents.specs.declared.sequent.Sequent.{Sequent}
use Rattle.vc_sequents.specs.Splitting.{IsValidSequent}
use Rattle.cert_form.specs.declared.cert.Step.{Step}
use Rattle.cert_check.specs.Legality.{IsLegal}

-- A sequent with a legal certificate is valid.
abbrev pub LegalIsValid : Type 0
LegalIsValid = (steps : List Step) (s : Sequent) → IsLegal steps s → IsValidSequent s
