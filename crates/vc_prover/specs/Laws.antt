-- What a search finds.
use Rattle.std.specs.Prelude.{◌≡◌, List}
use Rattle.vc_sequents.specs.declared.sequent.Sequent.{Sequent}
use Rattle.cert_form.specs.declared.cert.Step.{Step}
use Rattle.cert_check.specs.Legality.{IsLegal}
use Rattle.vc_prover.specs.Search.{IsFound}

-- The steps that are found are a legal certificate.
abbrev pub FoundIsLegal : Type 0
FoundIsLegal = (s : Sequent) (steps : List Step) → IsFound s steps → IsLegal steps s

-- A search finds one list of steps.
abbrev pub OneSearch : Type 0
OneSearch = (s : Sequent) (a b : List Step) → IsFound s a → IsFound s b → a ≡ b
