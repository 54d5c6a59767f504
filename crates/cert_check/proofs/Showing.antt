-- A verdict that a certificate is legal shows that the sequent is valid.
use Rattle.std.proofs.Common.{◌≡◌, ◌∙◌, sym, ap, List}
use Rattle.vc_sequents.specs.declared.sequent.Sequent.{Sequent}
use Rattle.vc_sequents.specs.Splitting.{IsValidSequent}
use Rattle.cert_form.specs.declared.cert.Step.{Step}
use Rattle.cert_check.specs.declared.verdict.Verdict.{Verdict}
use Rattle.cert_check.specs.declared.verdict.Verdict.TheVariants.{Legal, DeskFull}
use Rattle.cert_check.specs.Legality.{verdict_of}
use Rattle.cert_check.specs.Laws.{LegalIsValid}

legal_fits : Legal ≡ DeskFull → ⊥
legal_fits e = cc

pub legal_shown : LegalIsValid → (steps given : List Step) → given ≡ steps → (s : Sequent) (v : Verdict) → ((v ≡ DeskFull → ⊥) → v ≡ verdict_of given s) → v ≡ Legal → IsValidSequent s
legal_shown law steps given same s v exact e =
    law steps s (sym (exact (λ full. legal_fits (sym e ∙ full)) ∙ ap (λ (sts : List Step). verdict_of sts s) same) ∙ e)
