-- Why there is no certificate.
use Rattle.vc_sequents.specs.declared.sequent.Sequent.{Sequent}
use Rattle.vc_prover.specs.declared.search.ProveError.{ProveError}
use Rattle.vc_prover.specs.declared.search.ProveError.TheVariants.{Open, NoMemory}
use Rattle.vc_prover.specs.Search.{IsOpen}

abbrev pub IsProveRefusal : Sequent → ProveError → Type 0
IsProveRefusal s Open = IsOpen s
IsProveRefusal s NoMemory = Unit {0}
