use Rattle.std.proofs.Common.{rules, refl}
use Rattle.main_prover.proofs.Forming.{link_is_formed}
use Rattle.main_prover.proofs.link.link_main.Goals as goal

pub returns-clause-formed : goal.returns-clause-formed
returns-clause-formed c =
    link_is_formed c.args.m.now _ c.requires.form (record { types = search rules; procs = search rules; main = refl })
