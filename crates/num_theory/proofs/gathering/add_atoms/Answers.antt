use Rattle.std.proofs.Common.{◌∙◌, sym, ap, arith}
use Rattle.num_theory.specs.Table.{with_atom}
use Rattle.num_theory.proofs.Tables.{with_atoms_more}
use Rattle.num_theory.proofs.gathering.add_atoms.Goals as goal

pub loop-p-preserved : goal.loop-p-preserved
loop-p-preserved c =
    let p = c.p-item.result in
    c.in_ok-add_atom.ensures ∙ ap (λ atoms. with_atom atoms p.1) c.loop-p.invariant
    ∙ sym (with_atoms_more c.args.atoms.now.items c.args.products.now c.loop-p.p-index p (omega arith) c.p-item.is)
