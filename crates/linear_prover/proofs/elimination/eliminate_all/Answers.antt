use Rattle.std.proofs.Common.{◌∙◌, ◌+◌}
use Rattle.linear_prover.proofs.Turning.{atom_turn, rows_turn}
use Rattle.linear_prover.proofs.elimination.eliminate_all.Goals as goal

pub loop-atom-preserved : goal.loop-atom-preserved
loop-atom-preserved c = record {
  rows = rows_turn (c.args.atoms + 1) c.args.n c.loop-atom.atom c.loop-atom.hand.rows.items c.eliminate.new.hand.rows.items c.loop-atom.hand.made.items c.eliminate.new.hand.made.items
      c.loop-atom.invariant.rows c.in_ok-eliminate.ensures;
  same = atom_turn c.args.n c.args.atoms c.loop-atom.atom c.loop-atom.hand.rows.items c.eliminate.new.hand.rows.items c.loop-atom.hand.made.items c.eliminate.new.hand.made.items
      c.loop-atom-test.true c.in_ok-eliminate.ensures ∙ c.loop-atom.invariant.same;
}
