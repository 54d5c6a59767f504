use Rattle.std.proofs.Common.{sym, arith}
use Rattle.std.proofs.lemmas.List.{length-take-le, take_all}
use Rattle.cell_rows.proofs.naming.among_first.Goals as goal

pub slice_bounds-result-end : goal.slice_bounds-result-end
slice_bounds-result-end c = sym (length-take-le 4294967296 c.args.atoms.now (omega (arith, c.if-atoms-gt-MOST_ATOMS.true)))

pub returns-else-atoms-gt-MOST_ATOMS : goal.returns-else-atoms-gt-MOST_ATOMS
returns-else-atoms-gt-MOST_ATOMS c = sym (take_all 4294967296 c.args.atoms.now (omega (arith, c.if-atoms-gt-MOST_ATOMS.false)))
