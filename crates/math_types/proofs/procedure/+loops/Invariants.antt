use Rattle.std.proofs.Common.{◌≡◌, ◌++◌, map, take}
use Rattle.math_types.specs.Components.{in_block, loops}
use Rattle.math_types.specs.working.Seen.{seen}
use Rattle.math_types.proofs.procedure.+loops.Given as goal

abbrev pub invariant-add_loops-loop-s : goal.invariant-add_loops-loop-s
invariant-add_loops-loop-s l = map seen l.clauses ≡ map seen l.initial.clauses ++ in_block (map loops (take l.s-index l.stmts))
