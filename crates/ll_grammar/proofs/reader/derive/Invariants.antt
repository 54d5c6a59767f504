use Rattle.std.proofs.Common.{take, None}
use Rattle.ll_grammar.specs.Reader.{Stands}
use Rattle.ll_grammar.proofs.reader.derive.Given as goal

abbrev pub invariant-loop-place : goal.invariant-loop-place
invariant-loop-place v l = Stands l.grammar v.certificate (take l.place l.classes) l.moves.items l.stack None

abbrev pub ghost-take : goal.ghost-take
ghost-take v a = v.certificate

abbrev pub ghost-settle : goal.ghost-settle
ghost-settle v a = v.certificate
