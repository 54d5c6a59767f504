use Rattle.std.proofs.Common.{◌≡◌, drop}
use Rattle.std.specs.List.{find}
use Rattle.type_inst.specs.Assertions.{is_word}
use Rattle.type_inst.proofs.assertion.find_word.Given as goal

abbrev pub invariant-loop-m : goal.invariant-loop-m
invariant-loop-m l = find (is_word l.old l.name) l.meanings ≡ find (is_word l.old l.name) (drop l.m-index l.meanings)
