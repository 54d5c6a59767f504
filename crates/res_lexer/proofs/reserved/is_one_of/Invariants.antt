use Rattle.std.proofs.Common.{◌≡◌, drop}
use Rattle.std.specs.List.{list_any}
use Rattle.res_lexer.specs.Pieces.{same_bytes}
use Rattle.res_lexer.proofs.reserved.is_one_of.Given as goal

abbrev pub invariant-loop-word : goal.invariant-loop-word
invariant-loop-word l = list_any (λ w. same_bytes l.name w.now) l.words ≡ list_any (λ w. same_bytes l.name w.now) (drop l.word-index l.words)
