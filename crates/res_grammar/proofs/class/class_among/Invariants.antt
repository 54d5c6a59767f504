use Rattle.std.proofs.Common.{◌≡◌, ◌+◌, map, drop}
use Rattle.res_grammar.specs.Classes.{class_among}
use Rattle.res_grammar.specs.Numbers.{first_word}
use Rattle.res_grammar.proofs.class.class_among.Given as goal

abbrev pub invariant-loop-reserved : goal.invariant-loop-reserved
invariant-loop-reserved l =
    (l.class ≡ first_word + l.reserved-index)
    × (class_among first_word (map (λ w. w.now) l.words) l.word ≡ class_among l.class (map (λ w. w.now) (drop l.reserved-index l.words)) l.word)
