use Rattle.std.proofs.Common.{◌+◌, ◌<◌, List, length, map, drop, string_bytes, subst, arith}
use Rattle.command_words.specs.Words.{Word}
use Rattle.command_words.specs.working.Reading.{options_for, IsState}
use Rattle.command_words.proofs.Gathering.{rest-step}
use Rattle.command_words.proofs.words.gather.Goals as goal

pub returns-in-None : goal.returns-in-None
returns-in-None c =
    let names = options_for c.args.verb in
    let words : List Word = map string_bytes c.args.words.now in
    let P : List Word → Type 0 = λ ws. IsState names words ws c.loop-word.state in
    let below : c.loop-word.word-index < length c.args.words.now = omega arith in
    let left = rest-step string_bytes c.args.words.now c.loop-word.word-index c.word-item.result c.deref.result.now below c.word-item.is c.deref.ensures in
    c.in-None.ensures.state words (drop (c.loop-word.word-index + 1) words) (subst P left c.loop-word.invariant.0)

pub loop-word-preserved : goal.loop-word-preserved
loop-word-preserved c =
    let names = options_for c.args.verb in
    let words : List Word = map string_bytes c.args.words.now in
    let P : List Word → Type 0 = λ ws. IsState names words ws c.loop-word.state in
    let below : c.loop-word.word-index < length c.args.words.now = omega arith in
    let left = rest-step string_bytes c.args.words.now c.loop-word.word-index c.word-item.result c.deref.result.now below c.word-item.is c.deref.ensures in
    (c.in-Some.ensures.state words (drop (c.loop-word.word-index + 1) words) (subst P left c.loop-word.invariant.0), omega (arith, c.in-Some.ensures.counted, c.loop-word.invariant.1))
