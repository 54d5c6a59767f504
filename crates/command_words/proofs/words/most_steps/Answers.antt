use Rattle.std.proofs.Common.{refl}
use Rattle.command_words.specs.Words.{most_steps}
use Rattle.command_words.proofs.words.most_steps.Goals as goal

pub returns : goal.returns
unfolding most_steps
returns c = refl
