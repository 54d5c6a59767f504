use Rattle.resolve_cli.proofs.OneAnswer.{RefusalLaws, one_answer}
use Rattle.resolve_cli.proofs.answer_laws.one_answer.Goals as goal

pub returns : goal.returns
returns c =
    let laws : RefusalLaws = record {
      texts = record { read_or_refused = c.read_or_refused.ensures; one_spelling = c.one_spelling.ensures.one; spelled_not_refused = c.one_spelling.ensures.read; one_syntax = c.one_spelling.ensures.refused };
      one_refusal = c.one_refusal.ensures;
      one_first = c.one_first.ensures;
      none_first = c.none_first.ensures;
    } in
    one_answer laws
