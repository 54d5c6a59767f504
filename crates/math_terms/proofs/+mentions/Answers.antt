use Rattle.std.proofs.Common.{◌∙◌, sym}
use Rattle.math_terms.proofs.Mentioned.{mentions_at_tuple}
use Rattle.math_terms.proofs.+mentions.Goals as goal

pub term::Term::mentions-returns-in-Tuple : goal.term::Term::mentions-returns-in-Tuple
term::Term::mentions-returns-in-Tuple t c =
    c.some_mentions.ensures ∙ sym (mentions_at_tuple c.args.v c.in-Tuple.parts.now c.args.self.now c.in-Tuple.ensures)
