use Rattle.math_terms.proofs.Counting.{count_up_to_tuple}
use Rattle.math_terms.proofs.nodes.+count.Goals as goal

pub count-returns-in-Tuple : goal.count-returns-in-Tuple
count-returns-in-Tuple t c = cc (count_up_to_tuple c.args.v c.args.weight c.args.most c.in-Tuple.parts)
