use Rattle.std.proofs.Common.{◌≡◌, ◌+◌, ◌*◌, true, map, sum_by, take}
use Rattle.std.specs.List.{list_all}
use Rattle.math_terms.specs.Terms.{nodes}
use Rattle.math_terms.specs.Values.{denotes}
use Rattle.math_terms.specs.Plain.{is_plain}
use Rattle.math_terms.specs.working.Evaluating.{plain_value}
use Rattle.math_terms.proofs.evaluation.+evaluate.Given as goal

abbrev pub invariant-evaluate_tuple-loop-t : goal.invariant-evaluate_tuple-loop-t
invariant-evaluate_tuple-loop-t l = record {
  values : map denotes l.out ≡ map plain_value (take l.t-index l.parts);
  plain : list_all is_plain (take l.t-index l.parts) ≡ true;
}

abbrev pub decreases-evaluate : goal.decreases-evaluate
decreases-evaluate l = 2 * nodes l.t.now

abbrev pub decreases-evaluate_tuple : goal.decreases-evaluate_tuple
decreases-evaluate_tuple l = 2 * sum_by nodes l.parts.now + 1
