use Rattle.std.proofs.Common.{arith, true, false}
use Rattle.term_cells.specs.KindShown.{sorts_of_vars}
use Rattle.str_theory.specs.Rules.{same_ends}
use Rattle.cell_rules.specs.Chaining.{ends_at, others_equal}
use Rattle.cell_rules.proofs.Chained.{same_given}
use Rattle.cell_rules.proofs.Kept.{grows_more, short_more}
use Rattle.cell_rules.proofs.chains.of_same_ends.Goals as goal

pub returns-then-not-is_same-clause-exact : goal.returns-then-not-is_same-clause-exact
returns-then-not-is_same-clause-exact c = λ t h.
    let s = c.in-Some.ensures t h in
    same_given c.args.cells.now.0 (sorts_of_vars c.args.vars.now) t _ s c.args.end false
    (c.if-not-is_same.ensures _ _ (c.end_part.ensures s.left s.left_stands) (c.end_part-2.ensures s.right s.right_stands))

pub returns-in-Some-put_equal_others-clause-exact : goal.returns-in-Some-put_equal_others-clause-exact
returns-in-Some-put_equal_others-clause-exact c = λ t h.
    let s = c.in-Some.ensures t h in (
      others_equal c.args.end s.left s.right,
      same_given c.args.cells.now.0 (sorts_of_vars c.args.vars.now) t _ s c.args.end true
          (c.if-not-is_same.ensures _ _ (c.end_part.ensures s.left s.left_stands) (c.end_part-2.ensures s.right s.right_stands)),
      c.in-Some-put_equal_others.ensures.standing s.left s.right s.left_stands s.right_stands,
    )

pub returns-in-Some-put_equal_others-clause-grown : goal.returns-in-Some-put_equal_others-clause-grown
returns-in-Some-put_equal_others-clause-grown c = λ t h.
    let s = c.in-Some.ensures t h in
    grows_more _ _ _ _ (c.in-Some-put_equal_others.ensures.grown s.left s.right s.left_stands s.right_stands) (omega (arith, s.smaller))

pub returns-in-None-clause-grown : goal.returns-in-None-clause-grown
returns-in-None-clause-grown c = λ t h.
    let s = c.in-Some.ensures t h in
    grows_more _ _ _ _ (c.in-None.ensures.grown s.left s.right s.left_stands s.right_stands) (omega (arith, s.smaller))

pub returns-in-None-clause-short : goal.returns-in-None-clause-short
returns-in-None-clause-short c = λ t h.
    let s = c.in-Some.ensures t h in
    short_more _ _ _ (c.in-None.ensures.short s.left s.right s.left_stands s.right_stands) (omega (arith, s.smaller))

pub returns-in_default-clause-exact : goal.returns-in_default-clause-exact
returns-in_default-clause-exact c = λ t h. c.in_default.ensures t h (λ xs ys. ends_at c.args.end xs ys same_ends)
