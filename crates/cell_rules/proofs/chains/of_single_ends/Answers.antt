use Rattle.std.proofs.Common.{arith}
use Rattle.term_cells.specs.KindShown.{sorts_of_vars}
use Rattle.str_theory.specs.Rules.{single_ends}
use Rattle.cell_rules.specs.Chaining.{ends_at, singles_equal}
use Rattle.cell_rules.proofs.Chained.{singles_given, singles_none}
use Rattle.cell_rules.proofs.Kept.{grows_more, short_more}
use Rattle.cell_rules.proofs.chains.of_single_ends.Goals as goal

pub returns-in_default-single_ends-clause-exact : goal.returns-in_default-single_ends-clause-exact
returns-in_default-single_ends-clause-exact c = λ t h.
    let s = c.in-Some.ensures t h in
    singles_none c.args.cells.now.0 (sorts_of_vars c.args.vars.now) t _ s c.args.end (c.in_default-single_ends.ensures s.left s.right s.left_stands s.right_stands)

pub returns-in-Some-put_equal_singles-clause-exact : goal.returns-in-Some-put_equal_singles-clause-exact
returns-in-Some-put_equal_singles-clause-exact c = λ t h.
    let s = c.in-Some.ensures t h in
    let q = c.in-Some-single_ends.ensures s.left s.right s.left_stands s.right_stands in (
      singles_equal c.args.end q.0 q.1 s.left s.right,
      singles_given c.args.cells.now.0 (sorts_of_vars c.args.vars.now) t _ s c.args.end q.0 q.1 q.4,
      c.in-Some-put_equal_singles.ensures.standing s.left s.right q.0 q.1 s.left_stands s.right_stands q.2 q.3,
    )

pub returns-in-Some-put_equal_singles-clause-grown : goal.returns-in-Some-put_equal_singles-clause-grown
returns-in-Some-put_equal_singles-clause-grown c = λ t h.
    let s = c.in-Some.ensures t h in
    grows_more _ _ _ _ (c.in-Some-put_equal_singles.ensures.grown s.left s.right s.left_stands s.right_stands) (omega (arith, s.smaller))

pub returns-in-None-clause-grown : goal.returns-in-None-clause-grown
returns-in-None-clause-grown c = λ t h.
    let s = c.in-Some.ensures t h in
    grows_more _ _ _ _ (c.in-None.ensures.grown s.left s.right s.left_stands s.right_stands) (omega (arith, s.smaller))

pub returns-in-None-clause-short : goal.returns-in-None-clause-short
returns-in-None-clause-short c = λ t h.
    let s = c.in-Some.ensures t h in
    short_more _ _ _ (c.in-None.ensures.short s.left s.right s.left_stands s.right_stands) (omega (arith, s.smaller))

pub returns-in_default-clause-exact : goal.returns-in_default-clause-exact
returns-in_default-clause-exact c = λ t h. c.in_default.ensures t h (λ xs ys. ends_at c.args.end xs ys single_ends)
