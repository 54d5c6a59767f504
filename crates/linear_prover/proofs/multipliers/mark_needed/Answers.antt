use Rattle.std.proofs.Common.{◌≡◌, ◌-◌, ◌∙◌, ap, subst, get_or, arith}
use Rattle.std.proofs.lemmas.List.{get_or_default}
use Rattle.linear_prover.specs.declared.rows_in_hand.Combination.{Combination}
use Rattle.linear_prover.specs.working.Eliminating.{marked}
use Rattle.linear_prover.proofs.Marking.{IsKeeping, keeping_start, keeping_turn, keeping_skip, keeping_end, closed_turn, closed_skip}
use Rattle.linear_prover.proofs.multipliers.mark_needed.Goals as goal

pub loop-at-init : goal.loop-at-init
loop-at-init c = record {
  within = omega arith;
  needed = λ needed are. keeping_start c.args.n c.args.flags.now c.args.made.now needed c.requires.same_length are;
  closed = λ k d from to. absurd (omega arith);
}

pub loop-at-preserved-then-flags-at : goal.loop-at-preserved-then-flags-at
loop-at-preserved-then-flags-at c =
    let n = c.args.n in
    let at = c.loop-at.at - 1 in
    let made = c.args.made.now in
    let d : Combination = record { p = 0; i = 0; q = 0; j = 0 } in
    let usable = c.requires.usable at d (omega arith) in
    let is = get_or_default made at (get_or made at d) d (omega arith) in
    let marks : c.mark-then-flags-at.new.flags ≡ marked n (marked n c.loop-at.flags (get_or made at d).i) (get_or made at d).j =
    c.mark-then-flags-at.ensures ∙ ap (λ fs. marked n fs (get_or made at d).j) c.mark.ensures in
    record {
      within = omega arith;
      needed = λ needed are. keeping_turn n at c.loop-at.at c.loop-at.flags c.mark-then-flags-at.new.flags made (get_or made at d) needed (omega arith) (omega arith) (omega arith)
          is usable.first_row usable.second_row c.if-flags-at.true marks (c.loop-at.invariant.needed needed are);
      closed = closed_turn n at c.loop-at.at c.loop-at.flags c.mark-then-flags-at.new.flags made (get_or made at d) (omega arith) (omega arith) (omega arith)
          is usable.first_row usable.second_row marks c.loop-at.invariant.closed;
    }

pub loop-at-preserved : goal.loop-at-preserved
loop-at-preserved c = record {
  within = omega arith;
  needed = λ needed are. keeping_skip c.args.n (c.loop-at.at - 1) c.loop-at.at c.loop-at.flags c.args.made.now needed (omega arith) (omega arith) (omega arith)
      c.if-flags-at.false (c.loop-at.invariant.needed needed are);
  closed = closed_skip c.args.n (c.loop-at.at - 1) c.loop-at.at c.loop-at.flags c.args.made.now (omega arith) c.if-flags-at.false c.loop-at.invariant.closed;
}

pub returns-clause-needed : goal.returns-clause-needed
returns-clause-needed c = λ needed are.
    keeping_end c.args.n c.loop-at.flags c.args.made.now needed
    (subst (λ m. IsKeeping c.args.n m c.loop-at.flags c.args.made.now needed) (omega arith) (c.loop-at.invariant.needed needed are))
