use Rattle.std.proofs.Common.{◌≡◌, ◌+◌, ◌-◌, ◌∙◌, sym, ap, subst, pos, get_or, arith}
use Rattle.std.proofs.lemmas.List.{get_or_default}
use Rattle.math_terms.specs.declared.term.Term.{Term}
use Rattle.num_theory.specs.working.Gathering.{gathered_of}
use Rattle.num_theory.specs.Table.{IsFew, IsRowRefusal, num, with_all_facts, with_facts}
use Rattle.num_theory.proofs.Tables.{facts_end, facts_past, facts_step, refusal_grows_all}
use Rattle.num_theory.proofs.first_rows.add_all_facts.Goals as goal

pub returns-then-i-len : goal.returns-then-i-len
returns-then-i-len c =
    let g = gathered_of c.loop-i.table in
    let whole = with_all_facts 64 0 (gathered_of c.args.table.now) in
    let ended : whole ≡ g = facts_past c.loop-i.i whole g (omega arith) c.loop-i.invariant.left in
    (sym ended, subst IsFew (sym ended) c.loop-i.invariant.few)

pub returns-in-Err : goal.returns-in-Err
returns-in-Err c =
    let g = gathered_of c.loop-i.table in
    let i = c.loop-i.i in
    let d : Term = num (pos 0) in
    let atom : Term = get_or g.atoms i d in
    let whole = with_all_facts 64 0 (gathered_of c.args.table.now) in
    let step = facts_step i whole g d (omega arith) (omega arith) c.loop-i.invariant.left in
    let refused = c.in-Err.ensures.added atom (get_or_default g.atoms i d atom (omega arith)) in
    subst (IsRowRefusal c.in-Err.e) (sym step) (refusal_grows_all c.in-Err.e (64 - (i + 1)) (i + 1) (with_facts g atom) refused)

pub loop-i-preserved : goal.loop-i-preserved
loop-i-preserved c =
    let g = gathered_of c.loop-i.table in
    let i = c.loop-i.i in
    let d : Term = num (pos 0) in
    let atom : Term = get_or g.atoms i d in
    let whole = with_all_facts 64 0 (gathered_of c.args.table.now) in
    let step = facts_step i whole g d (omega arith) (omega arith) c.loop-i.invariant.left in
    let added = c.in-Ok.ensures.added atom (get_or_default g.atoms i d atom (omega arith)) in
    record {
      left = step ∙ ap (with_all_facts (64 - (i + 1)) (i + 1)) (sym added.0);
      few = subst IsFew (sym added.0) added.1;
      counted = omega (arith, c.in-Ok.ensures.counted);
    }

pub returns : goal.returns
returns c =
    let g = gathered_of c.loop-i.table in
    let whole = with_all_facts 64 0 (gathered_of c.args.table.now) in
    let ended : whole ≡ g = facts_end c.loop-i.i whole g (omega arith) c.loop-i.invariant.left in
    (sym ended, subst IsFew (sym ended) c.loop-i.invariant.few)
