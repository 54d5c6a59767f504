use Rattle.std.proofs.Common.{◌≡◌, ◌+◌, ◌∙◌, sym, ap, subst, take, arith}
use Rattle.num_theory.specs.working.Gathering.{gathered_of, with_each_fact, with_fact}
use Rattle.num_theory.specs.Table.{Gathered, IsFew, IsRowRefusal}
use Rattle.num_theory.proofs.Tables.{refusal_grows_facts, with_each_fact_more}
use Rattle.num_theory.proofs.gathering.add_facts.Goals as goal

pub returns-in-Err : goal.returns-in-Err
returns-in-Err c =
    let old = gathered_of c.args.table.now in
    let facts = c.args.facts.now in
    let i = c.loop-fact.fact-index in
    let fact = c.fact-item.result in
    let more : with_fact (gathered_of c.loop-fact.table) fact ≡ with_each_fact old (take (i + 1) facts) =
    ap (λ g. with_fact g fact) c.loop-fact.invariant.added ∙ sym (with_each_fact_more old facts i fact (omega arith) c.fact-item.is) in
    refusal_grows_facts c.in-Err.e old facts (i + 1) (subst (IsRowRefusal c.in-Err.e) more c.in-Err.ensures)

pub loop-fact-preserved : goal.loop-fact-preserved
loop-fact-preserved c =
    let old = gathered_of c.args.table.now in
    let facts = c.args.facts.now in
    let i = c.loop-fact.fact-index in
    let fact = c.fact-item.result in
    let more : with_fact (gathered_of c.loop-fact.table) fact ≡ with_each_fact old (take (i + 1) facts) =
    ap (λ g. with_fact g fact) c.loop-fact.invariant.added ∙ sym (with_each_fact_more old facts i fact (omega arith) c.fact-item.is) in
    let counted : c.add_fact.new.table.facts ≡ c.loop-fact.table.facts + 1 = ap (λ (g : Gathered). g.facts) c.in-Ok.ensures.0 in
    record {
      added = c.in-Ok.ensures.0 ∙ more;
      few = subst IsFew (sym c.in-Ok.ensures.0) c.in-Ok.ensures.1;
      counted = omega arith;
    }
