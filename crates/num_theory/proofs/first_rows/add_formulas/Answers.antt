use Rattle.std.proofs.Common.{◌≡◌, ◌+◌, ◌∙◌, sym, ap, subst, take, arith}
use Rattle.num_theory.specs.working.Gathering.{gathered_of, with_sums}
use Rattle.num_theory.specs.Table.{IsFew, IsRowRefusal, sums_from, sums_of}
use Rattle.num_theory.proofs.Tables.{refusal_grows_formulas, sums_from_more, with_sums-append}
use Rattle.num_theory.proofs.first_rows.add_formulas.Goals as goal

pub returns-in-Err : goal.returns-in-Err
returns-in-Err c =
    let vars = c.args.vars.now in
    let old = gathered_of c.args.table.now in
    let fs = c.args.formulas.now in
    let k = c.loop-k.k in
    let f = c.index-formulas-k.result in
    let one : k + 1 ≡ 1 + k = omega arith in
    let more : with_sums (gathered_of c.loop-k.table) (sums_of vars (k + 1) f) ≡ with_sums old (sums_from vars 1 (take (k + 1) fs)) =
    (λ i. with_sums (c.loop-k.invariant.added i) (sums_of vars (one i) f))
    ∙ with_sums-append old (sums_from vars 1 (take k fs)) (sums_of vars (1 + k) f)
    ∙ ap (with_sums old) (sym (sums_from_more vars 1 fs k f (omega arith) c.index-formulas-k.is)) in
    refusal_grows_formulas c.in-Err.e old vars 1 fs (k + 1) (subst (IsRowRefusal c.in-Err.e) more c.in-Err.ensures)

pub loop-k-preserved : goal.loop-k-preserved
loop-k-preserved c =
    let vars = c.args.vars.now in
    let old = gathered_of c.args.table.now in
    let fs = c.args.formulas.now in
    let k = c.loop-k.k in
    let f = c.index-formulas-k.result in
    let one : k + 1 ≡ 1 + k = omega arith in
    let more : with_sums (gathered_of c.loop-k.table) (sums_of vars (k + 1) f) ≡ with_sums old (sums_from vars 1 (take (k + 1) fs)) =
    (λ i. with_sums (c.loop-k.invariant.added i) (sums_of vars (one i) f))
    ∙ with_sums-append old (sums_from vars 1 (take k fs)) (sums_of vars (1 + k) f)
    ∙ ap (with_sums old) (sym (sums_from_more vars 1 fs k f (omega arith) c.index-formulas-k.is)) in
    record { added = c.in-Ok.ensures.0 ∙ more; few = subst IsFew (sym c.in-Ok.ensures.0) c.in-Ok.ensures.1 }
