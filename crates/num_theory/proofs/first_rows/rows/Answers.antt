use Rattle.std.proofs.Common.{◌≡◌, ◌∙◌, sym, ap, subst}
use Rattle.num_theory.specs.working.Gathering.{gathered_of, no_rows, with_sums}
use Rattle.num_theory.specs.Table.{Gathered, IsFew, IsRowRefusal, IsTable, gathered, rows_of, sums_from, table_of, with_all_facts}
use Rattle.num_theory.proofs.RowMeaning.{rows_true_along}
use Rattle.num_theory.proofs.Tables.{refusal_grows_all}
use Rattle.num_theory.proofs.first_rows.rows.Goals as goal

pub returns-in-Err-clause-refused : goal.returns-in-Err-clause-refused
returns-in-Err-clause-refused c =
    let sums = sums_from c.args.vars.now 1 c.args.formulas.now in
    let refused = subst (λ g. IsRowRefusal c.in-Err.e (with_sums g sums)) c.empty_table-table.ensures c.in-Err.ensures in
    refusal_grows_all c.in-Err.e 64 0 (with_sums no_rows sums) refused

pub returns-in_ok-table_of-in-Ok-add_all_facts-clause-meaning : goal.returns-in_ok-table_of-in-Ok-add_all_facts-clause-meaning
returns-in_ok-table_of-in-Ok-add_all_facts-clause-meaning c =
    let vars = c.args.vars.now in
    let formulas = c.args.formulas.now in
    let table : Gathered = gathered_of c.add_all_facts.new.table in
    let begun = c.in-Ok.ensures.0 ∙ ap (λ g. with_sums g (sums_from vars 1 formulas)) c.empty_table-table.ensures in
    let whole : table ≡ gathered 64 vars formulas = c.in-Ok-add_all_facts.ensures.0 ∙ ap (with_all_facts 64 0) begun in
    rows_true_along formulas _ _ _ _
    (c.in_ok-table_of-in-Ok-add_all_facts.ensures.0 ∙ ap (λ (g : Gathered). g.atoms) whole)
    (c.in_ok-table_of-in-Ok-add_all_facts.ensures.1 ∙ ap rows_of whole)
    (c.rows_follow.ensures 64 vars formulas)

pub returns-in_ok-table_of-in-Ok-add_all_facts-clause-table : goal.returns-in_ok-table_of-in-Ok-add_all_facts-clause-table
returns-in_ok-table_of-in-Ok-add_all_facts-clause-table c =
    let vars = c.args.vars.now in
    let formulas = c.args.formulas.now in
    let table : Gathered = gathered_of c.add_all_facts.new.table in
    let begun = c.in-Ok.ensures.0 ∙ ap (λ g. with_sums g (sums_from vars 1 formulas)) c.empty_table-table.ensures in
    let whole : table ≡ gathered 64 vars formulas = c.in-Ok-add_all_facts.ensures.0 ∙ ap (with_all_facts 64 0) begun in
    let is : table_of table ≡ table_of (gathered 64 vars formulas) = ap table_of whole in
    let made : c.in_ok-table_of-in-Ok-add_all_facts.field-0 ≡ table_of table = (λ i. record {
      atoms = c.in_ok-table_of-in-Ok-add_all_facts.ensures.0 i;
      rows = c.in_ok-table_of-in-Ok-add_all_facts.ensures.1 i;
      names = c.in_ok-table_of-in-Ok-add_all_facts.ensures.2 i;
    }) in
    subst IsTable (sym (made ∙ is)) (c.rows_fit.ensures 64 vars formulas (subst IsFew (ap (with_all_facts 64 0) begun) c.in-Ok-add_all_facts.ensures.1))
