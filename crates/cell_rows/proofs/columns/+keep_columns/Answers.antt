use Rattle.std.proofs.Common.{◌≡◌, ◌∙◌, List, Bool, true, false, sym, subst, length, get_or}
use Rattle.std.proofs.lemmas.Bool.{eqb-true}
use Rattle.std.proofs.lemmas.List.{nil_from_length, take_rest}
use Rattle.cell_rows.specs.working.Atoms.{AtomsOrShort}
use Rattle.cell_rows.proofs.Flags.{first_mapped, left_out, no_column, one_column, rest_mapped, short_columns}
use Rattle.cell_rows.proofs.Ordering.{some_from}
use Rattle.cell_rows.proofs.Places.{first_atom}
use Rattle.cell_rows.proofs.columns.+keep_columns.Goals as goal

pub returns-then-not-used-clause-kept : goal.returns-then-not-used-clause-kept
returns-then-not-used-clause-kept m c = λ cells ts test h e.
    let used : List Bool = c.args.used.now in
    let f = first_atom cells ts c.args.atoms.now 0 (some_from (length c.args.atoms.now) (sym c.is_empty.ensures ∙ c.if-is_empty.false)) h in
    let first : test f.first ≡ false = sym (first_mapped test ts f.first f.rest f.same used e false) ∙ c.if-not-used.true in
    subst (λ x. AtomsOrShort cells x c.keep_columns.result c.keep_columns.new.columns) (sym (left_out cells ts test c.args.atoms.now 0 f first))
    (c.keep_columns.ensures.kept cells f.rest test f.rest_stands (take_rest used 1 ∙ rest_mapped test ts f.first f.rest f.same used e))

pub returns-then-is_empty-2-clause-kept : goal.returns-then-is_empty-2-clause-kept
returns-then-is_empty-2-clause-kept m c = λ cells ts test h e.
    let used : List Bool = c.args.used.now in
    let f = first_atom cells ts c.args.atoms.now 0 (some_from (length c.args.atoms.now) (sym c.is_empty.ensures ∙ c.if-is_empty.false)) h in
    let first : test f.first ≡ true = sym (first_mapped test ts f.first f.rest f.same used e false) ∙ c.if-not-used.false in
    no_column cells ts test c.args.atoms.now 0 f c.args.columns.now first (nil_from_length c.args.columns.now (eqb-true (length c.args.columns.now) 0 (sym c.is_empty-2.ensures ∙ c.if-is_empty-2.true)))

pub returns-in_err-more-clause-kept : goal.returns-in_err-more-clause-kept
returns-in_err-more-clause-kept m c = λ cells ts test h e.
    let used : List Bool = c.args.used.now in
    let f = first_atom cells ts c.args.atoms.now 0 (some_from (length c.args.atoms.now) (sym c.is_empty.ensures ∙ c.if-is_empty.false)) h in
    let first : test f.first ≡ true = sym (first_mapped test ts f.first f.rest f.same used e false) ∙ c.if-not-used.false in
    let some = some_from (length c.args.columns.now) (sym c.is_empty-2.ensures ∙ c.if-is_empty-2.false) in
    rw c.from_residual.ensures (short_columns cells ts test c.args.atoms.now 0 f c.args.columns.now c.keep_columns-2.new.columns (get_or c.args.atoms.now 0 0) first some
    (c.in_err-more.ensures.kept cells f.rest test f.rest_stands (take_rest used 1 ∙ rest_mapped test ts f.first f.rest f.same used e)))

pub returns-clause-kept : goal.returns-clause-kept
returns-clause-kept m c = λ cells ts test h e.
    let used : List Bool = c.args.used.now in
    let f = first_atom cells ts c.args.atoms.now 0 (some_from (length c.args.atoms.now) (sym c.is_empty.ensures ∙ c.if-is_empty.false)) h in
    let first : test f.first ≡ true = sym (first_mapped test ts f.first f.rest f.same used e false) ∙ c.if-not-used.false in
    let some = some_from (length c.args.columns.now) (sym c.is_empty-2.ensures ∙ c.if-is_empty-2.false) in
    one_column cells ts test c.args.atoms.now 0 f c.args.columns.now c.keep_columns-2.new.columns (get_or c.args.atoms.now 0 0) c.in_ok-more.more first some f.first_stands
    (c.in_ok-more.ensures.kept cells f.rest test f.rest_stands (take_rest used 1 ∙ rest_mapped test ts f.first f.rest f.same used e))
