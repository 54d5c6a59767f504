use Rattle.std.proofs.Common.{◌≡◌, ◌∙◌, sym, ap, subst, pos, true, ◌&&◌, List, [], ◌++◌, if◌then◌else◌}
use Rattle.math_terms.specs.declared.name.RowName.TheVariants.{Hyp, Second}
use Rattle.math_terms.specs.Kinds.{kind}
use Rattle.math_terms.specs.Sorts.{is_z}
use Rattle.num_theory.specs.working.Gathering.{gathered_of, with_sums}
use Rattle.num_theory.specs.Table.{IsRowRefusal, Sum, difference, sums_of_equation}
use Rattle.num_theory.proofs.Tables.{refusal_grows}
use Rattle.num_theory.proofs.gathering.add_equation.Goals as goal

pub returns-in-Err : goal.returns-in-Err
returns-in-Err c =
    let vars = c.args.vars.now in
    let a = c.args.a.now in
    let b = c.args.b.now in
    let old = gathered_of c.args.table.now in
    let first : List Sum = difference (Hyp c.args.k) (pos 0) a b in
    let second : List Sum = difference (Second c.args.k) (pos 0) b a in
    let numbers : (is_z (kind vars a) && is_z (kind vars b)) ≡ true =
    sym c.in_ok-are_numbers.ensures ∙ c.if-not-branch.false in
    let rows : first ++ second ≡ sums_of_equation vars c.args.k a b = ap (λ n. if n then first ++ second else []) (sym numbers) in
    subst (λ ss. IsRowRefusal c.in-Err.e (with_sums old ss)) rows (refusal_grows c.in-Err.e old first second c.in-Err.ensures)
