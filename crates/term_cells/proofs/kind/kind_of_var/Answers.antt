use Rattle.std.proofs.Common.{◌≡◌, ◌∙◌, ap, Some, w64, rules}
use Rattle.std.proofs.lemmas.Int.{to_z-of_z}
use Rattle.math_terms.specs.declared.descriptor.Sort.TheViews.{out-Sort}
use Rattle.math_terms.specs.Kinds.{forget_option}
use Rattle.math_terms.specs.Sorts.{sort_of_var}
use Rattle.term_cells.specs.KindShown.{is_other, sorts_of_vars}
use Rattle.term_cells.proofs.Kinded.{any_is_other}
use Rattle.term_cells.proofs.kind.kind_of_var.Goals as goal

pub returns-then-k-eq0-clause-shown : goal.returns-then-k-eq0-clause-shown
returns-then-k-eq0-clause-shown c = λ n e.
    let same : Some c.in-Some.k ≡ Some n = c.in-Some.ensures n (to_z-of_z w64 c.args.k (search rules) ∙ e) in
    let zero_is : n ≡ 0 = cc in
    ap (λ k. is_other (out-Sort (forget_option (sort_of_var (sorts_of_vars c.args.vars.now) k)))) zero_is ∙ any_is_other
