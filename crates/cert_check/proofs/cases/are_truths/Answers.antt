use Rattle.std.proofs.Common.{◌≡◌, sym, ◌∙◌, ap, map, ◌&&◌}
use Rattle.math_terms.specs.Kinds.{kind, sort_of_desc}
use Rattle.math_terms.specs.Sorts.{is_b}
use Rattle.cert_check.proofs.KindTests.{truth_told}
use Rattle.cert_check.proofs.cases.are_truths.Goals as goal

pub returns-then-is_truth : goal.returns-then-is_truth
returns-then-is_truth c = λ t u left right.
    let first : c.is_truth.result ≡ is_b (kind (map (λ v. sort_of_desc v.1) c.args.vars.now) t) = truth_told c.is_truth.result (kind (map (λ v. sort_of_desc v.1) c.args.vars.now) t) (c.is_truth.ensures t left) in
    let second : c.is_truth-then-is_truth.result ≡ is_b (kind (map (λ v. sort_of_desc v.1) c.args.vars.now) u) = truth_told c.is_truth-then-is_truth.result (kind (map (λ v. sort_of_desc v.1) c.args.vars.now) u) (c.is_truth-then-is_truth.ensures u right) in
    second ∙ ap (λ a. a && is_b (kind (map (λ v. sort_of_desc v.1) c.args.vars.now) u)) (sym c.if-is_truth.true ∙ first)

pub returns-else-is_truth : goal.returns-else-is_truth
returns-else-is_truth c = λ t u left right.
    let first : c.is_truth.result ≡ is_b (kind (map (λ v. sort_of_desc v.1) c.args.vars.now) t) = truth_told c.is_truth.result (kind (map (λ v. sort_of_desc v.1) c.args.vars.now) t) (c.is_truth.ensures t left) in
    c.if-is_truth.false ∙ ap (λ a. a && is_b (kind (map (λ v. sort_of_desc v.1) c.args.vars.now) u)) (sym c.if-is_truth.false ∙ first)
