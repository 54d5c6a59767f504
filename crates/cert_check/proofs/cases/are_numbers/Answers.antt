use Rattle.std.proofs.Common.{◌≡◌, sym, ◌∙◌, ap, map, ◌&&◌}
use Rattle.math_terms.specs.Kinds.{kind, sort_of_desc}
use Rattle.math_terms.specs.Sorts.{is_z}
use Rattle.cert_check.proofs.KindTests.{number_told}
use Rattle.cert_check.proofs.cases.are_numbers.Goals as goal

pub returns-then-is_number : goal.returns-then-is_number
returns-then-is_number c = λ t u left right.
    let first : c.is_number.result ≡ is_z (kind (map (λ v. sort_of_desc v.1) c.args.vars.now) t) = number_told c.is_number.result (kind (map (λ v. sort_of_desc v.1) c.args.vars.now) t) (c.is_number.ensures t left) in
    let second : c.is_number-then-is_number.result ≡ is_z (kind (map (λ v. sort_of_desc v.1) c.args.vars.now) u) = number_told c.is_number-then-is_number.result (kind (map (λ v. sort_of_desc v.1) c.args.vars.now) u) (c.is_number-then-is_number.ensures u right) in
    second ∙ ap (λ a. a && is_z (kind (map (λ v. sort_of_desc v.1) c.args.vars.now) u)) (sym c.if-is_number.true ∙ first)

pub returns-else-is_number : goal.returns-else-is_number
returns-else-is_number c = λ t u left right.
    let first : c.is_number.result ≡ is_z (kind (map (λ v. sort_of_desc v.1) c.args.vars.now) t) = number_told c.is_number.result (kind (map (λ v. sort_of_desc v.1) c.args.vars.now) t) (c.is_number.ensures t left) in
    c.if-is_number.false ∙ ap (λ a. a && is_z (kind (map (λ v. sort_of_desc v.1) c.args.vars.now) u)) (sym c.if-is_number.false ∙ first)
