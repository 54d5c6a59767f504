use Rattle.std.proofs.Common.{◌≡◌, ◌∙◌, ap, subst, IfOk, ◌+◌, ◌++◌}
use Rattle.math_terms.specs.Filling.{filled}
use Rattle.type_inst.specs.Assertions.{assertion, names_in}
use Rattle.type_inst.specs.Descriptors.{numbers_from, types_from}
use Rattle.facility_bind.specs.Clauses.{clause_of}
use Rattle.facility_bind.proofs.clauses.Binding.clause.Goals as goal

pub returns : goal.returns
unfolding clause_of
returns c =
    let formals = c.as_slice-formals.ensures in
    let of = c.args.self.now.inner.now.formals in
    let names : c.as_slice.result.now ≡ c.args.names ++ numbers_from (c.args.before + 1) of =
    c.as_slice.ensures ∙ c.in_ok-add_numbers.ensures ∙ (λ i. c.args.names ++ numbers_from (c.in_ok-sum.ensures i) (formals i)) in
    let types : c.as_slice-2.result.now ≡ types_from 0 of = c.as_slice-2.ensures ∙ c.in_ok-types.ensures ∙ ap (types_from 0) formals in
    let t : c.in_ok-t.t ≡ assertion (names_in (c.args.names ++ numbers_from (c.args.before + 1) of) (types_from 0 of)) c.args.e.now =
    c.in_ok-t.ensures ∙ (λ i. assertion (names_in (names i) (types i)) c.args.e.now) in
    subst (λ x. IfOk c.filled.result (λ u. u ≡ x)) (λ i. filled (c.as_slice-3.ensures i) (c.as_slice-4.ensures i) (t i)) c.filled.ensures
