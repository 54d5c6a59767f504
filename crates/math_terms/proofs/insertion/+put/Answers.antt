use Rattle.std.proofs.Common.{◌∙◌, sym, ap}
use Rattle.std.proofs.lemmas.Option.{slice_get_past}
use Rattle.math_terms.specs.declared.term.Term.TheVariants.{Initial, rolls-Initial}
use Rattle.math_terms.specs.Filling.{filled, initial_about}
use Rattle.math_terms.proofs.insertion.+put.Goals as goal

pub initial-returns-in_ok-fill_boxed-in-None : goal.initial-returns-in_ok-fill_boxed-in-None
initial-returns-in_ok-fill_boxed-in-None t c =
    let x = filled c.args.vars.now c.args.descs.now c.args.a.now in
    ap (Initial c.args.k) c.in_ok-fill_boxed-in-None.ensures
    ∙ sym (rolls-Initial c.args.k x)
    ∙ ap (λ o. initial_about o c.args.k x) (sym (slice_get_past c.args.descs.now c.args.k c.in-None.ensures.lookup.3))
