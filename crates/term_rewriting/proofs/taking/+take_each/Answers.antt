use Rattle.std.proofs.Common.{◌∙◌, ◌++◌, sym, ap}
use Rattle.std.proofs.lemmas.List.{append-nil, nil_from_length}
use Rattle.term_rewriting.proofs.Listed.{if_ok, listed, none_stand, put_then}
use Rattle.term_rewriting.proofs.taking.+take_each.Goals as goal

pub returns-in_default : goal.returns-in_default
returns-in_default t c = λ ts h.
    let none = none_stand c.args.cells.now.0 ts c.args.places.now (nil_from_length c.args.places.now c.in_default.ensures.cases) h in
    sym (append-nil c.args.out.now) ∙ ap (λ us. c.args.out.now ++ us) (sym none)

pub returns : goal.returns
returns t c = λ ts h.
    let l = listed c.args.cells.now.0 ts c.args.places.now c.in-Some.first.now c.in-Some.rest.now c.in-Some.ensures.cases.0 h in
    if_ok c.take_each.result (λ n. put_then _ _ _ _ _ _ _ c.in_ok-push.ensures.ok (c.in_ok-take.ensures l.first l.first_stands) l.terms_are n) (c.take_each.ensures l.rest l.rest_stand)
