use Rattle.cell_rules.proofs.rewriting.Rule.apply.Goals as goal

pub returns-in-Some-put_sketch-clause-exact : goal.returns-in-Some-put_sketch-clause-exact
returns-in-Some-put_sketch-clause-exact c = λ f t fact h answered.
    let s = c.in-Some.ensures f t fact h answered in
    ((s.0, s.1), s.2, c.in-Some-put_sketch.ensures.standing s.0 s.1 s.3 s.4)
