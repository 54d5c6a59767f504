use Rattle.std.proofs.Common.{◌≡◌, subst, MatchOption, None, Some, Vec, ℕ, Option}
use Rattle.std.specs.declared.alloc.Global.{Global}
use Rattle.vc_sequents.specs.declared.sequent.Sequent.{Sequent}
use Rattle.vc_prover.specs.Search.{splitting}
use Rattle.vc_prover.proofs.Standing.{opens, refuses}
use Rattle.vc_prover.proofs.search.open.Goals as goal

split : (c : goal.After-put) → splitting c.args.next.now ≡ Some (c.in-Some.k, c.in-Some.parts.items)
split c =
    let P : Option (ℕ × Vec Sequent Global) → Type 0 = λ o. MatchOption o (splitting c.args.next.now ≡ None) (λ p. splitting c.args.next.now ≡ Some (p.0, p.1.items)) in
    subst P c.in-Some.is c.in_ok-k.ensures.exact

pub returns-in-Some-clause-ok : goal.returns-in-Some-clause-ok
returns-in-Some-clause-ok c =
    opens c.args.next.now c.requires.small c.in-Some.k c.in-Some.parts.items (split c) c.args.todo.now.items c.args.done.now c.put.new.todo.items c.put.new.done c.put.result c.put.ensures.small c.put.ensures.put
    c.put.ensures.added c.put.ensures.ends_stay

pub returns-in-Some-clause-refused : goal.returns-in-Some-clause-refused
returns-in-Some-clause-refused c = refuses c.args.next.now c.requires.small c.in-Some.k c.in-Some.parts.items (split c) c.put.result c.put.ensures.refused
