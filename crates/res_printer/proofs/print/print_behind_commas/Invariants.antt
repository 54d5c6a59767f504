use Rattle.std.proofs.Common.{◌≡◌, ◌∷◌, []}
use Rattle.res_printer.specs.Pieces.{comma, each, row}
use Rattle.res_printer.proofs.print.print_behind_commas.Given as goal

abbrev pub invariant-loop-item : goal.invariant-loop-item
invariant-loop-item g l =
    each (λ x. row (comma ∷ g.T.Print.piece x ∷ [])) l.items l.initial.out ≡ each (λ x. row (comma ∷ g.T.Print.piece x ∷ [])) l.item-iterator.iter.rest.now l.out
