use Rattle.std.proofs.Common.{◌≡◌, ◌∙◌, ◌∷◌, List, Bool, sym, ap, length, map, drop, length-drop, false, arith}
use Rattle.math_terms.specs.declared.term.Term.{Term}
use Rattle.cell_rows.proofs.Flags.{counted, one_then, rest_set}
use Rattle.cell_rows.proofs.Ordering.{some_from}
use Rattle.cell_rows.proofs.columns.+clear.Goals as goal

pub returns : goal.returns
returns m c = λ ts e.
    let xs : List Bool = c.args.used.now in
    let some = some_from (length xs) (sym c.is_empty.ensures ∙ c.if-is_empty.false) in
    let t = counted xs ts e some in
    let all : length (drop 1 xs) ≡ length t.1.0 = omega (arith, e, length-drop 1 xs, ap length t.1.1) in
    let rest = c.clear.ensures t.1.0 (ap length (rest_set xs false some) ∙ all) in
    one_then xs false c.clear.new.used some ∙ ap (λ (l : List Bool). false ∷ l) rest ∙ sym (ap (map {A = Term} {B = Bool} (λ u. false)) t.1.1)
