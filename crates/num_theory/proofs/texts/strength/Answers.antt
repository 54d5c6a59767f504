use Rattle.std.proofs.Common.{◌∙◌, sym, ap}
use Rattle.num_theory.specs.Texts.{Piece, piece, text_step}
use Rattle.num_theory.proofs.Heads.{fold_at_two}
use Rattle.num_theory.proofs.texts.strength.Goals as goal

pub returns-in-Two : goal.returns-in-Two
returns-in-Two c =
    let a = c.in-Two.field-1.now in
    let b = c.in-Two.field-2.now in
    sym (ap (λ (p : Piece). p.0) (fold_at_two text_step c.in-Two.op a b c.args.t.now c.in-Two.ensures ∙ c.operator_of.ensures (piece a) (piece b)))
