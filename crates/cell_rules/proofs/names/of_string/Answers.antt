use Rattle.std.proofs.Common.{refl, sym, ◌&&◌, [], ◌∷◌}
use Rattle.str_theory.specs.Forms.{empty, len, less_eq, when, zero as zero_term}
use Rattle.str_theory.specs.Rules.{gives_if}
use Rattle.cell_rules.proofs.names.of_string.Goals as goal

pub returns : goal.returns
returns c = λ t h.
    let conditions = less_eq (len t) zero_term ∷ [] in (
      empty,
      conditions,
      (λ i. when (sym (c.if-not-holds_name.ensures t h) i && sym (c.if-not-is_string.ensures t h) i) (gives_if conditions empty)),
      refl,
      ((len t, zero_term, (t, h, refl), refl, refl), tt),
    )
