use Rattle.std.proofs.Common.{◌≡◌, ◌∙◌, ◌+◌, ◌∷◌, ap, subst, refl, suc, ℤ, drop, get_or, arith}
use Rattle.std.proofs.Math.Seq.{drop-cons}
use Rattle.std.proofs.lemmas.List.{drop_all}
use Rattle.math_terms.specs.declared.name.Line.{Line}
use Rattle.num_theory.specs.Lines.{sum_by, with_lines}
use Rattle.cell_rows.proofs.Looking.{Replayed, line_replayed}
use Rattle.cell_rows.proofs.Replaying.{line_makes_none, not_added}
use Rattle.cell_rows.proofs.lines.replay.Goals as goal

pub loop-line-init : goal.loop-line-init
loop-line-init c = record {
  counted = omega arith;
  within = c.requires.counted;
  replayed = λ rows h. record { now = rows; same = refl; stand = h };
}

pub loop-line-preserved : goal.loop-line-preserved
loop-line-preserved c =
    let lines = c.args.lines.now in
    let k = c.loop-line.line-index in
    let none : Line = record { p = ℤ.pos 0; i = 0; q = ℤ.pos 0; j = 0 } in
    let line = get_or lines k none in
    let inv = c.loop-line.invariant in
    record {
      counted = omega (arith, inv.counted);
      within = c.in-Ok.ensures.within c.if-not-added.false;
      replayed = λ rows h.
          let before = inv.replayed rows h in
          let next : drop k lines ≡ line ∷ drop (suc k) lines = drop-cons lines k none (omega arith) in
          let one : suc k ≡ k + 1 = omega arith in
          subst (λ n. Replayed c.args.width lines (drop n lines) rows (c.loop-line.total + 1) c.add_line.new.places) one
          (line_replayed c.args.width c.loop-line.total line (drop (suc k) lines) lines rows before.now (sum_by before.now line) c.in-Ok.added c.add_line.new.places refl c.if-not-added.false (c.in-Ok.ensures.added before.now before.stand)
          (before.same ∙ ap (λ ls. with_lines ls before.now) next));
    }

pub returns-then-not-added-clause-replayed : goal.returns-then-not-added-clause-replayed
returns-then-not-added-clause-replayed c = λ rows h.
    let lines = c.args.lines.now in
    let k = c.loop-line.line-index in
    let none : Line = record { p = ℤ.pos 0; i = 0; q = ℤ.pos 0; j = 0 } in
    let line = get_or lines k none in
    let before = c.loop-line.invariant.replayed rows h in
    let next : drop k lines ≡ line ∷ drop (suc k) lines = drop-cons lines k none (omega arith) in
    before.same ∙ ap (λ ls. with_lines ls before.now) next
    ∙ line_makes_none line (drop (suc k) lines) before.now (not_added c.args.width c.loop-line.total (sum_by before.now line) before.now c.in-Ok.added c.add_line.new.places (c.in-Ok.ensures.added before.now before.stand) c.if-not-added.true)

pub returns-clause-replayed : goal.returns-clause-replayed
returns-clause-replayed c = λ rows h.
    let done = c.loop-line.invariant.replayed rows h in
    (done.now, done.same ∙ ap (λ ls. with_lines ls done.now) (drop_all c.loop-line.line-index c.args.lines.now (omega arith)), done.stand)

pub returns-in_default-clause-short : goal.returns-in_default-clause-short
returns-in_default-clause-short c = omega (arith, c.in_default.ensures.short, c.loop-line.invariant.counted)
