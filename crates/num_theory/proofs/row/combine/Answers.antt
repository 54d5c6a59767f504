use Rattle.std.proofs.Common.{◌≡◌, ◌∙◌, sym, get_or, pos, true, false, SFits, w32, refl, rules, arith}
use Rattle.std.proofs.lemmas.Bool.{false≢true}
use Rattle.std.proofs.lemmas.Int.{to_z-of_z}
use Rattle.num_theory.specs.Rows.{narrow}
use Rattle.num_theory.proofs.Combining.{combined_at, combined-from_places, narrow-at, narrow-from_places, one_more}
use Rattle.num_theory.proofs.row.combine.Goals as goal

pub returns-in-None-clause-fits : goal.returns-in-None-clause-fits
returns-in-None-clause-fits c = λ all.
    let a = c.args.a.now in
    let b = c.args.b.now in
    let k = c.loop-k.k in
    let left : SFits w32 (get_or a k (pos 0)) = search rules in
    let right : SFits w32 (get_or b k (pos 0)) = search rules in
    let wide : narrow (combined_at c.args.p a c.args.q b k) ≡ false = simp to_z-of_z at c.in-None.ensures.wide in
    absurd (false≢true (sym wide ∙ narrow-at c.args.p a c.args.q b k c.requires.same_length (omega arith) all))

pub returns-clause-fits : goal.returns-clause-fits
returns-clause-fits c = λ all. (
  refl,
  combined-from_places c.args.p c.args.a.now c.args.q c.args.b.now c.loop-k.out c.requires.same_length (omega arith)
      (λ j within. c.loop-k.invariant.written j (omega arith)),
)

pub returns-clause-wide : goal.returns-clause-wide
returns-clause-wide c = λ wide.
    absurd (false≢true (sym wide
    ∙ narrow-from_places c.args.p c.args.a.now c.args.q c.args.b.now c.requires.same_length
    (λ j within. c.loop-k.invariant.small j (omega arith))))

pub loop-k-preserved : goal.loop-k-preserved
loop-k-preserved c =
    let a = c.args.a.now in
    let b = c.args.b.now in
    let k = c.loop-k.k in
    let left : SFits w32 (get_or a k (pos 0)) = search rules in
    let right : SFits w32 (get_or b k (pos 0)) = search rules in
    let here : narrow (combined_at c.args.p a c.args.q b k) ≡ true = simp to_z-of_z at c.in-Some.ensures.fits.1 in
    record {
      written = search rules;
      small = one_more (λ j. narrow (combined_at c.args.p a c.args.q b j) ≡ true) k c.loop-k.invariant.small here;
    }
