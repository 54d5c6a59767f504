use Rattle.std.proofs.Common.{◌≡◌, ◌∙◌, sym, ap, length, take, drop, vec_len, if◌then◌else◌, arith}
use Rattle.num_theory.specs.Number.{is_narrow, is_zero}
use Rattle.num_theory.specs.Linear.{RawProduct, exact_product, insert_product, shown}
use Rattle.num_theory.proofs.Placing.{last_passes, popped, shown-cons}
use Rattle.num_theory.proofs.linear_form.in_text_order.Goals as goal

pub place-requires-clause-small : goal.place-requires-clause-small
place-requires-clause-small c =
    let p : RawProduct = (c.in-Some.coefficient, c.in-Some.atom) in
    let last = sym c.loop-coefficient.invariant.left ∙ c.in-Some.ensures.items in
    last_passes (λ (q : RawProduct). is_narrow q.0) c.args.products.items c.pop.new.self.items p (vec_len c.loop-coefficient.products) c.requires last

pub loop-coefficient-preserved : goal.loop-coefficient-preserved
loop-coefficient-preserved c =
    let p : RawProduct = (c.in-Some.coefficient, c.in-Some.atom) in
    let xs = c.args.products.items in
    let n = vec_len c.loop-coefficient.products in
    let last = sym c.loop-coefficient.invariant.left ∙ c.in-Some.ensures.items in
    let both = popped xs c.pop.new.self.items p n last in
    let size : vec_len c.pop.new.self ≡ length c.pop.new.self.items = c.pop.new.self.ok.0 in
    record {
      within = omega arith;
      left = both.0 ∙ ap (λ m. take m xs) (sym size);
      placed =
          c.in_ok-place.ensures.placed
          ∙ ap (λ done. if is_zero p.0 then done else insert_product (exact_product p) done) c.loop-coefficient.invariant.placed
          ∙ sym (shown-cons p (drop n xs))
          ∙ ap shown (sym both.1 ∙ ap (λ m. drop m xs) (sym size));
      same = c.in_ok-place.ensures.same;
    }
