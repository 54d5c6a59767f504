use Rattle.std.proofs.Common.{◌≡◌, ◌∙◌, sym, ap, false, not, map, insert, SFits, w32, if◌then◌else◌, arith, rules}
use Rattle.std.specs.List.{position_or_len}
use Rattle.std.proofs.lemmas.List.Sums.{prefix_len-le-length}
use Rattle.std.proofs.lemmas.Int.{to_z-of_z}
use Rattle.std.proofs.lemmas.Result.{on_ok_weaker}
use Rattle.num_theory.specs.Number.{exact, is_zero}
use Rattle.num_theory.specs.Linear.{Product, insert_product, text_before}
use Rattle.num_theory.specs.working.Making.{text_of_product}
use Rattle.num_theory.proofs.Placing.{insert_product-at, map_insert, place_in_texts}
use Rattle.num_theory.proofs.linear_form.place.Goals as goal

pub insert-requires : goal.insert-requires
insert-requires c =
    omega (arith, c.place_of-at.ensures, prefix_len-le-length (λ x. not (text_before c.as_slice.result.now x)) c.deref.result.now, c.deref.ensures.len)

pub returns-clause-placed : goal.returns-clause-placed
returns-clause-placed c =
    let p : Product = (exact c.args.coefficient, c.args.atom) in
    let qs = c.args.ordered.now.items in
    let text_is = c.as_slice.ensures ∙ c.from_vec-text.ensures ∙ c.in_ok-text_of.ensures in
    let at : c.place_of-at.result ≡ position_or_len (λ q. text_before (text_of_product p) (text_of_product q)) qs =
    c.place_of-at.ensures ∙ (λ i. position_or_len (text_before (text_is i)) ((c.deref.ensures.value ∙ c.requires.same) i)) ∙ place_in_texts p qs in
    let some : is_zero c.args.coefficient ≡ false = cc in
    let fits : SFits w32 c.exact.result = search rules in
    let placed = simp to_z-of_z at c.insert-2.ensures in
    on_ok_weaker c.insert-2.result
    (λ h. h ∙ (λ i. insert qs (at i) (c.exact.ensures i, c.args.atom)) ∙ insert_product-at p qs ∙ ap (λ b. if b then qs else insert_product p qs) (sym some))
    placed

pub returns-clause-same : goal.returns-clause-same
returns-clause-same c =
    let p : Product = (c.exact.result, c.args.atom) in
    let qs = c.args.ordered.now.items in
    let k = c.place_of-at.result in
    let text_is = c.from_vec-text.ensures ∙ c.in_ok-text_of.ensures in
    let fits : SFits w32 c.exact.result = search rules in
    let placed = simp to_z-of_z at c.insert-2.ensures in
    on_ok_weaker c.insert-2.result
    (λ h. c.in_ok-insert.ensures ∙ (λ i. insert (c.requires.same i) k (text_is i)) ∙ map_insert text_of_product qs k p ∙ ap (map text_of_product) (sym h))
    placed
