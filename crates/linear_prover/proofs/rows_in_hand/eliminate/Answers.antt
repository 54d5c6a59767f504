use Rattle.std.proofs.Common.{◌≡◌, ◌∙◌, ap, subst, sym, Bool, List}
use Rattle.std.specs.List.{All, filter}
use Rattle.std.proofs.lemmas.List.Elements.{All-filter, All-weaker}
use Rattle.linear_prover.specs.Elimination.{Numbered, is_above, is_below}
use Rattle.linear_prover.specs.working.Eliminating.{CanCombine}
use Rattle.linear_prover.proofs.rows_in_hand.eliminate.Goals as goal

-- rows of two parts can be combined where all can
parts_combine : (p q : Numbered → Bool) (rows above below : List Numbered) → above ≡ filter p rows → below ≡ filter q rows →
    All (λ a. All (λ b. CanCombine a b) rows) rows → All (λ a. All (λ b. CanCombine a b) below) above
parts_combine p q rows above below up down all =
    let P : List Numbered → List Numbered → Type 0 = λ us ds. All (λ a. All (λ b. CanCombine a b) ds) us in
    let first : P (filter p rows) rows = All-filter p (λ a. All (λ b. CanCombine a b) rows) rows all in
    let both : P (filter p rows) (filter q rows) =
    All-weaker (λ a. All (λ b. CanCombine a b) rows) (λ a. All (λ b. CanCombine a b) (filter q rows)) (λ a h. All-filter q (λ b. CanCombine a b) rows h) (filter p rows) first in
    subst (λ (us : List Numbered). P us below) (sym up) (subst (λ (ds : List Numbered). P (filter p rows) ds) (sym down) both)

pub combine_all-requires : goal.combine_all-requires
combine_all-requires c =
    let rows : c.replace-rows.result.items ≡ c.args.hand.now.rows.items = ap (λ v. v.items) c.replace-rows.ensures.value in
    parts_combine (is_above c.args.atom) (is_below c.args.atom) c.args.hand.now.rows.items _ _
    (c.as_slice.ensures.value ∙ (c.in_ok-above.ensures.above ∙ ap (filter (is_above c.args.atom)) rows))
    (c.as_slice-2.ensures.value ∙ (c.in_ok-above.ensures.below ∙ ap (filter (is_below c.args.atom)) rows)) c.requires
