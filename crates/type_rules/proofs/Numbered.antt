-- Breaches of declarations that are numbered, one after the other.
use Rattle.std.proofs.Common.{◌≡◌, ℕ, ◌+◌, ◌<◌, ◌≤◌, drop, get_or, length, List, [], ◌++◌, Option, sym, ap, ◌∙◌}
use Rattle.std.specs.List.{enumerate_from, flat_map}
use Rattle.std.proofs.lemmas.List.{at_drop_all, at_drop_more}
use Rattle.type_rules.specs.declared.error.ModeError.{ModeError}
use Rattle.type_rules.specs.Breaches.{least_of}
use Rattle.type_rules.proofs.Repeated.{least_of_append}

-- what is noted first and then, and what is noted in front of the rest
pub noted_then : (o l m : Option ModeError) (xs ys : List ModeError) → l ≡ least_of o xs → m ≡ least_of l ys → m ≡ least_of o (xs ++ ys)
noted_then o l m xs ys first second = second ∙ ap (λ r. least_of r ys) first ∙ sym (least_of_append o xs ys)

pub noted_first : (o l m : Option ModeError) (all here rest : List ModeError)
    → all ≡ here ++ rest → m ≡ least_of l here → least_of l all ≡ o → least_of m rest ≡ o
noted_first o l m all here rest split noted so =
    ap (λ r. least_of r rest) noted ∙ sym (least_of_append l here rest) ∙ ap (least_of l) (sym split) ∙ so

module _ {X : Type 0} (breaches : ℕ × X → List ModeError) (xs : List X) (i : ℕ) where
  pub numbered_first : (own : X) → i < length xs → own ≡ get_or xs i own
      → flat_map breaches (enumerate_from i (drop i xs)) ≡ breaches (i, own) ++ flat_map breaches (enumerate_from (i + 1) (drop (i + 1) xs))
  numbered_first own below is =
      at_drop_more (λ ys. flat_map breaches (enumerate_from i ys)) xs i own below
      ∙ ap (λ x. breaches (i, x) ++ flat_map breaches (enumerate_from (i + 1) (drop (i + 1) xs))) (sym is)

  pub numbered_ended : length xs ≤ i → flat_map breaches (enumerate_from i (drop i xs)) ≡ []
  numbered_ended past = at_drop_all (λ ys. flat_map breaches (enumerate_from i ys)) xs i past
