-- The two ways in which rules are answered.
use Rattle.std.proofs.Common.{◌≡◌, ◌∙◌, sym, refl, ℕ, leb, ◌≤◌, true, false, ◌||◌, ⊎_elim, arith}
use Rattle.std.proofs.lemmas.Bool.{agree_below_at, and_parts, false≢true, leb-true, or_cases}
use Rattle.cell_rules.specs.Answering.{is_answered, is_equation, is_sketched}

pub sketched : (r : ℕ) → is_answered r ≡ true → false ≡ is_equation r → is_sketched r ≡ true
sketched r h e =
    let small : r ≤ 31 = leb-true r 31 (and_parts (leb 2 r) (leb r 31) h).1 in
    let either : (is_sketched r || is_equation r) ≡ true =
    sym (agree_below_at is_answered (λ k. is_sketched k || is_equation k) 32 r refl (omega (arith, small))) ∙ h in
    ⊎_elim (λ k. k) (λ k. absurd (false≢true (e ∙ k))) (or_cases (is_sketched r) (is_equation r) either)
