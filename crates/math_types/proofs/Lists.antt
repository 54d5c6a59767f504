-- Lists, item by item.
use Rattle.std.proofs.Common.{◌≡◌, ◌∙◌, refl, sym, ap, ℕ, suc, ◌+◌, ◌<◌, List, [], ◌∷◌, ◌++◌, length, drop, get_or, append_assoc, Result, Ok, Err, arith}
use Rattle.std.proofs.Math.Seq.{drop-cons}
use Rattle.math_terms.specs.declared.descriptor.Sort.{Sort}
use Rattle.math_types.specs.declared.error.SortError.{SortError}
use Rattle.math_types.specs.Expressions.{before}

-- the items from a place on
pub drop_here : {A : Type 0} (xs : List A) (i : ℕ) (x : A) → i < length xs → x ≡ get_or xs i x → drop i xs ≡ x ∷ drop (i + 1) xs
drop_here xs i x h e =
    let k : suc i ≡ i + 1 = omega arith in
    drop-cons xs i x h ∙ (λ j. sym e j ∷ drop (k j) xs)

-- sorts, and then those of the expressions that are left
abbrev pub after : List Sort → Result (List Sort) SortError → Result (List Sort) SortError
after ss (Err e) = Err e
after ss (Ok ts) = Ok (ss ++ ts)

pub after_none : (r : Result (List Sort) SortError) → r ≡ after [] r
after_none (Err e) = refl
after_none (Ok ts) = refl

pub after_more : (ss : List Sort) (s : Sort) (r : Result (List Sort) SortError) → after ss (before s r) ≡ after (ss ++ s ∷ []) r
after_more ss s (Err e) = refl
after_more ss s (Ok ts) = ap Ok (sym (append_assoc ss (s ∷ []) ts))
