-- Lists, item by item.
use Rattle.std.proofs.Common.{◌≡◌, ◌∙◌, sym, ap, ℕ, suc, ◌+◌, ◌<◌, List, ◌∷◌, ◌++◌, length, drop, get_or, append_assoc, arith}
use Rattle.std.proofs.Math.Seq.{drop-cons}
use Rattle.type_inst.specs.Descriptors.{listed}

-- the items from a place on
pub drop_here : {A : Type 0} (xs : List A) (i : ℕ) (x : A) → i < length xs → x ≡ get_or xs i x → drop i xs ≡ x ∷ drop (i + 1) xs
drop_here xs i x h e =
    let k : suc i ≡ i + 1 = omega arith in
    drop-cons xs i x h ∙ (λ j. sym e j ∷ drop (k j) xs)

-- one more item of those that are left
pub listed_more : {A B : Type 0} (entry : ℕ → A → List B) (counts : A → ℕ) (out : List B) (k : ℕ) (xs : List A) (i : ℕ) (x : A) → i < length xs → x ≡ get_or xs i x →
    out ++ listed entry counts k (drop i xs) ≡ (out ++ entry k x) ++ listed entry counts (k + counts x) (drop (i + 1) xs)
listed_more entry counts out k xs i x h e =
    ap (λ ys. out ++ listed entry counts k ys) (drop_here xs i x h e) ∙ sym (append_assoc out (entry k x) (listed entry counts (k + counts x) (drop (i + 1) xs)))
