-- The longest front that passes a test.
use Rattle.std.proofs.Common.{◌≡◌, ℕ, zero, suc, ◌<◌, ◌≤◌, ◌∙◌, Bool, true, false, cond, ◌⊎◌, List, length, take, sym, subst, ⊎_elim, arith}
use Rattle.std.proofs.lemmas.Bool.{true≢false, cases_Bool}
use Rattle.identifiers.specs.Identifiers.{longest, longest_up_to}

-- a length at which the front passes, and no greater one does, is the longest
longest_is-up_to : (test : List ℕ → Bool) (bytes : List ℕ) (len n : ℕ) → len ≤ n → (0 < len → test (take len bytes) ≡ true) → ((k : ℕ) → len < k → k ≤ n → test (take k bytes) ≡ false) → longest_up_to test n bytes ≡ len
longest_is-up_to test bytes len zero fits passes others = omega (arith, fits)
longest_is-up_to test bytes len (suc n) fits passes others =
    ⊎_elim
    (λ passed.
    let P : Bool → Type 0 = λ b. cond b (suc n) (longest_up_to test n bytes) ≡ len in
    let top : len ≡ suc n = reached passed (by_order len n fits) in
    subst P (sym passed) (sym top))
    (λ failed.
    let P : Bool → Type 0 = λ b. cond b (suc n) (longest_up_to test n bytes) ≡ len in
    subst P (sym failed) (longest_is-up_to test bytes len n (below failed (by_order len n fits)) passes (λ k more few. others k more (omega (arith, few)))))
    (cases_Bool (test (take (suc n) bytes)))
  where
    by_order : (len n : ℕ) → len ≤ suc n → (len ≡ suc n) ⊎ (len ≤ n)
    by_order len n fits = grind (arith, fits)

    reached : test (take (suc n) bytes) ≡ true → (len ≡ suc n) ⊎ (len ≤ n) → len ≡ suc n
    reached passed cases =
        ⊎_elim (λ same. same) (λ less. absurd (true≢false (sym passed ∙ others (suc n) (omega (arith, less)) (omega arith)))) cases

    below : test (take (suc n) bytes) ≡ false → (len ≡ suc n) ⊎ (len ≤ n) → len ≤ n
    below failed cases =
        ⊎_elim (λ same. absurd (true≢false (sym (subst (λ m. test (take m bytes) ≡ true) same (passes (omega (arith, same)))) ∙ failed))) (λ less. less) cases

pub longest_is : (test : List ℕ → Bool) (bytes : List ℕ) (len : ℕ) → len ≤ length bytes → (0 < len → test (take len bytes) ≡ true) → ((k : ℕ) → len < k → k ≤ length bytes → test (take k bytes) ≡ false) → longest test bytes ≡ len
unfolding longest
longest_is test bytes len fits passes others = longest_is-up_to test bytes len (length bytes) fits passes others

-- the longest front passes
pub longest_passes : (test : List ℕ → Bool) (bytes : List ℕ) → 0 < longest test bytes → test (take (longest test bytes) bytes) ≡ true
unfolding longest
longest_passes test bytes some = up_to (length bytes) some
  where
    up_to : (n : ℕ) → 0 < longest_up_to test n bytes → test (take (longest_up_to test n bytes) bytes) ≡ true
    up_to zero some = absurd (omega (arith, some))
    up_to (suc n) some =
        let P : Bool → Type 0 = λ b. 0 < cond b (suc n) (longest_up_to test n bytes) → test (take (cond b (suc n) (longest_up_to test n bytes)) bytes) ≡ true in
        ⊎_elim
        (λ passed. subst P (sym passed) (λ more. passed) some)
        (λ failed. subst P (sym failed) (λ more. up_to n more) some)
        (cases_Bool (test (take (suc n) bytes)))

pub longest_within : (test : List ℕ → Bool) (bytes : List ℕ) → longest test bytes ≤ length bytes
unfolding longest
longest_within test bytes = up_to (length bytes)
  where
    up_to : (n : ℕ) → longest_up_to test n bytes ≤ n
    up_to zero = omega arith
    up_to (suc n) =
        let P : Bool → Type 0 = λ b. cond b (suc n) (longest_up_to test n bytes) ≤ suc n in
        let less = up_to n in
        ⊎_elim (λ passed. subst P (sym passed) (omega arith)) (λ failed. subst P (sym failed) (omega (arith, less))) (cases_Bool (test (take (suc n) bytes)))
