-- The search for the first symbol of the table, and for the end of a comment.
use Rattle.std.proofs.Common.{◌≡◌, ℕ, zero, suc, ◌+◌, ◌<◌, ◌≤◌, true, false, cond, List, [], ◌∷◌, drop, get_or, length, Option, Some, None, option_map, ⊎_elim, take, length-take, eqb, slice_get, codes, refl, sym, ap, ◌∙◌, add-zero, arith}
use Rattle.std.proofs.lemmas.Bool.{and_parts, cases_Bool, eqb-true, true≢false}
use Rattle.std.proofs.lemmas.List.{at_drop_more, at_drop_all}
use Rattle.res_lexer.specs.declared.token.TokenKind.TheVariants.{Symbol}
use Rattle.res_lexer.specs.Pieces.{Stands, begins, before_closing, symbol_among, symbol_at, symbols}

-- what is left of a table from the place of a row on
pub left_from : {A : Type 0} (xs : List A) (i : ℕ) (x : A) → slice_get xs i ≡ Some x → drop i xs ≡ x ∷ drop (i + 1) xs
left_from [] i x e = cc
left_from (y ∷ ys) zero x e =
    let same : y ≡ x = cc in
    let first : zero + 1 ≡ suc zero = omega arith in
    ap (λ z. z ∷ ys) same ∙ ap (λ j. x ∷ drop j (y ∷ ys)) (sym first)
left_from (y ∷ ys) (suc i) x e =
    let next : suc i + 1 ≡ suc (i + 1) = omega arith in
    left_from ys i x e ∙ ap (λ j. x ∷ drop j (y ∷ ys)) (sym next)

-- one more row of the table
pub symbol_here : (place number : ℕ) (rest s : List ℕ) (table : List (List ℕ)) → begins s rest ≡ true → symbol_among number (s ∷ table) place rest ≡ Stands (length s) (Symbol number)
symbol_here place number rest s table h =
    ap (λ b. cond b (Stands (length s) (Symbol number)) (symbol_among (number + 1) table place rest)) h

pub symbol_later : (place number : ℕ) (rest s : List ℕ) (table : List (List ℕ)) → begins s rest ≡ false → symbol_among number (s ∷ table) place rest ≡ symbol_among (number + 1) table place rest
symbol_later place number rest s table h =
    ap (λ b. cond b (Stands (length s) (Symbol number)) (symbol_among (number + 1) table place rest)) h

-- the end of a comment, one byte on
shifted : (k : ℕ) (o : Option ℕ) → option_map (λ n. k + n) (option_map suc o) ≡ option_map (λ n. (k + 1) + n) o
shifted k None = refl
shifted k (Some n) = let e : k + suc n ≡ (k + 1) + n = omega arith in ap Some e

pub from_front : (o : Option ℕ) → option_map (λ n. 0 + n) o ≡ o
from_front None = refl
from_front (Some n) = let e : 0 + n ≡ n = omega arith in ap Some e

pub closing_here : (bytes : List ℕ) (k : ℕ) → k < length bytes → before_closing bytes ≡ option_map (λ n. k + n) (before_closing (drop k bytes)) → begins (codes "*)") (drop k bytes) ≡ true → before_closing bytes ≡ Some k
closing_here bytes k below so here =
    let left = at_drop_more (λ l. l) bytes k 0 below in
    let tested : begins (codes "*)") (get_or bytes k 0 ∷ drop (k + 1) bytes) ≡ true = ap (begins (codes "*)")) (sym left) ∙ here in
    let e : k + 0 ≡ k = add-zero k in
    so ∙ ap (λ l. option_map (λ n. k + n) (before_closing l)) left
    ∙ ap (λ b. option_map (λ n. k + n) (cond b (Some 0) (option_map suc (before_closing (drop (k + 1) bytes))))) tested ∙ ap Some e

pub closing_later : (bytes : List ℕ) (k : ℕ) → k < length bytes → before_closing bytes ≡ option_map (λ n. k + n) (before_closing (drop k bytes)) → begins (codes "*)") (drop k bytes) ≡ false → before_closing bytes ≡ option_map (λ n. (k + 1) + n) (before_closing (drop (k + 1) bytes))
closing_later bytes k below so here =
    let left = at_drop_more (λ l. l) bytes k 0 below in
    let tested : begins (codes "*)") (get_or bytes k 0 ∷ drop (k + 1) bytes) ≡ false = ap (begins (codes "*)")) (sym left) ∙ here in
    so ∙ ap (λ l. option_map (λ n. k + n) (before_closing l)) left
    ∙ ap (λ b. option_map (λ n. k + n) (cond b (Some 0) (option_map suc (before_closing (drop (k + 1) bytes))))) tested
    ∙ shifted k (before_closing (drop (k + 1) bytes))

pub closing_none : (bytes : List ℕ) (k : ℕ) → length bytes ≤ k → before_closing bytes ≡ option_map (λ n. k + n) (before_closing (drop k bytes)) → before_closing bytes ≡ None
closing_none bytes k end so = so ∙ ap (option_map (λ n. k + n)) (at_drop_all before_closing bytes k end)

-- what begins with these bytes has so many at least
pub begins-take : (front rest : List ℕ) → begins front rest ≡ true → take (length front) rest ≡ front
begins-take [] rest h = refl
begins-take (x ∷ front) [] h = absurd (true≢false (sym h))
begins-take (x ∷ front) (r ∷ rest) h =
    let parts = and_parts (eqb x r) (begins front rest) h in
    let head = eqb-true x r parts.0 in
    let tail = begins-take front rest parts.1 in
    cc

pub begins-length : (front rest : List ℕ) → begins front rest ≡ true → length front ≤ length rest
begins-length front rest h =
    let e = ap length (begins-take front rest h) in omega (arith, e, length-take (length front) rest)

-- where a comment is closed, the two bytes stand
pub closing_within : (bytes : List ℕ) (n : ℕ) → before_closing bytes ≡ Some n → n + 2 ≤ length bytes
closing_within [] n e = cc
closing_within (b ∷ bs) n e =
    ⊎_elim
    (λ here.
    let is : Some 0 ≡ Some n = sym (ap (λ t. cond t (Some 0) (option_map suc (before_closing bs))) here) ∙ e in
    let same : 0 ≡ n = cc in
    omega (arith, same, begins-length (codes "*)") (b ∷ bs) here))
    (λ later.
    let is : option_map suc (before_closing bs) ≡ Some n = sym (ap (λ t. cond t (Some 0) (option_map suc (before_closing bs))) later) ∙ e in
    more (λ m so. closing_within bs m so) (before_closing bs) refl is)
    (cases_Bool (begins (codes "*)") (b ∷ bs)))
  where
    more : ((m : ℕ) → before_closing bs ≡ Some m → m + 2 ≤ length bs) → (o : Option ℕ) → before_closing bs ≡ o → option_map suc o ≡ Some n → n + 2 ≤ length (b ∷ bs)
    more shorter None so is = absurd (cc)
    more shorter (Some m) so is = let same : suc m ≡ n = cc in omega (arith, same, shorter m so)

pub symbol_start : (place : ℕ) (rest : List ℕ) → symbol_at place rest ≡ symbol_among 1 symbols place rest
unfolding symbol_at
symbol_start place rest = refl
