-- Texts one after another, and texts byte by byte.
use Rattle.std.proofs.Common.{◌≡◌, ◌∙◌, sym, ap, refl, ℕ, suc, ◌+◌, ◌<◌, ◌≤◌, ◌==◌, ltb, Bool, true, false, ◌&&◌, ◌||◌, List, [], ◌∷◌, ◌++◌, length, map, take, drop, get_or, codes, append_assoc, arith}
use Rattle.std.proofs.lemmas.List.{take_more, map-append, drop_all, length-take, length-map}
use Rattle.std.proofs.lemmas.Bool.{ne_eqb, eq-eqb, le-ltb}
use Rattle.std.proofs.Math.Seq.{drop-cons}
use Rattle.math_terms.specs.declared.term.Term.{Term}
use Rattle.num_theory.specs.Texts.{Piece, piece, text, listed, separator}
use Rattle.num_theory.specs.Linear.{text_before}

listed_push : (ps : List Piece) (p : Piece) → listed (ps ++ p ∷ []) ≡ listed ps ++ (separator (length ps) ++ p.1)
listed_push [] p = refl
listed_push (q ∷ []) p = refl
listed_push (q ∷ r ∷ ps) p =
    ap (λ t. q.1 ++ (codes ", " ++ t)) (listed_push (r ∷ ps) p)
    ∙ sym (append_assoc q.1 (codes ", " ++ listed (r ∷ ps)) (codes ", " ++ p.1))

-- one more part in a list of texts
pub listed_more : (ts : List Term) (k : ℕ) (t : Term) → k < length ts → t ≡ get_or ts k t →
    listed (map piece (take (k + 1) ts)) ≡ listed (map piece (take k ts)) ++ (separator k ++ text t)
listed_more ts k t within is =
    let size : length (map piece (take k ts)) ≡ k = length-map (take k ts) piece ∙ simp length-take (omega arith) in
    let more : map piece (take (k + 1) ts) ≡ map piece (take k ts) ++ piece t ∷ [] =
    ap (map piece) (take_more ts k t within ∙ ap (λ u. take k ts ++ u ∷ []) (sym is)) ∙ map-append piece (take k ts) (t ∷ []) in
    ap listed more ∙ listed_push (map piece (take k ts)) (piece t) ∙ ap (λ n. listed (map piece (take k ts)) ++ (separator n ++ text t)) size

before_at : (a b : List ℕ) (k : ℕ) → k < length a → k < length b →
    text_before (drop k a) (drop k b) ≡ (ltb (get_or a k 0) (get_or b k 0) || ((get_or a k 0 == get_or b k 0) && text_before (drop (suc k) a) (drop (suc k) b)))
before_at a b k in_a in_b = λ i. text_before (drop-cons a k 0 in_a i) (drop-cons b k 0 in_b i)

-- where the first byte is that differs
pub before_differs : (a b : List ℕ) (k : ℕ) → k < length a → k < length b → (get_or a k 0 ≡ get_or b k 0 → ⊥) →
    text_before (drop k a) (drop k b) ≡ ltb (get_or a k 0) (get_or b k 0)
before_differs a b k in_a in_b differ =
    let e : (get_or a k 0 == get_or b k 0) ≡ false = ne_eqb (get_or a k 0) (get_or b k 0) differ in
    rw (before_at a b k in_a in_b, e) (or_false (ltb (get_or a k 0) (get_or b k 0)))
  where
    or_false : (x : Bool) → (x || false) ≡ x
    or_false true = refl
    or_false false = refl

pub before_same : (a b : List ℕ) (k : ℕ) → k < length a → k < length b → get_or a k 0 ≡ get_or b k 0 →
    text_before (drop k a) (drop k b) ≡ text_before (drop (k + 1) a) (drop (k + 1) b)
before_same a b k in_a in_b same =
    let e : (get_or a k 0 == get_or b k 0) ≡ true = eq-eqb (get_or a k 0) (get_or b k 0) same in
    let f : ltb (get_or a k 0) (get_or b k 0) ≡ false = le-ltb (get_or a k 0) (get_or b k 0) (omega arith) in
    let n : suc k ≡ k + 1 = omega arith in
    rw (before_at a b k in_a in_b, e, f) (ap (λ m. text_before (drop m a) (drop m b)) n)

-- past the end of the one text
pub before_past : (a b : List ℕ) (k : ℕ) → k < length a → length b ≤ k → text_before (drop k a) (drop k b) ≡ false
before_past a b k in_a past = λ i. text_before (drop-cons a k 0 in_a i) (drop_all k b past i)

pub before_ends : (a b : List ℕ) (k : ℕ) → length a ≤ k → text_before (drop k a) (drop k b) ≡ true
before_ends a b k past = ap (λ r. text_before r (drop k b)) (drop_all k a past)
