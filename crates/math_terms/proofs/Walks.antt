-- Walks over a term: the order of its nodes, and what is answered.
use Rattle.std.proofs.Common.{◌≡◌, ◌∙◌, sym, ap, refl, subst, ℕ, zero, suc, ◌+◌, ◌<◌, List, take, drop, get_or, [], ◌∷◌, ◌++◌, length, map, sum, sum_by, Option, Some, None, is_none, Result, Ok, Err, arith, length-append}
use Rattle.std.specs.List.{position_from}
use Rattle.std.proofs.lemmas.List.Sums.{sum-map, sum_by-cons}
use Rattle.std.proofs.lemmas.List.{append-nil, map-append}
use Rattle.std.proofs.lemmas.List.Concat.{length-flat_map}
use Rattle.std.proofs.lemmas.Grind.{flat_map-append}
use Rattle.math_terms.specs.declared.descriptor.Sort.{Sort}
use Rattle.math_terms.specs.declared.name.TermError.{TermError}
use Rattle.math_terms.specs.declared.name.TermError.TheVariants.{TooLarge, SortClash, NoMemory}
use Rattle.math_terms.specs.declared.sorts.Sorted.{Sorted}
use Rattle.math_terms.specs.declared.sorts.SortedParts.{SortedParts}
use Rattle.math_terms.specs.declared.term.Term.{Term}
use Rattle.math_terms.specs.declared.term.Term.TheOpen.{Term-F}
use Rattle.math_terms.specs.declared.term.Term.TheFolds.{map-Term}
use Rattle.math_terms.specs.Terms.{nodes, nodes_step}
use Rattle.math_terms.specs.Sorts.{Sorting, all_sorts, orders, sort, sort_step, sorting, sorting_step}
use Rattle.math_terms.specs.Views.{binary_node, unary_node}
use Rattle.math_terms.specs.declared.view.Binary.{Binary}
use Rattle.math_terms.specs.declared.view.Unary.{Unary}
use Rattle.math_terms.specs.declared.term.Term.TheViews.{roll-Term}
use Rattle.math_terms.specs.working.Walking.{IsClash, IsWalk, IsWalkOfAll, numbered}
use Rattle.math_terms.specs.Heads.{children}
use Rattle.math_terms.proofs.Folds.{fold_fusion}
use Rattle.math_terms.proofs.Heads.{fold_at, fold_at_one, fold_at_two, nodes_at_one, nodes_at_two, nodes_of_node}
use Rattle.math_terms.proofs.SameTerms.{mapped_heads}
use Rattle.math_terms.proofs.Meets.{push_onto}

-- how many nodes are in order
order_long_step : (vars : List Sort) (x : Term-F Sorting) → length (sorting_step vars x).1 ≡ nodes_step (map-Term Sorting ℕ (λ p. length p.1) x)
order_long_step vars x =
    let ps = children x in
    let long : Sorting → ℕ = λ p. length p.1 in
    omega (
      arith,
      length-append (orders ps) ((sorting_step vars x).0 ∷ []),
      length-flat_map (λ (p : Sorting). p.1) ps,
      sum-map long ps,
      ap sum (mapped_heads long x).2,
      nodes_of_node (map-Term Sorting ℕ long x),
    )

pub order_long : (vars : List Sort) (t : Term) → length (sorting vars t).1 ≡ nodes t
order_long vars = fold_fusion (sorting_step vars) nodes_step (λ p. length p.1) (order_long_step vars)

-- the sort that comes with the order
pub sorting_sort : (vars : List Sort) (t : Term) → (sorting vars t).0 ≡ sort vars t
sorting_sort vars = fold_fusion (sorting_step vars) (sort_step vars) (λ p. p.0) (λ x. refl)

-- the first node without a sort in one list and then another
found_first : (start k : ℕ) (xs ys : List (Option Sort)) → position_from is_none start xs ≡ Some k → position_from is_none start (xs ++ ys) ≡ Some k
found_first start k [] ys h = cc
found_first start k (None ∷ xs) ys h = h
found_first start k (Some s ∷ xs) ys h = found_first (start + 1) k xs ys h

pub found_later : (start : ℕ) (xs ys : List (Option Sort)) → position_from is_none start xs ≡ None → position_from is_none start (xs ++ ys) ≡ position_from is_none (start + length xs) ys
found_later start [] ys h =
    let e : start ≡ start + 0 = omega arith in
    ap (λ k. position_from is_none k ys) e
found_later start (None ∷ xs) ys h = cc
found_later start (Some s ∷ xs) ys h =
    let e : start + 1 + length xs ≡ start + length (Some s ∷ xs) = omega arith in
    found_later (start + 1) xs ys h ∙ ap (λ k. position_from is_none k ys) e

pub clash_first : (start : ℕ) (xs ys : List (Option Sort)) (e : TermError) → IsClash start xs e → IsClash start (xs ++ ys) e
clash_first start xs ys TooLarge h = h
clash_first start xs ys (SortClash node) h = found_first start node xs ys h
clash_first start xs ys NoMemory h = h

clash_later : (start : ℕ) (xs ys : List (Option Sort)) (e : TermError) → position_from is_none start xs ≡ None → IsClash (start + length xs) ys e → IsClash start (xs ++ ys) e
clash_later start xs ys TooLarge none h = h
clash_later start xs ys (SortClash node) none h = found_later start xs ys none ∙ h
clash_later start xs ys NoMemory none h = h

-- the nodes of these terms, the first with the number `start`, have sorts, and the next node has the number `next`
pub record IsPast (start : ℕ) (ps : List Sorting) (next : ℕ) : Type 0 where
  pub sorted : position_from is_none start (orders ps) ≡ None
  pub reached : next ≡ start + length (orders ps)

pub past_none : (start : ℕ) → IsPast start [] start
past_none start = record { sorted = refl; reached = omega arith }

pub past_more : (start next n : ℕ) (ps : List Sorting) (p : Sorting) (found : Sorted) → IsPast start ps next → length p.1 ≡ n → IsWalk next n p (Ok found) → IsPast start (ps ++ (p ∷ [])) found.next
past_more start next n ps p found past long h =
    let joined : orders (ps ++ (p ∷ [])) ≡ orders ps ++ p.1 =
    flat_map-append (λ (q : Sorting). q.1) ps (p ∷ []) ∙ ap (λ xs. orders ps ++ xs) (append-nil p.1) in
    record {
      sorted =
          ap (position_from is_none start) joined
          ∙ found_later start (orders ps) p.1 past.sorted
          ∙ ap (λ k. position_from is_none k p.1) (sym past.reached)
          ∙ h.1;
      reached = omega (arith, h.2, ap length joined, length-append (orders ps) p.1, past.reached, long);
    }

pub past_clash : (start next : ℕ) (ps qs : List Sorting) (p : Sorting) (e : TermError) → IsPast start ps next → IsClash next p.1 e → IsClash start (orders (ps ++ (p ∷ qs))) e
past_clash start next ps qs p e past h =
    let joined : orders (ps ++ (p ∷ qs)) ≡ orders ps ++ (p.1 ++ orders qs) = flat_map-append (λ (q : Sorting). q.1) ps (p ∷ qs) in
    subst (λ xs. IsClash start xs e) (sym joined)
    (clash_later start (orders ps) (p.1 ++ orders qs) e past.sorted
    (clash_first (start + length (orders ps)) p.1 (orders qs) e (subst (λ k. IsClash k p.1 e) past.reached h)))

-- the sort of a node over these terms, with the order of its nodes
abbrev pub over : Option Sort → List Sorting → Sorting
over s ps = (s, orders ps ++ (s ∷ []))

-- what is answered for a node when its children have sorts
pub over_answer : (start next n : ℕ) (ps : List Sorting) (s : Option Sort) → IsPast start ps next → n ≡ 1 + length (orders ps) → IsWalk start n (over s ps) (numbered s next)
over_answer start next n ps None past long =
    found_later start (orders ps) (None ∷ []) past.sorted ∙ ap (λ k. Some k) (sym past.reached)
over_answer start next n ps (Some v) past long =
    (refl, found_later start (orders ps) (Some v ∷ []) past.sorted, omega (arith, past.reached, long))

-- the same from an equal sort
pub node_answer : (start next n : ℕ) (ps : List Sorting) (s o : Option Sort) (r : Result Sorted TermError) →
    IsPast start ps next → n ≡ 1 + length (orders ps) → o ≡ s → r ≡ numbered o next → IsWalk start n (over s ps) r
node_answer start next n ps s o r past long same is =
    subst (λ k. IsWalk start n (over s ps) k) (sym (is ∙ ap (λ k. numbered k next) same)) (over_answer start next n ps s past long)

-- what is answered for a node when a child is refused
pub IsWalk-err : (start n : ℕ) (p : Sorting) (r : Result Sorted TermError) (e : TermError) → (d : TermError) × (r ≡ Err d) × (d ≡ e) → IsClash start p.1 e → IsWalk start n p r
IsWalk-err start n p r e is h = subst (λ k. IsWalk start n p k) (sym (is.1 ∙ ap (λ d. Err d) is.2)) h

pub over_clash : (start next n : ℕ) (ps qs : List Sorting) (p : Sorting) (s : Option Sort) (e : TermError) (r : Result Sorted TermError) →
    IsPast start ps next → IsClash next p.1 e → (d : TermError) × (r ≡ Err d) × (d ≡ e) → IsWalk start n (over s (ps ++ (p ∷ qs))) r
over_clash start next n ps qs p s e r past h is =
    IsWalk-err start n (over s (ps ++ (p ∷ qs))) r e is (clash_first start (orders (ps ++ (p ∷ qs))) (s ∷ []) e (past_clash start next ps qs p e past h))

-- what is answered where memory has run out
pub no_memory : (start n : ℕ) (p : Sorting) (r : Result Sorted TermError) → (d : TermError) × (r ≡ Err d) × (d ≡ NoMemory) → IsWalk start n p r
no_memory start n p r is = IsWalk-err start n p r NoMemory is tt

-- the nodes with one child and with two
pub over_one : (vars : List Sort) (op : Unary) (p : Sorting) → over (sort_step vars (unary_node op p.0)) (p ∷ []) ≡ sorting_step vars (unary_node op p)
over_one vars Unary.Len p = refl
over_one vars op p = refl

pub over_two : (vars : List Sort) (op : Binary) (p q : Sorting) → over (sort_step vars (binary_node op p.0 q.0)) (p ∷ q ∷ []) ≡ sorting_step vars (binary_node op p q)
over_two vars Binary.Add p q = refl
over_two vars op p q = refl

-- an answer for one layer of a term is one for the term
pub at_head : (vars : List Sort) (start : ℕ) (x : Term-F Term) (t : Term) (r : Result Sorted TermError) → t ≡ roll-Term x →
    IsWalk start (nodes_step (map-Term Term ℕ nodes x)) (sorting_step vars (map-Term Term Sorting (sorting vars) x)) r → IsWalk start (nodes t) (sorting vars t) r
at_head vars start x t r is h =
    subst (λ (k : ℕ × Sorting). IsWalk start k.0 k.1 r) (sym (λ i. (fold_at nodes_step x t is i, fold_at (sorting_step vars) x t is i))) h

pub at_head_one : (vars : List Sort) (start : ℕ) (op : Unary) (a t : Term) (r : Result Sorted TermError) → t ≡ roll-Term (unary_node op a) →
    IsWalk start (1 + nodes a) (sorting_step vars (unary_node op (sorting vars a))) r → IsWalk start (nodes t) (sorting vars t) r
at_head_one vars start op a t r is h =
    subst (λ (k : ℕ × Sorting). IsWalk start k.0 k.1 r) (sym (λ i. (nodes_at_one op a t is i, fold_at_one (sorting_step vars) op a t is i))) h

pub at_head_two : (vars : List Sort) (start : ℕ) (op : Binary) (a b t : Term) (r : Result Sorted TermError) → t ≡ roll-Term (binary_node op a b) →
    IsWalk start (1 + nodes a + nodes b) (sorting_step vars (binary_node op (sorting vars a) (sorting vars b))) r → IsWalk start (nodes t) (sorting vars t) r
at_head_two vars start op a b t r is h =
    subst (λ (k : ℕ × Sorting). IsWalk start k.0 k.1 r) (sym (λ i. (nodes_at_two op a b t is i, fold_at_two (sorting_step vars) op a b t is i))) h

-- the orders of terms one after the other
pub orders_long : (vars : List Sort) (ts : List Term) → length (orders (map (sorting vars) ts)) ≡ sum_by nodes ts
orders_long vars [] = refl
orders_long vars (t ∷ ts) =
    omega (arith, length-append (sorting vars t).1 (orders (map (sorting vars) ts)), order_long vars t, orders_long vars ts, sum_by-cons nodes t ts)

pub long_of_one : (vars : List Sort) (a : Term) → 1 + nodes a ≡ 1 + length (orders (sorting vars a ∷ []))
long_of_one vars a = omega (arith, length-append (sorting vars a).1 [], order_long vars a)

pub long_of_two : (vars : List Sort) (a b : Term) → 1 + nodes a + nodes b ≡ 1 + length (orders (sorting vars a ∷ sorting vars b ∷ []))
long_of_two vars a b =
    omega (arith, length-append (sorting vars a).1 (orders (sorting vars b ∷ [])), order_long vars a, long_of_one vars b)

pub long_of_three : (vars : List Sort) (a b d : Term) → 1 + nodes a + nodes b + nodes d ≡ 1 + length (orders (sorting vars a ∷ sorting vars b ∷ sorting vars d ∷ []))
long_of_three vars a b d =
    omega (arith, length-append (sorting vars a).1 (orders (sorting vars b ∷ sorting vars d ∷ [])), order_long vars a, long_of_two vars b d)

-- the walk past one child, and past one more
pub past_first : (vars : List Sort) (start : ℕ) (a : Term) (found : Sorted) → IsWalk start (nodes a) (sorting vars a) (Ok found) → IsPast start (sorting vars a ∷ []) found.next
past_first vars start a found h = past_more start start (nodes a) [] (sorting vars a) found (past_none start) (order_long vars a) h

pub past_next : (vars : List Sort) (start next : ℕ) (ps : List Sorting) (a : Term) (found : Sorted) → IsPast start ps next → IsWalk next (nodes a) (sorting vars a) (Ok found) → IsPast start (ps ++ (sorting vars a ∷ [])) found.next
past_next vars start next ps a found past h = past_more start next (nodes a) ps (sorting vars a) found past (order_long vars a) h

-- one more sort
pub all_sorts_push : (xs : List (Option Sort)) (s : Sort) (out : List Sort) → all_sorts xs ≡ Some out → all_sorts (xs ++ (Some s ∷ [])) ≡ Some (out ++ (s ∷ []))
all_sorts_push [] s out h =
    let empty : [] ≡ out = cc in
    ap (λ ys. Some (ys ++ (s ∷ []))) empty
all_sorts_push (x ∷ xs) s out h = push_onto x (all_sorts xs) (all_sorts (xs ++ (Some s ∷ []))) out s (λ out' h'. all_sorts_push xs s out' h') h

-- a list at a place
split_here : {A : Type 0} (xs : List A) (i : ℕ) (x : A) → i < length xs → x ≡ get_or xs i x → take i xs ++ (x ∷ drop (i + 1) xs) ≡ xs
split_here [] i x h e = absurd (omega arith)
split_here (y ∷ ys) zero x h e = ap (λ z. z ∷ ys) e
split_here (y ∷ ys) (suc i) x h e =
    let k : suc i + 1 ≡ suc (i + 1) = omega arith in
    ap (λ n. take (suc i) (y ∷ ys) ++ (x ∷ drop n (y ∷ ys))) k ∙ ap (λ zs. y ∷ zs) (split_here ys i x (omega arith) e)

-- one more term of a list
pub sorts_push : (vars : List Sort) (ts : List Term) (t : Term) (s : Sort) (out : List Sort) →
    all_sorts (map (λ (p : Sorting). p.0) (map (sorting vars) ts)) ≡ Some out → (sorting vars t).0 ≡ Some s → all_sorts (map (λ (p : Sorting). p.0) (map (sorting vars) (ts ++ (t ∷ [])))) ≡ Some (out ++ (s ∷ []))
sorts_push vars ts t s out h e =
    ap (λ (ps : List Sorting). all_sorts (map (λ p. p.0) ps)) (map-append (sorting vars) ts (t ∷ []))
    ∙ ap all_sorts (map-append (λ (p : Sorting). p.0) (map (sorting vars) ts) (sorting vars t ∷ []))
    ∙ ap (λ o. all_sorts (map (λ (p : Sorting). p.0) (map (sorting vars) ts) ++ (o ∷ []))) e
    ∙ all_sorts_push (map (λ (p : Sorting). p.0) (map (sorting vars) ts)) s out h

pub past_push : (vars : List Sort) (start next : ℕ) (ts : List Term) (t : Term) (found : Sorted) →
    IsPast start (map (sorting vars) ts) next → IsWalk next (nodes t) (sorting vars t) (Ok found) → IsPast start (map (sorting vars) (ts ++ (t ∷ []))) found.next
past_push vars start next ts t found past h =
    subst (λ ps. IsPast start ps found.next) (sym (map-append (sorting vars) ts (t ∷ [])))
    (past_next vars start next (map (sorting vars) ts) t found past h)

-- a refusal at one of a list of terms
pub list_clash : (vars : List Sort) (start next i : ℕ) (ts : List Term) (t : Term) (e : TermError) → i < length ts → t ≡ get_or ts i t →
    IsPast start (map (sorting vars) (take i ts)) next → IsClash next (sorting vars t).1 e → IsClash start (orders (map (sorting vars) ts)) e
list_clash vars start next i ts t e within at past h =
    let whole : map (sorting vars) (take i ts) ++ (sorting vars t ∷ map (sorting vars) (drop (i + 1) ts)) ≡ map (sorting vars) ts =
    sym (map-append (sorting vars) (take i ts) (t ∷ drop (i + 1) ts)) ∙ ap (map (sorting vars)) (split_here ts i t within at) in
    subst (λ ps. IsClash start (orders ps) e) whole
    (past_clash start next (map (sorting vars) (take i ts)) (map (sorting vars) (drop (i + 1) ts)) (sorting vars t) e past h)

pub IsWalkOfAll-err : (start n : ℕ) (ps : List Sorting) (r : Result SortedParts TermError) (e : TermError) → (d : TermError) × (r ≡ Err d) × (d ≡ e) → IsClash start (orders ps) e → IsWalkOfAll start n ps r
IsWalkOfAll-err start n ps r e is h = subst (λ k. IsWalkOfAll start n ps k) (sym (is.1 ∙ ap (λ d. Err d) is.2)) h
