-- Where a term has a sort, each of its nodes has one.
use Rattle.std.proofs.Common.{◌≡◌, ◌∙◌, sym, ap, refl, subst, ℕ, ◌+◌, Bool, true, false, List, [], ◌∷◌, ◌++◌, length, map, Option, Some, None, is_none, option_and_then, if◌then◌else◌}
use Rattle.std.specs.List.{position_from}
use Rattle.math_terms.specs.declared.descriptor.Sort.{Sort}
use Rattle.math_terms.specs.declared.name.TermError.{TermError}
use Rattle.math_terms.specs.declared.name.TermError.TheVariants.{TooLarge, SortClash, NoMemory}
use Rattle.math_terms.specs.declared.term.Term.{Term}
use Rattle.math_terms.specs.declared.term.Term.TheOpen.{Term-F}
use Rattle.math_terms.specs.declared.term.Term.TheFolds.{map-Term, fold-roll-Term, ind-Term}
use Rattle.math_terms.specs.Sorts.{Sorting, all_sorts, as_b, b, both_sorts, given, given_two, is_b, is_str, is_z, kept, mapped, meeting, orders, param, part_of, sort, sort_step, sorting, sorting_step, str, tuple_option, z}
use Rattle.math_terms.specs.working.Walking.{IsClash}
use Rattle.math_terms.proofs.Walks.{found_later, sorting_sort}

abbrev IsSorted : Option Sort → Type 0
IsSorted x = (t : Sort) × (x ≡ Some t)

-- the rules of nodes give nothing where a child has no sort
given_some : (test : Sort → Bool) (r : Sort) (x : Option Sort) (s : Sort) → given test r x ≡ Some s → IsSorted x
given_some test r None s h = absurd cc
given_some test r (Some t) s h = (t, refl)

given_two_some : (test : Sort → Bool) (r : Sort) (x y : Option Sort) (s : Sort) → given_two test r x y ≡ Some s → IsSorted x × (IsSorted y × Unit {0})
given_two_some test r x None s h = absurd cc
given_two_some test r x (Some t) s h = (given_some test r x s (chosen (test t) h), ((t, refl), tt))
  where
    chosen : (c : Bool) → (if c then given test r x else None) ≡ Some s → given test r x ≡ Some s
    chosen true h = h
    chosen false h = cc

mapped_some : (f : Sort → Sort) (x : Option Sort) (s : Sort) → mapped f x ≡ Some s → IsSorted x
mapped_some f None s h = absurd cc
mapped_some f (Some t) s h = (t, refl)

kept_some : (test : Sort → Bool) (x : Option Sort) (s : Sort) → kept test x ≡ Some s → IsSorted x
kept_some test None s h = absurd cc
kept_some test (Some t) s h = (t, refl)

part_of_some : (k : ℕ) (x : Option Sort) (s : Sort) → part_of k x ≡ Some s → IsSorted x
part_of_some k None s h = absurd cc
part_of_some k (Some t) s h = (t, refl)

as_b_some : (x : Option Sort) (s : Sort) → as_b x ≡ Some s → IsSorted x
as_b_some None s h = absurd cc
as_b_some (Some t) s h = (t, refl)

tuple_some : (x : Option (List Sort)) (s : Sort) → tuple_option x ≡ Some s → (ss : List Sort) × (x ≡ Some ss)
tuple_some None s h = absurd cc
tuple_some (Some ss) s h = (ss, refl)

meeting_some : (x y : Option Sort) → IsSorted (meeting x y) → IsSorted x × (IsSorted y × Unit {0})
meeting_some None y h = let e = h.1 in absurd cc
meeting_some (Some t) None h = let e = h.1 in absurd cc
meeting_some (Some t) (Some u) h = ((t, refl), ((u, refl), tt))

cat_some : (x y : Option Sort) (s : Sort) → meeting (kept is_str x) (kept is_str y) ≡ Some s → IsSorted x × (IsSorted y × Unit {0})
cat_some x y s h =
    let m = meeting_some (kept is_str x) (kept is_str y) (s, h) in
    (kept_some is_str x m.0.0 m.0.1, (kept_some is_str y m.1.0.0 m.1.0.1, tt))

part_some : (i j x : Option Sort) (s : Sort) → option_and_then (λ n. kept is_str x) (given_two is_z z i j) ≡ Some s → IsSorted i × (IsSorted j × (IsSorted x × Unit {0}))
part_some i j x s h = then_some (given_two is_z z i j) refl h
  where
    then_some : (o : Option Sort) → given_two is_z z i j ≡ o → option_and_then (λ n. kept is_str x) o ≡ Some s → IsSorted i × (IsSorted j × (IsSorted x × Unit {0}))
    then_some None e h = absurd cc
    then_some (Some t) e h =
        let places = given_two_some is_z z i j t e in
        (places.0, (places.1.0, (kept_some is_str x s h, tt)))

-- all have sorts
abbrev AllSorted : List Sorting → Type 0
AllSorted [] = Unit {0}
AllSorted (p ∷ ps) = IsSorted p.0 × AllSorted ps

all_some : (ps : List Sorting) → (ss : List Sort) × (all_sorts (map (λ (p : Sorting). p.0) ps) ≡ Some ss) → AllSorted ps
all_some [] h = tt
all_some (p ∷ ps) h = first_and_rest p.0 (all_sorts (map (λ (q : Sorting). q.0) ps)) (all_some ps) h.0 h.1
  where
    first_and_rest : (x : Option Sort) (xs : Option (List Sort)) → ((rs : List Sort) × (xs ≡ Some rs) → AllSorted ps)
        → (ss : List Sort) → both_sorts x xs ≡ Some ss → IsSorted x × AllSorted ps
    first_and_rest None xs f ss h = absurd cc
    first_and_rest (Some t) None f ss h = absurd cc
    first_and_rest (Some t) (Some rs) f ss h = ((t, refl), f (rs, refl))

module _ (vars : List Sort) where
  Sorted : Term → Type 0
  Sorted t = (s : Sort) (start : ℕ) → (sorting vars t).0 ≡ Some s → position_from is_none start (sorting vars t).1 ≡ None

  abbrev sortings : Term-F ((t : Term) × Sorted t) → Term-F Sorting
  sortings y = map-Term Term Sorting (sorting vars) (map-Term ((t : Term) × Sorted t) Term (λ e. e.0) y)

  orders_sorted : (start : ℕ) (es : List ((t : Term) × Sorted t)) → AllSorted (map (sorting vars) (map (λ (e : (t : Term) × Sorted t). e.0) es))
      → position_from is_none start (orders (map (sorting vars) (map (λ (e : (t : Term) × Sorted t). e.0) es))) ≡ None
  unfolding Sorted
  orders_sorted start [] h = refl
  orders_sorted start (e ∷ es) h =
      let order = (sorting vars e.0).1 in
      found_later start order (orders (map (sorting vars) (map (λ (k : (t : Term) × Sorted t). k.0) es))) (e.1 h.0.0 start h.0.1)
      ∙ orders_sorted (start + length order) es h.1

  over_sorted : (start : ℕ) (es : List ((t : Term) × Sorted t)) (o : Option Sort) (s : Sort) → o ≡ Some s → AllSorted (map (sorting vars) (map (λ (e : (t : Term) × Sorted t). e.0) es))
      → position_from is_none start (orders (map (sorting vars) (map (λ (e : (t : Term) × Sorted t). e.0) es)) ++ (o ∷ [])) ≡ None
  over_sorted start es o s e h =
      let order = orders (map (sorting vars) (map (λ (k : (t : Term) × Sorted t). k.0) es)) in
      ap (λ k. position_from is_none start (order ++ (k ∷ []))) e
      ∙ found_later start order (Some s ∷ []) (orders_sorted start es h)

  -- the same of a node, where it holds of the children
  node_sorted : (y : Term-F ((t : Term) × Sorted t)) (s : Sort) (start : ℕ) → (sorting_step vars (sortings y)).0 ≡ Some s → position_from is_none start (sorting_step vars (sortings y)).1 ≡ None
  node_sorted (Term-F.Num n) s start h = over_sorted start [] (sort_step vars (map-Term Sorting (Option Sort) (λ p. p.0) (sortings (Term-F.Num n)))) s h (tt)
  node_sorted (Term-F.Truth c) s start h = over_sorted start [] (sort_step vars (map-Term Sorting (Option Sort) (λ p. p.0) (sortings (Term-F.Truth c)))) s h (tt)
  node_sorted Term-F.MinInt s start h = over_sorted start [] (sort_step vars (map-Term Sorting (Option Sort) (λ p. p.0) (sortings Term-F.MinInt))) s h (tt)
  node_sorted Term-F.MaxInt s start h = over_sorted start [] (sort_step vars (map-Term Sorting (Option Sort) (λ p. p.0) (sortings Term-F.MaxInt))) s h (tt)
  node_sorted (Term-F.Var k) s start h = over_sorted start [] (sort_step vars (map-Term Sorting (Option Sort) (λ p. p.0) (sortings (Term-F.Var k)))) s h (tt)
  node_sorted (Term-F.Add e f) s start h = over_sorted start (e ∷ f ∷ []) (sort_step vars (map-Term Sorting (Option Sort) (λ p. p.0) (sortings (Term-F.Add e f)))) s h (given_two_some is_z z (sorting vars e.0).0 (sorting vars f.0).0 s h)
  node_sorted (Term-F.Sub e f) s start h = over_sorted start (e ∷ f ∷ []) (sort_step vars (map-Term Sorting (Option Sort) (λ p. p.0) (sortings (Term-F.Sub e f)))) s h (given_two_some is_z z (sorting vars e.0).0 (sorting vars f.0).0 s h)
  node_sorted (Term-F.Mul e f) s start h = over_sorted start (e ∷ f ∷ []) (sort_step vars (map-Term Sorting (Option Sort) (λ p. p.0) (sortings (Term-F.Mul e f)))) s h (given_two_some is_z z (sorting vars e.0).0 (sorting vars f.0).0 s h)
  node_sorted (Term-F.Div e f) s start h = over_sorted start (e ∷ f ∷ []) (sort_step vars (map-Term Sorting (Option Sort) (λ p. p.0) (sortings (Term-F.Div e f)))) s h (given_two_some is_z z (sorting vars e.0).0 (sorting vars f.0).0 s h)
  node_sorted (Term-F.Mod e f) s start h = over_sorted start (e ∷ f ∷ []) (sort_step vars (map-Term Sorting (Option Sort) (λ p. p.0) (sortings (Term-F.Mod e f)))) s h (given_two_some is_z z (sorting vars e.0).0 (sorting vars f.0).0 s h)
  node_sorted (Term-F.Len e) s start h = over_sorted start (e ∷ []) (sort_step vars (map-Term Sorting (Option Sort) (λ p. p.0) (sortings (Term-F.Len e)))) s h ((given_some is_str z (sorting vars e.0).0 s h, tt))
  node_sorted Term-F.Empty s start h = over_sorted start [] (sort_step vars (map-Term Sorting (Option Sort) (λ p. p.0) (sortings Term-F.Empty))) s h (tt)
  node_sorted (Term-F.Single e) s start h = over_sorted start (e ∷ []) (sort_step vars (map-Term Sorting (Option Sort) (λ p. p.0) (sortings (Term-F.Single e)))) s h ((mapped_some str (sorting vars e.0).0 s h, tt))
  node_sorted (Term-F.Cat e f) s start h = over_sorted start (e ∷ f ∷ []) (sort_step vars (map-Term Sorting (Option Sort) (λ p. p.0) (sortings (Term-F.Cat e f)))) s h (cat_some (sorting vars e.0).0 (sorting vars f.0).0 s h)
  node_sorted (Term-F.Reverse e) s start h = over_sorted start (e ∷ []) (sort_step vars (map-Term Sorting (Option Sort) (λ p. p.0) (sortings (Term-F.Reverse e)))) s h ((kept_some is_str (sorting vars e.0).0 s h, tt))
  node_sorted (Term-F.Part d e f) s start h = over_sorted start (d ∷ e ∷ f ∷ []) (sort_step vars (map-Term Sorting (Option Sort) (λ p. p.0) (sortings (Term-F.Part d e f)))) s h (part_some (sorting vars d.0).0 (sorting vars e.0).0 (sorting vars f.0).0 s h)
  node_sorted (Term-F.Tuple es) s start h = over_sorted start es (sort_step vars (map-Term Sorting (Option Sort) (λ p. p.0) (sortings (Term-F.Tuple es)))) s h (all_some (map (sorting vars) (map (λ (e : (t : Term) × Sorted t). e.0) es)) (tuple_some (all_sorts (map (λ (p : Sorting). p.0) (map (sorting vars) (map (λ (e : (t : Term) × Sorted t). e.0) es)))) s h))
  node_sorted (Term-F.Proj k e) s start h = over_sorted start (e ∷ []) (sort_step vars (map-Term Sorting (Option Sort) (λ p. p.0) (sortings (Term-F.Proj k e)))) s h ((part_of_some k (sorting vars e.0).0 s h, tt))
  node_sorted (Term-F.Eq e f) s start h = over_sorted start (e ∷ f ∷ []) (sort_step vars (map-Term Sorting (Option Sort) (λ p. p.0) (sortings (Term-F.Eq e f)))) s h (meeting_some (sorting vars e.0).0 (sorting vars f.0).0 (as_b_some (meeting (sorting vars e.0).0 (sorting vars f.0).0) s h))
  node_sorted (Term-F.Less e f) s start h = over_sorted start (e ∷ f ∷ []) (sort_step vars (map-Term Sorting (Option Sort) (λ p. p.0) (sortings (Term-F.Less e f)))) s h (given_two_some is_z b (sorting vars e.0).0 (sorting vars f.0).0 s h)
  node_sorted (Term-F.LessEq e f) s start h = over_sorted start (e ∷ f ∷ []) (sort_step vars (map-Term Sorting (Option Sort) (λ p. p.0) (sortings (Term-F.LessEq e f)))) s h (given_two_some is_z b (sorting vars e.0).0 (sorting vars f.0).0 s h)
  node_sorted (Term-F.Not e) s start h = over_sorted start (e ∷ []) (sort_step vars (map-Term Sorting (Option Sort) (λ p. p.0) (sortings (Term-F.Not e)))) s h ((given_some is_b b (sorting vars e.0).0 s h, tt))
  node_sorted (Term-F.And e f) s start h = over_sorted start (e ∷ f ∷ []) (sort_step vars (map-Term Sorting (Option Sort) (λ p. p.0) (sortings (Term-F.And e f)))) s h (given_two_some is_b b (sorting vars e.0).0 (sorting vars f.0).0 s h)
  node_sorted (Term-F.Or e f) s start h = over_sorted start (e ∷ f ∷ []) (sort_step vars (map-Term Sorting (Option Sort) (λ p. p.0) (sortings (Term-F.Or e f)))) s h (given_two_some is_b b (sorting vars e.0).0 (sorting vars f.0).0 s h)
  node_sorted (Term-F.Implies e f) s start h = over_sorted start (e ∷ f ∷ []) (sort_step vars (map-Term Sorting (Option Sort) (λ p. p.0) (sortings (Term-F.Implies e f)))) s h (given_two_some is_b b (sorting vars e.0).0 (sorting vars f.0).0 s h)
  node_sorted (Term-F.Initial k e) s start h = over_sorted start (e ∷ []) (sort_step vars (map-Term Sorting (Option Sort) (λ p. p.0) (sortings (Term-F.Initial k e)))) s h (((meeting_some (sorting vars e.0).0 (Some (param k)) (as_b_some (meeting (sorting vars e.0).0 (Some (param k))) s h)).0, tt))

  all_sorted : (t : Term) (s : Sort) (start : ℕ) → (sorting vars t).0 ≡ Some s → position_from is_none start (sorting vars t).1 ≡ None
  unfolding Sorted
  all_sorted = ind-Term Sorted (λ x y is s start h.
      let opened = fold-roll-Term Sorting (sorting_step vars) x in
      ap (λ (p : Sorting). position_from is_none start p.1) opened
      ∙ subst (λ q. (r : Sort) (k : ℕ) → (sorting_step vars (map-Term Term Sorting (sorting vars) q)).0 ≡ Some r → position_from is_none k (sorting_step vars (map-Term Term Sorting (sorting vars) q)).1 ≡ None) is
      (node_sorted y) s start (ap (λ (p : Sorting). p.0) (sym opened) ∙ h))

-- a term in which some node has no sort has none
none_from : (o : Option Sort) → ((s : Sort) → o ≡ Some s → ⊥) → o ≡ None
none_from None h = refl
none_from (Some s) h = absurd (h s refl)

pub unsorted : (vars : List Sort) (t : Term) (e : TermError) → IsClash 0 (sorting vars t).1 e → (e ≡ NoMemory → ⊥) → sort vars t ≡ None
unsorted vars t TooLarge h not_memory = absurd h
unsorted vars t (SortClash node) h not_memory =
    sym (sorting_sort vars t) ∙ none_from (sorting vars t).0 (λ s e. let clear = all_sorted vars t s 0 e in cc)
unsorted vars t NoMemory h not_memory = absurd (not_memory refl)
