-- Tables that grow.
use Rattle.std.proofs.Common.{◌≡◌, ◌∙◌, sym, ap, subst, refl, ℕ, zero, suc, ◌-◌, Option, Some, None, slice_get, drop, ◌+◌, ◌<◌, ◌≤◌, Bool, true, false, List, [], ◌∷◌, ◌++◌, length, take, get_or, append_assoc, append-nil, inl, inr, if◌then◌else◌, arith}
use Rattle.std.specs.List.{list_any}
use Rattle.std.proofs.lemmas.Option.{slice_get_past, slice_get-get_or}
use Rattle.std.proofs.lemmas.List.{get_or_default, take_more, length-append, length-take, take-append-drop}
use Rattle.math_terms.specs.declared.term.Term.{Term}
use Rattle.math_terms.specs.declared.descriptor.Sort.{Sort}
use Rattle.math_terms.specs.Heads.{same_term}
use Rattle.num_theory.specs.declared.table.RowError.{RowError}
use Rattle.num_theory.specs.declared.table.RowError.TheVariants.{TooMany, NoMemory}
use Rattle.num_theory.specs.Linear.{Product}
use Rattle.num_theory.specs.Table.{Gathered, IsRowRefusal, IsTooMany, Sum, atoms_of, facts_of, sums_from, sums_of, sums_of_fact, sums_of_facts, go_on, with_all_facts, with_atom, with_atoms, with_facts}
use Rattle.num_theory.specs.working.Gathering.{with_each_fact, with_fact, with_sums}

with_atoms-append : (atoms : List Term) (ps qs : List Product) → with_atoms atoms (ps ++ qs) ≡ with_atoms (with_atoms atoms ps) qs
with_atoms-append atoms [] qs = refl
with_atoms-append atoms (p ∷ ps) qs = with_atoms-append (with_atom atoms p.1) ps qs

-- the atoms of one product more
pub with_atoms_more : (atoms : List Term) (ps : List Product) (k : ℕ) (p : Product) → k < length ps → p ≡ get_or ps k p →
    with_atoms atoms (take (k + 1) ps) ≡ with_atom (with_atoms atoms (take k ps)) p.1
with_atoms_more atoms ps k p within is =
    ap (with_atoms atoms) (take_more ps k p within ∙ ap (λ q. take k ps ++ q ∷ []) (sym is)) ∙ with_atoms-append atoms (take k ps) (p ∷ [])

atoms_of-append : (atoms : List Term) (ss ts : List Sum) → atoms_of atoms (ss ++ ts) ≡ atoms_of (atoms_of atoms ss) ts
atoms_of-append atoms [] ts = refl
atoms_of-append atoms (s ∷ ss) ts = atoms_of-append (with_atoms atoms s.products) ss ts

-- rows added in two steps
pub with_sums-append : (g : Gathered) (ss ts : List Sum) → with_sums (with_sums g ss) ts ≡ with_sums g (ss ++ ts)
with_sums-append g ss ts = λ i. record { atoms = sym (atoms_of-append g.atoms ss ts) i; sums = append_assoc g.sums ss ts i; facts = g.facts }

pub with_sums-none : (g : Gathered) → with_sums g [] ≡ g
with_sums-none g = λ i. record { atoms = g.atoms; sums = append-nil g.sums i; facts = g.facts }

with_atom_grows : (atoms : List Term) (t : Term) → length atoms ≤ length (with_atom atoms t)
with_atom_grows atoms t = by_test (list_any (same_term t) atoms)
  where
    by_test : (b : Bool) → length atoms ≤ length (if b then atoms else atoms ++ t ∷ [])
    by_test true = omega arith
    by_test false = omega (arith, length-append atoms (t ∷ []))

with_atoms_grow : (atoms : List Term) (ps : List Product) → length atoms ≤ length (with_atoms atoms ps)
with_atoms_grow atoms [] = omega arith
with_atoms_grow atoms (p ∷ ps) = omega (arith, with_atom_grows atoms p.1, with_atoms_grow (with_atom atoms p.1) ps)

pub atoms_grow : (atoms : List Term) (ss : List Sum) → length atoms ≤ length (atoms_of atoms ss)
atoms_grow atoms [] = omega arith
atoms_grow atoms (s ∷ ss) = omega (arith, with_atoms_grow atoms s.products, atoms_grow (with_atoms atoms s.products) ss)

-- too many stay too many
pub too_many_grow : (g h : Gathered) → length g.atoms ≤ length h.atoms → length g.sums ≤ length h.sums → IsTooMany g → IsTooMany h
too_many_grow g h atoms sums many = elim many as (λ _. IsTooMany h) [ inl m ↦ inl (omega arith) | inr m ↦ inr (omega arith) ]

pub too_many_with : (g : Gathered) (ss : List Sum) → IsTooMany g → IsTooMany (with_sums g ss)
too_many_with g ss = too_many_grow g (with_sums g ss) (atoms_grow g.atoms ss) (omega (arith, length-append g.sums ss))

-- a cause for no table stays one where more rows are to be added
pub refusal_grows : (e : RowError) (g : Gathered) (ss ts : List Sum) → IsRowRefusal e (with_sums g ss) → IsRowRefusal e (with_sums g (ss ++ ts))
refusal_grows TooMany g ss ts many = subst IsTooMany (with_sums-append g ss ts) (too_many_with (with_sums g ss) ts many)
refusal_grows NoMemory g ss ts many = tt

-- the rows of one formula more
pub sums_from-push : (vars : List Sort) (k : ℕ) (fs : List Term) (f : Term) → sums_from vars k (fs ++ f ∷ []) ≡ sums_from vars k fs ++ sums_of vars (k + length fs) f
sums_from-push vars k [] f =
    let e : k + 0 ≡ k = omega arith in
    append-nil (sums_of vars k f) ∙ ap (λ n. sums_of vars n f) (sym e)
sums_from-push vars k (g ∷ fs) f =
    let e : k + 1 + length fs ≡ k + suc (length fs) = omega arith in
    ap (λ ss. sums_of vars k g ++ ss) (sums_from-push vars (k + 1) fs f ∙ ap (λ n. sums_from vars (k + 1) fs ++ sums_of vars n f) e)
    ∙ sym (append_assoc (sums_of vars k g) (sums_from vars (k + 1) fs) (sums_of vars (k + suc (length fs)) f))

pub sums_from_more : (vars : List Sort) (k : ℕ) (fs : List Term) (i : ℕ) (f : Term) → i < length fs → f ≡ get_or fs i f →
    sums_from vars k (take (i + 1) fs) ≡ sums_from vars k (take i fs) ++ sums_of vars (k + i) f
sums_from_more vars k fs i f within is =
    let size : length (take i fs) ≡ i = simp length-take (omega arith) in
    ap (sums_from vars k) (take_more fs i f within ∙ ap (λ g. take i fs ++ g ∷ []) (sym is)) ∙ sums_from-push vars k (take i fs) f
    ∙ ap (λ n. sums_from vars k (take i fs) ++ sums_of vars (k + n) f) size

-- facts one after another
pub with_each_fact-is : (g : Gathered) (fs : List Term) →
    with_each_fact g fs ≡ record (with_sums g (sums_of_facts (g.facts + 1) fs)) { facts = g.facts + length fs }
with_each_fact-is g [] =
    let e : g.facts ≡ g.facts + 0 = omega arith in
    λ i. record { atoms = g.atoms; sums = sym (append-nil g.sums) i; facts = e i }
with_each_fact-is g (f ∷ fs) =
    let e : g.facts + 1 + length fs ≡ g.facts + suc (length fs) = omega arith in
    let ss : List Sum = sums_of_fact (g.facts + 1) f in
    let ts : List Sum = sums_of_facts (g.facts + 1 + 1) fs in
    with_each_fact-is (with_fact g f) fs
    ∙ (λ i. record (with_sums-append g ss ts i) { facts = e i })

pub with_each_fact-push : (g : Gathered) (fs : List Term) (f : Term) → with_each_fact g (fs ++ f ∷ []) ≡ with_fact (with_each_fact g fs) f
with_each_fact-push g [] f = refl
with_each_fact-push g (h ∷ fs) f = with_each_fact-push (with_fact g h) fs f

pub with_each_fact_more : (g : Gathered) (fs : List Term) (i : ℕ) (f : Term) → i < length fs → f ≡ get_or fs i f →
    with_each_fact g (take (i + 1) fs) ≡ with_fact (with_each_fact g (take i fs)) f
with_each_fact_more g fs i f within is =
    ap (with_each_fact g) (take_more fs i f within ∙ ap (λ h. take i fs ++ h ∷ []) (sym is)) ∙ with_each_fact-push g (take i fs) f

too_many_fact : (g : Gathered) (f : Term) → IsTooMany g → IsTooMany (with_fact g f)
too_many_fact g f many = too_many_with g (sums_of_fact (g.facts + 1) f) many

pub too_many_each : (g : Gathered) (fs : List Term) → IsTooMany g → IsTooMany (with_each_fact g fs)
too_many_each g [] many = many
too_many_each g (f ∷ fs) many = too_many_each (with_fact g f) fs (too_many_fact g f many)

-- a cause for no table stays one where more facts are to be added
pub refusal_grows_facts : (e : RowError) (g : Gathered) (fs : List Term) (i : ℕ) → IsRowRefusal e (with_each_fact g (take i fs)) → IsRowRefusal e (with_each_fact g fs)
refusal_grows_facts TooMany g fs i many = subst IsTooMany (sym (in_two g (take i fs) (drop i fs)) ∙ ap (with_each_fact g) (take-append-drop i fs)) (too_many_each (with_each_fact g (take i fs)) (drop i fs) many)
  where
    in_two : (g : Gathered) (fs hs : List Term) → with_each_fact g (fs ++ hs) ≡ with_each_fact (with_each_fact g fs) hs
    in_two g [] hs = refl
    in_two g (f ∷ fs) hs = in_two (with_fact g f) fs hs
refusal_grows_facts NoMemory g fs i many = tt

pub with_facts-each : (g : Gathered) (atom : Term) → with_each_fact g (facts_of atom) ≡ with_facts g atom
with_facts-each g atom = with_each_fact-is g (facts_of atom)

-- the facts of all atoms: none are left, or one more atom
pub all_facts-past : (most i : ℕ) (g : Gathered) → length g.atoms ≤ i → with_all_facts most i g ≡ g
unfolding with_all_facts
all_facts-past zero i g past = refl
all_facts-past (suc most) i g past = ap (λ o. go_on g o (λ atom. with_all_facts most (i + 1) (with_facts g atom))) (slice_get_past g.atoms i past)

pub all_facts-at : (most i : ℕ) (g : Gathered) (atom : Term) → i < length g.atoms → atom ≡ get_or g.atoms i atom →
    with_all_facts (suc most) i g ≡ with_all_facts most (i + 1) (with_facts g atom)
unfolding with_all_facts
all_facts-at most i g atom within is = ap (λ o. go_on g o (λ a. with_all_facts most (i + 1) (with_facts g a))) (slice_get-get_or g.atoms i atom within ∙ ap (λ a. Some a) (sym is))

pub all_facts-none : (i : ℕ) (g : Gathered) → with_all_facts 0 i g ≡ g
unfolding with_all_facts
all_facts-none i g = refl

pub too_many_all : (most i : ℕ) (g : Gathered) → IsTooMany g → IsTooMany (with_all_facts most i g)
unfolding with_all_facts
too_many_all zero i g many = many
too_many_all (suc most) i g many = by_place (slice_get g.atoms i) (λ atom. too_many_all most (i + 1) (with_facts g atom) (subst IsTooMany (with_facts-each g atom) (too_many_each g (facts_of atom) many)))
  where
    by_place : (o : Option Term) → ((atom : Term) → IsTooMany (with_all_facts most (i + 1) (with_facts g atom))) →
        IsTooMany (go_on g o (λ atom. with_all_facts most (i + 1) (with_facts g atom)))
    by_place None next = many
    by_place (Some atom) next = next atom

pub refusal_grows_all : (e : RowError) (most i : ℕ) (g : Gathered) → IsRowRefusal e g → IsRowRefusal e (with_all_facts most i g)
refusal_grows_all TooMany most i g many = too_many_all most i g many
refusal_grows_all NoMemory most i g many = tt

-- a loop over the atoms, of which at most 64 have facts, at place i: one atom more, no atom left, and the end
pub facts_step : (i : ℕ) (whole g : Gathered) (d : Term) → i < 64 → i < length g.atoms → whole ≡ with_all_facts (64 - i) i g →
    whole ≡ with_all_facts (64 - (i + 1)) (i + 1) (with_facts g (get_or g.atoms i d))
facts_step i whole g d below within here =
    let one_less : 64 - i ≡ suc (64 - (i + 1)) = omega arith in
    here ∙ ap (λ most. with_all_facts most i g) one_less
    ∙ all_facts-at (64 - (i + 1)) i g (get_or g.atoms i d) within (get_or_default g.atoms i d (get_or g.atoms i d) within)

pub facts_past : (i : ℕ) (whole g : Gathered) → length g.atoms ≤ i → whole ≡ with_all_facts (64 - i) i g → whole ≡ g
facts_past i whole g past here = here ∙ all_facts-past (64 - i) i g past

pub facts_end : (i : ℕ) (whole g : Gathered) → 64 ≤ i → whole ≡ with_all_facts (64 - i) i g → whole ≡ g
facts_end i whole g past here =
    let none : 64 - i ≡ 0 = omega arith in
    here ∙ ap (λ most. with_all_facts most i g) none ∙ all_facts-none i g

sums_from-append : (vars : List Sort) (k : ℕ) (fs hs : List Term) → sums_from vars k (fs ++ hs) ≡ sums_from vars k fs ++ sums_from vars (k + length fs) hs
sums_from-append vars k [] hs =
    let e : k ≡ k + 0 = omega arith in
    ap (λ n. sums_from vars n hs) e
sums_from-append vars k (f ∷ fs) hs =
    let e : k + 1 + length fs ≡ k + suc (length fs) = omega arith in
    ap (λ ss. sums_of vars k f ++ ss) (sums_from-append vars (k + 1) fs hs ∙ ap (λ n. sums_from vars (k + 1) fs ++ sums_from vars n hs) e)
    ∙ sym (append_assoc (sums_of vars k f) (sums_from vars (k + 1) fs) (sums_from vars (k + suc (length fs)) hs))

-- a cause for no table stays one where more formulas are to come
pub refusal_grows_formulas : (e : RowError) (g : Gathered) (vars : List Sort) (k : ℕ) (fs : List Term) (i : ℕ) →
    IsRowRefusal e (with_sums g (sums_from vars k (take i fs))) → IsRowRefusal e (with_sums g (sums_from vars k fs))
refusal_grows_formulas e g vars k fs i refused =
    let front : List Sum = sums_from vars k (take i fs) in
    let back : List Sum = sums_from vars (k + length (take i fs)) (drop i fs) in
    subst (λ ss. IsRowRefusal e (with_sums g ss)) (sym (sums_from-append vars k (take i fs) (drop i fs)) ∙ ap (sums_from vars k) (take-append-drop i fs))
    (refusal_grows e g front back refused)
