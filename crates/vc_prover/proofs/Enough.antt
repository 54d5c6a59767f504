-- Facts of no more atoms than a table has rows at hand for: more turns change nothing.
use Rattle.std.proofs.Common.{◌≡◌, ◌∙◌, ap, refl, ℕ, zero, suc, ◌+◌, ◌<◌, ◌≤◌, List, [], length, Option, Some, None, slice_get, arith}
use Rattle.std.proofs.lemmas.Option.{slice_get_past}
use Rattle.math_terms.specs.declared.descriptor.Sort.{Sort}
use Rattle.math_terms.specs.declared.term.Term.{Term}
use Rattle.num_theory.specs.Naming.{most_atoms}
use Rattle.num_theory.specs.Table.{Gathered, atoms_of, gathered, go_on, sums_from, with_all_facts, with_facts}

go_same : (g : Gathered) (o : Option Term) (f h : Term → Gathered) (b : ℕ) → ((atom : Term) → length (h atom).atoms < b → f atom ≡ h atom) → length (go_on g o h).atoms < b → go_on g o f ≡ go_on g o h
go_same g None f h b same few = refl
go_same g (Some atom) f h b same few = same atom few

no_more : (n i : ℕ) (g : Gathered) → length g.atoms ≤ i → with_all_facts n i g ≡ g
unfolding with_all_facts
no_more zero i g h = refl
no_more (suc n) i g h = ap (λ o. go_on g o (λ atom. with_all_facts n (i + 1) (with_facts g atom))) (slice_get_past g.atoms i h)

facts_enough : (m n i : ℕ) (g : Gathered) → length (with_all_facts m i g).atoms < i + m → with_all_facts (m + n) i g ≡ with_all_facts m i g
unfolding with_all_facts
facts_enough zero n i g h = let e : 0 + n ≡ n = omega arith in ap (λ k. with_all_facts k i g) e ∙ no_more n i g (omega arith)
facts_enough (suc m) n i g h =
    let e : suc m + n ≡ suc (m + n) = omega arith in
    ap (λ k. with_all_facts k i g) e
    ∙ go_same g (slice_get g.atoms i) (λ atom. with_all_facts (m + n) (i + 1) (with_facts g atom)) (λ atom. with_all_facts m (i + 1) (with_facts g atom)) (i + suc m)
    (λ atom few. facts_enough m n (i + 1) (with_facts g atom) (omega (arith, few))) h

-- With fewer than 64 atoms all of these have had their facts.
pub rows_at_hand_is : (vars : List Sort) (formulas : List Term) → length (gathered 64 vars formulas).atoms ≤ 63 → gathered most_atoms vars formulas ≡ gathered 64 vars formulas
unfolding most_atoms
rows_at_hand_is vars formulas few =
    facts_enough 64 4294967232 0 (record { atoms = atoms_of [] (sums_from vars 1 formulas); sums = sums_from vars 1 formulas; facts = 0 }) (omega (arith, few))
