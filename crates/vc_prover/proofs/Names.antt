-- No two rows of a table have one name, so that each is found by its own.
use Rattle.std.proofs.Common.{◌≡◌, ◌∙◌, sym, ap, refl, subst, ℕ, zero, suc, ◌+◌, ◌*◌, ◌<◌, ◌≤◌, ◌&&◌, ℤ, pos, negsuc, ◌+ℤ◌, Bool, true, false, List, [], ◌∷◌, ◌++◌, length, map, Option, Some, None, option_and_then, slice_get, ⊎_elim, arith}
use Rattle.std.specs.Prelude.{◌==◌, if◌then◌else◌}
use Rattle.std.proofs.lemmas.Bool.{cases_Bool, cond_both, cond-true, cond-false, eqb-true, eq-eqb}
use Rattle.std.specs.List.{AllByRecursion}
use Rattle.math_terms.specs.declared.descriptor.Sort.{Sort}
use Rattle.math_terms.specs.declared.name.Line.{Line}
use Rattle.math_terms.specs.declared.name.RowName.{RowName}
use Rattle.math_terms.specs.declared.name.RowName.TheVariants.{Hyp, Second, Atom, Goal}
use Rattle.math_terms.specs.declared.term.Term.{Term}
use Rattle.math_terms.specs.declared.term.Term.TheOpen.{Term-F}
use Rattle.math_terms.specs.declared.term.Term.TheViews.{roll-Term, out-Term}
use Rattle.math_terms.specs.Sorts.{is_z}
use Rattle.math_terms.specs.Kinds.{kind}
use Rattle.num_theory.specs.Rows.{narrow}
use Rattle.num_theory.specs.Linear.{Product, linear_of}
use Rattle.num_theory.specs.Naming.{find_row, find_rows, name_among, same_name}
use Rattle.num_theory.specs.Table.{Gathered, Sum, atoms_of, difference, facts_of, gathered, go_on, sums_at, sums_from, sums_of, sums_of_equation, sums_of_fact, sums_of_fact_at, sums_of_facts, sums_of_form, with_all_facts, with_facts}
use Rattle.vc_prover.specs.Search.{is_used}
use Rattle.vc_prover.specs.working.Answers.{chosen}

-- names in order: those of formulas, and those of facts
abbrev is_fact : RowName → Bool
is_fact (Atom k) = true
is_fact n = false

abbrev is_goal : RowName → Bool
is_goal Goal = true
is_goal n = false

abbrev place : RowName → ℕ
place (Hyp k) = 2 * k
place (Second k) = 2 * k + 1
place (Atom k) = k
place Goal = 0

-- a row whose name lies in a span
record Spans (fact : Bool) (low high : ℕ) (s : Sum) : Type 0 where
  kind : is_fact s.name ≡ fact
  from : low ≤ place s.name
  below : place s.name < high
  named : is_goal s.name ≡ false

AreSpans : Bool → ℕ → ℕ → List Sum → Type 0
AreSpans fact low high ss = AllByRecursion (Spans fact low high) ss

abbrev Apart : Sum → Sum → Type 0
Apart s t = s.name ≡ t.name → ⊥

abbrev Distinct : List Sum → Type 0
Distinct [] = Unit {0}
Distinct (s ∷ ss) = AllByRecursion (Apart s) ss × Distinct ss

all_append : {A : Type 0} (P : A → Type 0) (xs ys : List A) → AllByRecursion P xs → AllByRecursion P ys → AllByRecursion P (xs ++ ys)
all_append P [] ys h k = k
all_append P (x ∷ xs) ys h k = (h.0, all_append P xs ys h.1 k)

all_weaker : {A : Type 0} (P Q : A → Type 0) → ((x : A) → P x → Q x) → (xs : List A) → AllByRecursion P xs → AllByRecursion Q xs
all_weaker P Q f [] h = tt
all_weaker P Q f (x ∷ xs) h = (f x h.0, all_weaker P Q f xs h.1)

-- two lists of rows of which those of the one have other names than those of the other
distinct_both : (P Q : Sum → Type 0) → ((s t : Sum) → P s → Q t → Apart s t) → (xs ys : List Sum) → AllByRecursion P xs → AllByRecursion Q ys → Distinct xs → Distinct ys → Distinct (xs ++ ys)
distinct_both P Q f [] ys h k d e = e
distinct_both P Q f (x ∷ xs) ys h k d e = (all_append (Apart x) xs ys d.0 (all_weaker Q (Apart x) (λ y q. f x y h.0 q) ys k), distinct_both P Q f xs ys h.1 k d.1 e)

apart_places : (fact : Bool) (a b c d : ℕ) → b ≤ c → (s t : Sum) → Spans fact a b s → Spans fact c d t → Apart s t
apart_places fact a b c d le s t h k e = omega (arith, h.below, k.from, ap place e)

-- the rows of one form have one name
module _ (fact : Bool) (low high : ℕ) (name : RowName) (kind : is_fact name ≡ fact) (from : low ≤ place name) (below : place name < high) (named : is_goal name ≡ false) where
  form_spans : (shift : ℤ) (o : Option (List Product × ℤ)) → AllByRecursion (Spans fact low high) (sums_of_form name shift o)
  form_spans shift None = tt
  form_spans shift (Some f) =
      cond_both (narrow (f.1 +ℤ shift)) (record { name = name; products = f.0; constant = f.1 +ℤ shift } ∷ []) [] (AllByRecursion (Spans fact low high))
      (λ _. (record { kind = kind; from = from; below = below; named = named }, tt)) (λ _. tt)

form_distinct : (name : RowName) (shift : ℤ) (o : Option (List Product × ℤ)) → Distinct (sums_of_form name shift o)
form_distinct name shift None = tt
form_distinct name shift (Some f) =
    cond_both (narrow (f.1 +ℤ shift)) (record { name = name; products = f.0; constant = f.1 +ℤ shift } ∷ []) [] Distinct (λ _. (tt, tt)) (λ _. tt)

-- the rows of formula k
hyp_spans : (high k : ℕ) (shift : ℤ) (a b : Term) → 2 * k < high → AllByRecursion (Spans false (2 * k) high) (difference (Hyp k) shift a b)
hyp_spans high k shift a b below = form_spans false (2 * k) high (Hyp k) refl (omega arith) below refl shift (linear_of (roll-Term (Term-F.Sub b a)))

second_spans : (k : ℕ) (shift : ℤ) (a b : Term) → AllByRecursion (Spans false (2 * k + 1) (2 * k + 2)) (difference (Second k) shift a b)
second_spans k shift a b = form_spans false (2 * k + 1) (2 * k + 2) (Second k) refl (omega arith) (omega arith) refl shift (linear_of (roll-Term (Term-F.Sub b a)))

wider : (fact : Bool) (a b c d : ℕ) → c ≤ a → b ≤ d → (s : Sum) → Spans fact a b s → Spans fact c d s
wider fact a b c d le me s h = record { kind = h.kind; from = omega (arith, h.from); below = omega (arith, h.below); named = h.named }

-- rows that stand in a span, no two with one name
record Good (fact : Bool) (low high : ℕ) (ss : List Sum) : Type 0 where
  spans : AllByRecursion (Spans fact low high) ss
  distinct : Distinct ss

good_both : (fact : Bool) (a b c : ℕ) (xs ys : List Sum) → a ≤ b → b ≤ c → Good fact a b xs → Good fact b c ys → Good fact a c (xs ++ ys)
good_both fact a b c xs ys le me h k = record {
  spans = all_append (Spans fact a c) xs ys (all_weaker (Spans fact a b) (Spans fact a c) (wider fact a b a c (omega arith) me) xs h.spans)
      (all_weaker (Spans fact b c) (Spans fact a c) (wider fact b c a c le (omega arith)) ys k.spans);
  distinct = distinct_both (Spans fact a b) (Spans fact b c) (apart_places fact a b b c (omega arith)) xs ys h.spans k.spans h.distinct k.distinct;
}

no_rows : (fact : Bool) (a b : ℕ) → Good fact a b []
no_rows fact a b = record { spans = tt; distinct = tt }

good_hyp : (k : ℕ) (shift : ℤ) (a b : Term) → Good false (2 * k) (2 * k + 2) (difference (Hyp k) shift a b)
good_hyp k shift a b = record { spans = hyp_spans (2 * k + 2) k shift a b (omega arith); distinct = form_distinct (Hyp k) shift (linear_of (roll-Term (Term-F.Sub b a))) }

good_equation : (vars : List Sort) (k : ℕ) (a b : Term) → Good false (2 * k) (2 * k + 2) (sums_of_equation vars k a b)
good_equation vars k a b =
    cond_both (is_z (kind vars a) && is_z (kind vars b)) (difference (Hyp k) (pos 0) a b ++ difference (Second k) (pos 0) b a) [] (Good false (2 * k) (2 * k + 2))
    (λ _. good_both false (2 * k) (2 * k + 1) (2 * k + 2) (difference (Hyp k) (pos 0) a b) (difference (Second k) (pos 0) b a) (omega arith) (omega arith)
    (record { spans = hyp_spans (2 * k + 1) k (pos 0) a b (omega arith); distinct = form_distinct (Hyp k) (pos 0) (linear_of (roll-Term (Term-F.Sub b a))) })
    (record { spans = second_spans k (pos 0) b a; distinct = form_distinct (Second k) (pos 0) (linear_of (roll-Term (Term-F.Sub a b))) }))
    (λ _. no_rows false (2 * k) (2 * k + 2))

good_at : (vars : List Sort) (k : ℕ) (x : Term-F Term) → Good false (2 * k) (2 * k + 2) (sums_at vars k x)
good_at vars k (Term-F.LessEq a b) = good_hyp k (pos 0) a b
good_at vars k (Term-F.Less a b) = good_hyp k (negsuc 0) a b
good_at vars k (Term-F.Eq a b) = good_equation vars k a b
good_at vars k x = no_rows false (2 * k) (2 * k + 2)

good_from : (vars : List Sort) (k : ℕ) (fs : List Term) → Good false (2 * k) (2 * (k + length fs)) (sums_from vars k fs)
good_from vars k [] = no_rows false (2 * k) (2 * (k + 0))
good_from vars k (f ∷ fs) =
    let rest : Good false (2 * k + 2) (2 * (k + length (f ∷ fs))) (sums_from vars (k + 1) fs) =
    let low : 2 * (k + 1) ≡ 2 * k + 2 = omega arith in
    let high : 2 * ((k + 1) + length fs) ≡ 2 * (k + length (f ∷ fs)) = omega arith in
    subst (λ (p : ℕ × ℕ). Good false p.0 p.1 (sums_from vars (k + 1) fs)) (λ i. (low i, high i)) (good_from vars (k + 1) fs) in
    good_both false (2 * k) (2 * k + 2) (2 * (k + length (f ∷ fs))) (sums_of vars k f) (sums_from vars (k + 1) fs) (omega arith) (omega arith) (good_at vars k (out-Term f)) rest

-- the rows of facts
good_fact_at : (k : ℕ) (x : Term-F Term) → Good true k (k + 1) (sums_of_fact_at k x)
good_fact_at k (Term-F.LessEq a b) = record {
  spans = form_spans true k (k + 1) (Atom k) refl (omega arith) (omega arith) refl (pos 0) (linear_of (roll-Term (Term-F.Sub b a)));
  distinct = form_distinct (Atom k) (pos 0) (linear_of (roll-Term (Term-F.Sub b a)));
}
good_fact_at k x = no_rows true k (k + 1)

good_facts : (k : ℕ) (fs : List Term) → Good true k (k + length fs) (sums_of_facts k fs)
good_facts k [] = no_rows true k (k + 0)
good_facts k (f ∷ fs) =
    let rest : Good true (k + 1) (k + length (f ∷ fs)) (sums_of_facts (k + 1) fs) =
    let high : (k + 1) + length fs ≡ k + length (f ∷ fs) = omega arith in
    subst (λ m. Good true (k + 1) m (sums_of_facts (k + 1) fs)) high (good_facts (k + 1) fs) in
    good_both true k (k + 1) (k + length (f ∷ fs)) (sums_of_fact k f) (sums_of_facts (k + 1) fs) (omega arith) (omega arith) (good_fact_at k (out-Term f)) rest

-- a row of a formula, or of a fact up to this number
record IsOld (facts : ℕ) (s : Sum) : Type 0 where
  old : is_fact s.name ≡ true → place s.name ≤ facts
  named : is_goal s.name ≡ false

record Whole (g : Gathered) : Type 0 where
  old : AllByRecursion (IsOld g.facts) g.sums
  distinct : Distinct g.sums

whole_facts : (g : Gathered) (atom : Term) → Whole g → Whole (with_facts g atom)
whole_facts g atom h =
    let new = good_facts (g.facts + 1) (facts_of atom) in
    record {
      old = all_append (IsOld (g.facts + length (facts_of atom))) g.sums (sums_of_facts (g.facts + 1) (facts_of atom))
          (all_weaker (IsOld g.facts) (IsOld (g.facts + length (facts_of atom))) (λ s o. record { old = λ is. omega (arith, o.old is); named = o.named }) g.sums h.old)
          (all_weaker (Spans true (g.facts + 1) ((g.facts + 1) + length (facts_of atom))) (IsOld (g.facts + length (facts_of atom))) (λ s o. record { old = λ is. omega (arith, o.below); named = o.named })
          (sums_of_facts (g.facts + 1) (facts_of atom)) new.spans);
      distinct = distinct_both (IsOld g.facts) (Spans true (g.facts + 1) ((g.facts + 1) + length (facts_of atom)))
          (λ s t o n e. omega (arith, o.old (ap is_fact e ∙ n.kind), n.from, ap place e)) g.sums (sums_of_facts (g.facts + 1) (facts_of atom)) h.old new.spans h.distinct new.distinct;
    }

whole_gone_on : (g : Gathered) (o : Option Term) (next : Term → Gathered) → Whole g → ((atom : Term) → Whole (next atom)) → Whole (go_on g o next)
whole_gone_on g None next h k = h
whole_gone_on g (Some atom) next h k = k atom

whole_all_facts : (most i : ℕ) (g : Gathered) → Whole g → Whole (with_all_facts most i g)
unfolding with_all_facts
whole_all_facts zero i g h = h
whole_all_facts (suc most) i g h =
    whole_gone_on g (slice_get g.atoms i) (λ atom. with_all_facts most (i + 1) (with_facts g atom)) h (λ atom. whole_all_facts most (i + 1) (with_facts g atom) (whole_facts g atom h))

whole_gathered : (most : ℕ) (vars : List Sort) (formulas : List Term) → Whole (gathered most vars formulas)
whole_gathered most vars formulas =
    let first = good_from vars 1 formulas in
    whole_all_facts most 0 (record { atoms = atoms_of [] (sums_from vars 1 formulas); sums = sums_from vars 1 formulas; facts = 0 })
    (record {
      old = all_weaker (Spans false (2 * 1) (2 * (1 + length formulas))) (IsOld 0) (λ s o. record { old = λ is. let clash : false ≡ true = sym o.kind ∙ is in cc; named = o.named }) (sums_from vars 1 formulas) first.spans;
      distinct = first.distinct;
    })

same_name_same : (n : RowName) → same_name n n ≡ true
same_name_same (Hyp k) = eq-eqb k k refl
same_name_same (Second k) = eq-eqb k k refl
same_name_same (Atom k) = eq-eqb k k refl
same_name_same Goal = refl

same_name_is : (m n : RowName) → same_name m n ≡ true → m ≡ n
same_name_is (Hyp j) (Hyp k) h = ap Hyp (eqb-true j k h)
same_name_is (Second j) (Second k) h = ap Second (eqb-true j k h)
same_name_is (Atom j) (Atom k) h = ap Atom (eqb-true j k h)
same_name_is Goal Goal h = refl
same_name_is m n h = cc

-- the name of the negated goal's row tells which it is
module _ (hyps : ℕ) where
  hyp_among : (k : ℕ) (n : RowName) → is_goal n ≡ false → (Hyp k ≡ n → ⊥) → (b : Bool) → (k == suc hyps) ≡ b → (if b then Goal else Hyp k) ≡ name_among hyps n → ⊥
  hyp_among k (Hyp j) named apart true is e =
      ⊎_elim
      (λ (same : (j == suc hyps) ≡ true). apart (ap Hyp (eqb-true k (suc hyps) is ∙ sym (eqb-true j (suc hyps) same))))
      (λ (other : (j == suc hyps) ≡ false). let clash : Goal ≡ Hyp j = e ∙ cond-false (j == suc hyps) Goal (Hyp j) other in cc)
      (cases_Bool (j == suc hyps))
  hyp_among k (Hyp j) named apart false is e =
      ⊎_elim
      (λ (same : (j == suc hyps) ≡ true). let clash : Hyp k ≡ Goal = e ∙ cond-true (j == suc hyps) Goal (Hyp j) same in cc)
      (λ (other : (j == suc hyps) ≡ false). apart (e ∙ cond-false (j == suc hyps) Goal (Hyp j) other))
      (cases_Bool (j == suc hyps))
  hyp_among k (Second j) named apart true is e = cc
  hyp_among k (Second j) named apart false is e = cc
  hyp_among k (Atom j) named apart true is e = cc
  hyp_among k (Atom j) named apart false is e = cc
  hyp_among k Goal named apart b is e = cc

  among_apart : (m n : RowName) → is_goal m ≡ false → is_goal n ≡ false → (m ≡ n → ⊥) → name_among hyps m ≡ name_among hyps n → ⊥
  among_apart (Hyp k) n named other apart e = hyp_among k n other apart (k == suc hyps) refl e
  among_apart (Second k) (Hyp j) named other apart e = hyp_among j (Second k) named (λ d. apart (sym d)) (j == suc hyps) refl (sym e)
  among_apart (Second k) (Second j) named other apart e = apart e
  among_apart (Second k) (Atom j) named other apart e = cc
  among_apart (Second k) Goal named other apart e = cc
  among_apart (Atom k) (Hyp j) named other apart e = hyp_among j (Atom k) named (λ d. apart (sym d)) (j == suc hyps) refl (sym e)
  among_apart (Atom k) (Second j) named other apart e = cc
  among_apart (Atom k) (Atom j) named other apart e = apart e
  among_apart (Atom k) Goal named other apart e = cc
  among_apart Goal n named other apart e = cc

  -- a row is found by its name
  IsFoundIn : List Sum → Sum → Type 0
  IsFoundIn all r = find_row hyps (name_among hyps r.name) all ≡ Some r

  found_behind : (s r : Sum) (ss : List Sum) → is_goal s.name ≡ false → is_goal r.name ≡ false → Apart s r → IsFoundIn ss r → IsFoundIn (s ∷ ss) r
  unfolding IsFoundIn
  found_behind s r ss named other apart h =
      ⊎_elim
      (λ (same : same_name (name_among hyps r.name) (name_among hyps s.name) ≡ true).
      absurd (among_apart r.name s.name other named (λ e. apart (sym e)) (same_name_is (name_among hyps r.name) (name_among hyps s.name) same)))
      (λ (differ : same_name (name_among hyps r.name) (name_among hyps s.name) ≡ false).
      cond-false (same_name (name_among hyps r.name) (name_among hyps s.name)) (Some s) (find_row hyps (name_among hyps r.name) ss) differ ∙ h)
      (cases_Bool (same_name (name_among hyps r.name) (name_among hyps s.name)))

  all_behind : (s : Sum) (all rs : List Sum) → is_goal s.name ≡ false → AllByRecursion (λ r. is_goal r.name ≡ false) rs → AllByRecursion (Apart s) rs → AllByRecursion (IsFoundIn all) rs → AllByRecursion (IsFoundIn (s ∷ all)) rs
  all_behind s all [] named others apart h = tt
  all_behind s all (r ∷ rs) named others apart h = (found_behind s r all named others.0 apart.0 h.0, all_behind s all rs named others.1 apart.1 h.1)

  each_found : (ss : List Sum) → AllByRecursion (λ r. is_goal r.name ≡ false) ss → Distinct ss → AllByRecursion (IsFoundIn ss) ss
  unfolding IsFoundIn
  each_found [] named distinct = tt
  each_found (s ∷ ss) named distinct = (
    cond-true (same_name (name_among hyps s.name) (name_among hyps s.name)) (Some s) (find_row hyps (name_among hyps s.name) ss) (same_name_same (name_among hyps s.name)),
    all_behind s ss ss named.0 named.1 distinct.0 (each_found ss named.1 distinct.1),
  )

  rows_found : (all rs : List Sum) → AllByRecursion (IsFoundIn all) rs → find_rows hyps all (map (λ r. name_among hyps r.name) rs) ≡ Some rs
  unfolding IsFoundIn
  rows_found all [] h = refl
  rows_found all (r ∷ rs) h =
      ap (option_and_then (λ s. option_and_then (λ ss. Some (s ∷ ss)) (find_rows hyps all (map (λ r. name_among hyps r.name) rs)))) h.0
      ∙ ap (option_and_then (λ ss. Some (r ∷ ss))) (rows_found all rs h.1)

all_chosen : {A : Type 0} (P : A → Type 0) (k : ℕ) (xs : List A) (lines : List Line) → AllByRecursion P xs → AllByRecursion P (chosen k xs lines)
all_chosen P k [] lines h = tt
all_chosen P k (x ∷ xs) lines h =
    cond_both (is_used k lines) (x ∷ chosen (k + 1) xs lines) (chosen (k + 1) xs lines) (AllByRecursion P) (λ _. (h.0, all_chosen P (k + 1) xs lines h.1)) (λ _. all_chosen P (k + 1) xs lines h.1)

-- The rows that lines use are found by their names.
pub chosen_found : (hyps most : ℕ) (vars : List Sort) (formulas : List Term) (lines : List Line) →
    find_rows hyps (gathered most vars formulas).sums (map (λ r. name_among hyps r.name) (chosen 1 (gathered most vars formulas).sums lines)) ≡ Some (chosen 1 (gathered most vars formulas).sums lines)
chosen_found hyps most vars formulas lines =
    let whole = whole_gathered most vars formulas in
    let sums : List Sum = (gathered most vars formulas).sums in
    let named = all_weaker (IsOld (gathered most vars formulas).facts) (λ r. is_goal r.name ≡ false) (λ s o. o.named) sums whole.old in
    rows_found hyps sums (chosen 1 sums lines) (all_chosen (IsFoundIn hyps sums) 1 sums lines (each_found hyps sums named whole.distinct))
