-- What a point of a path says of a store.
use Rattle.std.proofs.Common.{◌≡◌, ◌∙◌, sym, ap, refl, subst, ℕ, ◌+◌, ◌≤◌, ℤ, pos, negsuc, Bool, true, ◌&&◌, List, [], ◌∷◌, ◌++◌, length, map, cond, arith, length-append, eq-eqb}
use Rattle.std.specs.Prelude.{IsTrue, int_le, slice_set}
use Rattle.std.specs.List.{list_all, AllByRecursion}
use Rattle.std.proofs.lemmas.Bool.{and_parts, and_from, ne_eqb}
use Rattle.std.proofs.lemmas.List.{map-append, map-set, length-map}
use Rattle.std.proofs.lemmas.List.Folds.{list_all-append}
use Rattle.math_terms.specs.declared.term.Term.{Term}
use Rattle.math_terms.specs.declared.descriptor.Desc.{Desc}
use Rattle.math_terms.specs.Values.{Val, Num, truth}
use Rattle.math_terms.specs.Meaning.{Valuation, set_to}
use Rattle.math_terms.specs.Descriptors.{Interpretation, IsInterpretation, value, holds}
use Rattle.math_terms.specs.Validity.{lies_from, IsValid}
use Rattle.source_meaning.specs.declared.linked.Scalar.{Scalar}
use Rattle.source_meaning.specs.Meaning.{Store, is_word}
use Rattle.main_vcs.specs.Terms.{var, min_int, max_int, single, cat, equal, at_most, bounds, integer, stream}
use Rattle.main_vcs.specs.Walk.{Path, with_hyps, next_var, after_read}
use Rattle.main_vcs.specs.Soundness.{numbers}
use Rattle.main_vcs.proofs.TermValues.{numbers_same, var_value, min_value, max_value, at_most_value, single_value, cat_value, equal_value}
use Rattle.main_vcs.proofs.Membership.{in_integer, in_stream, lies_more}

-- valuations that agree up to a variable
abbrev pub Alike : ℕ → Valuation → Valuation → Type 0
Alike n w u = (k : ℕ) → k ≤ n → w k ≡ u k

set_here : (v : ℕ) (x : Val) (w : Valuation) → set_to v x w v ≡ x
set_here v x w = ap (λ b. cond b x (w v)) (eq-eqb v v refl)

set_elsewhere : (v k : ℕ) (x : Val) (w : Valuation) → (k ≡ v → ⊥) → set_to v x w k ≡ w k
set_elsewhere v k x w h = ap (λ b. cond b x (w k)) (ne_eqb k v h)

all_more : {X : Type 0} (P : X → Bool) (xs ys : List X) → list_all P xs ≡ true → list_all P ys ≡ true → list_all P (xs ++ ys) ≡ true
all_more P xs ys h j = list_all-append P xs ys ∙ and_from (list_all P xs) (list_all P ys) h j

-- the two variables of a read
abbrev pub two_set : ℕ → ℤ → List ℤ → Valuation → Valuation
two_set n m rest w = set_to (n + 2) (numbers rest) (set_to (n + 1) (Num m) w)

two_first : (n : ℕ) (m : ℤ) (rest : List ℤ) (w : Valuation) → two_set n m rest w (n + 1) ≡ Num m
two_first n m rest w =
    set_elsewhere (n + 2) (n + 1) (numbers rest) (set_to (n + 1) (Num m) w) (λ e. omega arith)
    ∙ set_here (n + 1) (Num m) w

two_second : (n : ℕ) (m : ℤ) (rest : List ℤ) (w : Valuation) → two_set n m rest w (n + 2) ≡ numbers rest
two_second n m rest w = set_here (n + 2) (numbers rest) (set_to (n + 1) (Num m) w)

two_before : (n k : ℕ) (m : ℤ) (rest : List ℤ) (w : Valuation) → k ≤ n → two_set n m rest w k ≡ w k
two_before n k m rest w h =
    set_elsewhere (n + 2) k (numbers rest) (set_to (n + 1) (Num m) w) (λ e. omega arith)
    ∙ set_elsewhere (n + 1) k (Num m) w (λ e. omega arith)

module _ (I : Interpretation) where
  -- the variables' values, what is left of the input and the output are those of a point's terms, and its hypotheses hold
  pub record Facts (u : Valuation) (p : Path) (locals input output : List ℤ) : Type 0 where
    pub terms : map (value I u) p.terms ≡ map Num locals
    pub input_is : value I u p.input ≡ numbers input
    pub output_is : value I u p.output ≡ numbers output
    pub hyps : list_all (holds I u) p.hyps ≡ true
    pub vars : lies_from I u 1 (map (λ v. v.1) p.vars) ≡ true

  -- a point describes a store, whatever the variables after the n-th stand for
  pub record Describes (n : ℕ) (w : Valuation) (p : Path) (s : Store) : Type 0 where
    pub count : length p.vars ≡ n
    pub locals : List ℤ
    pub are_locals : s.locals ≡ map Scalar.Int locals
    pub facts : (u : Valuation) → Alike n w u → Facts u p locals s.input s.output
    pub few : length s.input ≤ 65535
    pub words : AllByRecursion (λ n. IsTrue (is_word n)) s.input

  -- a term has this value, whatever the variables after the n-th stand for
  abbrev pub Stands : ℕ → Valuation → Term → Val → Type 0
  Stands n w t v = (u : Valuation) → Alike n w u → value I u t ≡ v

  pub no_params : IsInterpretation 0 I
  no_params k below = absurd (omega arith)

  -- a valid condition at a point that describes a store
  pub holds_at : (n : ℕ) (w : Valuation) (p : Path) (s : Store) (goal : Term) → Describes n w p s → IsValid 0 (map (λ v. v.1) p.vars) p.hyps goal → holds I w goal ≡ true
  holds_at n w p s goal d valid =
      let f = d.facts w (λ k h. refl) in
      valid I no_params w f.vars f.hyps

  pub with_more : (n : ℕ) (w : Valuation) (p : Path) (s : Store) (fs : List Term) → Describes n w p s → ((u : Valuation) → Alike n w u → list_all (holds I u) fs ≡ true) → Describes n w (with_hyps fs p) s
  with_more n w p s fs d h = record {
    count = d.count;
    locals = d.locals;
    are_locals = d.are_locals;
    facts = λ u a. (let f = d.facts u a in record {
      terms = f.terms;
      input_is = f.input_is;
      output_is = f.output_is;
      hyps = all_more (holds I u) p.hyps fs f.hyps (h u a);
      vars = f.vars;
    });
    few = d.few;
    words = d.words;
  }

  pub with_fuel : (n : ℕ) (w : Valuation) (p : Path) (s : Store) (fuel : ℕ) → Describes n w p s → Describes n w p (record s { fuel = fuel })
  with_fuel n w p s fuel d = record { count = d.count; locals = d.locals; are_locals = d.are_locals; facts = d.facts; few = d.few; words = d.words }

  pub with_output : (n : ℕ) (w : Valuation) (p : Path) (s : Store) (t : Term) (m : ℤ) → Describes n w p s → Stands n w t (Num m) → Describes n w (record p { output = cat p.output (single t) }) (record s { output = s.output ++ m ∷ [] })
  with_output n w p s t m d h = record {
    count = d.count;
    locals = d.locals;
    are_locals = d.are_locals;
    facts = λ u a. (let f = d.facts u a in record {
      terms = f.terms;
      input_is = f.input_is;
      output_is = cat_value I u p.output (single t) s.output (m ∷ []) f.output_is (single_value I u t m (h u a));
      hyps = f.hyps;
      vars = f.vars;
    });
    few = d.few;
    words = d.words;
  }

  terms_set : (u : Valuation) (ts : List Term) (locals : List ℤ) (k : ℕ) (t : Term) (m : ℤ) → map (value I u) ts ≡ map Num locals → value I u t ≡ Num m → map (value I u) (slice_set ts k t) ≡ map Num (slice_set locals k m)
  terms_set u ts locals k t m e h = map-set (value I u) ts k t ∙ (λ i. slice_set (e i) k (h i)) ∙ sym (map-set Num locals k m)

  locals_set : (vs : List Scalar) (locals : List ℤ) (k : ℕ) (m : ℤ) → vs ≡ map Scalar.Int locals → slice_set vs k (Scalar.Int m) ≡ map Scalar.Int (slice_set locals k m)
  locals_set vs locals k m e = ap (λ l. slice_set l k (Scalar.Int m)) e ∙ sym (map-set Scalar.Int locals k m)

  pub with_local : (n : ℕ) (w : Valuation) (p : Path) (s : Store) (k : ℕ) (t : Term) (m : ℤ) → Describes n w p s → Stands n w t (Num m) → Describes n w (record p { terms = slice_set p.terms k t }) (record s { locals = slice_set s.locals k (Scalar.Int m) })
  with_local n w p s k t m d h = record {
    count = d.count;
    locals = slice_set d.locals k m;
    are_locals = locals_set s.locals d.locals k m d.are_locals;
    facts = λ u a. (let f = d.facts u a in record {
      terms = terms_set u p.terms d.locals k t m f.terms (h u a);
      input_is = f.input_is;
      output_is = f.output_is;
      hyps = f.hyps;
      vars = f.vars;
    });
    few = d.few;
    words = d.words;
  }

  pub bounds_hold : (u : Valuation) (t : Term) (m : ℤ) → value I u t ≡ Num m → is_word m ≡ true → list_all (holds I u) (bounds t) ≡ true
  bounds_hold u t m e h =
      let p = and_parts (int_le (negsuc 9223372036854775807) m) (int_le m (pos 9223372036854775807)) h in
      and_from (holds I u (at_most min_int t)) (holds I u (at_most t max_int) && true)
      (ap truth (at_most_value I u min_int t _ m (min_value I u) e) ∙ p.0)
      (and_from (holds I u (at_most t max_int)) true (ap truth (at_most_value I u t max_int m _ e (max_value I u)) ∙ p.1) refl)

  -- after a read, with the two fresh variables
  module _ (n : ℕ) (w : Valuation) (p : Path) (m : ℤ) (rest : List ℤ) (count : length p.vars ≡ n) (u : Valuation) (a : Alike (n + 2) (two_set n m rest w) u) where
    before : Alike n w u
    before k h = sym (two_before n k m rest w h) ∙ a k (omega arith)

    at_first : u (n + 1) ≡ Num m
    at_first = sym (a (n + 1) (omega arith)) ∙ two_first n m rest w

    at_second : u (n + 2) ≡ numbers rest
    at_second = sym (a (n + 2) (omega arith)) ∙ two_second n m rest w

    first_is : value I u (var (next_var p)) ≡ Num m
    first_is = let e : length p.vars + 1 ≡ n + 1 = omega (arith, count) in var_value I u (next_var p) ∙ ap u e ∙ at_first

    second_is : value I u (var (next_var p + 1)) ≡ numbers rest
    second_is = let e : length p.vars + 1 + 1 ≡ n + 2 = omega (arith, count) in var_value I u (next_var p + 1) ∙ ap u e ∙ at_second

    read_hyps : value I u p.input ≡ numbers (m ∷ rest) → list_all (holds I u) p.hyps ≡ true → is_word m ≡ true → list_all (holds I u) (p.hyps ++ (bounds (var (next_var p)) ++ equal p.input (cat (single (var (next_var p))) (var (next_var p + 1))) ∷ [])) ≡ true
    read_hyps e h word =
        let x = var (next_var p) in
        let y = var (next_var p + 1) in
        let joined = cat_value I u (single x) y (m ∷ []) rest (single_value I u x m first_is) second_is in
        let same = ap truth (equal_value I u p.input (cat (single x) y) (numbers (m ∷ rest)) (numbers (m ∷ rest)) e joined) ∙ numbers_same (m ∷ rest) in
        all_more (holds I u) p.hyps (bounds x ++ equal p.input (cat (single x) y) ∷ []) h
        (all_more (holds I u) (bounds x) (equal p.input (cat (single x) y) ∷ []) (bounds_hold u x m first_is word)
        (and_from (holds I u (equal p.input (cat (single x) y))) true same refl))

    read_vars : (x y : List ℕ) → lies_from I u 1 (map (λ v. v.1) p.vars) ≡ true → is_word m ≡ true → AllByRecursion (λ n. IsTrue (is_word n)) rest → lies_from I u 1 (map (λ v. v.1) (p.vars ++ (x, integer) ∷ (y, stream) ∷ [])) ≡ true
    read_vars x y h word words =
        let f : List ℕ × Desc → Desc = λ v. v.1 in
        let len : 1 + length (map f p.vars) ≡ n + 1 = omega (arith, length-map p.vars f, count) in
        let two : n + 1 + 1 ≡ n + 2 = omega arith in
        ap (lies_from I u 1) (map-append f p.vars ((x, integer) ∷ (y, stream) ∷ []))
        ∙ lies_more I u 1 (map f p.vars) (integer ∷ stream ∷ []) h
        (subst (λ j. lies_from I u j (integer ∷ stream ∷ []) ≡ true) (sym len)
        (and_from _ _ (in_integer I u (u (n + 1)) m at_first word)
        (and_from _ true (in_stream I u (u (n + 1 + 1)) rest (ap u two ∙ at_second) words) refl)))

  pub with_read : (names : List (List ℕ)) (input : List ℕ) (k n : ℕ) (w : Valuation) (p : Path) (locals : List Scalar) (m : ℤ) (rest output : List ℤ) (fuel : ℕ) → Describes n w p (record { locals = locals; input = m ∷ rest; output = output; fuel = fuel }) → Describes (n + 2) (two_set n m rest w) (after_read names input k p) (record { locals = slice_set locals k (Scalar.Int m); input = rest; output = output; fuel = fuel })
  with_read names input k n w p locals m rest output fuel d = record {
    count = omega (arith, length-append p.vars, d.count);
    locals = slice_set d.locals k m;
    are_locals = locals_set locals d.locals k m d.are_locals;
    facts = λ u a. (let f = d.facts u (before n w p m rest d.count u a) in record {
      terms = terms_set u p.terms d.locals k (var (next_var p)) m f.terms (first_is n w p m rest d.count u a);
      input_is = second_is n w p m rest d.count u a;
      output_is = f.output_is;
      hyps = read_hyps n w p m rest d.count u a f.input_is f.hyps d.words.0;
      vars = read_vars n w p m rest d.count u a _ _ f.vars d.words.0 d.words.1;
    });
    few = omega (arith, d.few);
    words = d.words.1;
  }
