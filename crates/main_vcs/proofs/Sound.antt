-- The conditions of a module are sound.
use Rattle.std.proofs.Common.{◌≡◌, ◌∙◌, sym, ap, refl, subst, ℕ, ℤ, pos, negsuc, Bool, true, List, [], ◌∷◌, ◌++◌, map, arith, append_assoc}
use Rattle.std.specs.Prelude.{slice_get}
use Rattle.std.specs.List.{list_all}
use Rattle.std.proofs.lemmas.Bool.{and_from}
use Rattle.std.proofs.lemmas.List.{append-nil}
use Rattle.math_terms.specs.declared.term.Term.{Term}
use Rattle.math_terms.specs.Values.{Num, truth, same}
use Rattle.math_terms.specs.Meaning.{Valuation, set_to}
use Rattle.math_terms.specs.Descriptors.{Interpretation, value, holds, zeros}
use Rattle.source_meaning.specs.declared.linked.Scalar.{Scalar}
use Rattle.source_meaning.specs.declared.linked.TypeForm.{TypeForm}
use Rattle.source_meaning.specs.declared.linked.TypeForm.TheVariants as form
use Rattle.source_meaning.specs.declared.linked.Linked.{Linked}
use Rattle.source_meaning.specs.Meaning.{Run, Going, Over, next, initial_of, run_all}
use Rattle.source_meaning.specs.Meaning.{begins as store_begins}
use Rattle.main_form.specs.declared.module.Claim.{Claim}
use Rattle.main_form.specs.declared.module.Claim.TheVariants as claim
use Rattle.main_form.specs.declared.module.Module.{Module}
use Rattle.main_vcs.specs.Terms.{num, var, min_int, max_int, empty_string, single, cat, equal, at_most, integer, facts}
use Rattle.main_vcs.specs.Walk.{extended, chain, claimed, at_end, begins}
use Rattle.main_vcs.specs.Linking.{main_of}
use Rattle.main_vcs.specs.Soundness.{IsInput, numbers, IsLinkOf, ConditionsAreSound}
use Rattle.main_vcs.proofs.TermValues.{num_value, var_value, min_value, max_value, true_value, empty_value, single_value, cat_value, equal_value, at_most_value}
use Rattle.main_vcs.proofs.Membership.{in_stream}
use Rattle.main_vcs.proofs.Points.{Alike, Describes, holds_at}
use Rattle.main_vcs.proofs.Statements.{IsRight, Leads, body_does}

-- whether an output is what a claim says
allowed : Claim → List ℤ → Bool
allowed claim.True ns = true
allowed (claim.Chain ls) ns = same (numbers ns) (numbers ls)

module _ (I : Interpretation) (u : Valuation) where
  extended_value : (ls : List ℤ) (t : Term) (ns : List ℤ) → value I u t ≡ numbers ns → value I u (extended t ls) ≡ numbers (ns ++ ls)
  extended_value [] t ns e = e ∙ ap numbers (sym (append-nil ns))
  extended_value (n ∷ ls) t ns e =
      let longer = cat_value I u t (single (num n)) ns (n ∷ []) e (single_value I u (num n) n (num_value I u n)) in
      extended_value ls (cat t (single (num n))) (ns ++ n ∷ []) longer
      ∙ ap numbers (append_assoc ns (n ∷ []) ls)

  chain_value : (ls : List ℤ) → value I u (chain ls) ≡ numbers ls
  chain_value [] = empty_value I u
  chain_value (n ∷ ls) =
      extended_value ls (single (num n)) (n ∷ []) (single_value I u (num n) n (num_value I u n))

  -- a claim of a term is about the term's value alone
  claimed_value : (c : Claim) (t : Term) (ns : List ℤ) → value I u t ≡ numbers ns → holds I u (claimed c t) ≡ allowed c ns
  unfolding allowed
  claimed_value claim.True t ns e = ap truth (true_value I u)
  claimed_value (claim.Chain ls) t ns e = ap truth (equal_value I u t (chain ls) (numbers ns) (numbers ls) e (chain_value ls))

-- nothing comes after the end
next_going : (r : Run) → next r Going ≡ r
next_going (Going s) = refl
next_going (Over e s) = refl

zero_locals : (types : List TypeForm) (names : List (List ℕ)) → types ≡ form.Int ∷ form.Bool ∷ [] → map (λ t. initial_of (slice_get types t)) (map (λ n. 0) names) ≡ map Scalar.Int (map (λ n. pos 0) names)
zero_locals types [] e = refl
zero_locals types (n ∷ names) e = λ i. initial_of (slice_get (e i) 0) ∷ zero_locals types names e i

module _ (I : Interpretation) where
  -- Main's claim holds of the output at the end of a path
  end_right : (names : List (List ℕ)) (input : List ℕ) (c : Claim) (at : ℕ) → Leads I names input c (at_end c at) Going
  end_right names input c at n w p s d valid = λ J.
      let v = set_to 2 (numbers s.output) zeros in
      claimed_value J v c (var 2) s.output (var_value J v 2)
      ∙ sym (claimed_value I w c p.output s.output (d.facts w (λ k l. refl)).output_is)
      ∙ holds_at I n w p s (claimed c p.output) d valid.0

  zero_terms : (u : Valuation) (names : List (List ℕ)) → map (value I u) (map (λ n. num (pos 0)) names) ≡ map Num (map (λ n. pos 0) names)
  zero_terms u [] = refl
  zero_terms u (n ∷ names) = λ i. num_value I u (pos 0) i ∷ zero_terms u names i

  -- the input is the first variable, and the output the second
  abbrev at_start : List ℤ → Valuation
  at_start input = set_to 2 (numbers []) (set_to 1 (numbers input) zeros)

  module _ (input : List ℤ) (u : Valuation) (a : Alike 2 (at_start input) u) where
    input_there : u 1 ≡ numbers input
    input_there = sym (a 1 (omega arith))

    output_there : u 2 ≡ numbers []
    output_there = sym (a 2 (omega arith))

    start_hyps : list_all (holds I u) (facts ++ equal (var 2) empty_string ∷ []) ≡ true
    start_hyps =
        let low : holds I u (at_most min_int (num (negsuc 999999999))) ≡ true = ap truth (at_most_value I u min_int (num (negsuc 999999999)) _ _ (min_value I u) (num_value I u (negsuc 999999999))) in
        let high : holds I u (at_most (num (pos 1000000000)) max_int) ≡ true = ap truth (at_most_value I u (num (pos 1000000000)) max_int _ _ (num_value I u (pos 1000000000)) (max_value I u)) in
        let none : holds I u (equal (var 2) empty_string) ≡ true = ap truth (equal_value I u (var 2) empty_string (numbers []) (numbers []) (var_value I u 2 ∙ output_there) (empty_value I u)) in
        and_from _ _ low (and_from _ _ high (and_from _ _ none refl))

  starts : (m : Module) (l : Linked) (input : List ℤ) (fuel : ℕ) → IsLinkOf m l → IsInput input → Describes I 2 (at_start input) (begins m) (store_begins l (main_of m) input fuel)
  starts m l input fuel link ok = record {
    count = refl;
    locals = map (λ n. pos 0) m.variables;
    are_locals = zero_locals l.types m.variables link.types;
    facts = λ u a. record {
      terms = zero_terms u m.variables;
      input_is = var_value I u 1 ∙ input_there input u a;
      output_is = var_value I u 2 ∙ output_there input u a;
      hyps = start_hyps input u a;
      vars = and_from _ _ (in_stream I u (u 1) input (input_there input u a) ok.words) (and_from _ _ (in_stream I u (u 2) [] (output_there input u a) tt) refl);
    };
    few = ok.few;
    words = ok.words;
  }

pub conditions_sound : ConditionsAreSound
conditions_sound m l link valid input ok fuel =
    let I : Interpretation = λ k. integer in
    let s = store_begins l (main_of m) input fuel in
    let right = body_does I m.variables m.input m.claim m.body (at_end m.claim m.end_at) Going (end_right I m.variables m.input m.claim m.end_at) 2 (at_start I input) (begins m) s (starts I m l input fuel link ok) valid in
    subst (IsRight m.claim) (next_going (run_all (main_of m).body s)) right
