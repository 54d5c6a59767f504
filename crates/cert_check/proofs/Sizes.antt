-- The sizes of the formulas of a split.
use Rattle.std.proofs.Common.{◌≡◌, ◌∙◌, sym, ap, refl, ℕ, ◌+◌, min, leb, Bool, true, false, ◌&&◌, List, [], ◌∷◌, arith}
use Rattle.std.specs.List.{list_all}
use Rattle.std.specs.Prelude.{nat_lt}
use Rattle.std.proofs.lemmas.Bool.Decides.{nat_tests}
use Rattle.math_terms.specs.declared.term.Term.{Term}
use Rattle.math_terms.specs.declared.term.Term.TheOpen.{Term-F}
use Rattle.math_terms.specs.declared.term.Term.TheFolds.{fold-roll-Term}
use Rattle.math_terms.specs.declared.form.Form.{Form}
use Rattle.math_terms.specs.Forms.{form_number}
use Rattle.math_terms.specs.Terms.{nodes, nodes_step}
use Rattle.vc_sequents.specs.Splitting as rule
use Rattle.cert_check.specs.working.Cases.{IsOver}
use Rattle.cert_check.specs.Legality.{is_small, most_nodes}

small_number : (r n : ℕ) → r ≡ min n (10000 + 1) → leb r 10000 ≡ leb n 10000
small_number r n h = grind (arith, nat_tests)

below_number : (r n : ℕ) → r ≡ min n (10000 + 1) → nat_lt r 10000 ≡ leb (1 + n) 10000
below_number r n h = grind (arith, nat_tests)

pub small_told : (r : ℕ) (t : Term) → r ≡ min (nodes t) (10000 + 1) → leb r 10000 ≡ is_small t
unfolding most_nodes
small_told r t h = small_number r (nodes t) h

pub not_nodes : (a : Term) → nodes (rule.not a) ≡ 1 + nodes a
not_nodes a = fold-roll-Term ℕ nodes_step (Term-F.Not a)

pub and_nodes : (a b : Term) → nodes (rule.and a b) ≡ 1 + nodes a + nodes b
and_nodes a b = fold-roll-Term ℕ nodes_step (Term-F.And a b)

pub truth_nodes : (b : Bool) → nodes (rule.truth b) ≡ 1
truth_nodes b = fold-roll-Term ℕ nodes_step (Term-F.Truth b)

small_by : (n : ℕ) (t : Term) → nodes t ≡ n → leb n 10000 ≡ is_small t
unfolding most_nodes
small_by n t e = ap (λ m. leb m 10000) (sym e)

pub truth_small : (b : Bool) (t : Term) → t ≡ rule.truth b → true ≡ is_small t
truth_small b t e = small_by 1 t (ap nodes e ∙ truth_nodes b)

pub not_small : (r : ℕ) (a t : Term) → t ≡ rule.not a → r ≡ min (nodes a) (10000 + 1) → nat_lt r 10000 ≡ is_small t
not_small r a t e h = below_number r (nodes a) h ∙ small_by (1 + nodes a) t (ap nodes e ∙ not_nodes a)

counted_small : (m n : ℕ) (t : Term) → nodes t ≡ m → n ≡ m → leb n 10000 ≡ is_small t
counted_small m n t e h = small_by n t (e ∙ sym h)

pub over_small : (k : Form) (a b t : Term) → IsOver (form_number k) a b t → leb (nodes a + nodes b + 1) 10000 ≡ is_small t
over_small k a b t h = counted_small (1 + nodes a + nodes b) (nodes a + nodes b + 1) t h.4 (omega arith)

pub negations_small : (k : Form) (a b t : Term) → IsOver (form_number k) (rule.not a) (rule.not b) t → leb (nodes a + nodes b + 3) 10000 ≡ is_small t
negations_small k a b t h =
    counted_small (1 + nodes (rule.not a) + nodes (rule.not b)) (nodes a + nodes b + 3) t h.4 (omega (arith, not_nodes a, not_nodes b))

pub and_not_small : (a b t : Term) → t ≡ rule.and a (rule.not b) → leb (nodes a + nodes b + 2) 10000 ≡ is_small t
and_not_small a b t e =
    counted_small (1 + nodes a + nodes (rule.not b)) (nodes a + nodes b + 2) t (ap nodes e ∙ and_nodes a (rule.not b)) (omega (arith, not_nodes b))

-- tests of all of a list
and_true : (b : Bool) → b && true ≡ b
and_true true = refl
and_true false = refl

pub all_one : (p : Term → Bool) (t : Term) (ts : List Term) → ts ≡ t ∷ [] → p t ≡ list_all p ts
all_one p t ts e = sym (and_true (p t)) ∙ ap (list_all p) (sym e)

pub all_two : (p : Term → Bool) (t u : Term) (ts : List Term) → ts ≡ t ∷ u ∷ [] → (p t && p u) ≡ list_all p ts
all_two p t u ts e = ap (λ b. p t && b) (sym (and_true (p u))) ∙ ap (list_all p) (sym e)

pub all_single : {A : Type 0} (p : A → Bool) (x : A) → p x ≡ list_all p (x ∷ [])
all_single p x = sym (and_true (p x))

pub all_pair : {A : Type 0} (p : A → Bool) (x y : A) → (p x && p y) ≡ list_all p (x ∷ y ∷ [])
all_pair p x y = ap (λ b. p x && b) (sym (and_true (p y)))
