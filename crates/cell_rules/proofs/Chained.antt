-- Chains at their ends.
use Rattle.std.proofs.Common.{◌≡◌, ◌∙◌, sym, ap, refl, ℕ, ◌+◌, ◌<◌, ◌==◌, Bool, true, false, not, ◌&&◌, ◌||◌, List, [], ◌∷◌, Some, None, slice_get, arith}
use Rattle.std.specs.Prelude.{option_and_then}
use Rattle.std.specs.List.{list_any}
use Rattle.std.proofs.lemmas.Bool.{and_parts, not-true}
use Rattle.math_terms.specs.declared.descriptor.Sort.{Sort}
use Rattle.math_terms.specs.declared.term.Term.{Term}
use Rattle.math_terms.specs.declared.term.Term.TheOpen.{Term-F}
use Rattle.math_terms.specs.declared.term.Term.TheViews.{out-Term, roll-Term, roll-out-Term, out-roll-Term}
use Rattle.math_terms.specs.Heads.{children, form, same_term}
use Rattle.math_terms.specs.Kinds.{kind}
use Rattle.math_terms.specs.Sorts.{is_str}
use Rattle.math_terms.specs.Terms.{nodes}
use Rattle.term_cells.specs.declared.cell.Cell.{Cell}
use Rattle.term_cells.specs.Laws.{TwoOpens}
use Rattle.term_cells.specs.Standing.{stands}
use Rattle.str_theory.specs.Chains.{cat_shape, chain, front, is_cat, is_single, joined, last, single_shape}
use Rattle.str_theory.specs.Forms.{cat, empty, empty_form, eq, is_empty, when, when_eq, when_single}
use Rattle.str_theory.specs.Laws.{ChainsOpen}
use Rattle.str_theory.specs.Rules.{Given, firsts, gives, same_ends, single_ends, when_chains}
use Rattle.cell_rules.specs.declared.spine.End.{End}
use Rattle.cell_rules.specs.declared.spine.End.TheVariants as ends
use Rattle.cell_rules.specs.Chaining.{RestIs, SidesStand, StringsAre, ends_at, first_of, has_parts, is_longer, last_of, others_at, others_equal, part_at, rest_of, singles_equal}
use Rattle.cell_rules.proofs.Costs.{child_cost, two_cost}
use Rattle.cell_rules.proofs.Paired.{eq_is}

-- lists with one more part before them
pub joined_next : (t : Term) (ts : List Term) → has_parts ts ≡ true → joined (t ∷ ts) ≡ cat t (joined ts)
joined_next t [] h = cc
joined_next t (u ∷ us) h = refl

pub last_next : (t : Term) (ts : List Term) → has_parts ts ≡ true → last_of (t ∷ ts) ≡ last_of ts
last_next t [] h = cc
last_next t (u ∷ us) h = refl

pub front_next : (t : Term) (ts : List Term) → has_parts ts ≡ true → front (t ∷ ts) ≡ t ∷ front ts
front_next t [] h = cc
front_next t (u ∷ us) h = refl

-- lists of one part at most
pub few_joined : (ts : List Term) → is_longer ts ≡ false → joined ts ≡ first_of ts
few_joined [] h = refl
few_joined (t ∷ []) h = refl
few_joined (t ∷ u ∷ us) h = cc

pub few_last : (ts : List Term) → is_longer ts ≡ false → last_of ts ≡ first_of ts
few_last [] h = refl
few_last (t ∷ []) h = refl
few_last (t ∷ u ∷ us) h = cc

pub few_front : (ts : List Term) → is_longer ts ≡ false → front ts ≡ []
few_front [] h = refl
few_front (t ∷ []) h = refl
few_front (t ∷ u ∷ us) h = cc

pub few_rest : (ts : List Term) → is_longer ts ≡ false → rest_of ts ≡ []
few_rest [] h = refl
few_rest (t ∷ []) h = refl
few_rest (t ∷ u ∷ us) h = cc

front_parts : (ts : List Term) → is_longer ts ≡ true → has_parts (front ts) ≡ true
front_parts [] h = cc
front_parts (t ∷ []) h = cc
front_parts (t ∷ u ∷ us) h = refl

-- the ends of two lists
last_is : (ts : List Term) → has_parts ts ≡ true → last ts ≡ Some (last_of ts)
last_is [] h = cc
last_is (t ∷ []) h = refl
last_is (t ∷ u ∷ us) h = last_is (u ∷ us) refl

firsts_are : (xs ys : List Term) → has_parts xs ≡ true → has_parts ys ≡ true → (next : Term → List Term → Term → List Term → Given) → firsts xs ys next ≡ next (first_of xs) (rest_of xs) (first_of ys) (rest_of ys)
firsts_are [] ys h k next = cc
firsts_are (x ∷ xs) [] h k next = cc
firsts_are (x ∷ xs) (y ∷ ys) h k next = refl

pub ends_are : (e : End) (xs ys : List Term) → has_parts xs ≡ true → has_parts ys ≡ true → (next : Term → List Term → Term → List Term → Given)
    → ends_at e xs ys next ≡ next (part_at e xs) (others_at e xs) (part_at e ys) (others_at e ys)
ends_are ends.First xs ys h k next = firsts_are xs ys h k next
ends_are ends.Last xs ys h k next =
    ap (λ o. option_and_then (λ x. option_and_then (λ y. next x (front xs) y (front ys)) (last ys)) o) (last_is xs h)
    ∙ ap (λ o. option_and_then (λ y. next (last_of xs) (front xs) y (front ys)) o) (last_is ys k)

-- what is no concatenation, by the form of its node
cat_by_form : (x : Term-F Term) → cat_shape x ≡ (form x == 13)
cat_by_form (Term-F.Cat a b) = refl
cat_by_form x = refl

pub no_cat : (t : Term) (k : ℕ) → form (out-Term t) ≡ k → (k == 13) ≡ false → is_cat t ≡ false
no_cat t k e h = cat_by_form (out-Term t) ∙ ap (λ n. n == 13) e ∙ h

-- a concatenation, by its cell
pub cat_sides : TwoOpens → (cells : List Cell) (t : Term) (p : ℕ) (c : Cell) → slice_get cells p ≡ Some c → c.form ≡ 13 → stands cells t p ≡ true → (c.b < p) × SidesStand cells t (Some (c.a, c.b))
cat_sides law cells t p c is f h =
    let s = law (λ a b. Term-F.Cat a b) 13 (λ a b. record { form_is = refl; own_is = refl; children_are = refl }) refl cells t p c is f h in
    (s.right_below, (s.left, s.right, sym (roll-out-Term t) ∙ ap roll-Term s.term_is, s.left_is, s.right_is))

or-false : (b : Bool) → (b || false) ≡ b
or-false true = refl
or-false false = refl

-- chains of terms that are no concatenations
empty_is : (x : Term-F Term) → empty_form x ≡ true → x ≡ Term-F.Empty
empty_is Term-F.Empty h = refl
empty_is x h = cc

the_empty : (t : Term) → is_empty t ≡ true → t ≡ empty
the_empty t h = sym (roll-out-Term t) ∙ ap roll-Term (empty_is (out-Term t) h)

module _ (law : ChainsOpen) where
  pub chain_of_empty : (t : Term) → is_empty t ≡ true → chain t ≡ []
  chain_of_empty t h = ap chain (the_empty t h) ∙ law.of_empty

  pub single_few : (t : Term) → is_cat t ≡ false → is_longer (chain t) ≡ false
  single_few t h = by_case (is_empty t) refl
    where
      by_case : (b : Bool) → is_empty t ≡ b → is_longer (chain t) ≡ false
      by_case true e = ap is_longer (chain_of_empty t e)
      by_case false e = ap is_longer (law.of_other t h e)

  pub single_first : (t : Term) → is_cat t ≡ false → first_of (chain t) ≡ t
  single_first t h = by_case (is_empty t) refl
    where
      by_case : (b : Bool) → is_empty t ≡ b → first_of (chain t) ≡ t
      by_case true e = ap first_of (chain_of_empty t e) ∙ sym (the_empty t e)
      by_case false e = ap first_of (law.of_other t h e)

  pub cat_first : (t a b : Term) → t ≡ cat a b → first_of (chain t) ≡ a
  cat_first t a b e = ap (λ u. first_of (chain u)) e ∙ ap first_of (law.of_cat a b)

  pub filled_parts : (t : Term) → is_empty t ≡ false → has_parts (chain t) ≡ true
  filled_parts t h = by_shape (out-Term t) refl
    where
      by_shape : (x : Term-F Term) → out-Term t ≡ x → has_parts (chain t) ≡ true
      by_shape (Term-F.Cat a b) e = ap (λ u. has_parts (chain u)) (sym (roll-out-Term t) ∙ ap roll-Term e) ∙ ap has_parts (law.of_cat a b)
      by_shape x e = ap has_parts (law.of_other t (ap cat_shape e) h)

  -- a concatenation whose right side is empty or not
  pub cat_few : (t a b : Term) → t ≡ cat a b → is_empty b ≡ true → is_longer (chain t) ≡ false
  cat_few t a b e h = ap (λ u. is_longer (chain u)) e ∙ ap is_longer (law.of_cat a b) ∙ ap has_parts (chain_of_empty b h)

  pub cat_longer : (cells : List Cell) (t a b : Term) (p : ℕ × ℕ) → t ≡ cat a b → is_empty b ≡ false → stands cells a p.0 ≡ true → stands cells b p.1 ≡ true → RestIs cells t p
  cat_longer cells t a b p e h f g = record {
    first = a;
    rest = b;
    chain_is = ap chain e ∙ law.of_cat a b;
    goes_on = filled_parts b h;
    smaller =
        let second = ap (λ u. slice_get (children (out-Term u)) 1) e ∙ ap (λ x. slice_get (children x) 1) (out-roll-Term (Term-F.Cat a b)) in
        omega (arith, child_cost t b 1 second);
    first_stands = f;
    rest_stands = g;
  }

-- what a chain that goes on is, joined
module _ (cells : List Cell) (t : Term) (p : ℕ × ℕ) (r : RestIs cells t p) where
  pub rest_joined : joined (chain t) ≡ cat r.first (joined (chain r.rest))
  rest_joined = ap joined r.chain_is ∙ joined_next r.first (chain r.rest) r.goes_on

  pub rest_last : last_of (chain t) ≡ last_of (chain r.rest)
  rest_last = ap last_of r.chain_is ∙ last_next r.first (chain r.rest) r.goes_on

  pub rest_rest : rest_of (chain t) ≡ chain r.rest
  rest_rest = ap rest_of r.chain_is

  rest_front : front (chain t) ≡ r.first ∷ front (chain r.rest)
  rest_front = ap front r.chain_is ∙ front_next r.first (chain r.rest) r.goes_on

  pub one_before : is_longer (chain r.rest) ≡ false → joined (front (chain t)) ≡ r.first
  one_before h = ap joined rest_front ∙ ap (λ ts. joined (r.first ∷ ts)) (few_front (chain r.rest) h)

  pub more_before : is_longer (chain r.rest) ≡ true → joined (front (chain t)) ≡ cat r.first (joined (front (chain r.rest)))
  more_before h = ap joined rest_front ∙ joined_next r.first (front (chain r.rest)) (front_parts (chain r.rest) h)

  pub goes_on_longer : is_longer (chain t) ≡ true
  goes_on_longer = ap is_longer r.chain_is ∙ r.goes_on

-- whether a part is a string of one element
module _ (law : ChainsOpen) where
  pub any_cat : (t a b : Term) → t ≡ cat a b → list_any is_single (chain t) ≡ (is_single a || list_any is_single (chain b))
  any_cat t a b e = ap (λ u. list_any is_single (chain u)) e ∙ ap (list_any is_single) (law.of_cat a b)

  pub any_other : (t : Term) → is_cat t ≡ false → is_single t ≡ list_any is_single (chain t)
  any_other t h = by_case (is_empty t) refl
    where
      by_case : (b : Bool) → is_empty t ≡ b → is_single t ≡ list_any is_single (chain t)
      by_case true e = ap is_single (the_empty t e) ∙ ap single_shape (out-roll-Term Term-F.Empty) ∙ sym (ap (list_any is_single) (chain_of_empty law t e))
      by_case false e = sym (or-false (is_single t)) ∙ sym (ap (list_any is_single) (law.of_other t h e))

-- an equation is larger than its sides together
pub equation_cost : (t a b : Term) → ((next : Term → Term → Given) → when_eq t next ≡ next a b) → nodes a + nodes b < nodes t
equation_cost t a b h =
    let t_is : t ≡ eq a b = sym (roll-out-Term t) ∙ eq_is (out-Term t) a b h in
    two_cost t a b (ap (λ u. children (out-Term u)) t_is ∙ ap children (out-roll-Term (Term-F.Eq a b)))

-- the tests of an equation of two strings that are not empty
all_of : (x c d : Bool) → ((x && c) && d) ≡ (x && (c && d))
all_of true c d = refl
all_of false c d = refl

module _ (vars : List Sort) (t a b : Term) (look : (next : Term → Term → Given) → when_eq t next ≡ next a b) where
  chains_at : (x : Bool) → ((is_str (kind vars a) && is_str (kind vars b)) && (not (is_empty a) && not (is_empty b))) ≡ x → (next : List Term → List Term → Given) → when_chains vars t next ≡ when x (next (chain a) (chain b))
  chains_at x e next = look (λ a b. when (is_str (kind vars a) && is_str (kind vars b) && not (is_empty a) && not (is_empty b)) (next (chain a) (chain b)))
      ∙ ap (λ y. when y (next (chain a) (chain b))) (all_of (is_str (kind vars a) && is_str (kind vars b)) (not (is_empty a)) (not (is_empty b)) ∙ e)

  pub no_strings : false ≡ (is_str (kind vars a) && is_str (kind vars b)) → (next : List Term → List Term → Given) → when_chains vars t next ≡ None
  no_strings h next = chains_at false (ap (λ x. x && (not (is_empty a) && not (is_empty b))) (sym h)) next

  pub not_filled : true ≡ (is_str (kind vars a) && is_str (kind vars b)) → false ≡ (not (is_empty a) && not (is_empty b)) → (next : List Term → List Term → Given) → when_chains vars t next ≡ None
  not_filled h g next = chains_at false (λ i. sym h i && sym g i) next

  pub are_chains : ChainsOpen → true ≡ (is_str (kind vars a) && is_str (kind vars b)) → true ≡ (not (is_empty a) && not (is_empty b)) → (cells : List Cell) (p : ℕ × ℕ) → stands cells a p.0 ≡ true → stands cells b p.1 ≡ true
      → StringsAre cells vars t p
  are_chains law h g cells p k l =
      let q = and_parts (not (is_empty a)) (not (is_empty b)) (sym g) in
      record {
        left = a;
        right = b;
        left_stands = k;
        right_stands = l;
        left_parts = filled_parts law a (not-true (is_empty a) q.0);
        right_parts = filled_parts law b (not-true (is_empty b) q.1);
        smaller = equation_cost t a b look;
        looks = λ next. chains_at true (λ i. sym h i && sym g i) next;
      }

-- what equations give by the ends of their chains
module _ (cells : List Cell) (vars : List Sort) (t : Term) (p : ℕ × ℕ) (s : StringsAre cells vars t p) (end : End) where
  given_ends : (next : Term → List Term → Term → List Term → Given)
      → when_chains vars t (λ xs ys. ends_at end xs ys next) ≡ next (part_at end (chain s.left)) (others_at end (chain s.left)) (part_at end (chain s.right)) (others_at end (chain s.right))
  given_ends next = s.looks (λ xs ys. ends_at end xs ys next) ∙ ends_are end (chain s.left) (chain s.right) s.left_parts s.right_parts next

  pub same_given : (b : Bool) → b ≡ same_term (part_at end (chain s.left)) (part_at end (chain s.right)) → when_chains vars t (λ xs ys. ends_at end xs ys same_ends) ≡ when b (gives (others_equal end s.left s.right))
  same_given b e = given_ends same_ends ∙ ap (λ x. when x (gives (others_equal end s.left s.right))) (sym e)

  pub singles_none : ((next : Term → Term → Given) → when_single (part_at end (chain s.left)) (λ x. when_single (part_at end (chain s.right)) (λ y. next x y)) ≡ None)
      → when_chains vars t (λ xs ys. ends_at end xs ys single_ends) ≡ None
  singles_none h = given_ends single_ends ∙ h (λ x y. gives (singles_equal end x y s.left s.right))

  pub singles_given : (x y : Term) → ((next : Term → Term → Given) → when_single (part_at end (chain s.left)) (λ a. when_single (part_at end (chain s.right)) (λ b. next a b)) ≡ next x y)
      → when_chains vars t (λ xs ys. ends_at end xs ys single_ends) ≡ gives (singles_equal end x y s.left s.right)
  singles_given x y h = given_ends single_ends ∙ h (λ x y. gives (singles_equal end x y s.left s.right))
