-- Laws of truth values, of comparisons, and of tests over lists.
use Rattle.std.proofs.Common.{◌≡◌, ◌∙◌, sym, ap, refl, ℕ, suc, ℤ, pos, negsuc, Bool, true, false, not, ◌&&◌, ◌||◌, cond, leb, List, [], ◌∷◌, ◌++◌, map, int_lt, int_le, arith}
use Rattle.std.specs.declared.cmp.Ordering.TheVariants.{Less, Equal, Greater}
use Rattle.std.specs.Ordering.{is_eq}
use Rattle.std.specs.List.{list_all, list_any}
use Rattle.std.proofs.lemmas.Bool.Decides.{nat_tests}

pub not-not : (a : Bool) → not (not a) ≡ a
not-not true = refl
not-not false = refl

pub not-and : (a b : Bool) → not (a && b) ≡ (not a || not b)
not-and true b = refl
not-and false b = refl

pub not-or : (a b : Bool) → not (a || b) ≡ (not a && not b)
not-or true b = refl
not-or false b = refl

pub not-implies : (a b : Bool) → not (not a || b) ≡ (a && not b)
not-implies true b = refl
not-implies false b = refl

pub or-false : (a : Bool) → (a || false) ≡ a
or-false true = refl
or-false false = refl

pub and-true : (a : Bool) → (a && true) ≡ a
and-true true = refl
and-true false = refl

pub or_comm : (a b : Bool) → (a || b) ≡ (b || a)
or_comm true true = refl
or_comm true false = refl
or_comm false true = refl
or_comm false false = refl

pub and_assoc : (a b c : Bool) → ((a && b) && c) ≡ (a && (b && c))
and_assoc true b c = refl
and_assoc false b c = refl

and-or : (a b c : Bool) → (a && (b || c)) ≡ ((a && b) || (a && c))
and-or true b c = refl
and-or false b c = refl

or-and : (a b c : Bool) → ((a || b) && c) ≡ ((a && c) || (b && c))
or-and true true true = refl
or-and true true false = refl
or-and true false true = refl
or-and true false false = refl
or-and false b c = refl

turned : (a b : ℕ) → leb (suc b) a ≡ not (leb a b)
turned a b = grind (arith, nat_tests)

-- the comparisons of numbers with one another
pub not-int_le : (a b : ℤ) → not (int_le a b) ≡ int_lt b a
not-int_le (pos a) (pos b) = sym (turned a b)
not-int_le (pos a) (negsuc b) = refl
not-int_le (negsuc a) (pos b) = refl
not-int_le (negsuc a) (negsuc b) = sym (turned b a)

pub not-int_lt : (a b : ℤ) → not (int_lt a b) ≡ int_le b a
not-int_lt a b = ap not (sym (not-int_le b a)) ∙ not-not (int_le b a)

pub not-equal_order : (below above : Bool) → not (is_eq (cond below Less (cond above Greater Equal))) ≡ (below || above)
not-equal_order true above = refl
not-equal_order false true = refl
not-equal_order false false = refl

module _ {A : Type 0} (p : A → Bool) where
  -- a test of some element, with a test that all of them share
  pub and-list_any : (b : Bool) (xs : List A) → (b && list_any p xs) ≡ list_any (λ x. b && p x) xs
  and-list_any true [] = refl
  and-list_any false [] = refl
  and-list_any b (x ∷ xs) = and-or b (p x) (list_any p xs) ∙ ap (λ c. (b && p x) || c) (and-list_any b xs)

  pub list_any-and : (b : Bool) (xs : List A) → (list_any p xs && b) ≡ list_any (λ x. p x && b) xs
  list_any-and b [] = refl
  list_any-and b (x ∷ xs) = or-and (p x) (list_any p xs) b ∙ ap (λ c. (p x && b) || c) (list_any-and b xs)

  pub list_all_append : (xs ys : List A) → list_all p (xs ++ ys) ≡ (list_all p xs && list_all p ys)
  list_all_append [] ys = refl
  list_all_append (x ∷ xs) ys = ap (λ c. p x && c) (list_all_append xs ys) ∙ sym (and_assoc (p x) (list_all p xs) (list_all p ys))

-- the same test, of the elements and of what they are made of
pub list_any_map : {A B : Type 0} (p : B → Bool) (f : A → B) (xs : List A) → list_any (λ x. p (f x)) xs ≡ list_any p (map f xs)
list_any_map p f [] = refl
list_any_map p f (x ∷ xs) = ap (λ c. p (f x) || c) (list_any_map p f xs)

pub list_any_same : {A : Type 0} (p q : A → Bool) (xs : List A) → ((x : A) → p x ≡ q x) → list_any p xs ≡ list_any q xs
list_any_same p q [] e = refl
list_any_same p q (x ∷ xs) e = λ i. e x i || list_any_same p q xs e i
