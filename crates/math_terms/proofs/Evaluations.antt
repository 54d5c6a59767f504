-- Evaluation: what each function of terms does to plain values.
use Rattle.std.proofs.Common.{◌≡◌, ◌∙◌, sym, ap, refl, subst, ℕ, zero, suc, ◌+◌, ◌-◌, min, ℤ, pos, Bool, true, false, ◌&&◌, List, [], ◌∷◌, ◌++◌, reverse, ◌↔◌, map, take, drop, length, Option, Some, None, Result, Ok, slice_get, slice_index_or, arith}
use Rattle.std.proofs.lemmas.Bool.{and_right}
use Rattle.std.proofs.lemmas.List.{drop-take, take_min, drop_min, length-take, take-map, drop-map, map-append, reverse-append}
use Rattle.std.specs.List.{list_all}
use Rattle.math_terms.specs.declared.view.Binary.{Binary}
use Rattle.math_terms.specs.declared.view.Unary.{Unary}
use Rattle.math_terms.specs.declared.name.NoMemory.{NoMemory}
use Rattle.math_terms.specs.declared.term.Term.{Term}
use Rattle.math_terms.specs.declared.term.Term.TheOpen.{Term-F}
use Rattle.math_terms.specs.declared.value.Value.{Value}
use Rattle.math_terms.specs.declared.value.Value.TheOpen.{Value-F}
use Rattle.math_terms.specs.declared.value.Value.TheVariants.{Num as CodeNum, Truth as CodeTruth, Str, Tup, rolls-Num, rolls-Truth, rolls-Str, rolls-Tup}
use Rattle.math_terms.specs.declared.value.Value.TheFolds.{fold-roll-Value}
use Rattle.math_terms.specs.Values.{Val, Num, Truth, denotes, denotes_step, string, tuple, number, entries, parts, place, between, projected}
use Rattle.math_terms.proofs.Sameness.{list_of-vals_of, same_from_code}
use Rattle.math_terms.specs.Meaning.{value_step}
use Rattle.math_terms.specs.Descriptors.{nothing, zeros}
use Rattle.math_terms.specs.Plain.{is_narrow, is_plain, plain_step}
use Rattle.math_terms.specs.Views.{binary_node, unary_node}
use Rattle.math_terms.specs.working.Evaluating.{IsEvaluation, plain, plain_value}

-- the part of a list from one place to another, cut at its length
pub between_is : {A : Type 0} (m n s e : ℕ) (xs : List A) → e ≡ min n (length xs) → s ≡ min m e → take (e - s) (drop s xs) ≡ drop m (take n xs)
between_is m n s e xs at_end at_start =
    let whole : s + (e - s) ≡ e = omega arith in
    sym (drop-take s (e - s) xs)
    ∙ ap (λ k. drop s (take k xs)) (whole ∙ at_end)
    ∙ ap (drop s) (take_min n xs)
    ∙ ap (λ k. drop k (take n xs)) (at_start ∙ ap (min m) (at_end ∙ sym (length-take n xs)))
    ∙ drop_min m (take n xs)

-- what the values of the code stand for
pub denotes_number : (n : ℤ) → denotes (CodeNum n) ≡ Num n
denotes_number n = ap denotes (sym (rolls-Num n)) ∙ fold-roll-Value Val denotes_step (Value-F.Num n)

pub denotes_truth : (b : Bool) → denotes (CodeTruth b) ≡ Truth b
denotes_truth b = ap denotes (sym (rolls-Truth b)) ∙ fold-roll-Value Val denotes_step (Value-F.Truth b)

pub denotes_string : (vs : List Value) → denotes (Str vs) ≡ string (map denotes vs)
denotes_string vs = ap denotes (sym (rolls-Str vs)) ∙ fold-roll-Value Val denotes_step (Value-F.Str vs)

pub denotes_tuple : (vs : List Value) → denotes (Tup vs) ≡ tuple (map denotes vs)
denotes_tuple vs = ap denotes (sym (rolls-Tup vs)) ∙ fold-roll-Value Val denotes_step (Value-F.Tup vs)

pub entries_of_string : (vs : List Value) → map denotes vs ≡ entries (denotes (Str vs))
entries_of_string vs = sym (ap entries (denotes_string vs) ∙ list_of-vals_of (map denotes vs))

pub parts_of_tuple : (vs : List Value) → map denotes vs ≡ parts (denotes (Tup vs))
parts_of_tuple vs = sym (ap parts (denotes_tuple vs) ∙ list_of-vals_of (map denotes vs))

read_some : {A B : Type 0} (f : A → B) (xs : List A) (k : ℕ) (x : A) (d : B) → Some x ≡ slice_get xs k → f x ≡ slice_index_or (map f xs) k d
read_some f [] k x d e = cc
read_some f (y ∷ ys) zero x d e = ap f cc
read_some f (y ∷ ys) (suc k) x d e = read_some f ys k x d e

read_none : {A B : Type 0} (f : A → B) (xs : List A) (k : ℕ) (d : B) → None ≡ slice_get xs k → d ≡ slice_index_or (map f xs) k d
read_none f [] k d e = refl
read_none f (y ∷ ys) zero d e = cc
read_none f (y ∷ ys) (suc k) d e = read_none f ys k d e

-- a part of a tuple that is there, and one that is not
pub projected_some : (k : ℕ) (vs : List Value) (v : Value) → Some v ≡ slice_get vs k → denotes v ≡ projected k (denotes (Tup vs))
projected_some k vs v e = read_some denotes vs k v (Num (pos 0)) e ∙ ap (λ us. slice_index_or us k (Num (pos 0))) (parts_of_tuple vs)

pub projected_none : (k : ℕ) (vs : List Value) → None ≡ slice_get vs k → denotes (CodeNum (pos 0)) ≡ projected k (denotes (Tup vs))
projected_none k vs e = denotes_number (pos 0) ∙ read_none denotes vs k (Num (pos 0)) e ∙ ap (λ us. slice_index_or us k (Num (pos 0))) (parts_of_tuple vs)

-- what is answered for a node with two children, from what is answered for the children
binary_value : Binary → Val → Val → Val
binary_value op u v = value_step nothing zeros (binary_node op u v)

binary_plain : (op : Binary) (p q : Val × Bool) →
    plain_step (binary_node op p q) ≡ (binary_value op p.0 q.0, (p.1 && q.1) && is_narrow (binary_value op p.0 q.0))
unfolding binary_value
binary_plain Binary.Add p q = refl
binary_plain op p q = refl

pub binary_none_left : (op : Binary) (p q : Val × Bool) → p.1 ≡ false → (plain_step (binary_node op p q)).1 ≡ false
binary_none_left op p q h =
    ap (λ (k : Val × Bool). k.1) (binary_plain op p q) ∙ ap (λ b. (b && q.1) && is_narrow (binary_value op p.0 q.0)) h

pub binary_none_right : (op : Binary) (p q : Val × Bool) → q.1 ≡ false → (plain_step (binary_node op p q)).1 ≡ false
binary_none_right op p q h =
    ap (λ (k : Val × Bool). k.1) (binary_plain op p q)
    ∙ ap (λ b. b && is_narrow (binary_value op p.0 q.0)) (and_right p.1 q.1 h)

pub binary_some : (op : Binary) (p q : Val × Bool) (u v : Value) (r : Result (Option Value) NoMemory) →
    (p.1 ≡ true) × (denotes u ≡ p.0) → (q.1 ≡ true) × (denotes v ≡ q.0) →
    IsEvaluation (value_step nothing zeros (binary_node op (denotes u) (denotes v)), is_narrow (value_step nothing zeros (binary_node op (denotes u) (denotes v)))) r →
    IsEvaluation (plain_step (binary_node op p q)) r
unfolding binary_value
binary_some op p q u v r e f h =
    let same_pair : plain_step (binary_node op p q) ≡ (binary_value op (denotes u) (denotes v), is_narrow (binary_value op (denotes u) (denotes v))) =
    binary_plain op p q
    ∙ (λ i. (binary_value op (sym e.1 i) (sym f.1 i), (e.0 i && f.0 i) && is_narrow (binary_value op (sym e.1 i) (sym f.1 i)))) in
    subst (λ (k : Val × Bool). IsEvaluation k r) (sym same_pair) h

-- the same with one child
unary_value : Unary → Val → Val
unary_value op u = value_step nothing zeros (unary_node op u)

unary_plain : (op : Unary) (p : Val × Bool) → plain_step (unary_node op p) ≡ (unary_value op p.0, p.1 && is_narrow (unary_value op p.0))
unfolding unary_value
unary_plain Unary.Len p = refl
unary_plain op p = refl

pub unary_none : (op : Unary) (p : Val × Bool) → p.1 ≡ false → (plain_step (unary_node op p)).1 ≡ false
unary_none op p h = ap (λ (k : Val × Bool). k.1) (unary_plain op p) ∙ ap (λ b. b && is_narrow (unary_value op p.0)) h

pub unary_some : (op : Unary) (p : Val × Bool) (u : Value) (r : Result (Option Value) NoMemory) →
    (p.1 ≡ true) × (denotes u ≡ p.0) →
    IsEvaluation (value_step nothing zeros (unary_node op (denotes u)), is_narrow (value_step nothing zeros (unary_node op (denotes u)))) r →
    IsEvaluation (plain_step (unary_node op p)) r
unfolding unary_value
unary_some op p u r e h =
    let same_pair : plain_step (unary_node op p) ≡ (unary_value op (denotes u), is_narrow (unary_value op (denotes u))) =
    unary_plain op p ∙ (λ i. (unary_value op (sym e.1 i), e.0 i && is_narrow (unary_value op (sym e.1 i)))) in
    subst (λ (k : Val × Bool). IsEvaluation k r) (sym same_pair) h

-- an answer for a term with this value
pub evaluated_at : (t : Term) (p : Val × Bool) (r : Result (Option Value) NoMemory) → plain t ≡ p → IsEvaluation p r → IsEvaluation (plain t) r
evaluated_at t p r e h = subst (λ (k : Val × Bool). IsEvaluation k r) (sym e) h

-- what is answered for an equation
pub equation_answer : (op : Binary) (u v : Value) (b : Bool) → op ≡ Binary.Eq → (b ≡ true) ↔ (u ≡ v) →
    IsEvaluation (value_step nothing zeros (binary_node op (denotes u) (denotes v)), is_narrow (value_step nothing zeros (binary_node op (denotes u) (denotes v))))
    (Ok (Some (CodeTruth b)))
equation_answer op u v b is h =
    subst (λ o. IsEvaluation (value_step nothing zeros (binary_node o (denotes u) (denotes v)), is_narrow (value_step nothing zeros (binary_node o (denotes u) (denotes v)))) (Ok (Some (CodeTruth b))))
    (sym is) (refl, denotes_truth b ∙ ap (λ c. Truth c) (same_from_code b u v h))

map-reverse : {A B : Type 0} (f : A → B) (xs : List A) → map f (reverse xs) ≡ reverse (map f xs)
map-reverse f [] = refl
map-reverse f (x ∷ xs) =
    ap (map f) (reverse-append (x ∷ []) xs)
    ∙ map-append f (reverse xs) (x ∷ [])
    ∙ ap (λ ys. ys ++ (f x ∷ [])) (map-reverse f xs)
    ∙ sym (reverse-append (f x ∷ []) (map f xs))

-- what is answered for a reversed string
pub reverse_answer : (op : Unary) (u : Value) (es rs : List Value) → op ≡ Unary.Reverse → map denotes es ≡ entries (denotes u) → rs ≡ reverse es →
    IsEvaluation (value_step nothing zeros (unary_node op (denotes u)), is_narrow (value_step nothing zeros (unary_node op (denotes u)))) (Ok (Some (Str rs)))
reverse_answer op u es rs is stand e =
    subst (λ o. IsEvaluation (value_step nothing zeros (unary_node o (denotes u)), is_narrow (value_step nothing zeros (unary_node o (denotes u)))) (Ok (Some (Str rs))))
    (sym is) (refl, denotes_string rs ∙ ap string (ap (map denotes) e ∙ map-reverse denotes es ∙ ap reverse stand))

-- what is answered for a part of a string
pub part_answer : (p q r : Val × Bool) (i j a : Value) (es bs : List Value) →
    (p.1 ≡ true) × (denotes i ≡ p.0) → (q.1 ≡ true) × (denotes j ≡ q.0) → (r.1 ≡ true) × (denotes a ≡ r.0) →
    map denotes es ≡ entries (denotes a) → bs ≡ drop (place (number (denotes i))) (take (place (number (denotes j))) es) →
    IsEvaluation (plain_step (Term-F.Part p q r)) (Ok (Some (Str bs)))
part_answer p q r i j a es bs e f g stand cut =
    let m : ℕ = place (number (denotes i)) in
    let n : ℕ = place (number (denotes j)) in (
      (λ d. ((e.0 d && f.0 d) && g.0 d) && true),
      denotes_string bs
          ∙ ap string (ap (map denotes) cut ∙ sym (drop-map denotes m (take n es)) ∙ ap (drop m) (sym (take-map denotes n es)) ∙ ap (λ vs. drop m (take n vs)) stand)
          ∙ (λ d. string (between (number (e.1 d)) (number (f.1 d)) (entries (g.1 d)))),
    )

passes_of : (ts : List Term) → list_all (λ b. b) (map (λ (k : Val × Bool). k.1) (map plain ts)) ≡ list_all is_plain ts
passes_of [] = refl
passes_of (t ∷ ts) = ap (λ b. is_plain t && b) (passes_of ts)

values_of : (ts : List Term) → map (λ (k : Val × Bool). k.0) (map plain ts) ≡ map plain_value ts
values_of [] = refl
values_of (t ∷ ts) = ap (λ vs. plain_value t ∷ vs) (values_of ts)

-- what is answered for a tuple
pub tuple_answer : (ts : List Term) (out : List Value) → map denotes out ≡ map plain_value ts → list_all is_plain ts ≡ true →
    IsEvaluation (plain_step (Term-F.Tuple (map plain ts))) (Ok (Some (Tup out)))
tuple_answer ts out e h =
    (ap (λ b. b && true) (passes_of ts ∙ h), denotes_tuple out ∙ ap tuple (e ∙ sym (values_of ts)))

pub tuple_none : (ts : List Term) → list_all is_plain ts ≡ false → (plain_step (Term-F.Tuple (map plain ts))).1 ≡ false
tuple_none ts h = ap (λ b. b && true) (passes_of ts ∙ h)
