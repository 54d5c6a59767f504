-- Options and further words, one after the other.
use Rattle.std.proofs.Common.{◌≡◌, ℕ, ◌+◌, Bool, true, false, eqb, List, [], ◌∷◌, ◌++◌, length, Option, Some, None, refl, sym, ap, subst, ◌∙◌, append_assoc, ⊎_elim, ◌<◌, cond, arith, drop, drop-cons, get_or, map, add-one}
use Rattle.std.proofs.lemmas.List.Folds.{list_any-append}
use Rattle.std.proofs.lemmas.List.{get_or-map, length-map}
use Rattle.std.proofs.lemmas.Bool.{cases_Bool, eqb-true, eqb-false, eq-eqb, true≢false}
use Rattle.std.specs.List.{list_any, position_or_len}
use Rattle.std.specs.Borrow.{Bor}
use Rattle.std.specs.Prelude.{codes, if◌then◌else◌, ◌&&◌, ◌||◌, not}
use Rattle.res_lexer.specs.Tokens.{same_bytes}
use Rattle.command_words.specs.Words.{Word, is_among, all_differ, names_of, good_values, is_good_value, with_option, with_further, is_value, gathered, Piece, piece_of, with_piece}
use Rattle.command_words.specs.working.Reading.{option_word, has_option, AreOptions, AddsOption, IsFirst, IsLimit, IsSummary, prepended, waiting_word, IsState}
use Rattle.command_words.specs.declared.words.State.{State}
use Rattle.command_words.specs.declared.words.Options.{Options}
use Rattle.command_words.specs.declared.words.Summary.{Summary}
use Rattle.command_words.specs.declared.words.OptionName.{OptionName}
use Rattle.command_words.specs.declared.words.OptionName.TheVariants.{Choice, Certs, Out, Steps}

same-swap : (x y : ℕ) → eqb x y ≡ eqb y x
same-swap x y =
    ⊎_elim
    (λ same. same ∙ sym (eq-eqb y x (sym (eqb-true x y same))))
    (λ other. ⊎_elim
    (λ same. absurd (eqb-false x y other (sym (eqb-true y x same))))
    (λ also. other ∙ sym also)
    (cases_Bool (eqb y x)))
    (cases_Bool (eqb x y))

or_right : (a b : Bool) → a ≡ false → (a || b) ≡ true → b ≡ true
or_right a b failed h = let Q : Bool → Type 0 = λ a. (a || b) ≡ true in subst Q failed h

-- where an element passes, the first that passes stands in the list
pub place_of_any : (p : ℕ → Bool) (xs : List ℕ) → list_any p xs ≡ true → position_or_len p xs < length xs
place_of_any p [] h = absurd (true≢false (sym h))
place_of_any p (x ∷ xs) h =
    let P : Bool → Type 0 = λ b. cond (not b) (1 + position_or_len p xs) 0 < length (x ∷ xs) in
    ⊎_elim
    (λ passed. subst P (sym passed) (omega arith))
    (λ failed. let later : list_any p xs ≡ true = or_right (p x) (list_any p xs) failed h in let below = place_of_any p xs later in subst P (sym failed) (omega arith))
    (cases_Bool (p x))

pub same_bytes-swap : (a b : Word) → same_bytes a b ≡ same_bytes b a
same_bytes-swap [] [] = refl
same_bytes-swap [] (y ∷ ys) = refl
same_bytes-swap (x ∷ xs) [] = refl
same_bytes-swap (x ∷ xs) (y ∷ ys) = let head = same-swap x y in let tail = same_bytes-swap xs ys in cc

pub names_of-append : (os : List (Word × Word)) (o : Word × Word) → names_of (os ++ (o ∷ [])) ≡ names_of os ++ (o.0 ∷ [])
names_of-append [] o = refl
names_of-append (p ∷ os) o = ap (λ ns. p.0 ∷ ns) (names_of-append os o)

or-false : (a : Bool) → (a || false) ≡ a
or-false true = refl
or-false false = refl

and-true : (a : Bool) → (a && true) ≡ a
and-true true = refl
and-true false = refl

pub is_among-append : (w : Word) (ns : List Word) (n : Word) → is_among w (ns ++ (n ∷ [])) ≡ (is_among w ns || same_bytes w n)
is_among-append w ns n = list_any-append (same_bytes w) ns (n ∷ []) ∙ ap (λ b. is_among w ns || b) (or-false (same_bytes w n))

regroup : (a b c d : Bool) → (not (a || b) && (c && not d)) ≡ ((not a && c) && not (b || d))
regroup true b c d = refl
regroup false true true d = refl
regroup false true false d = refl
regroup false false c d = refl

pub all_differ-append : (ns : List Word) (n : Word) → all_differ (ns ++ (n ∷ [])) ≡ (all_differ ns && not (is_among n ns))
all_differ-append [] n = refl
all_differ-append (m ∷ ms) n =
    let here = is_among-append m ms n in
    let later = all_differ-append ms n in
    let swapped = same_bytes-swap m n in
    let shape = regroup (is_among m ms) (same_bytes m n) (all_differ ms) (is_among n ms) in
    cc

and-assoc : (a b c : Bool) → (a && (b && c)) ≡ ((a && b) && c)
and-assoc true b c = refl
and-assoc false b c = refl

pub good_values-append : (os : List (Word × Word)) (o : Word × Word) → good_values (os ++ (o ∷ [])) ≡ (good_values os && is_good_value o.0 o.1)
good_values-append [] o = and-true (is_good_value o.0 o.1)
good_values-append (p ∷ os) o = ap (λ b. is_good_value p.0 p.1 && b) (good_values-append os o) ∙ and-assoc (is_good_value p.0 p.1) (good_values os) (is_good_value o.0 o.1)

pub prepended-option : (os : List (Word × Word)) (fs : List Word) (name value : Word) (g : Option (List (Word × Word) × List Word)) → prepended os fs (with_option name value g) ≡ prepended (os ++ ((name, value) ∷ [])) fs g
prepended-option os fs name value None = refl
prepended-option os fs name value (Some r) = simp append_assoc

pub prepended-further : (os : List (Word × Word)) (fs : List Word) (w : Word) (g : Option (List (Word × Word) × List Word)) → prepended os fs (with_further w g) ≡ prepended os (fs ++ (w ∷ [])) g
prepended-further os fs w None = refl
prepended-further os fs w (Some r) = simp append_assoc

pub prepended-nothing : (g : Option (List (Word × Word) × List Word)) → prepended [] [] g ≡ g
prepended-nothing None = refl
prepended-nothing (Some r) = refl

-- one more option in a summary
pub options-append : (names : List Word) (s t : Options) (option : OptionName) → AreOptions names s → AddsOption s option t → AreOptions (names ++ (option_word option ∷ [])) t
options-append names s t option are adds = record {
  choice = adds.choice ∙ (ap (λ b. b || same_bytes (codes "choice") (option_word option)) are.choice ∙ sym (is_among-append (codes "choice") names (option_word option)));
  certs = adds.certs ∙ (ap (λ b. b || same_bytes (codes "certs") (option_word option)) are.certs ∙ sym (is_among-append (codes "certs") names (option_word option)));
  out = adds.out ∙ (ap (λ b. b || same_bytes (codes "out") (option_word option)) are.out ∙ sym (is_among-append (codes "out") names (option_word option)));
  steps = adds.steps ∙ (ap (λ b. b || same_bytes (codes "steps") (option_word option)) are.steps ∙ sym (is_among-append (codes "steps") names (option_word option)));
}

pub has_option-is : (names : List Word) (s : Options) (option : OptionName) → AreOptions names s → has_option s option ≡ is_among (option_word option) names
has_option-is names s option are = elim option as (λ o. has_option s o ≡ is_among (option_word o) names) [ Choice ↦ are.choice | Certs ↦ are.certs | Out ↦ are.out | Steps ↦ are.steps ]

-- the summary with one more option
pub summary-option : (os : List (Word × Word)) (fs : List Word) (s t : Summary) (option : OptionName) (value : Word) (good : Bool) → good ≡ is_good_value (option_word option) value → AddsOption s.options option t.options → t.differ ≡ (s.differ && not (has_option s.options option)) → t.good ≡ (s.good && good) → IsLimit t.limit (os ++ ((option_word option, value) ∷ [])) → t.further ≡ s.further → t.first ≡ s.first → IsSummary os fs s → IsSummary (os ++ ((option_word option, value) ∷ [])) fs t
summary-option os fs s t option value good is_good adds differ goods limit further first sums =
    let names = names_of-append os (option_word option, value) in
    let P : List Word → Type 0 = λ ns. AreOptions ns t.options in
    record {
      options = subst P (sym names) (options-append (names_of os) s.options t.options option sums.options adds);
      differ = let has = has_option-is (names_of os) s.options option sums.options in let all = all_differ-append (names_of os) (option_word option) in let e = sums.differ in cc (ap all_differ names);
      good = let e = sums.good in let all = good_values-append os (option_word option, value) in cc;
      limit = limit;
      further = further ∙ sums.further;
      first = let F : Option (Bor (List ℕ)) → Type 0 = λ f. IsFirst f fs in subst F (sym first) sums.first;
    }

-- `&&`, by its first part
pub and-when : (r d h : Bool) → d ≡ true → r ≡ h → r ≡ (d && h)
and-when r d h is e = let P : Bool → Type 0 = λ b. r ≡ (b && h) in subst P (sym is) e

pub and-unless : (r d h : Bool) → d ≡ false → r ≡ d → r ≡ (d && h)
and-unless r d h is e = let P : Bool → Type 0 = λ b. b ≡ (b && h) in e ∙ subst P (sym is) refl

-- what a state with a waiting option says of the words, and what one without
pub value-read : (names words rest : List Word) (w : Word) (s : State) (option : OptionName) → s.waiting ≡ Some option → (st : IsState names words (w ∷ rest) s) → gathered names None words ≡ prepended st.os st.fs (if is_value w then with_option (option_word option) w (gathered names None rest) else None)
value-read names words rest w s option waits st =
    let P : Option OptionName → Type 0 = λ o. gathered names None words ≡ prepended st.os st.fs (gathered names (waiting_word o) (w ∷ rest)) in subst P waits st.reads

pub value-refused : (names words rest : List Word) (w : Word) (s : State) (option : OptionName) → s.waiting ≡ Some option → is_value w ≡ false → IsState names words (w ∷ rest) s → gathered names None words ≡ None
value-refused names words rest w s option waits failed st =
    let P : Bool → Type 0 = λ b. gathered names None words ≡ prepended st.os st.fs (if b then with_option (option_word option) w (gathered names None rest) else None) in subst P failed (value-read names words rest w s option waits st)

pub value-taken : (names words rest : List Word) (w : Word) (s : State) (option : OptionName) → s.waiting ≡ Some option → is_value w ≡ true → (st : IsState names words (w ∷ rest) s) → gathered names None words ≡ prepended (st.os ++ ((option_word option, w) ∷ [])) st.fs (gathered names None rest)
value-taken names words rest w s option waits passed st =
    let P : Bool → Type 0 = λ b. gathered names None words ≡ prepended st.os st.fs (if b then with_option (option_word option) w (gathered names None rest) else None) in
    subst P passed (value-read names words rest w s option waits st) ∙ prepended-option st.os st.fs (option_word option) w (gathered names None rest)

pub piece-read : (names words rest : List Word) (w : Word) (s : State) (p : Option Piece) → s.waiting ≡ None → piece_of names w ≡ p → (st : IsState names words (w ∷ rest) s) → gathered names None words ≡ prepended st.os st.fs (with_piece p w (gathered names None rest) (λ name. gathered names (Some name) rest))
piece-read names words rest w s p idle is st =
    let P : Option OptionName → Type 0 = λ o. gathered names None words ≡ prepended st.os st.fs (gathered names (waiting_word o) (w ∷ rest)) in
    let Q : Option Piece → Type 0 = λ p. gathered names None words ≡ prepended st.os st.fs (with_piece p w (gathered names None rest) (λ name. gathered names (Some name) rest)) in
    subst Q is (subst P idle st.reads)

-- what is left of a list at a place, by the element that stands there
pub rest-step : {A : Type 0} (f : A → Word) (xs : List A) (i : ℕ) (x : A) (w : Word) → i < length xs → x ≡ get_or xs i x → w ≡ f x → drop i (map f xs) ≡ w ∷ drop (i + 1) (map f xs)
rest-step {A} f xs i x w below is shows =
    let within : i < length (map f xs) = rw length-map below in
    let front = drop-cons (map f xs) i (f x) within in
    let at = get_or-map f xs i x (f x) below in
    let same = ap f (sym is) in
    let next = ap (λ n. drop n (map f xs)) (add-one i) in
    cc
