-- The characters of an identifier, and what may follow it.
use Rattle.std.proofs.Common.{◌≡◌, ℕ, ◌+◌, ◌-◌, ◌<◌, ◌≤◌, ◌∙◌, Bool, true, false, ◌&&◌, List, [], ◌∷◌, ◌++◌, length, take, drop, chars, IsUtf8, encode_utf8, encode_utf8_all, refl, sym, ap, subst, ⊎_elim, append_assoc, append-nil, take-append-drop, length-append, length-take-le, take_all, nat_lt, nat_eq, arith}
use Rattle.std.proofs.lemmas.Bool.{true≢false, and_parts, and_from, false_from_ne_true, cases_Bool, eq-eqb, eqb-true}
use Rattle.std.proofs.Math.Seq.{take-append_seam, take-append-add}
use Rattle.std.proofs.lemmas.List.{append_cancel_left}
use Rattle.std.proofs.lemmas.Str.{chars-nil, IsUtf8-from_is_utf8, is_utf8-from_IsUtf8, IsUtf8-append, IsUtf8-encode, chars-append, encodes-chars, encodes-append, scalars-chars, chars-encodes, encode_same, length-encode, len_utf8_bounds}
use Rattle.std.specs.Char.{IsScalar}
use Rattle.std.specs.List.{list_all}
use Rattle.std.specs.Str.{is_utf8, all_scalars}
use Rattle.unicode_ident.specs.Ident.{is_xid_continue}
use Rattle.identifiers.specs.Identifiers.{begins_identifier, spell_identifier, is_identifier, longest, NothingContinues}
use Rattle.identifiers.specs.Laws.{Stands}
use Rattle.identifiers.proofs.Longest.{longest_is, longest_passes, longest_within}

pub utf8 : (bytes : List ℕ) → is_identifier bytes ≡ true → IsUtf8 bytes
unfolding is_identifier
utf8 bytes is = IsUtf8-from_is_utf8 bytes (and_parts (is_utf8 bytes) (spell_identifier (chars bytes)) is).0

pub spelled : (bytes : List ℕ) → is_identifier bytes ≡ true → spell_identifier (chars bytes) ≡ true
unfolding is_identifier
spelled bytes is = (and_parts (is_utf8 bytes) (spell_identifier (chars bytes)) is).1

pub from_characters : (bytes : List ℕ) → IsUtf8 bytes → spell_identifier (chars bytes) ≡ true → is_identifier bytes ≡ true
unfolding is_identifier
from_characters bytes text spells = and_from (is_utf8 bytes) (spell_identifier (chars bytes)) (is_utf8-from_IsUtf8 bytes text) spells

-- ---- one more character

all_more : (p : ℕ → Bool) (cs ds : List ℕ) → list_all p cs ≡ true → list_all p ds ≡ true → list_all p (cs ++ ds) ≡ true
all_more p [] ds h g = g
all_more p (c ∷ cs) ds h g =
    let both = and_parts (p c) (list_all p cs) h in and_from (p c) (list_all p (cs ++ ds)) both.0 (all_more p cs ds both.1 g)

spell_more : (cs ds : List ℕ) → spell_identifier cs ≡ true → list_all is_xid_continue ds ≡ true → spell_identifier (cs ++ ds) ≡ true
spell_more [] ds h g = absurd (true≢false (sym h))
spell_more (c ∷ cs) ds h g =
    let both = and_parts (begins_identifier c) (list_all is_xid_continue cs) h in
    and_from (begins_identifier c) (list_all is_xid_continue (cs ++ ds)) both.0 (all_more is_xid_continue cs ds both.1 g)

chars_one : (c : ℕ) → IsScalar c → chars (encode_utf8 c) ≡ c ∷ []
chars_one c scalar =
    ap chars (sym (append-nil (encode_utf8 c))) ∙ chars-encodes (c ∷ []) (and_from _ _ scalar refl)

pub one_more : (name : List ℕ) (c : ℕ) → is_identifier name ≡ true → IsScalar c → is_xid_continue c ≡ true → is_identifier (name ++ encode_utf8 c) ≡ true
one_more name c is scalar goes =
    from_characters (name ++ encode_utf8 c) (IsUtf8-append name (encode_utf8 c) (utf8 name is) (IsUtf8-encode c scalar))
    (subst (λ cs. spell_identifier cs ≡ true) (sym (chars-append name (encode_utf8 c) (utf8 name is) ∙ ap (λ ds. chars name ++ ds) (chars_one c scalar)))
    (spell_more (chars name) (c ∷ []) (spelled name is) (and_from (is_xid_continue c) true goes refl)))

pub one_character : (c : ℕ) → IsScalar c → begins_identifier c ≡ true → is_identifier (encode_utf8 c) ≡ true
one_character c scalar begins =
    from_characters (encode_utf8 c) (IsUtf8-encode c scalar)
    (subst (λ cs. spell_identifier cs ≡ true) (sym (chars_one c scalar)) (and_from (begins_identifier c) true begins refl))

-- ---- where an identifier ends

all_parts : (p : ℕ → Bool) (cs : List ℕ) (d : ℕ) (ds : List ℕ) → list_all p (cs ++ d ∷ ds) ≡ true → p d ≡ true
all_parts p [] d ds h = (and_parts (p d) (list_all p ds) h).0
all_parts p (c ∷ cs) d ds h = all_parts p cs d ds (and_parts (p c) (list_all p (cs ++ d ∷ ds)) h).1

goes_on : (cs : List ℕ) (d : ℕ) (ds : List ℕ) → spell_identifier cs ≡ true → spell_identifier (cs ++ d ∷ ds) ≡ true → is_xid_continue d ≡ true
goes_on [] d ds h g = absurd (true≢false (sym h))
goes_on (c ∷ cs) d ds h g = all_parts is_xid_continue cs d ds (and_parts (begins_identifier c) (list_all is_xid_continue (cs ++ d ∷ ds)) g).1

scalar_in : (cs : List ℕ) (d : ℕ) (ds : List ℕ) → all_scalars (cs ++ d ∷ ds) ≡ true → IsScalar d
scalar_in [] d ds h = (and_parts _ (all_scalars ds) h).0
scalar_in (c ∷ cs) d ds h = scalar_in cs d ds (and_parts _ (all_scalars (cs ++ d ∷ ds)) h).1

-- nothing more is an identifier
longer : (name more after : List ℕ) → is_identifier name ≡ true → NothingContinues (more ++ after) → 0 < length more → is_identifier (name ++ more) ≡ true → ⊥
longer name more after is stops some goes = cases (chars more) refl
  where
    both : encode_utf8_all (chars name ++ chars more) ≡ name ++ more
    both = ap encode_utf8_all (sym (chars-append name more (utf8 name is))) ∙ encodes-chars (name ++ more) (utf8 (name ++ more) goes)

    second : encode_utf8_all (chars more) ≡ more
    second =
        append_cancel_left name (encode_utf8_all (chars more)) more
        (ap (λ l. l ++ encode_utf8_all (chars more)) (sym (encodes-chars name (utf8 name is))) ∙ sym (encodes-append (chars name) (chars more)) ∙ both)

    whole : spell_identifier (chars name ++ chars more) ≡ true
    whole = subst (λ cs. spell_identifier cs ≡ true) (chars-append name more (utf8 name is)) (spelled (name ++ more) goes)

    valid : all_scalars (chars name ++ chars more) ≡ true
    valid = subst (λ cs. all_scalars cs ≡ true) (chars-append name more (utf8 name is)) (scalars-chars (name ++ more) (utf8 (name ++ more) goes))

    cases : (cs : List ℕ) → cs ≡ chars more → ⊥
    cases [] e =
        let none : [] ≡ more = subst (λ ds. encode_utf8_all ds ≡ more) (sym e) second in
        omega (arith, some, ap length none)
    cases (d ∷ ds) e =
        let here : encode_utf8 d ++ encode_utf8_all ds ≡ more = subst (λ es. encode_utf8_all es ≡ more) (sym e) second in
        let begins : more ++ after ≡ encode_utf8 d ++ (encode_utf8_all ds ++ after) = ap (λ l. l ++ after) (sym here) ∙ append_assoc (encode_utf8 d) (encode_utf8_all ds) after in
        let on = goes_on (chars name) d ds (spelled name is) (subst (λ es. spell_identifier (chars name ++ es) ≡ true) (sym e) whole) in
        let scalar = scalar_in (chars name) d ds (subst (λ es. all_scalars (chars name ++ es) ≡ true) (sym e) valid) in
        true≢false (sym on ∙ stops d (encode_utf8_all ds ++ after) scalar begins)

pub ends : (name rest : List ℕ) → is_identifier name ≡ true → NothingContinues rest → longest is_identifier (name ++ rest) ≡ length name
ends name rest is stops =
    longest_is is_identifier (name ++ rest) (length name) (omega (arith, length-append name rest)) (λ some. subst (λ l. is_identifier l ≡ true) (sym (front name rest)) is)
    (λ k more few. false_from_ne_true (is_identifier (take k (name ++ rest))) (λ goes.
    let n : ℕ = k - length name in
    let sum : k ≡ length name + n = omega (arith, more) in
    let cut : take k (name ++ rest) ≡ name ++ take n rest = ap (λ m. take m (name ++ rest)) sum ∙ beyond name rest n in
    let within : n ≤ length rest = omega (arith, few, sum, length-append name rest) in
    longer name (take n rest) (drop n rest) is (subst NothingContinues (sym (take-append-drop n rest)) stops) (omega (arith, more, sum, length-take-le n rest within))
    (subst (λ l. is_identifier l ≡ true) cut goes)))
  where
    front : (xs ys : List ℕ) → take (length xs) (xs ++ ys) ≡ xs
    front xs ys = take-append_seam xs ys

    beyond : (xs ys : List ℕ) (n : ℕ) → take (length xs + n) (xs ++ ys) ≡ xs ++ take n ys
    beyond xs ys n = take-append-add xs ys n

-- nothing at the front is an identifier
pub none : (bytes : List ℕ) → ((c : ℕ) (rest : List ℕ) → IsScalar c → bytes ≡ encode_utf8 c ++ rest → begins_identifier c ≡ false) → longest is_identifier bytes ≡ 0
none bytes stops =
    longest_is is_identifier bytes 0 (omega arith) (λ some. absurd (omega (arith, some)))
    (λ k more few. false_from_ne_true (is_identifier (take k bytes)) (λ is. begins k is (chars (take k bytes)) refl))
  where
    begins : (k : ℕ) → is_identifier (take k bytes) ≡ true → (cs : List ℕ) → cs ≡ chars (take k bytes) → ⊥
    begins k is [] e = true≢false (sym (subst (λ cs. spell_identifier cs ≡ true) (sym e) (spelled (take k bytes) is)))
    begins k is (c ∷ cs) e =
        let text = utf8 (take k bytes) is in
        let here : encode_utf8 c ++ encode_utf8_all cs ≡ take k bytes = subst (λ ds. encode_utf8_all ds ≡ take k bytes) (sym e) (encodes-chars (take k bytes) text) in
        let front : bytes ≡ encode_utf8 c ++ (encode_utf8_all cs ++ drop k bytes) = sym (take-append-drop k bytes) ∙ ap (λ l. l ++ drop k bytes) (sym here) ∙ append_assoc (encode_utf8 c) (encode_utf8_all cs) (drop k bytes) in
        let first = (and_parts (begins_identifier c) (list_all is_xid_continue cs) (subst (λ ds. spell_identifier ds ≡ true) (sym e) (spelled (take k bytes) is))).0 in
        let scalar = (and_parts _ (all_scalars cs) (subst (λ ds. all_scalars ds ≡ true) (sym e) (scalars-chars (take k bytes) text))).0 in
        true≢false (sym first ∙ stops c (encode_utf8_all cs ++ drop k bytes) scalar front)

-- two characters at one front are the same
pub same_front : (bytes rest more : List ℕ) (c d : ℕ) → bytes ≡ encode_utf8 c ++ rest → bytes ≡ encode_utf8 d ++ more → d ≡ c
same_front bytes rest more c d e f = sym (encode_same c d rest more (sym e ∙ f)).0

-- no character begins where nothing stands
pub nothing : NothingContinues []
nothing c rest scalar e =
    absurd (omega (arith, ap length e, length-append (encode_utf8 c) rest, length-encode c, (len_utf8_bounds c).0))

-- bytes are an identifier where the longest one at their front is all of them
pub whole : (bytes : List ℕ) → (nat_lt 0 (longest is_identifier bytes) && nat_eq (longest is_identifier bytes) (length bytes)) ≡ is_identifier bytes
whole bytes =
    ⊎_elim
    (λ is.
    let all : longest is_identifier bytes ≡ length bytes = subst (λ l. longest is_identifier l ≡ length bytes) (append-nil bytes) (ends bytes [] is nothing) in
    and_from _ _ (subst (λ n. nat_lt 0 n ≡ true) (sym all) (some bytes is)) (subst (λ n. nat_eq n (length bytes) ≡ true) (sym all) (eq-eqb (length bytes) (length bytes) refl)) ∙ sym is)
    (λ not.
    false_from_ne_true _ (λ both.
    let parts = and_parts (nat_lt 0 (longest is_identifier bytes)) (nat_eq (longest is_identifier bytes) (length bytes)) both in
    let passes = longest_passes is_identifier bytes (positive (longest is_identifier bytes) parts.0) in
    let all = eqb-true (longest is_identifier bytes) (length bytes) parts.1 in
    true≢false (sym (subst (λ n. is_identifier (take n bytes) ≡ true) all passes) ∙ ap is_identifier (take_all (length bytes) bytes (omega arith)) ∙ not)) ∙ sym not)
    (cases_Bool (is_identifier bytes))
  where
    positive : (n : ℕ) → nat_lt 0 n ≡ true → 0 < n
    positive n h = grind (arith, h)

    some : (bytes : List ℕ) → is_identifier bytes ≡ true → nat_lt 0 (length bytes) ≡ true
    some [] is = absurd (true≢false (sym (subst (λ cs. spell_identifier cs ≡ true) chars-nil (spelled [] is))))
    some (b ∷ bs) is = grind arith

pub stands : Stands
stands bytes some = (longest_passes is_identifier bytes some, longest_within is_identifier bytes)
