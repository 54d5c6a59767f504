-- The watch on the operation's own name never refuses a whole class: another identifier exists.
use Rattle.std.proofs.Common.{◌≡◌, ◌≢◌, ℕ, zero, suc, ◌+◌, ◌-◌, ◌<◌, ◌⊎◌, ⊎_elim, pos, Bool, true, false, ◌&&◌, ◌||◌, nat_lt, nat_le, nat_eq, ◌==◌, if◌then◌else◌, List, [], ◌∷◌, codes, get_or, Option, Some, None, refl, sym, ap, ◌∙◌, subst, arith}
use Rattle.std.proofs.lemmas.Bool.{and_parts, and_from, true≢false, eqb-true, eq-eqb, ne_eqb}
use Rattle.std.specs.List.{list_all, list_any}
use Rattle.std.specs.Cmp.Lexicographic.{bytes_decides}
use Rattle.ll_grammar.specs.declared.form.Move.{Move}
use Rattle.ll_grammar.specs.declared.form.Move.TheVariants.{Shift, Expand, Act}
use Rattle.ll_grammar.specs.Watch.{watched, and_then, IsFair, PassesClass}
use Rattle.res_lexer.specs.declared.token.Token.{Token}
use Rattle.res_lexer.specs.declared.token.TokenKind.{TokenKind}
use Rattle.res_lexer.specs.declared.token.TokenKind.TheVariants.{Word, Literal, Symbol}
use Rattle.res_grammar.specs.Numbers.{id, first_word, class_count, reserved, open_operation_mark, same_mark, head_mark, result_equals_mark, result_clause_mark}
use Rattle.res_grammar.specs.Classes.{class_of, class_of_word, class_of_symbol, word_of, same_word, remembered}
use Rattle.res_grammar.specs.OwnName.{OwnNames, own, own_step, own_act, answers}
use Rattle.res_grammar.specs.Following.{is_plain, are_one_word, is_word_of, can_follow}
use Rattle.res_grammar.specs.declared.own_name.Asks.{Asks}
use Rattle.res_grammar.specs.declared.own_name.Asks.TheVariants.{Any, Own, Other}

or_left : (a b : Bool) → a ≡ true → (a || b) ≡ true
or_left true b h = refl
or_left false b h = absurd (true≢false (sym h))

or_right : (a b : Bool) → b ≡ true → (a || b) ≡ true
or_right true b h = refl
or_right false b h = h

other_one : (a b : Bool) → a ≡ false → (a || b) ≡ true → b ≡ true
other_one true b e h = absurd (true≢false e)
other_one false b e h = h

same_itself : (word : List ℕ) → same_word word word ≡ true
same_itself word = (bytes_decides word word).1 refl

-- ---- names that can follow

-- an identifier that can follow these tokens, or none
abbrev pub name_fits : List Token → Option (List ℕ) → Bool
name_fits ts None = true
name_fits ts (Some name) = (class_of_word name == id) && can_follow ts (Word name)

abbrev pub names_fit : List Token → OwnNames → Bool
names_fit ts s = name_fits ts s.last && name_fits ts s.operation

remembered_fits : (ts : List Token) (b : Bool) (word : List ℕ) (last : Option (List ℕ)) → (b ≡ true → name_fits ts (Some word) ≡ true) → name_fits ts last ≡ true → name_fits ts (if b then Some word else last) ≡ true
remembered_fits ts true word last f h = f refl
remembered_fits ts false word last f h = h

symbol_is_no_name : (k : ℕ) (b : Bool) → ((if b then 2 + (k - 1) else 127) == id) ≡ true → ⊥
symbol_is_no_name k true h = let e = eqb-true (2 + (k - 1)) 0 h in absurd (omega arith)
symbol_is_no_name k false h = true≢false (sym h)

-- an identifier that can follow is a name that can
kind_fits : (ts : List Token) (kind : TokenKind) → ((w : List ℕ) → kind ≡ Word w → can_follow ts (Word w) ≡ true) → (class_of kind == id) ≡ true → name_fits ts (Some (word_of kind)) ≡ true
kind_fits ts (Word w) f h = and_from (class_of_word w == id) (can_follow ts (Word w)) h (f w refl)
kind_fits ts (Literal n) f h = absurd (true≢false (sym h))
kind_fits ts (Symbol k) f h = absurd (symbol_is_no_name k (nat_le 1 k && nat_le k 19) h)

-- ---- the names of the tokens themselves

-- a word of these tokens, or no word
abbrev known : List Token → TokenKind → Bool
known ts (Word w) = is_word_of ts (Word w)
known ts (Literal n) = true
known ts (Symbol k) = true

known_more : (t : Token) (ts : List Token) (kind : TokenKind) → known ts kind ≡ true → known (t ∷ ts) kind ≡ true
known_more t ts (Word w) h = or_right (are_one_word t.kind (Word w)) (is_word_of ts (Word w)) h
known_more t ts (Literal n) h = refl
known_more t ts (Symbol k) h = refl

known_first : (t : Token) (ts : List Token) (kind : TokenKind) → t.kind ≡ kind → known (t ∷ ts) kind ≡ true
known_first t ts (Word w) e =
    or_left (are_one_word t.kind (Word w)) (is_word_of ts (Word w)) (let P : TokenKind → Type 0 = λ y. are_one_word y (Word w) ≡ true in subst P (sym e) (same_itself w))
known_first t ts (Literal n) e = refl
known_first t ts (Symbol k) e = refl

all_more : (t : Token) (ts us : List Token) → list_all (λ y. known ts y.kind) us ≡ true → list_all (λ y. known (t ∷ ts) y.kind) us ≡ true
all_more t ts [] h = refl
all_more t ts (u ∷ us) h =
    let two = and_parts (known ts u.kind) (list_all (λ y. known ts y.kind) us) h in
    and_from (known (t ∷ ts) u.kind) (list_all (λ y. known (t ∷ ts) y.kind) us) (known_more t ts u.kind two.0) (all_more t ts us two.1)

all_known : (ts : List Token) → list_all (λ y. known ts y.kind) ts ≡ true
all_known [] = refl
all_known (t ∷ ts) =
    and_from (known (t ∷ ts) t.kind) (list_all (λ y. known (t ∷ ts) y.kind) ts) (known_first t ts t.kind refl) (all_more t ts ts (all_known ts))

known_word : (ts : List Token) (kind : TokenKind) → known ts kind ≡ true → (w : List ℕ) → kind ≡ Word w → can_follow ts (Word w) ≡ true
known_word ts kind h w e =
    let P : TokenKind → Type 0 = λ y. known ts y ≡ true in
    or_right (is_plain (Word w)) (is_word_of ts (Word w)) (subst P e h)

-- ---- steps keep that names can follow

after_step : (ts : List Token) (class : ℕ) (word : List ℕ) (m : OwnNames) → ((class == id) ≡ true → name_fits ts (Some word) ≡ true) → names_fit ts m ≡ true → names_fit ts (record m { last = remembered class word m.last; asks = Any }) ≡ true
after_step ts class word m f h =
    let two = and_parts (name_fits ts m.last) (name_fits ts m.operation) h in
    and_from (name_fits ts (remembered class word m.last)) (name_fits ts m.operation) (remembered_fits ts (class == id) word m.last f two.0) two.1

not_none : {A : Type 0} (x : A) → None ≡ Some x → ⊥
not_none x e = cc

some_is : {A : Type 0} (x y : A) → Some x ≡ Some y → x ≡ y
some_is x y e = cc

passed_is : {A : Type 0} (b : Bool) (x n : A) → (if b then Some x else None) ≡ Some n → x ≡ n
passed_is true x n e = some_is x n e
passed_is false x n e = absurd (not_none n e)

step_keeps : (ts : List Token) (t : Token) (m n : OwnNames) → known ts t.kind ≡ true → own.shift t m ≡ Some n → names_fit ts m ≡ true → names_fit ts n ≡ true
step_keeps ts t m n k e h =
    let class = class_of t.kind in
    let word = word_of t.kind in
    let P : OwnNames → Type 0 = λ y. names_fit ts y ≡ true in
    subst P (passed_is (if class == id then answers m.asks m.operation word else true) (record m { last = remembered class word m.last; asks = Any }) n e)
    (after_step ts class word m (kind_fits ts t.kind (known_word ts t.kind k)) h)

act_keeps : (ts : List Token) (m : OwnNames) (a b c d e : Bool) → names_fit ts m ≡ true → names_fit ts (if a then record m { operation = m.last } else if b then record m { asks = Own } else if c then (if m.in_result then record m { asks = Other } else m) else if d then record m { in_result = true } else if e then record m { in_result = false } else m) ≡ true
act_keeps ts m true b c d e h = let two = and_parts (name_fits ts m.last) (name_fits ts m.operation) h in and_from (name_fits ts m.last) (name_fits ts m.last) two.0 two.0
act_keeps ts m false true c d e h = h
act_keeps ts m false false true d e h =
    let f : (r : Bool) → names_fit ts (if r then record m { asks = Other } else m) ≡ true = λ r. elim r as (λ v. names_fit ts (if v then record m { asks = Other } else m) ≡ true) [ true ↦ h | false ↦ h ] in
    f m.in_result
act_keeps ts m false false false true e h = h
act_keeps ts m false false false false true h = h
act_keeps ts m false false false false false h = h

acts : (ts : List Token) (a : ℕ) (m : OwnNames) → names_fit ts m ≡ true → names_fit ts (own_act a m) ≡ true
acts ts a m h = act_keeps ts m (a == open_operation_mark) (a == same_mark) (a == head_mark) (a == result_equals_mark) (a == result_clause_mark) h

shift_fits : (ts : List Token) (ms : List Move) (us : List Token) (u : Token) (m n : OwnNames) (o : Option OwnNames) → own.shift u m ≡ o → known ts u.kind ≡ true → names_fit ts m ≡ true → ((k : OwnNames) → watched own ms us k ≡ Some n → names_fit ts k ≡ true → names_fit ts n ≡ true) → and_then o (watched own ms us) ≡ Some n → names_fit ts n ≡ true
shift_fits ts ms us u m n None i k h f e = absurd (not_none n e)
shift_fits ts ms us u m n (Some x) i k h f e = f x e (step_keeps ts u m x k i h)

walk_fits : (ts : List Token) (ms : List Move) (us : List Token) (m n : OwnNames) → list_all (λ y. known ts y.kind) us ≡ true → names_fit ts m ≡ true → watched own ms us m ≡ Some n → names_fit ts n ≡ true
walk_fits ts [] [] m n k h e = let P : OwnNames → Type 0 = λ y. names_fit ts y ≡ true in subst P (some_is m n e) h
walk_fits ts [] (u ∷ us) m n k h e = absurd (not_none n e)
walk_fits ts (Shift ∷ ms) [] m n k h e = absurd (not_none n e)
walk_fits ts (Shift ∷ ms) (u ∷ us) m n k h e =
    let two = and_parts (known ts u.kind) (list_all (λ y. known ts y.kind) us) k in
    shift_fits ts ms us u m n (own.shift u m) refl two.0 h (λ x i j. walk_fits ts ms us x n two.1 j i) e
walk_fits ts (Expand x p ∷ ms) us m n k h e = walk_fits ts ms us m n k h e
walk_fits ts (Act a ∷ ms) us m n k h e = walk_fits ts ms us (own_act a m) n k (acts ts a m h) e

-- the names that the watch knows after these tokens can follow them
pub names_fit_after : (ts : List Token) (ms : List Move) (n : OwnNames) → watched own ms ts own.outset ≡ Some n → names_fit ts n ≡ true
names_fit_after ts ms n e = walk_fits ts ms ts own.outset n (all_known ts) refl e

-- ---- a token of each class

-- a plain token of a class that is no identifier
abbrev kind_of : ℕ → TokenKind
kind_of c = if c == 1 then Literal (pos 0) else if nat_lt c first_word then Symbol (c - 1) else Word (get_or reserved (c - first_word) [])

abbrev has_kind : ℕ → Bool
has_kind c = (c == id) || ((class_of (kind_of c) == c) && is_plain (kind_of c))

abbrev all_below : ℕ → (ℕ → Bool) → Bool
all_below zero test = true
all_below (suc n) test = test n && all_below n test

below : (n : ℕ) (test : ℕ → Bool) (c : ℕ) → all_below n test ≡ true → c < n → test c ≡ true
below zero test c h l = absurd (omega arith)
below (suc n) test c h l =
    let two = and_parts (test n) (all_below n test) h in
    ⊎_elim
    (λ (e : c ≡ n). let P : ℕ → Type 0 = λ y. test y ≡ true in subst P (sym e) two.0)
    (λ (m : c < n). below n test c two.1 m)
    (let d : (c ≡ n) ⊎ (c < n) = grind arith in d)

all_have_kinds : all_below class_count has_kind ≡ true
unfolding class_of_word
all_have_kinds = refl

-- an identifier that is asked for, or another one
abbrev another : List ℕ → List ℕ
another name = if same_word name (codes "x") then codes "y" else codes "x"

abbrev answering : Asks → Option (List ℕ) → List ℕ
answering Any o = codes "x"
answering Own None = codes "x"
answering Own (Some name) = name
answering Other None = codes "x"
answering Other (Some name) = another name

differs : (name : List ℕ) (b : Bool) → same_word name (codes "x") ≡ b → (if same_word name (if b then codes "y" else codes "x") then false else true) ≡ true
differs name true e =
    let P : List ℕ → Type 0 = λ y. (if same_word y (codes "y") then false else true) ≡ true in
    subst P (sym ((bytes_decides name (codes "x")).0 e)) refl
differs name false e = ap (λ y. if y then false else true) e

answered : (a : Asks) (o : Option (List ℕ)) → answers a o (answering a o) ≡ true
answered Any o = refl
answered Own None = refl
answered Own (Some name) = same_itself name
answered Other None = refl
answered Other (Some name) = differs name (same_word name (codes "x")) refl

x_fits : (ts : List Token) → name_fits ts (Some (codes "x")) ≡ true
unfolding class_of_word
x_fits ts = refl

y_fits : (ts : List Token) → name_fits ts (Some (codes "y")) ≡ true
unfolding class_of_word
y_fits ts = refl

another_fits : (ts : List Token) (b : Bool) → name_fits ts (Some (if b then codes "y" else codes "x")) ≡ true
another_fits ts true = y_fits ts
another_fits ts false = x_fits ts

answering_fits : (ts : List Token) (a : Asks) (o : Option (List ℕ)) → name_fits ts o ≡ true → name_fits ts (Some (answering a o)) ≡ true
answering_fits ts Any o h = x_fits ts
answering_fits ts Own None h = x_fits ts
answering_fits ts Own (Some name) h = h
answering_fits ts Other None h = x_fits ts
answering_fits ts Other (Some name) h = another_fits ts (same_word name (codes "x"))

may_stand : (b c : Bool) (m n : OwnNames) → (b ≡ true → c ≡ true) → (if (if b then c else true) then Some m else None) ≡ Some m
may_stand true c m n f = ap (λ z. if z then Some m else None) (f refl)
may_stand false c m n f = refl

-- a token of this kind passes, and the names can follow after it too
passing : (ts : List Token) (m : OwnNames) (c : ℕ) (kind : TokenKind) → names_fit ts m ≡ true → class_of kind ≡ c → can_follow ts kind ≡ true → ((class_of kind == id) ≡ true → answers m.asks m.operation (word_of kind) ≡ true) → PassesClass OwnNames Token own (λ y. can_follow ts y.kind) (names_fit ts) m c
passing ts m c kind h e f a =
    let next : OwnNames = record m { last = remembered (class_of kind) (word_of kind) m.last; asks = Any } in
    let P : TokenKind → Type 0 = λ y. can_follow ts y ≡ true in
    record {
      token = record { at = 0; len = 0; kind = kind };
      class = e;
      fit = f;
      next = next;
      passes = may_stand (class_of kind == id) (answers m.asks m.operation (word_of kind)) next m a;
      keeps = after_step ts (class_of kind) (word_of kind) m (kind_fits ts kind (λ w i. subst P i f)) h;
    }

no_identifier : (c k : ℕ) → k ≡ suc c → (k == id) ≡ true → ⊥
no_identifier c k e h = let i = eqb-true k 0 h in absurd (omega arith)

other_class : (ts : List Token) (m : OwnNames) (c : ℕ) → names_fit ts m ≡ true → has_kind (suc c) ≡ true → PassesClass OwnNames Token own (λ y. can_follow ts y.kind) (names_fit ts) m (suc c)
other_class ts m c h k =
    let kind = kind_of (suc c) in
    let two = and_parts (class_of kind == suc c) (is_plain kind) (other_one (suc c == id) ((class_of kind == suc c) && is_plain kind) (ne_eqb (suc c) 0 (λ e. omega arith)) k) in
    let e : class_of kind ≡ suc c = eqb-true (class_of kind) (suc c) two.0 in
    passing ts m (suc c) kind h e (or_left (is_plain kind) (is_word_of ts kind) two.1) (λ i. absurd (no_identifier c (class_of kind) e i))

passes : (ts : List Token) (m : OwnNames) (c : ℕ) → names_fit ts m ≡ true → c < class_count → PassesClass OwnNames Token own (λ y. can_follow ts y.kind) (names_fit ts) m c
passes ts m zero h l =
    let name = answering m.asks m.operation in
    let two = and_parts (name_fits ts m.last) (name_fits ts m.operation) h in
    let fit = and_parts (class_of_word name == id) (can_follow ts (Word name)) (answering_fits ts m.asks m.operation two.1) in
    passing ts m 0 (Word name) h (eqb-true (class_of_word name) 0 fit.0) fit.1 (λ i. answered m.asks m.operation)
passes ts m (suc c) h l = other_class ts m c h (below class_count has_kind (suc c) all_have_kinds l)

pub own_is_fair : (ts : List Token) → IsFair OwnNames Token own (λ y. can_follow ts y.kind) (names_fit ts) class_count
own_is_fair ts = record { passes = passes ts; acts = acts ts }
