-- What is claimed of every derivation holds where no literal 0 stands directly behind two minus signs: behind one that no minus
-- sign stands before, the literal 0 is read as it is without the sign.
use Rattle.std.proofs.Common.{◌≡◌, ◌∙◌, sym, ap, refl, subst, ℕ, zero, suc, ◌+◌, ◌-◌, ◌≤◌, ◌<◌, ◌==◌, nat_le, Bool, true, false, ◌&&◌, ◌||◌, if◌then◌else◌, pos, negsuc, List, [], ◌∷◌, ◌++◌, length, map, Option, Some, None, option_map, arith}
use Rattle.std.specs.List.{list_all}
use Rattle.std.proofs.lemmas.Bool.{and_from, eqb-true, false≢true}
use Rattle.ll_grammar.specs.Grammar.{Derives, Rules, at, row, spelled}
use Rattle.ll_grammar.specs.Watch.{and_then}
use Rattle.ll_grammar.specs.declared.form.Move.{Move}
use Rattle.ll_grammar.specs.declared.form.Move.TheVariants.{Shift, Expand, Act}
use Rattle.ll_grammar.specs.declared.form.Symbol.{Symbol}
use Rattle.ll_grammar.specs.declared.form.Symbol.TheVariants.{Terminal, Nonterminal, Action}
use Rattle.res_lexer.specs.Spaced.{IsWritable}
use Rattle.res_lexer.specs.declared.token.TokenKind.{TokenKind}
use Rattle.res_lexer.specs.declared.token.TokenKind.TheVariants as kind
use Rattle.res_grammar.specs.Classes.{class_among, class_of, class_of_word, same_word}
use Rattle.res_grammar.specs.ClosingName.{ClosingNames, closing}
use Rattle.res_grammar.specs.Language.{language_rules}
use Rattle.res_grammar.specs.Numbers as n
use Rattle.res_grammar.specs.OwnName.{OwnNames, own}
use Rattle.round_trip.specs.MinusZero.{begins_with_minus_zero, begins_with_zero, has_minus_minus_zero, is_minus}
use Rattle.round_trip.specs.ReadsBack.{token}
use Rattle.round_trip.proofs.Doing.{Doing, did, doing, then, took}
use Rattle.round_trip.proofs.Chains.{AllWays, AllWritable, Claim, HaveNoMinusZero, IsNoMinusZero, IsNoZero}
use Rattle.round_trip.proofs.Derived.{derived_holds}

-- ---- -0 is 0

-- Two tokens that are no identifiers are for the watches as one.
own_once : (o : Option OwnNames) → option_map (λ s. s) (and_then (option_map (λ s. s) (and_then o (own.shift (token (kind.Symbol 10))))) (own.shift (token (kind.Literal (pos 0))))) ≡ option_map (λ s. s) (and_then o (own.shift (token (kind.Literal (pos 0)))))
own_once None = refl
own_once (Some s) = refl

abbrev ClosesOnce : Option ClosingNames → Type 0
ClosesOnce o = option_map (λ s. s) (and_then (option_map (λ s. s) (and_then o (closing.shift (token (kind.Symbol 10))))) (closing.shift (token (kind.Literal (pos 0))))) ≡ option_map (λ s. s) (and_then o (closing.shift (token (kind.Literal (pos 0)))))

closes_once : (l c p d : Option (List ℕ)) → ClosesOnce (Some (record { last = l; component = c; operation = p; closes = d }))
closes_once l c p None = refl
closes_once l c p (Some name) = refl

closing_once : (o : Option ClosingNames) → ClosesOnce o
closing_once None = refl
closing_once (Some s) = closes_once s.last s.component s.operation s.closes

abbrev signed_zero : Doing
signed_zero = (then) (took (kind.Symbol 10)) ((then) (did n.keep_mark) ((then) (took (kind.Literal (pos 0))) (did n.minus_literal_mark)))

abbrev plain_zero : Doing
plain_zero = (then) (took (kind.Literal (pos 0))) (did n.literal_mark)

zero_is : plain_zero ≡ signed_zero
zero_is = λ i. record {
  build = signed_zero.build;
  nest = signed_zero.nest;
  names = λ q. record { own = sym (own_once q.own) i; closing = sym (closing_once q.closing) i };
}

-- ---- moves that do the same

-- Moves from a stack, over tokens, that do this, and take no 0 as the literal behind a minus sign.
record Same (m : Doing) (ss : List Symbol) : Type 0 where
  pub moves : List Move
  pub kinds : List TokenKind
  pub derives : Derives language_rules moves ss (map class_of kinds)
  pub writable : AllWritable kinds
  pub careful : HaveNoMinusZero moves kinds
  pub is : doing moves kinds ≡ m

abbrev same_act : (a b : ℕ) (m : Doing) (ss : List Symbol) → a ≡ b → Same m ss → Same ((then) (did a) m) (Action b ∷ ss)
same_act a b m ss e s = record { moves = Act a ∷ s.moves; kinds = s.kinds; derives = (e, s.derives); writable = s.writable; careful = s.careful; is = ap (λ z. (then) (did a) z) s.is }

abbrev same_expand : (x y w : ℕ) (m : Doing) (right ss : List Symbol) → x ≡ y → at (row language_rules y) w ≡ Some right → Same m (right ++ ss) → Same m (Nonterminal y ∷ ss)
same_expand x y w m right ss e f s =
    let P : Option (List Symbol) → Type 0 = λ o. spelled (λ z. Derives language_rules s.moves z (map class_of s.kinds)) ss o in
    record { moves = Expand x w ∷ s.moves; kinds = s.kinds; derives = (e, subst P (sym f) s.derives); writable = s.writable; careful = s.careful; is = s.is }

abbrev same_shift : (c : ℕ) (k : TokenKind) (m : Doing) (ss : List Symbol) → c ≡ class_of k → IsWritable k → (s : Same m ss) → IsNoMinusZero k s.moves → Same ((then) (took k) m) (Terminal c ∷ ss)
same_shift c k m ss e u s i = record { moves = Shift ∷ s.moves; kinds = k ∷ s.kinds; derives = (e, s.derives); writable = (u, s.writable); careful = (i, s.careful); is = ap (λ z. (then) (took k) z) s.is }

-- ---- what is careful

-- the class of the minus sign
abbrev minus_class : ℕ
minus_class = 11

-- where the first holds, the second does
abbrev only : Bool → Bool → Bool
only true b = b
only false b = true

-- The symbols are careful: the last token was a minus sign or may not have been, the last two, and the two before the last.
abbrev careful : Bool → Bool → Bool → List Symbol → Bool
careful last two before [] = true
careful last two before (Terminal c ∷ ss) = careful (c == minus_class) (last && c == minus_class) two ss
careful last two before (Nonterminal x ∷ ss) = only (x == n.after_minus_part) two && careful false false false ss
careful last two before (Action a ∷ ss) = only (a == n.minus_literal_mark) before && careful last two before ss

abbrev way_careful : ℕ → List Symbol → Bool
way_careful x right = (x == n.unary_part) || careful (x == n.after_minus_part) (x == n.after_minus_part) false right

abbrev rules_careful : ℕ → Rules → Bool
rules_careful x [] = true
rules_careful x (ways ∷ g) = list_all (way_careful x) ways && rules_careful (x + 1) g

language_careful : rules_careful 0 language_rules ≡ true
unfolding language_rules
language_careful = refl

both : (a b : Bool) → (a && b) ≡ true → (a ≡ true) × (b ≡ true)
both true b h = (refl, h)
both false b h = absurd (false≢true h)

only_more : (p a m q r : Bool) → only a m ≡ true → (q ≡ true → r ≡ true) → (only p a && q) ≡ true → (only p m && r) ≡ true
only_more true true true q r i f h = f h
only_more true true false q r i f h = absurd (false≢true i)
only_more true false m q r i f h = absurd (false≢true h)
only_more false a m q r i f h = f h

only_itself : (b : Bool) → only b b ≡ true
only_itself true = refl
only_itself false = refl

only_both : (a m c : Bool) → only a m ≡ true → only (a && c) (m && c) ≡ true
only_both true true c i = only_itself c
only_both true false c i = absurd (false≢true i)
only_both false m c i = refl

-- knowing more of the last tokens
raised : (a b c l t z : Bool) (ss : List Symbol) → only a l ≡ true → only b t ≡ true → only c z ≡ true → careful a b c ss ≡ true → careful l t z ss ≡ true
raised a b c l t z [] i j k h = refl
raised a b c l t z (Terminal x ∷ ss) i j k h = raised (x == minus_class) (a && x == minus_class) b (x == minus_class) (l && x == minus_class) t ss (only_itself (x == minus_class)) (only_both a l (x == minus_class) i) j h
raised a b c l t z (Nonterminal x ∷ ss) i j k h = only_more (x == n.after_minus_part) b t (careful false false false ss) (careful false false false ss) j (λ e. e) h
raised a b c l t z (Action x ∷ ss) i j k h = only_more (x == n.minus_literal_mark) c z (careful a b c ss) (careful l t z ss) k (raised a b c l t z ss i j k) h

append_careful : (a b c l t z : Bool) (xs ys : List Symbol) → only a l ≡ true → only b t ≡ true → only c z ≡ true → careful a b c xs ≡ true → careful false false false ys ≡ true → careful l t z (xs ++ ys) ≡ true
append_careful a b c l t z [] ys i j k h e = raised false false false l t z ys refl refl refl e
append_careful a b c l t z (Terminal x ∷ ss) ys i j k h e = append_careful (x == minus_class) (a && x == minus_class) b (x == minus_class) (l && x == minus_class) t ss ys (only_itself (x == minus_class)) (only_both a l (x == minus_class) i) j h e
append_careful a b c l t z (Nonterminal x ∷ ss) ys i j k h e = only_more (x == n.after_minus_part) b t (careful false false false ss) (careful false false false (ss ++ ys)) j (λ g. append_careful false false false false false false ss ys refl refl refl g e) h
append_careful a b c l t z (Action x ∷ ss) ys i j k h e = only_more (x == n.minus_literal_mark) c z (careful a b c ss) (careful l t z (ss ++ ys)) k (λ g. append_careful a b c l t z ss ys i j k g e) h

some_is : (x y : List Symbol) → Some x ≡ Some y → x ≡ y
some_is x y e = cc

way_is_careful : (x : ℕ) (ways : List (List Symbol)) (w : ℕ) (right : List Symbol) → list_all (way_careful x) ways ≡ true → at ways w ≡ Some right → way_careful x right ≡ true
way_is_careful x [] w right h e = absurd (let f : None ≡ Some right = e in cc)
way_is_careful x (way ∷ ways) zero right h e =
    let P : List Symbol → Type 0 = λ z. way_careful x z ≡ true in
    subst P (some_is way right e) (both (way_careful x way) (list_all (way_careful x) ways) h).0
way_is_careful x (way ∷ ways) (suc w) right h e = way_is_careful x ways w right (both (way_careful x way) (list_all (way_careful x) ways) h).1 e

ways_are_careful : (k : ℕ) (g : Rules) (x y w : ℕ) (right : List Symbol) → k + x ≡ y → rules_careful k g ≡ true → at (row g x) w ≡ Some right → way_careful y right ≡ true
ways_are_careful k [] x y w right i h e = absurd (let f : None ≡ Some right = e in cc)
ways_are_careful k (ways ∷ g) zero y w right i h e =
    let P : ℕ → Type 0 = λ z. way_careful z right ≡ true in
    let b = both (list_all (way_careful k) ways) (rules_careful (k + 1) g) h in
    subst P (let f : k ≡ y = omega (arith, i) in f) (way_is_careful k ways w right b.0 e)
ways_are_careful k (ways ∷ g) (suc x) y w right i h e =
    ways_are_careful (k + 1) g x y w right (omega (arith, i)) (both (list_all (way_careful k) ways) (rules_careful (k + 1) g) h).1 e

-- ---- the kind of a token of the class of minus signs

no_first : (class other : ℕ) (b : Bool) → minus_class < class → (other ≡ minus_class → ⊥) → (if b then class else other) ≡ minus_class → ⊥
no_first class other true l f e = omega (arith, l, e)
no_first class other false l f e = f e

no_word : (class : ℕ) (rs : List (List ℕ)) (name : List ℕ) → minus_class < class → class_among class rs name ≡ minus_class → ⊥
no_word class [] name l e = omega (arith, e)
no_word class (r ∷ rs) name l e = no_first class (class_among (class + 1) rs name) (same_word r name) l (no_word (class + 1) rs name (omega (arith, l))) e

minus_symbol : (k : ℕ) (b : Bool) → (nat_le 1 k && nat_le k 19) ≡ b → (if b then 2 + (k - 1) else 127) ≡ minus_class → (k == 10) ≡ true
minus_symbol k true t e = let f : k ≡ 10 = omega (arith, e) in ap (λ z. z == 10) f
minus_symbol k false t e = absurd (omega (arith, e))

minus_kind : (k : TokenKind) → class_of k ≡ minus_class → is_minus k ≡ true
unfolding class_of_word
minus_kind (kind.Word name) e = absurd (no_word n.first_word n.reserved name (omega arith) e)
minus_kind (kind.Literal i) e = absurd (omega (arith, e))
minus_kind (kind.Symbol k) e = minus_symbol k (nat_le 1 k && nat_le k 19) refl e

-- ---- what may come behind the last tokens

-- The literal 0 does not come next, where the last token was a minus sign.
abbrev Clear : Bool → List TokenKind → Type 0
Clear last ks = last ≡ true → begins_with_zero ks ≡ true → ⊥

neither : (a b : Bool) → (a || b) ≡ false → (a ≡ true → ⊥) × (b ≡ false)
neither true b e = absurd (false≢true (sym e))
neither false b e = (λ i. false≢true i, e)

no_zero : (b last : Bool) (k : TokenKind) (ks : List TokenKind) → only b last ≡ true → Clear last (k ∷ ks) → IsNoZero b k
no_zero true last k ks i f = λ e. f i (let P : TokenKind → Type 0 = λ z. begins_with_zero (z ∷ ks) ≡ true in subst P (sym e) refl)
no_zero false last k ks i f = tt

record Fine (last two : Bool) (ks : List TokenKind) : Type 0 where
  pub clear : Clear two ks
  pub signed : last ≡ true → begins_with_minus_zero ks ≡ true → ⊥
  pub none : has_minus_minus_zero ks ≡ false
  pub follows : only two last ≡ true

only_and : (a c : Bool) → only (a && c) c ≡ true
only_and true c = only_itself c
only_and false c = refl

fine_behind : (last two : Bool) (c : ℕ) (k : TokenKind) (ks : List TokenKind) → c ≡ class_of k → Fine last two (k ∷ ks) → Fine (c == minus_class) (last && c == minus_class) ks
fine_behind last two c k ks e f =
    let is : (c == minus_class) ≡ true → is_minus k ≡ true = λ i. minus_kind k (sym e ∙ eqb-true c minus_class i) in
    let p = neither (is_minus k && begins_with_minus_zero ks) (has_minus_minus_zero ks) f.none in
    record {
      clear = λ i j. let b = both last (c == minus_class) i in f.signed b.0 (and_from (is_minus k) (begins_with_zero ks) (is b.1) j);
      signed = λ i j. p.0 (and_from (is_minus k) (begins_with_minus_zero ks) (is i) j);
      none = p.1;
      follows = only_and last (c == minus_class);
    }

fine_less : (last two : Bool) (ks : List TokenKind) → Fine last two ks → Fine false false ks
fine_less last two ks f = record { clear = λ i. absurd (false≢true i); signed = λ i. absurd (false≢true i); none = f.none; follows = refl }

next_careful : (ms : List Move) (ss : List Symbol) (w : List ℕ) (a b two : Bool) (k : TokenKind) (ks : List TokenKind) → Derives language_rules ms ss w → careful a b two ss ≡ true → Clear two (k ∷ ks) → IsNoMinusZero k ms
next_careful [] ss w a b two k ks d h f = tt
next_careful (Shift ∷ ms) ss w a b two k ks d h f = tt
next_careful (Expand x y ∷ ms) ss w a b two k ks d h f = tt
next_careful (Act x ∷ ms) [] w a b two k ks d h f = absurd d
next_careful (Act x ∷ ms) (Terminal c ∷ ss) w a b two k ks d h f = absurd d
next_careful (Act x ∷ ms) (Nonterminal y ∷ ss) w a b two k ks d h f = absurd d
next_careful (Act x ∷ ms) (Action y ∷ ss) w a b two k ks d h f =
    let P : ℕ → Type 0 = λ z. IsNoZero (z == n.minus_literal_mark) k in
    subst P (sym d.0) (no_zero (y == n.minus_literal_mark) two k ks (both (only (y == n.minus_literal_mark) two) (careful a b two ss) h).0 f)

-- ---- a minus sign that no minus sign stands before

-- what moves of some length derive is done with care
abbrev Go : ℕ → Type 0
Go n = (ms : List Move) (ss : List Symbol) (ks : List TokenKind) (last two before : Bool) → length ms ≤ n → Derives language_rules ms ss (map class_of ks) → careful last two before ss ≡ true → Fine last two ks → AllWritable ks → Same (doing ms ks) ss

-- the first symbol tells the first move
by_token : (c : ℕ) (ss : List Symbol) (R : List Move → List TokenKind → Type 0) → ((ms : List Move) (k : TokenKind) (ks : List TokenKind) → c ≡ class_of k → Derives language_rules ms ss (map class_of ks) → R (Shift ∷ ms) (k ∷ ks)) → (ms : List Move) (ks : List TokenKind) → Derives language_rules ms (Terminal c ∷ ss) (map class_of ks) → R ms ks
by_token c ss R f [] ks d = absurd d
by_token c ss R f (Shift ∷ ms) [] d = absurd d
by_token c ss R f (Shift ∷ ms) (k ∷ ks) d = f ms k ks d.0 d.1
by_token c ss R f (Expand x w ∷ ms) ks d = absurd d
by_token c ss R f (Act a ∷ ms) ks d = absurd d

by_action : (b : ℕ) (ss : List Symbol) (R : List Move → List TokenKind → Type 0) → ((ms : List Move) (ks : List TokenKind) → Derives language_rules ms ss (map class_of ks) → R (Act b ∷ ms) ks) → (ms : List Move) (ks : List TokenKind) → Derives language_rules ms (Action b ∷ ss) (map class_of ks) → R ms ks
by_action b ss R f [] ks d = absurd d
by_action b ss R f (Shift ∷ ms) ks d = absurd d
by_action b ss R f (Expand x w ∷ ms) ks d = absurd d
by_action b ss R f (Act a ∷ ms) ks d = let P : ℕ → Type 0 = λ z. R (Act z ∷ ms) ks in subst P (sym d.0) (f ms ks d.1)

by_part : (y : ℕ) (ss : List Symbol) (R : List Move → List TokenKind → Type 0) → ((x w : ℕ) (ms : List Move) (ks : List TokenKind) → spelled (λ z. Derives language_rules ms z (map class_of ks)) ss (at (row language_rules y) w) → R (Expand x w ∷ ms) ks) → (ms : List Move) (ks : List TokenKind) → Derives language_rules ms (Nonterminal y ∷ ss) (map class_of ks) → R ms ks
by_part y ss R f [] ks d = absurd d
by_part y ss R f (Shift ∷ ms) ks d = absurd d
by_part y ss R f (Expand x w ∷ ms) ks d = f x w ms ks d.1
by_part y ss R f (Act a ∷ ms) ks d = absurd d

zero_kind : (k : TokenKind) → begins_with_zero (k ∷ []) ≡ true → k ≡ kind.Literal (pos 0)
zero_kind (kind.Word name) e = absurd (false≢true e)
zero_kind (kind.Literal (pos i)) e = ap (λ z. kind.Literal (pos z)) (eqb-true i 0 e)
zero_kind (kind.Literal (negsuc i)) e = absurd (false≢true e)
zero_kind (kind.Symbol i) e = absurd (false≢true e)

minus_is : (k : TokenKind) → is_minus k ≡ true → k ≡ kind.Symbol 10
minus_is (kind.Word name) e = absurd (false≢true e)
minus_is (kind.Literal i) e = absurd (false≢true e)
minus_is (kind.Symbol i) e = ap (λ z. kind.Symbol z) (eqb-true i 10 e)

-- a minus sign, and what comes behind it
abbrev sign_of : TokenKind → Doing → Doing
sign_of k m = (then) (took k) ((then) (did n.keep_mark) m)

abbrev literal_of : TokenKind → Doing → Doing
literal_of j m = (then) (took j) ((then) (did n.minus_literal_mark) m)

behind_sign : (v : ℕ) (right ss : List Symbol) (k : TokenKind) (m : Doing) → 11 ≡ class_of k → IsWritable k → at (row language_rules n.after_minus_part) v ≡ Some right → Same m (right ++ ss) → Same (sign_of k m) (Nonterminal n.unary_part ∷ ss)
unfolding language_rules
behind_sign v right ss k m e u f s =
    same_expand n.unary_part n.unary_part 0 (sign_of k m) (Terminal 11 ∷ Action n.keep_mark ∷ Nonterminal n.after_minus_part ∷ []) ss refl refl
    (same_shift 11 k ((then) (did n.keep_mark) m) (Action n.keep_mark ∷ Nonterminal n.after_minus_part ∷ ss) e u
    (same_act n.keep_mark n.keep_mark m (Nonterminal n.after_minus_part ∷ ss) refl
    (same_expand n.after_minus_part n.after_minus_part v m right ss refl f s)) tt)

zero_same : (m : Doing) (ss : List Symbol) → Same m ss → Same (sign_of (kind.Symbol 10) (literal_of (kind.Literal (pos 0)) m)) (Nonterminal n.unary_part ∷ ss)
unfolding language_rules
zero_same m ss s = record {
  moves = Expand n.unary_part 1 ∷ Shift ∷ Act n.literal_mark ∷ s.moves;
  kinds = kind.Literal (pos 0) ∷ s.kinds;
  derives = (refl, (refl, (refl, s.derives)));
  writable = (omega arith, s.writable);
  careful = (tt, s.careful);
  is = ap (λ z. (then) plain_zero z) s.is ∙ ap (λ z. (then) z m) zero_is;
}

signed_literal : (b : Bool) (k j : TokenKind) (m : Doing) (ss : List Symbol) → begins_with_zero (j ∷ []) ≡ b → 11 ≡ class_of k → 1 ≡ class_of j → IsWritable k → IsWritable j → Same m ss → Same (sign_of k (literal_of j m)) (Nonterminal n.unary_part ∷ ss)
unfolding language_rules
signed_literal true k j m ss z e c u v s =
    let P : TokenKind → Type 0 = λ x. Same (sign_of x (literal_of j m)) (Nonterminal n.unary_part ∷ ss) in
    let Q : TokenKind → Type 0 = λ x. Same (sign_of (kind.Symbol 10) (literal_of x m)) (Nonterminal n.unary_part ∷ ss) in
    subst P (sym (minus_is k (minus_kind k (sym e)))) (subst Q (sym (zero_kind j z)) (zero_same m ss s))
signed_literal false k j m ss z e c u v s =
    behind_sign 1 (Terminal 1 ∷ Action n.minus_literal_mark ∷ []) ss k (literal_of j m) e u refl
    (same_shift 1 j ((then) (did n.minus_literal_mark) m) (Action n.minus_literal_mark ∷ ss) c v
    (same_act n.minus_literal_mark n.minus_literal_mark m ss refl s) (λ q. false≢true (sym z ∙ ap (λ x. begins_with_zero (x ∷ [])) q)))

-- what is to be shown of moves that go on behind so many, where this has been done before
abbrev Goal : ℕ → ℕ → Bool → (Doing → Doing) → List Symbol → List Move → List TokenKind → Type 0
Goal most done last before ss ms ks = length ms + done ≤ most → Fine last false ks → AllWritable ks → Same (before (doing ms ks)) (Nonterminal n.unary_part ∷ ss)

literal_behind : (most : ℕ) → Go most → (ss : List Symbol) → careful false false false ss ≡ true → (k : TokenKind) → 11 ≡ class_of k → IsWritable k → (ms : List Move) (ks : List TokenKind) → Derives language_rules ms (Terminal 1 ∷ Action n.minus_literal_mark ∷ ss) (map class_of ks) → Goal most 3 true (sign_of k) ss ms ks
literal_behind most go ss h k e u =
    by_token 1 (Action n.minus_literal_mark ∷ ss) (Goal most 3 true (sign_of k) ss)
    (λ ms j ks c d l f w.
    by_action n.minus_literal_mark ss (Goal most 4 false (λ m. sign_of k ((then) (took j) m)) ss)
    (λ ms ks d l f x. signed_literal (begins_with_zero (j ∷ [])) k j (doing ms ks) ss refl e c u w.0 (go ms ss ks false false false (omega (arith, l)) d h f x))
    ms ks d (omega (arith, l)) (fine_less (1 == minus_class) (true && 1 == minus_class) ks (fine_behind true false 1 j ks c f)) w.1)

after_minus : (most : ℕ) → Go most → (ss : List Symbol) → careful false false false ss ≡ true → (k : TokenKind) → 11 ≡ class_of k → IsWritable k → (v : ℕ) (ms : List Move) (ks : List TokenKind) → spelled (λ z. Derives language_rules ms z (map class_of ks)) ss (at (row language_rules n.after_minus_part) v) → Goal most 3 true (sign_of k) ss ms ks
unfolding language_rules
after_minus most go ss h k e u zero ms ks d l f w =
    let right = Action n.enter_mark ∷ Terminal 11 ∷ Action n.keep_mark ∷ Nonterminal n.after_minus_part ∷ Action n.minus_mark ∷ Action n.leave_mark ∷ [] in
    behind_sign 0 right ss k (doing ms ks) e u refl (go ms (right ++ ss) ks true false false (omega (arith, l)) d h f w)
after_minus most go ss h k e u (suc zero) ms ks d l f w = literal_behind most go ss h k e u ms ks d l f w
after_minus most go ss h k e u (suc (suc zero)) ms ks d l f w =
    let right = Action n.enter_mark ∷ Nonterminal n.operand_part ∷ Action n.minus_mark ∷ Action n.leave_mark ∷ [] in
    behind_sign 2 right ss k (doing ms ks) e u refl (go ms (right ++ ss) ks false false false (omega (arith, l)) d h (fine_less true false ks f) w)
after_minus most go ss h k e u (suc (suc (suc v))) ms ks d l f w = absurd d

signed : (most : ℕ) → Go most → (ss : List Symbol) → careful false false false ss ≡ true → (ms : List Move) (ks : List TokenKind) → Derives language_rules ms (Terminal 11 ∷ Action n.keep_mark ∷ Nonterminal n.after_minus_part ∷ ss) (map class_of ks) → Goal most 0 false (λ m. m) ss ms ks
signed most go ss h =
    by_token 11 (Action n.keep_mark ∷ Nonterminal n.after_minus_part ∷ ss) (Goal most 0 false (λ m. m) ss)
    (λ ms k ks e d l f w.
    let u : IsWritable k = w.0 in
    by_action n.keep_mark (Nonterminal n.after_minus_part ∷ ss) (Goal most 1 true ((then) (took k)) ss)
    (λ ms ks d l f w.
    by_part n.after_minus_part ss (Goal most 2 true (sign_of k) ss)
    (λ x v ms ks d l f y. after_minus most go ss h k e u v ms ks d (omega (arith, l)) f y)
    ms ks d (omega (arith, l)) f w)
    ms ks d (omega (arith, l)) (fine_behind false false 11 k ks e f) w.1)

-- the ways of what a minus sign may begin
unary : (most : ℕ) → Go most → (ss : List Symbol) → careful false false false ss ≡ true → (v : ℕ) (ms : List Move) (ks : List TokenKind) → spelled (λ z. Derives language_rules ms z (map class_of ks)) ss (at (row language_rules n.unary_part) v) → Goal most 0 false (λ m. m) ss ms ks
unfolding language_rules
unary most go ss h zero ms ks d l f w = signed most go ss h ms ks d l f w
unary most go ss h (suc zero) ms ks d l f w =
    let right = Terminal 1 ∷ Action n.literal_mark ∷ [] in
    same_expand n.unary_part n.unary_part 1 (doing ms ks) right ss refl refl (go ms (right ++ ss) ks false false false (omega (arith, l)) d h f w)
unary most go ss h (suc (suc zero)) ms ks d l f w =
    let right = Nonterminal n.operand_part ∷ [] in
    same_expand n.unary_part n.unary_part 2 (doing ms ks) right ss refl refl (go ms (right ++ ss) ks false false false (omega (arith, l)) d h f w)
unary most go ss h (suc (suc (suc v))) ms ks d l f w = absurd d

-- ---- all derivations

only_trans : (a b c : Bool) → only a b ≡ true → only b c ≡ true → only a c ≡ true
only_trans true true c i j = j
only_trans true false c i j = absurd (false≢true i)
only_trans false b c i j = refl

opened : (x y w : ℕ) (ms : List Move) (ks : List TokenKind) (last two before : Bool) (ss : List Symbol) (o : Option (List Symbol)) → x ≡ y → at (row language_rules y) w ≡ o → ((right : List Symbol) → o ≡ Some right → way_careful y right ≡ true) → (y == n.unary_part) ≡ false → only (y == n.after_minus_part) two ≡ true → only two last ≡ true → careful false false false ss ≡ true →
    ((zs : List Symbol) → Derives language_rules ms zs (map class_of ks) → careful last two before zs ≡ true → Same (doing ms ks) zs) →
    spelled (λ z. Derives language_rules ms z (map class_of ks)) ss o → Same (doing ms ks) (Nonterminal y ∷ ss)
opened x y w ms ks last two before ss None e is f t i j h go d = absurd d
opened x y w ms ks last two before ss (Some right) e is f t i j h go d =
    let b : Bool = y == n.after_minus_part in
    let P : Bool → Type 0 = λ z. (z || careful b b false right) ≡ true in
    same_expand x y w (doing ms ks) right ss e is (go (right ++ ss) d (append_careful b b false last two before right ss (only_trans b two last i j) i refl (subst P t (f right refl)) h))

expanded : (most : ℕ) → Go most → (b : Bool) (x y w : ℕ) (ms : List Move) (ss : List Symbol) (ks : List TokenKind) (last two before : Bool) → (y == n.unary_part) ≡ b → length ms ≤ most → Derives language_rules (Expand x w ∷ ms) (Nonterminal y ∷ ss) (map class_of ks) → careful last two before (Nonterminal y ∷ ss) ≡ true → Fine last two ks → AllWritable ks → Same (doing ms ks) (Nonterminal y ∷ ss)
expanded most go true x y w ms ss ks last two before e l d h f v =
    let P : ℕ → Type 0 = λ z. spelled (λ s. Derives language_rules ms s (map class_of ks)) ss (at (row language_rules z) w) in
    let Q : ℕ → Type 0 = λ z. Same (doing ms ks) (Nonterminal z ∷ ss) in
    let i : y ≡ n.unary_part = eqb-true y n.unary_part e in
    subst Q (sym i) (unary most go ss (both (only (y == n.after_minus_part) two) (careful false false false ss) h).1 w ms ks (subst P i d.1) (omega (arith, l)) (fine_less last two ks f) v)
expanded most go false x y w ms ss ks last two before e l d h f v =
    let b = both (only (y == n.after_minus_part) two) (careful false false false ss) h in
    opened x y w ms ks last two before ss (at (row language_rules y) w) d.0 refl (λ right i. ways_are_careful 0 language_rules y y w right (omega arith) language_careful i) e b.0 f.follows b.1
    (λ zs c i. go ms zs ks last two before l c i f v) d.1

done_with_care : (most : ℕ) → Go most
done_with_care most [] ss ks last two before l d h f w = record { moves = []; kinds = ks; derives = d; writable = w; careful = tt; is = refl }
done_with_care zero (m ∷ ms) ss ks last two before l d h f w = absurd (omega (arith, l))
done_with_care (suc most) (Shift ∷ ms) [] ks last two before l d h f w = absurd d
done_with_care (suc most) (Shift ∷ ms) (Nonterminal x ∷ ss) ks last two before l d h f w = absurd d
done_with_care (suc most) (Shift ∷ ms) (Action a ∷ ss) ks last two before l d h f w = absurd d
done_with_care (suc most) (Shift ∷ ms) (Terminal c ∷ ss) [] last two before l d h f w = absurd d
done_with_care (suc most) (Shift ∷ ms) (Terminal c ∷ ss) (k ∷ ks) last two before l d h f w =
    let s = done_with_care most ms ss ks (c == minus_class) (last && c == minus_class) two (omega (arith, l)) d.1 h (fine_behind last two c k ks d.0 f) w.1 in
    same_shift c k (doing ms ks) ss d.0 w.0 s (next_careful s.moves ss (map class_of s.kinds) (c == minus_class) (last && c == minus_class) two k ks s.derives h f.clear)
done_with_care (suc most) (Expand x w ∷ ms) [] ks last two before l d h f v = absurd d
done_with_care (suc most) (Expand x w ∷ ms) (Terminal c ∷ ss) ks last two before l d h f v = absurd d
done_with_care (suc most) (Expand x w ∷ ms) (Action a ∷ ss) ks last two before l d h f v = absurd d
done_with_care (suc most) (Expand x w ∷ ms) (Nonterminal y ∷ ss) ks last two before l d h f v =
    expanded most (done_with_care most) (y == n.unary_part) x y w ms ss ks last two before refl (omega (arith, l)) d h f v
done_with_care (suc most) (Act a ∷ ms) [] ks last two before l d h f w = absurd d
done_with_care (suc most) (Act a ∷ ms) (Terminal c ∷ ss) ks last two before l d h f w = absurd d
done_with_care (suc most) (Act a ∷ ms) (Nonterminal x ∷ ss) ks last two before l d h f w = absurd d
done_with_care (suc most) (Act a ∷ ms) (Action b ∷ ss) ks last two before l d h f w =
    same_act a b (doing ms ks) ss d.0 (done_with_care most ms ss ks last two before (omega (arith, l)) d.1 (both (only (b == n.minus_literal_mark) before) (careful last two before ss) h).1 f w)

-- What is claimed of a part holds of what any derivation from it does, where it holds of all ways, and no literal 0 stands
-- directly behind two minus signs.
pub signs_hold : (Q : Claim) → AllWays Q 0 language_rules → (x : ℕ) → (x == n.after_minus_part) ≡ false → (ms : List Move) (ks : List TokenKind) → Derives language_rules ms (Nonterminal x ∷ []) (map class_of ks) → AllWritable ks → has_minus_minus_zero ks ≡ false → Q x (doing ms ks)
signs_hold Q all x i ms ks d w e =
    let P : Bool → Type 0 = λ z. (only z false && true) ≡ true in
    let f : Fine false false ks = record { clear = λ j. absurd (false≢true j); signed = λ j. absurd (false≢true j); none = e; follows = refl } in
    let s = done_with_care (length ms) ms (Nonterminal x ∷ []) ks false false false (omega arith) d (subst P (sym i) refl) f w in
    subst (λ (m : Doing). Q x m) s.is (derived_holds Q language_rules all x s.moves s.kinds s.derives s.writable s.careful)

-- ---- tokens one behind the other

zero_on : (ks js : List TokenKind) → begins_with_zero ks ≡ true → begins_with_zero (ks ++ js) ≡ true
zero_on [] js e = absurd (false≢true e)
zero_on (kind.Word name ∷ ks) js e = e
zero_on (kind.Literal (pos i) ∷ ks) js e = e
zero_on (kind.Literal (negsuc i) ∷ ks) js e = e
zero_on (kind.Symbol i ∷ ks) js e = e

minus_zero_on : (ks js : List TokenKind) → begins_with_minus_zero ks ≡ true → begins_with_minus_zero (ks ++ js) ≡ true
minus_zero_on [] js e = absurd (false≢true e)
minus_zero_on (k ∷ ks) js e =
    let b = both (is_minus k) (begins_with_zero ks) e in
    and_from (is_minus k) (begins_with_zero (ks ++ js)) b.0 (zero_on ks js b.1)

less_so : (m b c : Bool) → (b ≡ true → c ≡ true) → ((m && c) ≡ true → ⊥) → (m && b) ≡ false
less_so true true c f g = absurd (g (f refl))
less_so true false c f g = refl
less_so false b c f g = refl

pub no_zero_on : (ks js : List TokenKind) → has_minus_minus_zero (ks ++ js) ≡ false → (has_minus_minus_zero ks ≡ false) × (has_minus_minus_zero js ≡ false)
no_zero_on [] js e = (refl, e)
no_zero_on (k ∷ ks) js e =
    let p = neither (is_minus k && begins_with_minus_zero (ks ++ js)) (has_minus_minus_zero (ks ++ js)) e in
    let r = no_zero_on ks js p.1 in
    (ap (λ b. b || has_minus_minus_zero ks) (less_so (is_minus k) (begins_with_minus_zero ks) (begins_with_minus_zero (ks ++ js)) (minus_zero_on ks js) p.0) ∙ r.0, r.1)
