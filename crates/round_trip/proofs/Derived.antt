-- Where a claim holds of every way of every part, it holds of what every derivation does.
use Rattle.std.proofs.Common.{◌≡◌, ◌∙◌, sym, ap, refl, subst, ℕ, zero, suc, ◌+◌, ◌-◌, ◌≤◌, ◌<◌, Bool, true, false, ◌==◌, ◌&&◌, nat_le, pos, negsuc, List, [], ◌∷◌, ◌++◌, if◌then◌else◌, map, length, max, Option, Some, None, arith}
use Rattle.std.proofs.lemmas.Bool.{and_from, le-leb, le-ltb, lt-ltb, ne_eqb, true≢false}
use Rattle.std.specs.Cmp.Lexicographic.{bytes_decides}
use Rattle.ll_grammar.specs.Grammar.{Rules, Derives, at, row, spelled}
use Rattle.ll_grammar.specs.declared.form.Move.{Move}
use Rattle.ll_grammar.specs.declared.form.Move.TheVariants.{Shift, Expand, Act}
use Rattle.ll_grammar.specs.declared.form.Symbol.{Symbol}
use Rattle.ll_grammar.specs.declared.form.Symbol.TheVariants.{Terminal, Nonterminal, Action}
use Rattle.res_lexer.specs.Spaced.{IsWritable}
use Rattle.res_lexer.specs.declared.token.TokenKind.{TokenKind}
use Rattle.res_lexer.specs.declared.token.TokenKind.TheVariants as kind
use Rattle.res_grammar.specs.Classes.{class_of, class_of_word, class_among, same_word}
use Rattle.res_grammar.specs.Numbers as n
use Rattle.res_grammar.specs.declared.nesting.Nesting.{Nesting}
use Rattle.expr_parser.specs.Built.{Stage}
use Rattle.module_parser.specs.declared.state.State.{State}
use Rattle.round_trip.proofs.Doing.{Doing, Names, nothing_done, then, took, did, doing}
use Rattle.round_trip.proofs.Steady.{Steady, did_steady, nothing_steady, then_steady, took_steady}
use Rattle.round_trip.proofs.Chains.{AllWays, AllWritable, Chain, Claim, ForClass, ForLiterals, ForNames, HaveNoMinusZero, IsNoMinusZero, IsNoZero, Ways, took_as, took_before, kind_by, kind_of_class}

-- ---- the tokens of a class

-- a reserved word stands at its class among them
Found : ℕ → List (List ℕ) → List ℕ → ℕ → Type 1
Found class rs name c = (R : Type 0) → (c ≡ n.id → R) → ((j : ℕ) → c ≡ class + j → row rs j ≡ name → R) → R

first_found : (class : ℕ) (r : List ℕ) (rs : List (List ℕ)) (name : List ℕ) (c : ℕ) (b : Bool) → same_word r name ≡ b → Found (class + 1) rs name c → Found class (r ∷ rs) name (if b then class else c)
unfolding Found
first_found class r rs name c true e h R f g = g 0 (omega arith) ((bytes_decides r name).0 e)
first_found class r rs name c false e h R f g = h R f (λ j i k. g (suc j) (let l : c ≡ class + 1 + j = i in omega (arith, l)) k)

found : (class : ℕ) (rs : List (List ℕ)) (name : List ℕ) → Found class rs name (class_among class rs name)
unfolding Found
found class [] name = λ R f g. f refl
found class (r ∷ rs) name = first_found class r rs name (class_among (class + 1) rs name) (same_word r name) refl (found (class + 1) rs name)

one_token : (c : ℕ) (P : TokenKind → Type 0) → (c ≡ n.id → ⊥) → (c ≡ n.literal → ⊥) → ForClass c P → P (kind_of_class c)
one_token c P e f h =
    let A : Bool → Type 0 = λ z. ForNames z c P in
    let B : Bool → Type 0 = λ z. ForLiterals z c P in
    subst B (ne_eqb c n.literal f) (subst A (ne_eqb c n.id e) h)

reserved_token : (c j : ℕ) (P : TokenKind → Type 0) (name : List ℕ) → c ≡ 21 + j → row n.reserved j ≡ name → ForClass c P → P (kind.Word name)
reserved_token c j P name e f h =
    let i : c - 21 ≡ j = omega (arith, e) in
    let p : kind_of_class c ≡ kind.Word name = ap (λ z. kind_by z c) (le-ltb c 21 (omega (arith, e))) ∙ ap (λ z. kind.Word (row n.reserved z)) i ∙ ap (λ z. kind.Word z) f in
    subst P p (one_token c P (λ z. omega (arith, e, z)) (λ z. omega (arith, e, z)) h)

name_token : (c : ℕ) (P : TokenKind → Type 0) (name : List ℕ) → ForClass c P → c ≡ class_of_word name → IsWritable (kind.Word name) → P (kind.Word name)
unfolding Found class_of_word
name_token c P name h e w =
    let C : ℕ → Type 0 = λ z. ForClass z P in
    found n.first_word n.reserved name (P (kind.Word name)) (λ z. (subst C (e ∙ z) h) name z w) (λ j i k. reserved_token c j P name (e ∙ i) k h)

symbol_token : (c k : ℕ) (P : TokenKind → Type 0) (b : Bool) → (nat_le 1 k && nat_le k 19) ≡ b → 0 < k → k ≤ 19 → ForClass c P → c ≡ (if b then 2 + (k - 1) else 127) → P (kind.Symbol k)
symbol_token c k P true t l u h e =
    let i : c - 2 + 1 ≡ k = omega (arith, e, l) in
    let p : kind_of_class c ≡ kind.Symbol k = ap (λ z. kind_by z c) (lt-ltb c 21 (omega (arith, e, u))) ∙ ap (λ z. kind.Symbol z) i in
    subst P p (one_token c P (λ z. omega (arith, e, z)) (λ z. omega (arith, e, z)) h)
symbol_token c k P false t l u h e = absurd (true≢false (sym (and_from (nat_le 1 k) (nat_le k 19) (le-leb 1 k (omega (arith, l))) (le-leb k 19 u)) ∙ t))

class_holds : (c : ℕ) (P : TokenKind → Type 0) → ForClass c P → (k : TokenKind) → c ≡ class_of k → IsWritable k → P k
class_holds c P h (kind.Word name) e w = name_token c P name h e w
class_holds c P h (kind.Literal (pos k)) e w =
    let C : ℕ → Type 0 = λ z. ForClass z P in
    (subst C e h) k w
class_holds c P h (kind.Literal (negsuc k)) e w = absurd w
class_holds c P h (kind.Symbol k) e w = symbol_token c k P (nat_le 1 k && nat_le k 19) refl w.0 w.1 h e

-- ---- the ways of a part

some_is : (x y : List Symbol) → Some x ≡ Some y → x ≡ y
some_is x y e = cc

way_among : (Q : Claim) (x : ℕ) (ways : List (List Symbol)) (w : ℕ) (right : List Symbol) → Ways Q x ways → at ways w ≡ Some right → Chain Q right (Q x) nothing_done
way_among Q x [] w right h e = absurd (let f : None ≡ Some right = e in cc)
way_among Q x (way ∷ ways) zero right h e =
    let P : List Symbol → Type 0 = λ z. Chain Q z (Q x) nothing_done in
    subst P (let f : way ≡ right = some_is way right e in f) h.0
way_among Q x (way ∷ ways) (suc w) right h e = way_among Q x ways w right h.1 e

way_of : (Q : Claim) (k : ℕ) (g : Rules) (x w y : ℕ) (right : List Symbol) → k + x ≡ y → AllWays Q k g → at (row g x) w ≡ Some right → Chain Q right (Q y) nothing_done
way_of Q k [] x w y right i h e = absurd (let f : None ≡ Some right = e in cc)
way_of Q k (ways ∷ g) zero w y right i h e =
    let P : ℕ → Type 0 = λ z. Chain Q right (Q z) nothing_done in
    subst P (let f : k ≡ y = omega (arith, i) in f) (way_among Q k ways w right h.0 e)
way_of Q k (ways ∷ g) (suc x) w y right i h e = way_of Q (k + 1) g x w y right (omega (arith, i)) h.1 e

-- ---- the literal behind a minus sign

as_builds : (b : Bool) (k : TokenKind) (s : Stage State) → (took k).build s ≡ (took_as b k).build s
as_builds false k s = refl
as_builds true (kind.Word name) s = refl
as_builds true (kind.Literal (pos zero)) s = refl
as_builds true (kind.Literal (pos (suc j))) s = refl
as_builds true (kind.Literal (negsuc j)) s = refl
as_builds true (kind.Symbol j) s = refl

as_names : (b : Bool) (k : TokenKind) (q : Names) → (took k).names q ≡ (took_as b k).names q
as_names false k q = refl
as_names true (kind.Word name) q = refl
as_names true (kind.Literal (pos zero)) q = refl
as_names true (kind.Literal (pos (suc j))) q = refl
as_names true (kind.Literal (negsuc j)) q = refl
as_names true (kind.Symbol j) q = refl

as_nests : (b : Bool) (k : TokenKind) → IsNoZero b k → (ν : Nesting) → ν ≡ (took_as b k).nest ν
as_nests false k i ν = refl
as_nests true (kind.Word name) i ν = refl
as_nests true (kind.Literal (pos zero)) i ν = absurd (i refl)
as_nests true (kind.Literal (pos (suc j))) i ν = refl
as_nests true (kind.Literal (negsuc j)) i ν = refl
as_nests true (kind.Symbol j) i ν = refl

as_steady : (b : Bool) (k : TokenKind) → Steady (took_as b k)
as_steady false k = took_steady k
as_steady true (kind.Word name) = took_steady (kind.Word name)
as_steady true (kind.Literal (pos zero)) =
    let h = took_steady (kind.Literal (pos 0)) in
    record { grows = λ ν. let f : ν.deepest ≤ max ν.deepest 201 = omega arith in f; own = h.own; closing = h.closing }
as_steady true (kind.Literal (pos (suc j))) = took_steady (kind.Literal (pos (suc j)))
as_steady true (kind.Literal (negsuc j)) = took_steady (kind.Literal (negsuc j))
as_steady true (kind.Symbol j) = took_steady (kind.Symbol j)

before_builds : (ss : List Symbol) (k : TokenKind) (s : Stage State) → (took k).build s ≡ (took_before ss k).build s
before_builds [] k s = refl
before_builds (Terminal c ∷ ss) k s = refl
before_builds (Nonterminal x ∷ ss) k s = refl
before_builds (Action a ∷ ss) k s = as_builds (a == n.minus_literal_mark) k s

before_names : (ss : List Symbol) (k : TokenKind) (q : Names) → (took k).names q ≡ (took_before ss k).names q
before_names [] k q = refl
before_names (Terminal c ∷ ss) k q = refl
before_names (Nonterminal x ∷ ss) k q = refl
before_names (Action a ∷ ss) k q = as_names (a == n.minus_literal_mark) k q

before_nests : (g : Rules) (ms : List Move) (ss rest : List Symbol) (k : TokenKind) (w : List ℕ) → Derives g ms (ss ++ rest) w → IsNoMinusZero k ms → (ν : Nesting) → ν ≡ (took_before ss k).nest ν
before_nests g ms [] rest k w d i ν = refl
before_nests g ms (Terminal c ∷ ss) rest k w d i ν = refl
before_nests g ms (Nonterminal c ∷ ss) rest k w d i ν = refl
before_nests g [] (Action a ∷ ss) rest k w d i ν = absurd d
before_nests g (Shift ∷ ms) (Action a ∷ ss) rest k w d i ν = absurd d
before_nests g (Expand x y ∷ ms) (Action a ∷ ss) rest k w d i ν = absurd d
before_nests g (Act b ∷ ms) (Action a ∷ ss) rest k w d i ν =
    let R : ℕ → Type 0 = λ z. IsNoZero (z == n.minus_literal_mark) k in
    as_nests (a == n.minus_literal_mark) k (subst R d.0 i) ν

before_steady : (ss : List Symbol) (k : TokenKind) → Steady (took_before ss k)
before_steady [] k = took_steady k
before_steady (Terminal c ∷ ss) k = took_steady k
before_steady (Nonterminal x ∷ ss) k = took_steady k
before_steady (Action a ∷ ss) k = as_steady (a == n.minus_literal_mark) k

-- ---- derivations

-- The moves do this, and then what others do; to the depths where no 0 is the literal behind a minus sign.
record Does (ms : List Move) (ks : List TokenKind) (done : Doing) (left : List Move) (kinds : List TokenKind) : Type 0 where
  pub builds : (s : Stage State) → (doing ms ks).build s ≡ (doing left kinds).build (done.build s)
  pub names : (q : Names) → (doing ms ks).names q ≡ (doing left kinds).names (done.names q)
  pub nests : HaveNoMinusZero ms ks → (ν : Nesting) → (doing ms ks).nest ν ≡ (doing left kinds).nest (done.nest ν)
  pub careful : HaveNoMinusZero ms ks → HaveNoMinusZero left kinds

does_nothing : (ms : List Move) (ks : List TokenKind) → Does ms ks nothing_done ms ks
does_nothing ms ks = record { builds = λ s. refl; names = λ q. refl; nests = λ z ν. refl; careful = λ z. z }

does_both : (ms left more : List Move) (ks kinds js : List TokenKind) (one other : Doing) → Does ms ks one left kinds → Does left kinds other more js → Does ms ks ((then) one other) more js
does_both ms left more ks kinds js one other x y = record {
  builds = λ s. x.builds s ∙ y.builds (one.build s);
  names = λ q. x.names q ∙ y.names (one.names q);
  nests = λ z ν. x.nests z ν ∙ y.nests (x.careful z) (one.nest ν);
  careful = λ z. y.careful (x.careful z);
}

does_take : (g : Rules) (ms : List Move) (ks : List TokenKind) (k : TokenKind) (ss rest : List Symbol) (w : List ℕ) → Derives g ms (ss ++ rest) w → Does (Shift ∷ ms) (k ∷ ks) (took_before ss k) ms ks
does_take g ms ks k ss rest w d = record {
  builds = λ s. ap (doing ms ks).build (before_builds ss k s);
  names = λ q. ap (doing ms ks).names (before_names ss k q);
  nests = λ z ν. ap (doing ms ks).nest (before_nests g ms ss rest k w d z.0 ν);
  careful = λ z. z.1;
}

does_act : (ms : List Move) (ks : List TokenKind) (a : ℕ) → Does (Act a ∷ ms) ks (did a) ms ks
does_act ms ks a = record { builds = λ s. refl; names = λ q. refl; nests = λ z ν. refl; careful = λ z. z }

does_expand : (ms left : List Move) (ks kinds : List TokenKind) (x k : ℕ) (done : Doing) → Does ms ks done left kinds → Does (Expand x k ∷ ms) ks done left kinds
does_expand ms left ks kinds x k done h = record { builds = h.builds; names = h.names; nests = h.nests; careful = h.careful }

-- The first symbols of a stack have been done, behind what was done before.
record Split (g : Rules) (P : Doing → Type 0) (before : Doing) (rest : List Symbol) (ms : List Move) (ks : List TokenKind) : Type 0 where
  pub done : Doing
  pub steady : Steady done
  pub left : List Move
  pub kinds : List TokenKind
  pub holds : P ((then) before done)
  pub derives : Derives g left rest (map class_of kinds)
  pub writable : AllWritable kinds
  pub does : Does ms ks done left kinds
  pub fewer : length left ≤ length ms

spelled_split : (Q : Claim) (g : Rules) (P : Doing → Type 0) (m : Doing) (ss rest : List Symbol) (ms : List Move) (ks : List TokenKind) (y : ℕ) (o : Option (List Symbol)) →
    ((right : List Symbol) → o ≡ Some right → Chain Q right (Q y) nothing_done) →
    ((right : List Symbol) → Chain Q right (Q y) nothing_done → Derives g ms (right ++ (ss ++ rest)) (map class_of ks) → Split g (Q y) nothing_done (ss ++ rest) ms ks) →
    (Split g (Q y) nothing_done (ss ++ rest) ms ks → Split g P m rest ms ks) →
    spelled (λ z. Derives g ms z (map class_of ks)) (ss ++ rest) o → Split g P m rest ms ks
spelled_split Q g P m ss rest ms ks y None f s t d = absurd d
spelled_split Q g P m ss rest ms ks y (Some right) f s t d = t (s right (f right refl) d)

split : (Q : Claim) (g : Rules) → AllWays Q 0 g → (n : ℕ) (ms : List Move) (ks : List TokenKind) (ss rest : List Symbol) (P : Doing → Type 0) (m : Doing) → length ms ≤ n → Chain Q ss P m → Derives g ms (ss ++ rest) (map class_of ks) → AllWritable ks → Split g P m rest ms ks
split Q g all n ms ks [] rest P m l h d w = record { done = nothing_done; steady = nothing_steady; left = ms; kinds = ks; holds = h; derives = d; writable = w; does = does_nothing ms ks; fewer = omega arith }
split Q g all n [] ks (Terminal c ∷ ss) rest P m l h d w = absurd d
split Q g all n [] ks (Action a ∷ ss) rest P m l h d w = absurd d
split Q g all n [] ks (Nonterminal x ∷ ss) rest P m l h d w = absurd d
split Q g all zero (s ∷ ms) ks (t ∷ ss) rest P m l h d w = absurd (omega (arith, l))
split Q g all (suc n) (Shift ∷ ms) ks (Action a ∷ ss) rest P m l h d w = absurd d
split Q g all (suc n) (Shift ∷ ms) ks (Nonterminal x ∷ ss) rest P m l h d w = absurd d
split Q g all (suc n) (Shift ∷ ms) [] (Terminal c ∷ ss) rest P m l h d w = absurd d
split Q g all (suc n) (Shift ∷ ms) (k ∷ ks) (Terminal c ∷ ss) rest P m l h d w =
    let t = took_before ss k in
    let s = split Q g all n ms ks ss rest P ((then) m t) (omega (arith, l)) (class_holds c (λ j. Chain Q ss P ((then) m (took_before ss j))) h k d.0 w.0) d.1 w.1 in
    record { done = (then) t s.done; steady = then_steady t s.done (before_steady ss k) s.steady; left = s.left; kinds = s.kinds; holds = s.holds; derives = s.derives; writable = s.writable; does = does_both (Shift ∷ ms) ms s.left (k ∷ ks) ks s.kinds t s.done (does_take g ms ks k ss rest (map class_of ks) d.1) s.does; fewer = let f : length s.left ≤ length ms = s.fewer in omega (arith, f) }
split Q g all (suc n) (Act b ∷ ms) ks (Terminal c ∷ ss) rest P m l h d w = absurd d
split Q g all (suc n) (Act b ∷ ms) ks (Nonterminal x ∷ ss) rest P m l h d w = absurd d
split Q g all (suc n) (Act b ∷ ms) ks (Action a ∷ ss) rest P m l h d w =
    let e : b ≡ a = d.0 in
    let h2 = let R : ℕ → Type 0 = λ z. Chain Q ss P ((then) m (did z)) in subst R (sym e) h in
    let s = split Q g all n ms ks ss rest P ((then) m (did b)) (omega (arith, l)) h2 d.1 w in
    record { done = (then) (did b) s.done; steady = then_steady (did b) s.done (did_steady b) s.steady; left = s.left; kinds = s.kinds; holds = s.holds; derives = s.derives; writable = s.writable; does = does_both (Act b ∷ ms) ms s.left ks ks s.kinds (did b) s.done (does_act ms ks b) s.does; fewer = let f : length s.left ≤ length ms = s.fewer in omega (arith, f) }
split Q g all (suc n) (Expand x k ∷ ms) ks (Terminal c ∷ ss) rest P m l h d w = absurd d
split Q g all (suc n) (Expand x k ∷ ms) ks (Action a ∷ ss) rest P m l h d w = absurd d
split Q g all (suc n) (Expand x k ∷ ms) ks (Nonterminal y ∷ ss) rest P m l h d w =
    let f : length ms ≤ n = omega (arith, l) in
    let whole =
    spelled_split Q g P m ss rest ms ks y (at (row g y) k) (λ right i. way_of Q 0 g y k y right (omega arith) all i)
    (λ right c i. split Q g all n ms ks right (ss ++ rest) (Q y) nothing_done f c i w)
    (λ s.
    let a : length s.left ≤ length ms = s.fewer in
    let t = split Q g all n s.left s.kinds ss rest P ((then) m s.done) (omega (arith, a, f)) (h s.done s.steady s.holds) s.derives s.writable in
    let b : length t.left ≤ length s.left = t.fewer in
    record { done = (then) s.done t.done; steady = then_steady s.done t.done s.steady t.steady; left = t.left; kinds = t.kinds; holds = t.holds; derives = t.derives; writable = t.writable; does = does_both ms s.left t.left ks s.kinds t.kinds s.done t.done s.does t.does; fewer = omega (arith, a, b) })
    d.1 in
    let c : length whole.left ≤ length ms = whole.fewer in
    record { done = whole.done; steady = whole.steady; left = whole.left; kinds = whole.kinds; holds = whole.holds; derives = whole.derives; writable = whole.writable; does = does_expand ms whole.left ks whole.kinds x k whole.done whole.does; fewer = omega (arith, c) }

-- The claim holds of something that the moves do; they do it to the depths too where this holds.
pub record Held (Z : Type 0) (Q : Claim) (x : ℕ) (ms : List Move) (ks : List TokenKind) : Type 0 where
  pub done : Doing
  pub holds : Q x done
  pub builds : (s : Stage State) → (doing ms ks).build s ≡ done.build s
  pub names : (q : Names) → (doing ms ks).names q ≡ done.names q
  pub nests : Z → (ν : Nesting) → (doing ms ks).nest ν ≡ done.nest ν

-- nothing is left of an empty stack
whole : (Q : Claim) (g : Rules) (x : ℕ) (ms left : List Move) (ks kinds : List TokenKind) (done : Doing) → Derives g left [] (map class_of kinds) → Does ms ks done left kinds → Q x done → Held (HaveNoMinusZero ms ks) Q x ms ks
whole Q g x ms [] ks [] done d e q = record { done = done; holds = q; builds = e.builds; names = e.names; nests = e.nests }
whole Q g x ms [] ks (k ∷ kinds) done d e q = absurd d
whole Q g x ms (Shift ∷ left) ks kinds done d e q = absurd d
whole Q g x ms (Act a ∷ left) ks kinds done d e q = absurd d
whole Q g x ms (Expand y k ∷ left) ks kinds done d e q = absurd d

-- What is claimed of a part holds of what any derivation from it does, where it holds of all ways;
pub derived_held : (Q : Claim) (g : Rules) → AllWays Q 0 g → (x : ℕ) (ms : List Move) (ks : List TokenKind) → Derives g ms (Nonterminal x ∷ []) (map class_of ks) → AllWritable ks → Held (HaveNoMinusZero ms ks) Q x ms ks
derived_held Q g all x ms ks d w =
    let s = split Q g all (length ms) ms ks (Nonterminal x ∷ []) [] (Q x) nothing_done (omega arith) (λ a h q. q) d w in
    whole Q g x ms s.left ks s.kinds s.done s.derives s.does s.holds

-- of all that it does, where no 0 is the literal behind a minus sign.
pub derived_holds : (Q : Claim) (g : Rules) → AllWays Q 0 g → (x : ℕ) (ms : List Move) (ks : List TokenKind) → Derives g ms (Nonterminal x ∷ []) (map class_of ks) → AllWritable ks → HaveNoMinusZero ms ks → Q x (doing ms ks)
derived_holds Q g all x ms ks d w z =
    let h = derived_held Q g all x ms ks d w in
    let e : h.done ≡ doing ms ks = λ i. record { build = λ s. sym (h.builds s) i; nest = λ ν. sym (h.nests z ν) i; names = λ q. sym (h.names q) i } in
    subst (λ (m : Doing). Q x m) e h.holds
