-- What is claimed of the doing of expressions that were read: what they build, how deep they lead, and which names head their
-- operands; each beside the canonical spelling of what is built.
use Rattle.std.proofs.Common.{◌≡◌, ◌⊎◌, ◌∙◌, sym, ap, refl, subst, ℕ, ◌+◌, ◌≤◌, max, nat_le, Bool, true, false, eqb, if◌then◌else◌, List, [], ◌∷◌, ◌++◌, map, Option, Some, None, arith}
use Rattle.std.proofs.lemmas.Bool.{le-leb, leb-true, true≢false}
use Rattle.res_ast.specs.declared.expression.Expr.{Expr}
use Rattle.res_lexer.specs.declared.token.Token.{Token}
use Rattle.res_lexer.specs.declared.token.TokenKind.{TokenKind}
use Rattle.res_lexer.specs.declared.token.TokenKind.TheVariants as kind
use Rattle.res_grammar.specs.Numbers as n
use Rattle.round_trip.specs.ReadsBack.{token}
use Rattle.res_grammar.specs.Classes.{class_of, remembered, word_of}
use Rattle.res_grammar.specs.Nesting.{begun, entered, finished, first_or_0, operands_met, operator_met, others, raised}
use Rattle.res_grammar.specs.OwnName.{OwnNames}
use Rattle.res_grammar.specs.declared.nesting.Nesting.{Nesting}
use Rattle.res_grammar.specs.declared.own_name.Asks.TheVariants.{Any}
use Rattle.res_grammar.specs.ClosingName.{ClosingNames}
use Rattle.res_printer.specs.Expressions.{Written, written}
use Rattle.round_trip.proofs.Doing.{Doing, Names, did, then, took}
use Rattle.round_trip.proofs.Steady.{Steady, did_steady, then_steady, took_steady}
use Rattle.round_trip.proofs.Calm.{Around, Avoids, calm, left}
use Rattle.round_trip.proofs.Goes.{At, reached}
use Rattle.round_trip.proofs.Operands.{deep_at, keeps}
use Rattle.round_trip.proofs.Signs.{IsName, name_token}
use Rattle.round_trip.proofs.Calls.{IsBuiltIn}
use Rattle.round_trip.proofs.Arguments.{Item, collected, deepest_of, exprs_of, heads_of, written_of}

-- ---- depths

-- From the one to the other some path went so many nodes deep, and what was open is open again.
pub record Covers (d : ℕ) (ν μ : Nesting) : Type 0 where
  pub depth : μ.depth ≡ ν.depth
  pub saved : μ.saved ≡ ν.saved
  pub kept : ν.deep ≤ μ.deep
  pub deep : ν.depth + d ≤ max ν.depth μ.deep
  pub deepest : ν.depth + d ≤ max ν.depth μ.deepest

-- where nothing of an expression is finished
abbrev pub Dives : ℕ → Doing → Type 0
Dives d m = (ν : Nesting) → ν.deep ≡ ν.depth → (m.nest ν).deepest ≤ 200 → Covers d ν (m.nest ν)

-- anywhere
abbrev pub DivesOn : ℕ → Doing → Type 0
DivesOn d m = (ν : Nesting) → (m.nest ν).deepest ≤ 200 → Covers d ν (m.nest ν)

pub covers_nothing : (ν : Nesting) → Covers 0 ν ν
covers_nothing ν = record { depth = refl; saved = refl; kept = omega arith; deep = omega arith; deepest = omega arith }

pub covers_less : (d e : ℕ) (ν μ : Nesting) → d ≤ e → Covers e ν μ → Covers d ν μ
covers_less d e ν μ l c =
    let p : ν.depth + e ≤ max ν.depth μ.deep = c.deep in
    let q : ν.depth + e ≤ max ν.depth μ.deepest = c.deepest in
    record { depth = c.depth; saved = c.saved; kept = c.kept; deep = omega (arith, l, p); deepest = omega (arith, l, q) }

-- one behind the other
pub covers_both : (d e : ℕ) (ν μ θ : Nesting) → μ.deepest ≤ θ.deepest → Covers d ν μ → Covers e μ θ → Covers (max d e) ν θ
covers_both d e ν μ θ l a b =
    let a0 : μ.depth ≡ ν.depth = a.depth in
    let a1 : ν.deep ≤ μ.deep = a.kept in
    let a2 : ν.depth + d ≤ max ν.depth μ.deep = a.deep in
    let a3 : ν.depth + d ≤ max ν.depth μ.deepest = a.deepest in
    let b1 : μ.deep ≤ θ.deep = b.kept in
    let b2 : μ.depth + e ≤ max μ.depth θ.deep = b.deep in
    let b3 : μ.depth + e ≤ max μ.depth θ.deepest = b.deepest in
    record {
      depth = b.depth ∙ a.depth;
      saved = b.saved ∙ a.saved;
      kept = omega (arith, a1, b1);
      deep = omega (arith, a0, a2, b1, b2);
      deepest = omega (arith, a0, a3, l, b3);
    }

-- a node around them
pub covers_node : (d : ℕ) (ν θ : Nesting) → θ.deepest ≤ 200 → (entered ν).deepest ≤ θ.deepest → Covers d (entered ν) θ → Covers (d + 1) ν (left θ)
covers_node d ν θ l g c =
    let h : max ν.deepest (raised ν.depth) ≤ θ.deepest = g in
    let c0 : θ.depth ≡ raised ν.depth = c.depth in
    let c1 : max ν.deep (raised ν.depth) ≤ θ.deep = c.kept in
    let c2 : raised ν.depth + d ≤ max (raised ν.depth) θ.deep = c.deep in
    let c3 : raised ν.depth + d ≤ max (raised ν.depth) θ.deepest = c.deepest in
    let r : raised ν.depth ≡ ν.depth + 1 = omega (arith, l, h) in
    record {
      depth = omega (arith, c0, r);
      saved = c.saved;
      kept = omega (arith, c1);
      deep = omega (arith, r, c1, c2);
      deepest = omega (arith, r, h, c3);
    }

-- between the marks of an expression
pub covers_marked : (d : ℕ) (ν θ : Nesting) → Covers d (begun ν) θ → Covers d ν (finished θ)
covers_marked d ν θ c =
    let f : first_or_0 θ.saved ≡ ν.deep = ap first_or_0 c.saved in
    let c2 : ν.depth + d ≤ max ν.depth θ.deep = c.deep in
    record { depth = c.depth; saved = ap others c.saved; kept = omega (arith, f); deep = omega (arith, c2); deepest = c.deepest }

-- an operator between two operands
pub covers_operation : (d e : ℕ) (ν μ θ : Nesting) → ν.deep ≡ ν.depth → θ.deepest ≤ 200 → (operator_met μ).deepest ≤ θ.deepest → Covers d ν μ → Covers e (operator_met μ) θ → Covers (max d e + 1) ν (operands_met θ)
covers_operation d e ν μ θ s l g a b =
    let h : max μ.deepest (raised μ.deep) ≤ θ.deepest = g in
    let f : first_or_0 θ.saved ≡ raised μ.deep = ap first_or_0 b.saved in
    let a0 : μ.depth ≡ ν.depth = a.depth in
    let a1 : ν.deep ≤ μ.deep = a.kept in
    let a2 : ν.depth + d ≤ max ν.depth μ.deep = a.deep in
    let b0 : θ.depth ≡ raised μ.depth = b.depth in
    let b2 : raised μ.depth + e ≤ max (raised μ.depth) θ.deep = b.deep in
    let b3 : raised μ.depth + e ≤ max (raised μ.depth) θ.deepest = b.deepest in
    let r : raised μ.deep ≡ μ.deep + 1 = omega (arith, l, h) in
    let p : ν.depth ≤ μ.deep = omega (arith, s, a1) in
    let q : raised μ.depth ≡ ν.depth + 1 = omega (arith, l, h, a0, p) in
    let i : ν.depth + d ≤ μ.deep = omega (arith, a2, p) in
    let j : μ.deep + 1 ≤ θ.deepest = omega (arith, h, r) in
    record {
      depth = omega (arith, b0, q);
      saved = ap others b.saved ∙ a.saved;
      kept = omega (arith, f, r, a1);
      deep = omega (arith, f, r, i, p, q, b2);
      deepest = omega (arith, i, j, p, q, b3);
    }

-- ---- names

-- Both watches are at rest, and none of these names is the operation's where it may not be.
pub record IsCalm (a : Around) (names : List (List ℕ)) (q : Names) : Type 0 where
  pub last : Option (List ℕ)
  pub is : q ≡ calm last a
  pub avoids : Avoids a names

-- Where the watch on the operation's own name refuses nothing, none of these names is it.
abbrev pub Heads : List (List ℕ) → Doing → Type 0
Heads names m = (l : Option (List ℕ)) (a : Around) (q : OwnNames) → (m.names (calm l a)).own ≡ Some q → IsCalm a names (m.names (calm l a))

avoids_both : (a : Around) (xs ys : List (List ℕ)) → Avoids a xs → Avoids a ys → Avoids a (xs ++ ys)
avoids_both a [] ys h k = k
avoids_both a (x ∷ xs) ys h k = (h.0, avoids_both a xs ys h.1 k)

-- it had refused nothing before
was_there : {B : Type 0} (o : Option OwnNames) (p : Option OwnNames) (q : OwnNames) → (o ≡ None → p ≡ None) → p ≡ Some q → ((r : OwnNames) → o ≡ Some r → B) → B
was_there None p q f e g = absurd (let h : None ≡ Some q = sym (f refl) ∙ e in cc)
was_there (Some r) p q f e g = g r refl

pub heads_both : (m n : Doing) (xs ys : List (List ℕ)) → Steady n → Heads xs m → Heads ys n → Heads (xs ++ ys) ((then) m n)
heads_both m n xs ys s h k = λ l a q e.
    was_there {B = IsCalm a (xs ++ ys) (n.names (m.names (calm l a)))} (m.names (calm l a)).own (n.names (m.names (calm l a))).own q (s.own (m.names (calm l a))) e (λ r f.
    let one = h l a r f in
    let other = k one.last a q (sym (ap (λ z. (n.names z).own) one.is) ∙ e) in
    record { last = other.last; is = ap n.names one.is ∙ other.is; avoids = avoids_both a xs ys one.avoids other.avoids })

-- what does nothing to names but for the last identifier
pub record Quiet (m : Doing) : Type 0 where
  pub last : Option (List ℕ) → Option (List ℕ)
  pub is : (l : Option (List ℕ)) (a : Around) → m.names (calm l a) ≡ calm (last l) a
  pub own : (q : Names) → q.own ≡ None → (m.names q).own ≡ None

pub quiet_both : (m n : Doing) → Quiet m → Quiet n → Quiet ((then) m n)
quiet_both m n h k = record {
  last = λ l. k.last (h.last l);
  is = λ l a. ap n.names (h.is l a) ∙ k.is (h.last l) a;
  own = λ q e. k.own (m.names q) (h.own q e);
}

pub behind_quiet : (m n : Doing) (xs : List (List ℕ)) → Quiet m → Heads xs n → Heads xs ((then) m n)
behind_quiet m n xs h k = λ l a q e.
    let other = k (h.last l) a q (sym (ap (λ z. (n.names z).own) (h.is l a)) ∙ e) in
    record { last = other.last; is = ap n.names (h.is l a) ∙ other.is; avoids = other.avoids }

pub before_quiet : (m n : Doing) (xs : List (List ℕ)) → Heads xs m → Quiet n → Heads xs ((then) m n)
before_quiet m n xs h k = λ l a q e.
    was_there {B = IsCalm a xs (n.names (m.names (calm l a)))} (m.names (calm l a)).own (n.names (m.names (calm l a))).own q (k.own (m.names (calm l a))) e (λ r f.
    let one = h l a r f in
    record { last = k.last one.last; is = ap n.names one.is ∙ k.is one.last a; avoids = one.avoids })

pub quiet_heads : (m : Doing) → Quiet m → Heads [] m
quiet_heads m h = λ l a q e. record { last = h.last l; is = h.is l a; avoids = tt }

either_way : (b : Bool) → (if b then true else true) ≡ true
either_way true = refl
either_way false = refl

-- a token
pub quiet_took : (k : TokenKind) → Quiet (took k)
quiet_took k = record {
  last = λ l. remembered (class_of k) (word_of k) l;
  is = λ l a.
      let after = remembered (class_of k) (word_of k) l in
      let rest : Option ClosingNames = Some (record { last = after; component = a.component; operation = a.body; closes = None }) in
      ap (λ (b : Bool). let n : Names = record { own = if b then Some (record { last = after; operation = a.operation; in_result = a.in_result; asks = Any }) else None; closing = rest } in n) (either_way (eqb (class_of k) 0));
  own = (took_steady k).own;
}

-- an action that does nothing to names
pub quiet_did : (a : ℕ) → ((l : Option (List ℕ)) (b : Around) → (did a).names (calm l b) ≡ calm l b) → Quiet (did a)
quiet_did a e = record { last = λ l. l; is = e; own = (did_steady a).own }

-- ---- expressions

-- What was read, where a level may stand: an expression is built, which is spelled at that level no deeper than it was.
pub record Said (c : ℕ) (m : Doing) : Type 0 where
  pub item : Item
  pub is : written item.expr ≡ item.written
  pub last : Token
  pub builds : (s : At) → m.build s ≡ reached item.expr last s
  pub dives : Dives (deep_at c item.written item.depth) m
  pub names : Heads item.heads m

-- an expression of any level, anywhere
pub record SaidWhole (m : Doing) : Type 0 where
  pub steady : Steady m
  pub item : Item
  pub is : written item.expr ≡ item.written
  pub last : Token
  pub builds : (s : At) → m.build s ≡ reached item.expr last s
  pub dives : DivesOn item.depth m
  pub names : Heads item.heads m

-- expressions, behind those of the list on top
pub record SaidAll (m : Doing) : Type 0 where
  pub steady : Steady m
  pub items : List Item
  pub are : map written (exprs_of items) ≡ written_of items
  pub last : Token → Token
  pub builds : (before : List Expr) (xss : List (List Expr)) (k : Token) (s : At) → m.build (collected before xss k s) ≡ collected (before ++ exprs_of items) xss (last k) s
  pub dives : DivesOn (deepest_of items) m
  pub names : Heads (heads_of items) m

-- an expression where a concatenation may stand
pub record SaidSum (m : Doing) : Type 0 where
  pub steady : Steady m
  pub said : Said 4 m

-- what goes on behind an operand of one level to one of another
abbrev pub After : ℕ → ℕ → Doing → Type 0
After c b m = (m0 : Doing) → Steady m0 → Said c m0 → Said b ((then) m0 m)

-- ---- levels

less_deep : (a b : Bool) (d : ℕ) → (b ≡ true → a ≡ true) → (if a then d else d + 1) ≤ (if b then d else d + 1)
less_deep true true d h = omega arith
less_deep true false d h = omega arith
less_deep false true d h = absurd (true≢false (sym (h refl)))
less_deep false false d h = omega arith

pub deep_lower : (b c : ℕ) (w : Written) (d : ℕ) → b ≤ c → deep_at b w d ≤ deep_at c w d
deep_lower b c w d l = less_deep (nat_le b w.level) (nat_le c w.level) d (λ e. let h : c ≤ w.level = leb-true c w.level e in le-leb b w.level (omega (arith, l, h)))

pub deep_least : (c : ℕ) (w : Written) (d : ℕ) → d ≤ deep_at c w d
deep_least c w d = less_deep true (nat_le c w.level) d (λ e. refl)

pub deep_own : (c : ℕ) (w : Written) (d : ℕ) → c ≤ w.level → deep_at c w d ≡ d
deep_own c w d l = ap (λ b. if b then d else d + 1) (le-leb c w.level l)

-- what is said at a level is said at a weaker one
pub said_lower : (b c : ℕ) (m : Doing) → b ≤ c → Said c m → Said b m
said_lower b c m l h = record {
  item = h.item;
  is = h.is;
  last = h.last;
  builds = h.builds;
  dives = λ ν s t. covers_less (deep_at b h.item.written h.item.depth) (deep_at c h.item.written h.item.depth) ν (m.nest ν) (deep_lower b c h.item.written h.item.depth l) (h.dives ν s t);
  names = h.names;
}

-- an expression of any level is said at the weakest
pub said_whole : (m : Doing) → SaidWhole m → Said 0 m
said_whole m h = record {
  item = h.item;
  is = h.is;
  last = h.last;
  builds = h.builds;
  dives = λ ν s t. covers_less (deep_at 0 h.item.written h.item.depth) h.item.depth ν (m.nest ν) (let e : deep_at 0 h.item.written h.item.depth ≡ h.item.depth = deep_own 0 h.item.written h.item.depth (omega arith) in omega (arith, e)) (h.dives ν t);
  names = h.names;
}

-- ---- what stands in expressions

abbrev pub minus_token : Token
minus_token = token (kind.Symbol 10)

-- a name that heads an operand
pub record SaidName (m : Doing) : Type 0 where
  pub name : List ℕ
  pub is_name : IsName name
  pub builds : (s : At) → m.build s ≡ keeps (name_token name) s
  pub flat : (ν : Nesting) → m.nest ν ≡ ν
  pub names : Heads (name ∷ []) m

-- a word of the language that may be called
pub record SaidBuiltIn (m : Doing) : Type 0 where
  pub steady : Steady m
  pub name : List ℕ
  pub is_built_in : IsBuiltIn name
  pub builds : (s : At) → m.build s ≡ keeps (name_token name) s
  pub flat : (ν : Nesting) → m.nest ν ≡ ν
  pub quiet : Quiet m

-- what is too deep wherever it stands
abbrev pub IsSunk : Doing → Type 0
IsSunk m = (ν : Nesting) → 201 ≤ (m.nest ν).deepest

-- what stands behind a minus sign: with it, it is an expression that begins with one
pub record SaidMinus (m : Doing) : Type 0 where
  pub item : Item
  pub is : written item.expr ≡ item.written
  pub signed : (item.written.negative ≡ true) ⊎ IsSunk m
  pub level : 7 ≤ item.written.level
  pub last : Token
  pub builds : (s : At) → m.build (keeps minus_token s) ≡ reached item.expr last s
  pub dives : Dives item.depth m
  pub names : Heads item.heads m

-- ---- depths of what is put together

-- a node around what was done
abbrev pub node : Doing → Doing
node m = (then) (did n.enter_mark) ((then) m (did n.leave_mark))

pub node_dives : (d : ℕ) (m : Doing) → Steady m → Dives d m → Dives (d + 1) (node m)
node_dives d m s h = λ ν e t.
    let g : max ν.deepest (raised ν.depth) ≤ (m.nest (entered ν)).deepest = s.grows (entered ν) in
    let u : (m.nest (entered ν)).deepest ≤ 200 = t in
    let i : max ν.deep (raised ν.depth) ≡ raised ν.depth = omega (arith, e, g, u) in
    covers_node d ν (m.nest (entered ν)) u g (h (entered ν) i u)

pub node_dives_on : (d : ℕ) (m : Doing) → Steady m → DivesOn d m → Dives (d + 1) (node m)
node_dives_on d m s h = node_dives d m s (λ ν e t. h ν t)

pub both_dive : (d e : ℕ) (m n : Doing) → Steady n → DivesOn d m → DivesOn e n → DivesOn (max d e) ((then) m n)
both_dive d e m n s h k = λ ν t.
    let g : (m.nest ν).deepest ≤ (n.nest (m.nest ν)).deepest = s.grows (m.nest ν) in
    let u : (n.nest (m.nest ν)).deepest ≤ 200 = t in
    covers_both d e ν (m.nest ν) (n.nest (m.nest ν)) g (h ν (omega (arith, g, u))) (k (m.nest ν) u)

-- behind what nests nothing
pub behind_flat : (d : ℕ) (m n : Doing) → ((ν : Nesting) → m.nest ν ≡ ν) → Dives d n → Dives d ((then) m n)
behind_flat d m n f h = λ ν e t. subst (λ z. Covers d ν (n.nest z)) (sym (f ν)) (h ν e (subst (λ z. (n.nest z).deepest ≤ 200) (f ν) t))

pub on_behind_flat : (d : ℕ) (m n : Doing) → ((ν : Nesting) → m.nest ν ≡ ν) → DivesOn d n → DivesOn d ((then) m n)
on_behind_flat d m n f h = λ ν t. subst (λ z. Covers d ν (n.nest z)) (sym (f ν)) (h ν (subst (λ z. (n.nest z).deepest ≤ 200) (f ν) t))

pub flat_dives : (m : Doing) → ((ν : Nesting) → m.nest ν ≡ ν) → Dives 0 m
flat_dives m f = λ ν e t. subst (λ z. Covers 0 ν z) (sym (f ν)) (covers_nothing ν)

-- less deep than it went
pub dives_less : (d e : ℕ) (m : Doing) → d ≤ e → Dives e m → Dives d m
dives_less d e m l h = λ ν i t. covers_less d e ν (m.nest ν) l (h ν i t)

-- ---- names of what is put together

pub heads_as : (xs ys : List (List ℕ)) (m : Doing) → xs ≡ ys → Heads xs m → Heads ys m
heads_as xs ys m e h = subst (λ z. Heads z m) e h

pub around_heads : (a m b : Doing) (xs : List (List ℕ)) → Quiet a → Heads xs m → Quiet b → Heads xs ((then) a ((then) m b))
around_heads a m b xs p h q = behind_quiet a ((then) m b) xs p (before_quiet m b xs h q)

pub node_heads : (m : Doing) (xs : List (List ℕ)) → Heads xs m → Heads xs (node m)
node_heads m xs h = around_heads (did n.enter_mark) m (did n.leave_mark) xs (quiet_did n.enter_mark (λ l b. refl)) h (quiet_did n.leave_mark (λ l b. refl))

pub node_steady : (m : Doing) → Steady m → Steady (node m)
node_steady m s = then_steady _ _ (did_steady n.enter_mark) (then_steady _ _ s (did_steady n.leave_mark))
