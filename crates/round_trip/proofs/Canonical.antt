-- A canonical way to spell what was read, beside the way that was read; and how two of them are put together.
use Rattle.std.proofs.Common.{◌≡◌, ◌∙◌, sym, ap, refl, subst, ℕ, suc, ◌≤◌, Bool, cond, true, false, ◌&&◌, ◌==◌, List, [], ◌∷◌, ◌++◌, map, pos, decimal, Option, Some, None, option_map, append_assoc, IsTrue, nat_le, nat_lt, length, ◌<◌, arith}
use Rattle.std.specs.List.{list_all, AllByRecursion}
use Rattle.std.proofs.lemmas.Bool.{eq-eqb, leb-true, ltb-true}
use Rattle.ll_grammar.specs.Grammar as grammar
use Rattle.ll_grammar.specs.Grammar.{at, made, opening}
use Rattle.ll_grammar.specs.Watch.{and_then}
use Rattle.ll_grammar.specs.declared.form.Move.{Move}
use Rattle.ll_grammar.specs.declared.form.Move.TheVariants.{Shift, Expand, Act}
use Rattle.ll_grammar.specs.declared.form.Symbol.{Symbol}
use Rattle.ll_grammar.specs.declared.form.Symbol.TheVariants.{Terminal, Nonterminal, Action}
use Rattle.res_lexer.specs.Pieces.{is_blank, most_name_bytes, symbols}
use Rattle.res_lexer.specs.Spaced.{AreApart, IsWritable, Row, spaced, text_of}
use Rattle.res_lexer.specs.declared.token.TokenKind.{TokenKind}
use Rattle.res_lexer.specs.declared.token.TokenKind.TheVariants as kind
use Rattle.res_lexer.specs.declared.token.Token.{Token}
use Rattle.res_grammar.specs.Classes.{class_of, remembered, word_of}
use Rattle.res_grammar.specs.ClosingName.{ClosingNames, closing, closing_act}
use Rattle.res_grammar.specs.Language.{language_rules}
use Rattle.res_grammar.specs.Numbers as n
use Rattle.res_grammar.specs.Nesting.{nesting_act}
use Rattle.res_grammar.specs.OwnName.{OwnNames, own, own_act}
use Rattle.res_grammar.specs.declared.nesting.Nesting.{Nesting}
use Rattle.res_grammar.specs.declared.own_name.Asks.TheVariants.{Any}
use Rattle.expr_parser.specs.Built.{Stage}
use Rattle.module_parser.specs.Spelling.{files}
use Rattle.module_parser.specs.declared.state.State.{State}
use Rattle.res_printer.specs.Pieces.{Piece}
use Rattle.round_trip.specs.ReadsBack.{token, tokens}
use Rattle.identifiers.specs.Identifiers.{is_plain_identifier}
use Rattle.identifiers.specs.Laws.{PlainAreAscii}
use Rattle.round_trip.proofs.Chains.{kind_of_class}
use Rattle.round_trip.proofs.Depths.{Below, act_below, act_rises}
use Rattle.round_trip.proofs.Doing.{Doing, Names, did, doing, nothing_done, then, took}

-- ---- what is known of names

-- the names of the component and of the operation, and whether this is in a clause on the operation's result: what both
-- watches know between two parts of the grammar
pub record Knowledge : Type 0 where
  pub component : Option (List ℕ)
  pub operation : Option (List ℕ)
  pub in_result : Bool

-- Both watches are at rest: they know this and the last identifier, and nothing is asked of the next token.
abbrev pub calm : Option (List ℕ) → Knowledge → Names
calm l k = record {
  own = Some (record { last = l; operation = k.operation; in_result = k.in_result; asks = Any });
  closing = Some (record { last = l; component = k.component; operation = k.operation; closes = None });
}

pub record IsCalm (k : Knowledge) (n : Names) : Type 0 where
  pub last : Option (List ℕ)
  pub is : n ≡ calm last k

-- Neither watch has refused a token.
pub record Passing (n : Names) : Type 0 where
  pub own_names : OwnNames
  pub closing_names : ClosingNames
  pub own : n.own ≡ Some own_names
  pub closing : n.closing ≡ Some closing_names

pub calm_passing : (l : Option (List ℕ)) (k : Knowledge) → Passing (calm l k)
calm_passing l k = record { own_names = _; closing_names = _; own = refl; closing = refl }

-- ---- what the canonical moves do

abbrev pub kinds : Row → List TokenKind
kinds us = map (λ p. p.0) us

-- They lead from this nesting to one that is below the other.
pub record Nests (moves : List Move → List Move) (row : Row → Row) (from top : Nesting) : Type 0 where
  pub to : Nesting
  pub below : Below to top
  pub leads : (r : List Move) (us : Row) → (doing (moves r) (kinds (row us))).nest from ≡ (doing r (kinds us)).nest to

-- They lead from these names to some at rest.
pub record Knows (moves : List Move → List Move) (row : Row → Row) (from : Names) (k : Knowledge) : Type 0 where
  pub last : Option (List ℕ)
  pub leads : (r : List Move) (us : Row) → (doing (moves r) (kinds (row us))).names from ≡ (doing r (kinds us)).names (calm last k)

-- Nothing is refused and nothing nests.
pub record Light (moves : List Move → List Move) (row : Row → Row) (m : Doing) : Type 0 where
  pub read_flat : (d : Nesting) → m.nest d ≡ d
  pub flat : (d : Nesting) (r : List Move) (us : Row) → (doing (moves r) (kinds (row us))).nest d ≡ (doing r (kinds us)).nest d
  pub passes : (l : Option (List ℕ)) (k : Knowledge) → Passing (m.names (calm l k))

-- What was read did `m`, and built `original`. The canonical moves lead from the symbols `ss` to `ts` over a row whose text
-- is `text`, and build `canonical`. After both `after` is known. Where it is light, nothing nests and nothing is refused.
pub record Leads (ss ts : List Symbol) (text : Knowledge → Piece) (original canonical : Stage State → Stage State) (after : Knowledge → Knowledge) (light : Bool) (m : Doing) : Type 0 where
  pub builds : (w : Stage State) → m.build w ≡ original w
  pub rises : (d : Nesting) → d.deepest ≤ (m.nest d).deepest
  pub refuses : (n : Names) → Passing (m.names n) → Passing n
  pub knows : (l : Option (List ℕ)) (k : Knowledge) → Passing (m.names (calm l k)) → IsCalm (after k) (m.names (calm l k))
  pub moves : List Move → List Move
  pub row : Row → Row
  pub reads : (l : Option (List ℕ)) (k : Knowledge) → Passing (m.names (calm l k)) → (us : Row) → text k (spaced us) ≡ spaced (row us)
  pub apart : PlainAreAscii → (us : Row) → AreApart us → AreApart (row us)
  pub goes : (r : List Move) (tt : List Symbol) (us : Row) (w : Stage State) → made language_rules files (moves r) (ss ++ tt) (tokens (row us)) w ≡ made language_rules files r (ts ++ tt) (tokens us) (canonical w)
  pub names : (l j : Option (List ℕ)) (k : Knowledge) → Passing (m.names (calm l k)) → Knows moves row (calm j k) (after k)
  pub lightly : light ≡ true → Light moves row m

-- And the canonical nesting stays below that of what was read.
pub record Going (ss ts : List Symbol) (text : Knowledge → Piece) (original canonical : Stage State → Stage State) (after : Knowledge → Knowledge) (light : Bool) (m : Doing) : Type 0 where
  pub leads : Leads ss ts text original canonical after light m
  pub nests : (a b : Nesting) → Below a b → (m.nest b).deepest ≤ 200 → Nests leads.moves leads.row a (m.nest b)

-- ---- one behind the other

pub nothing_going : {ss : List Symbol} → Going ss ss (λ k z. z) (λ w. w) (λ w. w) (λ k. k) true nothing_done
nothing_going = record {
  leads = record {
    builds = λ w. refl;
    rises = λ d. omega arith;
    refuses = λ n h. h;
    knows = λ l k h. record { last = l; is = refl };
    moves = λ r. r;
    row = λ us. us;
    reads = λ l k h us. refl;
    apart = λ law us h. h;
    goes = λ r tt us w. refl;
    names = λ l j k h. record { last = j; leads = λ r us. refl };
    lightly = λ e. record { read_flat = λ d. refl; flat = λ d r us. refl; passes = λ l k. calm_passing l k };
  };
  nests = λ a b l h. record { to = a; below = l; leads = λ r us. refl };
}

pub both : (a b : Bool) → (a && b) ≡ true → (a ≡ true) × (b ≡ true)
both true b h = (refl, h)
both false b h = absurd (let f : false ≡ true = h in cc)

pub joined : {ss ts vs : List Symbol} {t u : Knowledge → Piece} {o p c d : Stage State → Stage State} {a b : Knowledge → Knowledge} {e f : Bool} {m n : Doing}
    → Leads ss ts t o c a e m → Leads ts vs u p d b f n → Leads ss vs (λ k z. t k (u (a k) z)) (λ w. p (o w)) (λ w. d (c w)) (λ k. b (a k)) (e && f) (then m n)
joined {ss} {ts} {vs} {t} {u} {o} {p} {c} {d} {a} {b} {e} {f} {m} {n} x y =
    let later : (l : Option (List ℕ)) (k : Knowledge) (h : Passing (n.names (m.names (calm l k)))) → (j : Option (List ℕ)) × (m.names (calm l k) ≡ calm j (a k)) × Passing (n.names (calm j (a k))) =
    λ l k h.
    let e = x.knows l k (y.refuses (m.names (calm l k)) h) in
    (e.last, e.is, subst (λ z. Passing (n.names z)) e.is h) in
    record {
      builds = λ w. y.builds (m.build w) ∙ ap p (x.builds w);
      rises = λ z. (let f : z.deepest ≤ (m.nest z).deepest = x.rises z in let g : (m.nest z).deepest ≤ (n.nest (m.nest z)).deepest = y.rises (m.nest z) in omega (arith, f, g));
      refuses = λ z h. x.refuses z (y.refuses (m.names z) h);
      knows = λ l k h.
          let e = later l k h in
          let f = y.knows e.0 (a k) e.2 in
          record { last = f.last; is = ap n.names e.1 ∙ f.is };
      moves = λ r. x.moves (y.moves r);
      row = λ us. x.row (y.row us);
      reads = λ l k h us.
          let e = later l k h in
          ap (t k) (y.reads e.0 (a k) e.2 us) ∙ x.reads l k (y.refuses (m.names (calm l k)) h) (y.row us);
      apart = λ law us h. x.apart law (y.row us) (y.apart law us h);
      goes = λ r tt us w. x.goes (y.moves r) tt (y.row us) w ∙ y.goes r tt us (c w);
      names = λ l j k h.
          let e = later l k h in
          let first = x.names l j k (y.refuses (m.names (calm l k)) h) in
          let second = y.names e.0 first.last (a k) e.2 in
          record { last = second.last; leads = λ r us. first.leads (y.moves r) (y.row us) ∙ second.leads r us };
      lightly = λ i.
          let j = both e f i in
          let g = x.lightly j.0 in
          let h = y.lightly j.1 in
          record {
            read_flat = λ z. h.read_flat (m.nest z) ∙ g.read_flat z;
            flat = λ z r us. g.flat z (y.moves r) (y.row us) ∙ h.flat z r us;
            passes = λ l k.
                let i = x.knows l k (g.passes l k) in
                subst (λ z. Passing (n.names z)) (sym i.is) (h.passes i.last (a k));
          };
    }

-- what is deep at the end was not deeper before
pub not_deeper : {a b : ℕ} → a ≤ b → b ≤ 200 → a ≤ 200
not_deeper l k = omega (arith, l, k)

pub through : {ss ts vs : List Symbol} {t u : Knowledge → Piece} {o p c d : Stage State → Stage State} {a b : Knowledge → Knowledge} {e f : Bool} {m n : Doing}
    → Going ss ts t o c a e m → Going ts vs u p d b f n → Going ss vs (λ k z. t k (u (a k) z)) (λ w. p (o w)) (λ w. d (c w)) (λ k. b (a k)) (e && f) (then m n)
unfolding joined
through {m} {n} x y = record {
  leads = joined x.leads y.leads;
  nests = λ e f l h.
      let first = x.nests e f l (not_deeper (y.leads.rises (m.nest f)) h) in
      let second = y.nests first.to (m.nest f) first.below h in
      record { to = second.to; below = second.below; leads = λ r us. first.leads (y.leads.moves r) (y.leads.row us) ∙ second.leads r us };
}

-- above other symbols
pub framed : {xs : List Symbol} {t : Knowledge → Piece} {o c : Stage State → Stage State} {a : Knowledge → Knowledge} {e : Bool} {m : Doing} → Leads xs [] t o c a e m → (ss : List Symbol) → Leads (xs ++ ss) ss t o c a e m
framed {xs} x ss = record {
  builds = x.builds;
  rises = x.rises;
  refuses = x.refuses;
  knows = x.knows;
  moves = x.moves;
  row = x.row;
  reads = x.reads;
  apart = x.apart;
  goes = λ r tt us w. ap (λ z. made language_rules files (x.moves r) z (tokens (x.row us)) w) (append_assoc xs ss tt) ∙ x.goes r (ss ++ tt) us w;
  names = x.names;
  lightly = x.lightly;
}

framed_going : {xs : List Symbol} {t : Knowledge → Piece} {o c : Stage State → Stage State} {a : Knowledge → Knowledge} {e : Bool} {m : Doing} → Going xs [] t o c a e m → (ss : List Symbol) → Going (xs ++ ss) ss t o c a e m
unfolding framed
framed_going x ss = record { leads = framed x.leads ss; nests = x.nests }

-- some symbols, and others behind them
infixr 30 ◌▹◌
pub ◌▹◌ : {xs ss ts : List Symbol} {t u : Knowledge → Piece} {o p c d : Stage State → Stage State} {a b : Knowledge → Knowledge} {e f : Bool} {m n : Doing}
    → Going xs [] t o c a e m → Going ss ts u p d b f n → Going (xs ++ ss) ts (λ k z. t k (u (a k) z)) (λ w. p (o w)) (λ w. d (c w)) (λ k. b (a k)) (e && f) (then m n)
◌▹◌ {xs} {ss} x y = through (framed_going x ss) y

pub done : Going [] [] (λ k z. z) (λ w. w) (λ w. w) (λ k. k) true nothing_done
done = nothing_going

-- ---- tokens

either_way : (b : Bool) → cond b true true ≡ true
either_way true = refl
either_way false = refl

pub some_before : {A B : Type 0} (o : Option A) (f : A → Option B) (y : B) → and_then o f ≡ Some y → (x : A) × (o ≡ Some x)
some_before None f y e = absurd (let g : None ≡ Some y = e in cc)
some_before (Some x) f y e = (x, refl)

pub took_calm : (j : TokenKind) (l : Option (List ℕ)) (k : Knowledge) → (took j).names (calm l k) ≡ calm (remembered (class_of j) (word_of j) l) k
took_calm j l k =
    let last = remembered (class_of j) (word_of j) l in
    let rest : Option ClosingNames = Some (record { last = last; component = k.component; operation = k.operation; closes = None }) in
    ap (λ (b : Bool). let n : Names = record { own = cond b (Some (record { last = last; operation = k.operation; in_result = k.in_result; asks = Any })) None; closing = rest } in n) (either_way (class_of j == 0))

abbrev pub Takes : TokenKind → ℕ → ℕ → Type 0
Takes j c blank = Going (Terminal c ∷ []) [] (λ k z. text_of j ++ (blank ∷ z)) (λ w. files.take (token j) w) (λ w. files.take (token j) w) (λ k. k) true (took j)

-- a token that is written with one blank behind it
pub token_going : (j : TokenKind) (c blank : ℕ) → (c == class_of j) ≡ true → (PlainAreAscii → IsWritable j) → IsTrue (list_all is_blank (blank ∷ [])) → Takes j c blank
token_going j c blank e w b = record {
  leads = record {
    builds = λ s. refl;
    rises = λ d. omega arith;
    refuses = λ n h.
        let f = some_before n.own (own.shift (token j)) h.own_names h.own in
        let g = some_before n.closing (closing.shift (token j)) h.closing_names h.closing in
        record { own_names = f.0; closing_names = g.0; own = f.1; closing = g.1 };
    knows = λ l k h. record { last = remembered (class_of j) (word_of j) l; is = took_calm j l k };
    moves = λ r. Shift ∷ r;
    row = λ us. (j, blank ∷ []) ∷ us;
    reads = λ l k h us. refl;
    apart = λ law us h. (w law, b, (λ f. absurd (let g : blank ∷ [] ≡ [] = f in cc)), h);
    goes = λ r tt us s. ap (λ z. cond z (made language_rules files r tt (tokens us) (files.take (token j) s)) None) e;
    names = λ l i k h. record { last = remembered (class_of j) (word_of j) i; leads = λ r us. ap (λ z. (doing r (kinds us)).names z) (took_calm j i k) };
    lightly = λ f. record { read_flat = λ d. refl; flat = λ d r us. refl; passes = λ l k. subst Passing (sym (took_calm j l k)) (calm_passing (remembered (class_of j) (word_of j) l) k) };
  };
  nests = λ x y l h. record { to = x; below = l; leads = λ r us. refl };
}

-- ---- words of the language and symbols

abbrev pub are_ascii : List ℕ → Bool
are_ascii [] = true
are_ascii (b ∷ bs) = nat_lt b 128 && are_ascii bs

ascii_are : (bs : List ℕ) → are_ascii bs ≡ true → AllByRecursion (λ b. b < 128) bs
ascii_are [] h = tt
ascii_are (b ∷ bs) h =
    let e = both (nat_lt b 128) (are_ascii bs) h in
    (ltb-true b 128 e.0, ascii_are bs e.1)

abbrev pub is_constant : TokenKind → Bool
is_constant (kind.Word name) = is_plain_identifier name && (are_ascii name && nat_le (length name) most_name_bytes)
is_constant (kind.Literal k) = false
is_constant (kind.Symbol k) = nat_lt 0 k && nat_le k (length symbols)

pub constant_writable : PlainAreAscii → (j : TokenKind) → is_constant j ≡ true → IsWritable j
constant_writable law (kind.Word name) h =
    let e = both (is_plain_identifier name) (are_ascii name && nat_le (length name) most_name_bytes) h in
    let f = both (are_ascii name) (nat_le (length name) most_name_bytes) e.1 in
    (law name (ascii_are name f.0) ∙ e.0, leb-true (length name) most_name_bytes f.1)
constant_writable law (kind.Literal k) h = absurd (let f : false ≡ true = h in cc)
constant_writable law (kind.Symbol k) h =
    let e = both (nat_lt 0 k) (nat_le k (length symbols)) h in
    (ltb-true 0 k e.0, leb-true k (length symbols) e.1)

abbrev pub is_fixed : ℕ → Bool
is_fixed c = (c == class_of (kind_of_class c)) && is_constant (kind_of_class c)

-- the only token of a class, and a blank
abbrev pub Fixed : ℕ → ℕ → Type 0
Fixed c blank = Takes (kind_of_class c) c blank

fixed : (c blank : ℕ) → is_fixed c ≡ true → IsTrue (list_all is_blank (blank ∷ [])) → Fixed c blank
fixed c blank e b =
    let f = both (c == class_of (kind_of_class c)) (is_constant (kind_of_class c)) e in
    token_going (kind_of_class c) c blank f.0 (λ law. constant_writable law (kind_of_class c) f.1) b

-- with a space behind it, and with a line feed
pub word : (c : ℕ) → is_fixed c ≡ true → Fixed c 32
word c e = fixed c 32 e refl

pub line : (c : ℕ) → is_fixed c ≡ true → Fixed c 10
line c e = fixed c 10 e refl

pub name : (word : List ℕ) → class_of (kind.Word word) ≡ n.id → IsWritable (kind.Word word) → Takes (kind.Word word) n.id 32
name word e w = token_going (kind.Word word) n.id 32 (ap (λ z. n.id == z) e) (λ law. w) refl

pub literal : (k : ℕ) → IsWritable (kind.Literal (pos k)) → Takes (kind.Literal (pos k)) n.literal 32
literal k w = token_going (kind.Literal (pos k)) n.literal 32 refl (λ law. w) refl

-- ---- actions

abbrev pub off : Bool → Bool
off true = false
off false = true

otherwise : {A : Type 0} (b : Bool) (x y : A) → off b ≡ true → cond b x y ≡ y
otherwise true x y h = absurd (let f : false ≡ true = h in cc)
otherwise false x y h = refl

-- The action does nothing to names,
abbrev pub is_quiet : ℕ → Bool
is_quiet a = off (a == n.open_component_mark) && (off (a == n.open_operation_mark) && (off (a == n.close_component_mark) && (off (a == n.close_operation_mark) && (off (a == n.same_mark) && (off (a == n.head_mark) && (off (a == n.result_equals_mark) && off (a == n.result_clause_mark)))))))

-- and nothing to nesting.
abbrev pub is_flat : ℕ → Bool
is_flat a = off (a == n.enter_mark) && (off (a == n.leave_mark) && (off (a == n.begin_mark) && (off (a == n.finish_mark) && (off (a == n.operator_mark) && off (a == n.operated_mark)))))

own_quiet : (a : ℕ) (s : OwnNames) → is_quiet a ≡ true → own_act a s ≡ s
own_quiet a s h =
    let e = both (off (a == n.open_component_mark)) _ h in
    let f = both (off (a == n.open_operation_mark)) _ e.1 in
    let g = both (off (a == n.close_component_mark)) _ f.1 in
    let i = both (off (a == n.close_operation_mark)) _ g.1 in
    let j = both (off (a == n.same_mark)) _ i.1 in
    let k = both (off (a == n.head_mark)) _ j.1 in
    let l = both (off (a == n.result_equals_mark)) (off (a == n.result_clause_mark)) k.1 in
    otherwise (a == n.open_operation_mark) _ _ f.0
    ∙ otherwise (a == n.same_mark) _ _ j.0
    ∙ otherwise (a == n.head_mark) _ _ k.0
    ∙ otherwise (a == n.result_equals_mark) _ _ l.0
    ∙ otherwise (a == n.result_clause_mark) _ _ l.1

closing_quiet : (a : ℕ) (s : ClosingNames) → is_quiet a ≡ true → closing_act a s ≡ s
closing_quiet a s h =
    let e = both (off (a == n.open_component_mark)) _ h in
    let f = both (off (a == n.open_operation_mark)) _ e.1 in
    let g = both (off (a == n.close_component_mark)) _ f.1 in
    let i = both (off (a == n.close_operation_mark)) _ g.1 in
    otherwise (a == n.open_component_mark) _ _ e.0
    ∙ otherwise (a == n.open_operation_mark) _ _ f.0
    ∙ otherwise (a == n.close_component_mark) _ _ g.0
    ∙ otherwise (a == n.close_operation_mark) _ _ i.0

nesting_flat : (a : ℕ) (s : Nesting) → is_flat a ≡ true → nesting_act a s ≡ s
nesting_flat a s h =
    let e = both (off (a == n.enter_mark)) _ h in
    let f = both (off (a == n.leave_mark)) _ e.1 in
    let g = both (off (a == n.begin_mark)) _ f.1 in
    let i = both (off (a == n.finish_mark)) _ g.1 in
    let j = both (off (a == n.operator_mark)) (off (a == n.operated_mark)) i.1 in
    otherwise (a == n.enter_mark) _ _ e.0
    ∙ otherwise (a == n.leave_mark) _ _ f.0
    ∙ otherwise (a == n.begin_mark) _ _ g.0
    ∙ otherwise (a == n.finish_mark) _ _ i.0
    ∙ otherwise (a == n.operator_mark) _ _ j.0
    ∙ otherwise (a == n.operated_mark) _ _ j.1

pub some_mapped : {A B : Type 0} (o : Option A) (f : A → B) (y : B) → option_map f o ≡ Some y → (x : A) × (o ≡ Some x)
some_mapped None f y e = absurd (let g : None ≡ Some y = e in cc)
some_mapped (Some x) f y e = (x, refl)

acted_calm : (a : ℕ) (l : Option (List ℕ)) (k : Knowledge) → is_quiet a ≡ true → (did a).names (calm l k) ≡ calm l k
acted_calm a l k h =
    ap (λ (z : OwnNames). let m : Names = record { own = Some z; closing = Some (closing_act a (record { last = l; component = k.component; operation = k.operation; closes = None })) } in m) (own_quiet a (record { last = l; operation = k.operation; in_result = k.in_result; asks = Any }) h)
    ∙ ap (λ (z : ClosingNames). let m : Names = record { own = Some (record { last = l; operation = k.operation; in_result = k.in_result; asks = Any }); closing = Some z } in m) (closing_quiet a (record { last = l; component = k.component; operation = k.operation; closes = None }) h)

abbrev pub Acts : ℕ → Type 0
Acts a = Going (Action a ∷ []) [] (λ k z. z) (λ w. files.act a w) (λ w. files.act a w) (λ k. k) (is_flat a) (did a)

-- an action that does nothing to names
pub act : (a : ℕ) → is_quiet a ≡ true → Acts a
act a q = record {
  leads = record {
    builds = λ s. refl;
    rises = λ d. act_rises a d;
    refuses = λ m h.
        let f = some_mapped m.own (own_act a) h.own_names h.own in
        let g = some_mapped m.closing (closing_act a) h.closing_names h.closing in
        record { own_names = f.0; closing_names = g.0; own = f.1; closing = g.1 };
    knows = λ l k h. record { last = l; is = acted_calm a l k q };
    moves = λ r. Act a ∷ r;
    row = λ us. us;
    reads = λ l k h us. refl;
    apart = λ law us h. h;
    goes = λ r tt us s. ap (λ z. cond z (made language_rules files r tt (tokens us) (files.act a s)) None) (eq-eqb a a refl);
    names = λ l i k h. record { last = i; leads = λ r us. ap (λ z. (doing r (kinds us)).names z) (acted_calm a i k q) };
    lightly = λ f. record {
      read_flat = λ d. nesting_flat a d f;
      flat = λ d r us. ap (λ z. (doing r (kinds us)).nest z) (nesting_flat a d f);
      passes = λ l k. subst Passing (sym (acted_calm a l k q)) (calm_passing l k);
    };
  };
  nests = λ x y l h. record { to = nesting_act a x; below = act_below a x y l; leads = λ r us. refl };
}

-- ---- ways

-- A part is spelled by a way of it.
expanded_leads : (part k : ℕ) {right ts : List Symbol} → at (grammar.row language_rules part) k ≡ Some right → {t : Knowledge → Piece} {o c : Stage State → Stage State} {a : Knowledge → Knowledge} {e : Bool} {m : Doing}
    → Leads right ts t o c a e m → Leads (Nonterminal part ∷ []) ts t o c a e m
expanded_leads part k {right} i x = record {
  builds = x.builds;
  rises = x.rises;
  refuses = x.refuses;
  knows = x.knows;
  moves = λ r. Expand part k ∷ x.moves r;
  row = x.row;
  reads = x.reads;
  apart = x.apart;
  goes = λ r tt us w.
      let go : List Symbol → Option (grammar.Stand (Stage State) Token) = λ z. made language_rules files (x.moves r) z (tokens (x.row us)) w in
      ap (λ z. cond z (opening go tt (at (grammar.row language_rules part) k)) None) (eq-eqb part part refl)
      ∙ ap (λ z. opening go tt z) i
      ∙ x.goes r tt us w;
  names = λ l j i h. let d = x.names l j i h in record { last = d.last; leads = d.leads };
  lightly = λ f. let d = x.lightly f in record { read_flat = d.read_flat; flat = d.flat; passes = d.passes };
}

pub expanded : (part k : ℕ) {right ts : List Symbol} → at (grammar.row language_rules part) k ≡ Some right → {t : Knowledge → Piece} {o c : Stage State → Stage State} {a : Knowledge → Knowledge} {e : Bool} {m : Doing}
    → Going right ts t o c a e m → Going (Nonterminal part ∷ []) ts t o c a e m
unfolding expanded_leads
expanded part k i x = record {
  leads = expanded_leads part k i x.leads;
  nests = λ f g l h. let d = x.nests f g l h in record { to = d.to; below = d.below; leads = d.leads };
}

-- What is built and the text may be said otherwise.
said_otherwise : {ss ts : List Symbol} {t : Knowledge → Piece} {o c : Stage State → Stage State} {a : Knowledge → Knowledge} {e : Bool} {m : Doing} → Leads ss ts t o c a e m → (u : Knowledge → Piece) (p d : Stage State → Stage State) → ((k : Knowledge) (z : List ℕ) → u k z ≡ t k z) → ((w : Stage State) → o w ≡ p w) → ((w : Stage State) → c w ≡ d w) → Leads ss ts u p d a e m
said_otherwise {ss} {ts} x u p d i f g = record {
  builds = λ w. x.builds w ∙ f w;
  rises = x.rises;
  refuses = x.refuses;
  knows = x.knows;
  moves = x.moves;
  row = x.row;
  reads = λ l k h us. i k (spaced us) ∙ x.reads l k h us;
  apart = x.apart;
  goes = λ r tt us w. x.goes r tt us w ∙ ap (λ z. made language_rules files r (ts ++ tt) (tokens us) z) (g w);
  names = x.names;
  lightly = x.lightly;
}

pub restated : {ss ts : List Symbol} {t : Knowledge → Piece} {o c : Stage State → Stage State} {a : Knowledge → Knowledge} {e : Bool} {m : Doing} → Going ss ts t o c a e m → (u : Knowledge → Piece) (p d : Stage State → Stage State) → ((k : Knowledge) (z : List ℕ) → u k z ≡ t k z) → ((w : Stage State) → o w ≡ p w) → ((w : Stage State) → c w ≡ d w) → Going ss ts u p d a e m
unfolding said_otherwise
restated x u p d i f g = record { leads = said_otherwise x.leads u p d i f g; nests = x.nests }

-- the state is changed, and some token is the last
abbrev pub staged : (Stage State → Token) → (State → State) → Stage State → Stage State
staged last push w = record { last = last w; state = push w.state }

-- What is built, as a change of the state.
pub record Staged (ss : List Symbol) (text : Knowledge → Piece) (push : State → State) (after : Knowledge → Knowledge) (light : Bool) (m : Doing) : Type 0 where
  pub read_last : Stage State → Token
  pub last : Stage State → Token
  pub going : Going ss [] text (staged read_last push) (staged last push) after light m

abbrev restage : (w : Stage State) (s : State) → w.state ≡ s → w ≡ record { last = w.last; state = s }
restage w s e = ap (λ z. let v : Stage State = record { last = w.last; state = z } in v) e

pub as_staged : {ss : List Symbol} {t : Knowledge → Piece} {o c : Stage State → Stage State} {a : Knowledge → Knowledge} {e : Bool} {m : Doing} → Going ss [] t o c a e m → (push : State → State) → ((w : Stage State) → (o w).state ≡ push w.state) → ((w : Stage State) → (c w).state ≡ push w.state) → Staged ss t push a e m
as_staged {ss} {t} {o} {c} x push f g = record {
  read_last = λ w. (o w).last;
  last = λ w. (c w).last;
  going = restated x t (staged (λ w. (o w).last) push) (staged (λ w. (c w).last) push) (λ k z. refl) (λ w. restage (o w) (push w.state) (f w)) (λ w. restage (c w) (push w.state) (g w));
}

-- What was read changes the state more than the canonical moves do.
pub record Apart (ss ts : List Symbol) (text : Knowledge → Piece) (read push : State → State) (after : Knowledge → Knowledge) (light : Bool) (m : Doing) : Type 0 where
  pub read_last : Stage State → Token
  pub last : Stage State → Token
  pub going : Going ss ts text (staged read_last read) (staged last push) after light m

pub as_apart : {ss ts : List Symbol} {t : Knowledge → Piece} {o c : Stage State → Stage State} {a : Knowledge → Knowledge} {e : Bool} {m : Doing} → Going ss ts t o c a e m → (read push : State → State) → ((w : Stage State) → (o w).state ≡ read w.state) → ((w : Stage State) → (c w).state ≡ push w.state) → Apart ss ts t read push a e m
as_apart {ss} {ts} {t} {o} {c} x read push f g = record {
  read_last = λ w. (o w).last;
  last = λ w. (c w).last;
  going = restated x t (staged (λ w. (o w).last) read) (staged (λ w. (c w).last) push) (λ k z. refl) (λ w. restage (o w) (read w.state) (f w)) (λ w. restage (c w) (push w.state) (g w));
}

-- A canonical derivation of a part that does to the state what the derivation did that was read.
abbrev pub Canonical : ℕ → (Knowledge → Piece) → (State → State) → (Knowledge → Knowledge) → Bool → Doing → Type 0
Canonical part text push after light m = Staged (Nonterminal part ∷ []) text push after light m

-- a way of a part, whose text may be said otherwise
pub way_as : (part k : ℕ) {right : List Symbol} → at (grammar.row language_rules part) k ≡ Some right → {t : Knowledge → Piece} {o c : Stage State → Stage State} {a : Knowledge → Knowledge} {e : Bool} {m : Doing}
    → Going right [] t o c a e m → (u : Knowledge → Piece) → ((k : Knowledge) (z : List ℕ) → u k z ≡ t k z) → (push : State → State) → ((w : Stage State) → (o w).state ≡ push w.state) → ((w : Stage State) → (c w).state ≡ push w.state) → Canonical part u push a e m
way_as part k i {t} {o} {c} x u j push f g = record {
  read_last = λ w. (o w).last;
  last = λ w. (c w).last;
  going = restated (expanded part k i x) u (staged (λ w. (o w).last) push) (staged (λ w. (c w).last) push) j (λ w. restage (o w) (push w.state) (f w)) (λ w. restage (c w) (push w.state) (g w));
}

pub way : (part k : ℕ) {right : List Symbol} → at (grammar.row language_rules part) k ≡ Some right → {t : Knowledge → Piece} {o c : Stage State → Stage State} {a : Knowledge → Knowledge} {e : Bool} {m : Doing}
    → Going right [] t o c a e m → (push : State → State) → ((w : Stage State) → (o w).state ≡ push w.state) → ((w : Stage State) → (c w).state ≡ push w.state) → Canonical part t push a e m
way part k i {t} x push f g = way_as part k i x t (λ l z. refl) push f g

-- What was read goes the one way, and the canonical moves the other, in which nothing nests and nothing is refused.
pub instead : {ss ts vs ws : List Symbol} {t u : Knowledge → Piece} {o c p d : Stage State → Stage State} {e : Bool} {m n : Doing} → Going ss ts t o c (λ k. k) e m → Going vs ws u p d (λ k. k) true n → ((f b : Nesting) → Below f b → (m.nest b).deepest ≤ 200 → Below f (m.nest b)) → Going vs ws u o d (λ k. k) e m
instead x y under =
    let f = y.leads.lightly refl in
    record {
      leads = record {
        builds = x.leads.builds;
        rises = x.leads.rises;
        refuses = x.leads.refuses;
        knows = x.leads.knows;
        moves = y.leads.moves;
        row = y.leads.row;
        reads = λ l k h us. y.leads.reads l k (f.passes l k) us;
        apart = y.leads.apart;
        goes = y.leads.goes;
        names = λ l j k h. let g = y.leads.names l j k (f.passes l k) in record { last = g.last; leads = g.leads };
        lightly = λ i. let g = x.leads.lightly i in record { read_flat = g.read_flat; flat = f.flat; passes = g.passes };
      };
      nests = λ a b l h. record { to = a; below = under a b l h; leads = λ r us. f.flat a r us };
    }

-- under what was read without nesting
pub flatly : {ss ts : List Symbol} {t : Knowledge → Piece} {o c : Stage State → Stage State} {a : Knowledge → Knowledge} {m : Doing} → Going ss ts t o c a true m → (f b : Nesting) → Below f b → (m.nest b).deepest ≤ 200 → Below f (m.nest b)
flatly x f b l h = subst (λ z. Below f z) (sym ((x.leads.lightly refl).read_flat b)) l

-- a minus sign that is kept, and a literal, with no blank between them
pub touching : (k : ℕ) → IsWritable (kind.Literal (pos (suc k))) → Going (Terminal 11 ∷ Action n.keep_mark ∷ Terminal n.literal ∷ []) [] (λ l z. (45 ∷ decimal (suc k)) ++ (32 ∷ z)) (λ w. files.take (token (kind.Literal (pos (suc k)))) (files.act n.keep_mark (files.take (token (kind.Symbol 10)) w))) (λ w. files.take (token (kind.Literal (pos (suc k)))) (files.act n.keep_mark (files.take (token (kind.Symbol 10)) w))) (λ l. l) true (then (took (kind.Symbol 10)) (then (did n.keep_mark) (took (kind.Literal (pos (suc k))))))
unfolding joined through framed framed_going ◌▹◌ done nothing_going token_going fixed word literal act
touching k i =
    let x = word 11 refl ▹ act n.keep_mark refl ▹ literal (suc k) i ▹ done in
    record {
      leads = record {
        builds = λ w. refl;
        rises = x.leads.rises;
        refuses = x.leads.refuses;
        knows = x.leads.knows;
        moves = λ r. Shift ∷ Act n.keep_mark ∷ Shift ∷ r;
        row = λ us. (kind.Symbol 10, []) ∷ (kind.Literal (pos (suc k)), 32 ∷ []) ∷ us;
        reads = λ l j h us. refl;
        apart = λ law us h. (constant_writable law (kind.Symbol 10) refl, refl, (λ e. refl), (i, refl, (λ f. absurd (let g : 32 ∷ [] ≡ [] = f in cc)), h));
        goes = λ r tt us w. refl;
        names = λ l m j h. let d = x.leads.names l m j h in record { last = d.last; leads = d.leads };
        lightly = λ f. let d = x.leads.lightly f in record { read_flat = d.read_flat; flat = λ e r us. refl; passes = d.passes };
      };
      nests = λ a b l h. record { to = a; below = l; leads = λ r us. refl };
    }

-- ---- where nothing is finished yet

-- As Going, of nesting only where nothing of an expression is finished.
pub record AtStart (ss ts : List Symbol) (text : Knowledge → Piece) (original canonical : Stage State → Stage State) (after : Knowledge → Knowledge) (light : Bool) (m : Doing) : Type 0 where
  pub leads : Leads ss ts text original canonical after light m
  pub nests : (a b : Nesting) → a.deep ≡ a.depth → b.deep ≡ b.depth → Below a b → (m.nest b).deepest ≤ 200 → Nests leads.moves leads.row a (m.nest b)

pub behind_light : {xs ss ts : List Symbol} {t u : Knowledge → Piece} {o p c d : Stage State → Stage State} {a b : Knowledge → Knowledge} {f : Bool} {m n : Doing}
    → Going xs [] t o c a true m → AtStart ss ts u p d b f n → AtStart (xs ++ ss) ts (λ k z. t k (u (a k) z)) (λ w. p (o w)) (λ w. d (c w)) (λ k. b (a k)) f (then m n)
unfolding joined framed
behind_light {ss = ss} {m = m} {n = n} x y =
    let g = x.leads.lightly refl in
    record {
      leads = joined (framed x.leads ss) y.leads;
      nests = λ a b e f l h.
          let i = g.read_flat b in
          let d = y.nests a b e f l (subst (λ z. (n.nest z).deepest ≤ 200) i h) in
          record { to = d.to; below = subst (λ z. Below d.to (n.nest z)) (sym i) d.below; leads = λ r us. g.flat a (y.leads.moves r) (y.leads.row us) ∙ d.leads r us };
    }

-- Behind an operator nothing is finished.
pub behind_operator : {ss ts : List Symbol} {t : Knowledge → Piece} {o c : Stage State → Stage State} {a : Knowledge → Knowledge} {e : Bool} {m : Doing} → AtStart ss ts t o c a e m → Going (Action n.operator_mark ∷ ss) ts t (λ w. o (files.act n.operator_mark w)) (λ w. c (files.act n.operator_mark w)) a false (then (did n.operator_mark) m)
unfolding joined framed act
behind_operator {ss} x = record {
  leads = joined (framed (act n.operator_mark refl).leads ss) x.leads;
  nests = λ a b l h.
      let d = x.nests (nesting_act n.operator_mark a) (nesting_act n.operator_mark b) refl refl (act_below n.operator_mark a b l) h in
      record { to = d.to; below = d.below; leads = d.leads };
}

-- an action that changes what is known
pub knowing : (a : ℕ) (f : Knowledge → Knowledge) → ((l : Option (List ℕ)) (k : Knowledge) → (did a).names (calm l k) ≡ calm l (f k)) → Going (Action a ∷ []) [] (λ k z. z) (λ w. files.act a w) (λ w. files.act a w) f (is_flat a) (did a)
knowing a f acts = record {
  leads = record {
    builds = λ w. refl;
    rises = λ d. act_rises a d;
    refuses = λ m h.
        let u = some_mapped m.own (own_act a) h.own_names h.own in
        let v = some_mapped m.closing (closing_act a) h.closing_names h.closing in
        record { own_names = u.0; closing_names = v.0; own = u.1; closing = v.1 };
    knows = λ l k h. record { last = l; is = acts l k };
    moves = λ r. Act a ∷ r;
    row = λ us. us;
    reads = λ l k h us. refl;
    apart = λ law us h. h;
    goes = λ r tt us w. ap (λ z. cond z (made language_rules files r tt (tokens us) (files.act a w)) None) (eq-eqb a a refl);
    names = λ l i k h. record { last = i; leads = λ r us. ap (doing r (kinds us)).names (acts i k) };
    lightly = λ e. record {
      read_flat = λ d. nesting_flat a d e;
      flat = λ d r us. ap (λ z. (doing r (kinds us)).nest z) (nesting_flat a d e);
      passes = λ l k. subst Passing (sym (acts l k)) (calm_passing l (f k));
    };
  };
  nests = λ b c l h. record { to = nesting_act a b; below = act_below a b c l; leads = λ r us. refl };
}
