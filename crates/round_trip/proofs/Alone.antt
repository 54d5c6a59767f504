-- A component of a file is passed by the watches over names as if it were the file's first: it names itself, and each of
-- its operations, before a closing name or a result's clause asks for the name.
use Rattle.std.proofs.Common.{◌≡◌, ◌∙◌, refl, sym, ap, subst, ℕ, zero, suc, ◌==◌, Bool, true, false, ◌&&◌, ◌||◌, if◌then◌else◌, List, [], ◌∷◌, ◌++◌, map, Option, Some, None}
use Rattle.std.proofs.lemmas.Bool.{and_parts, false≢true, eqb-true}
use Rattle.ll_grammar.specs.Grammar.{Derives, at}
use Rattle.ll_grammar.specs.Grammar as grammar
use Rattle.ll_grammar.specs.declared.form.Move.{Move}
use Rattle.ll_grammar.specs.declared.form.Move.TheVariants.{Shift, Expand, Act}
use Rattle.ll_grammar.specs.declared.form.Symbol.{Symbol}
use Rattle.ll_grammar.specs.declared.form.Symbol.TheVariants.{Terminal, Nonterminal, Action}
use Rattle.res_lexer.specs.declared.token.TokenKind.{TokenKind}
use Rattle.res_grammar.specs.Classes.{class_of, remembered, word_of}
use Rattle.res_grammar.specs.ClosingName.{ClosingNames, closing_act, repeats}
use Rattle.res_grammar.specs.Language.{language_rules}
use Rattle.res_grammar.specs.Numbers as number
use Rattle.res_grammar.specs.OwnName.{OwnNames}
use Rattle.res_grammar.specs.declared.own_name.Asks.TheVariants.{Any, Other, Own}
use Rattle.round_trip.proofs.Canonical.{Passing}
use Rattle.round_trip.proofs.Derivations.{at_action, at_part, at_terminal, by_way, part_passes, parts_pass}
use Rattle.round_trip.proofs.Doing.{Doing, Names, did, doing, took}
use Rattle.round_trip.proofs.Steady.{Steady}
use Rattle.round_trip.proofs.Watching.{doing_steady, no_names}

-- ---- a test on the grammar

-- parts that name an operation before anything asks for its name
abbrev names_operation : ℕ → Bool
names_operation x = x == number.operation_name_part || x == number.heading_part

-- parts in which the name of an operation is asked for
abbrev asks_operation : ℕ → Bool
asks_operation x = x == number.heading_rest_part || (x == number.result_name_part || (x == number.close_operation_part || x == number.body_part))

-- actions that ask for it
abbrev asks : ℕ → Bool
asks a = a == number.same_mark || (a == number.result_equals_mark || a == number.close_operation_mark)

-- An operation is named before anything asks for its name; at the end of the symbols this is so, or not.
abbrev guarded : Bool → List Symbol → Bool
guarded end [] = end
guarded end (Terminal c ∷ ss) = guarded end ss
guarded end (Action a ∷ ss) = if a == number.open_operation_mark then true else (if asks a then false else guarded end ss)
guarded end (Nonterminal x ∷ ss) = if names_operation x then true else (if asks_operation x then false else guarded end ss)

abbrev is_guarded_way : ℕ → List Symbol → Bool
is_guarded_way x right = if names_operation x then guarded false right else (if asks_operation x then true else guarded true right)

language_is_guarded : parts_pass is_guarded_way 0 language_rules ≡ true
unfolding language_rules
language_is_guarded = refl

-- ---- stacks

-- a choice among three, of which the last may be another
chosen : (a b u v : Bool) → (if a then true else (if b then false else u)) ≡ true → (u ≡ true → v ≡ true) → (if a then true else (if b then false else v)) ≡ true
chosen true b u v h f = refl
chosen false true u v h f = absurd (false≢true h)
chosen false false u v h f = f h

guarded_append : (end : Bool) (a b : List Symbol) → guarded end a ≡ true → (end ≡ true → guarded true b ≡ true) → guarded true (a ++ b) ≡ true
guarded_append end [] b h f = f h
guarded_append end (Terminal c ∷ a) b h f = guarded_append end a b h f
guarded_append end (Action x ∷ a) b h f =
    chosen (x == number.open_operation_mark) (asks x) (guarded end a) (guarded true (a ++ b)) h (λ z. guarded_append end a b z f)
guarded_append end (Nonterminal x ∷ a) b h f =
    chosen (names_operation x) (asks_operation x) (guarded end a) (guarded true (a ++ b)) h (λ z. guarded_append end a b z f)

opened_by : (n p : Bool) (right ss : List Symbol) → (if n then guarded false right else (if p then true else guarded true right)) ≡ true → (if n then true else (if p then false else guarded true ss)) ≡ true → guarded true (right ++ ss) ≡ true
opened_by true p right ss h k = guarded_append false right ss h (λ z. absurd (false≢true z))
opened_by false true right ss h k = absurd (false≢true k)
opened_by false false right ss h k = guarded_append true right ss h (λ z. k)

-- ---- what is known

-- the last identifier, the component, the operation, and the name that the next token repeats
abbrev pub known : Option (List ℕ) → Option (List ℕ) → Option (List ℕ) → Option (List ℕ) → Names
known l c o x = record {
  own = Some (record { last = l; operation = o; in_result = false; asks = Any });
  closing = Some (record { last = l; component = c; operation = o; closes = x });
}

known_passing : (l c o x : Option (List ℕ)) → Passing (known l c o x)
known_passing l c o x = record { own_names = record { last = l; operation = o; in_result = false; asks = Any }; closing_names = record { last = l; component = c; operation = o; closes = x }; own = refl; closing = refl }

either : (b : Bool) → (if b then true else true) ≡ true
either true = refl
either false = refl

-- a token that the closing name is not asked of, or that repeats it
took_known : (k : TokenKind) (l c o x : Option (List ℕ)) → repeats x (class_of k) (word_of k) ≡ true → (took k).names (known l c o x) ≡ known (remembered (class_of k) (word_of k) l) c o None
took_known k l c o x e =
    let last = remembered (class_of k) (word_of k) l in
    let P : Bool → Bool → Names = λ b d. record {
      own = if b then Some (record { last = last; operation = o; in_result = false; asks = Any }) else None;
      closing = if d then Some (record { last = last; component = c; operation = o; closes = None }) else None;
    } in
    ap (λ b. P b (repeats x (class_of k) (word_of k))) (either (class_of k == number.id)) ∙ ap (λ d. P true d) e

took_refused : (k : TokenKind) (l c o x : Option (List ℕ)) → repeats x (class_of k) (word_of k) ≡ false → ((took k).names (known l c o x)).closing ≡ None
took_refused k l c o x e =
    ap (λ d. if d then Some (record { last = remembered (class_of k) (word_of k) l; component = c; operation = o; closes = None }) else None) e

-- ---- actions

abbrev own_by : Bool → Bool → Bool → Bool → Bool → OwnNames → OwnNames
own_by opens same heads equals clause s =
    if opens then record s { operation = s.last } else
    if same then record s { asks = Own } else
    if heads then (if s.in_result then record s { asks = Other } else s) else
    if equals then record s { in_result = true } else
    if clause then record s { in_result = false } else s

own_kept : (a b c d e : Bool) (l o : Option (List ℕ)) → a ≡ false → b ≡ false → d ≡ false → own_by a b c d e (record { last = l; operation = o; in_result = false; asks = Any }) ≡ record { last = l; operation = o; in_result = false; asks = Any }
own_kept true b c d e l o x y z = absurd (false≢true (sym x))
own_kept false true c d e l o x y z = absurd (false≢true (sym y))
own_kept false false true d e l o x y z = refl
own_kept false false false true e l o x y z = absurd (false≢true (sym z))
own_kept false false false false true l o x y z = refl
own_kept false false false false false l o x y z = refl

abbrev closing_by : Bool → Bool → Bool → Bool → ClosingNames → ClosingNames
closing_by names opens closes ends s =
    if names then record s { component = s.last } else
    if opens then record s { operation = s.last } else
    if closes then record s { closes = s.component } else
    if ends then record s { closes = s.operation } else s

closing_kept : (a b c d : Bool) (l m o x : Option (List ℕ)) → b ≡ false → d ≡ false → closing_by a b c d (record { last = l; component = m; operation = o; closes = x }) ≡ record { last = l; component = if a then l else m; operation = o; closes = if a then x else (if c then m else x) }
closing_kept true b c d l m o x e f = refl
closing_kept false true c d l m o x e f = absurd (false≢true (sym e))
closing_kept false false true d l m o x e f = refl
closing_kept false false false true l m o x e f = absurd (false≢true (sym f))
closing_kept false false false false l m o x e f = refl

neither : (a b : Bool) → (a || b) ≡ false → (a ≡ false) × (b ≡ false)
neither true b h = absurd (false≢true (sym h))
neither false b h = (refl, h)

-- an action that opens no operation and asks for none
acted_known : (a : ℕ) (l c o x : Option (List ℕ)) → (a == number.open_operation_mark) ≡ false → asks a ≡ false → (did a).names (known l c o x) ≡ known l (if a == number.open_component_mark then l else c) o (if a == number.open_component_mark then x else (if a == number.close_component_mark then c else x))
acted_known a l c o x e f =
    let s = neither (a == number.same_mark) (a == number.result_equals_mark || a == number.close_operation_mark) f in
    let r = neither (a == number.result_equals_mark) (a == number.close_operation_mark) s.1 in
    ap (λ (z : OwnNames). let n : Names = record { own = Some z; closing = Some (closing_act a (record { last = l; component = c; operation = o; closes = x })) } in n) (own_kept (a == number.open_operation_mark) (a == number.same_mark) (a == number.head_mark) (a == number.result_equals_mark) (a == number.result_clause_mark) l o e s.0 r.0)
    ∙ ap (λ (z : ClosingNames). let n : Names = record { own = Some (record { last = l; operation = o; in_result = false; asks = Any }); closing = Some z } in n) (closing_kept (a == number.open_component_mark) (a == number.open_operation_mark) (a == number.close_component_mark) (a == number.close_operation_mark) l c o x e r.1)

-- one that opens an operation
acted_open : (a : ℕ) (l c o x : Option (List ℕ)) → (a == number.open_operation_mark) ≡ true → (did a).names (known l c o x) ≡ known l c l x
acted_open a l c o x e =
    let i : a ≡ number.open_operation_mark = eqb-true a number.open_operation_mark e in
    let P : ℕ → Type 0 = λ z. (did z).names (known l c o x) ≡ known l c l x in
    subst P (sym i) refl

-- ---- moves

refused : (n : Names) (m : Doing) → Steady m → n.closing ≡ None → Passing (m.names n) → ⊥
refused n m s e h = let f : None ≡ Some h.closing_names = sym (s.closing n e) ∙ h.closing in cc

on_token : (m : Doing) → Steady m → (k : TokenKind) (l c o p x : Option (List ℕ)) (b : Bool) → repeats x (class_of k) (word_of k) ≡ b → ((j : Option (List ℕ)) → Passing (m.names (known j c o None)) → Passing (m.names (known j c p None))) → Passing (m.names ((took k).names (known l c o x))) → Passing (m.names ((took k).names (known l c p x)))
on_token m s k l c o p x true e f h =
    let P : Names → Type 0 = λ z. Passing (m.names z) in
    subst P (sym (took_known k l c p x e)) (f (remembered (class_of k) (word_of k) l) (subst P (took_known k l c o x e) h))
on_token m s k l c o p x false e f h = absurd (refused ((took k).names (known l c o x)) m s (took_refused k l c o x e) h)

on_action : (m : Doing) (a : ℕ) (l c o p x : Option (List ℕ)) (t u v : Bool) → (a == number.open_operation_mark) ≡ t → asks a ≡ u → (if t then true else (if u then false else v)) ≡ true → (v ≡ true → (d y : Option (List ℕ)) → Passing (m.names (known l d o y)) → Passing (m.names (known l d p y))) → Passing (m.names ((did a).names (known l c o x))) → Passing (m.names ((did a).names (known l c p x)))
on_action m a l c o p x true u v e i g f h =
    let P : Names → Type 0 = λ z. Passing (m.names z) in
    subst P (sym (acted_open a l c p x e)) (subst P (acted_open a l c o x e) h)
on_action m a l c o p x false true v e i g f h = absurd (false≢true g)
on_action m a l c o p x false false v e i g f h =
    let P : Names → Type 0 = λ z. Passing (m.names z) in
    subst P (sym (acted_known a l c p x e i)) (f g (if a == number.open_component_mark then l else c) (if a == number.open_component_mark then x else (if a == number.close_component_mark then c else x)) (subst P (acted_known a l c o x e i) h))

-- The name of the operation that was known before does not matter.
alone : (ms : List Move) (ss : List Symbol) (ks : List TokenKind) (l c o p x : Option (List ℕ)) → Derives language_rules ms ss (map class_of ks) → guarded true ss ≡ true → Passing ((doing ms ks).names (known l c o x)) → Passing ((doing ms ks).names (known l c p x))
alone [] ss ks l c o p x d g h = known_passing l c p x
alone (Shift ∷ ms) [] ks l c o p x d g h = absurd d
alone (Shift ∷ ms) (Nonterminal y ∷ ss) ks l c o p x d g h = absurd d
alone (Shift ∷ ms) (Action y ∷ ss) ks l c o p x d g h = absurd d
alone (Shift ∷ ms) (Terminal y ∷ ss) [] l c o p x d g h = absurd d
alone (Shift ∷ ms) (Terminal y ∷ ss) (k ∷ ks) l c o p x d g h =
    on_token (doing ms ks) (doing_steady ms ks) k l c o p x (repeats x (class_of k) (word_of k)) refl (λ j i. alone ms ss ks j c o p None d.1 g i) h
alone (Act a ∷ ms) [] ks l c o p x d g h = absurd d
alone (Act a ∷ ms) (Terminal y ∷ ss) ks l c o p x d g h = absurd d
alone (Act a ∷ ms) (Nonterminal y ∷ ss) ks l c o p x d g h = absurd d
alone (Act a ∷ ms) (Action y ∷ ss) ks l c o p x d g h =
    let i = subst (λ z. guarded true (Action z ∷ ss) ≡ true) (sym d.0) g in
    on_action (doing ms ks) a l c o p x (a == number.open_operation_mark) (asks a) (guarded true ss) refl refl i (λ j e f. alone ms ss ks l e o p f d.1 j) h
alone (Expand y k ∷ ms) [] ks l c o p x d g h = absurd d
alone (Expand y k ∷ ms) (Terminal z ∷ ss) ks l c o p x d g h = absurd d
alone (Expand y k ∷ ms) (Action z ∷ ss) ks l c o p x d g h = absurd d
alone (Expand y k ∷ ms) (Nonterminal z ∷ ss) ks l c o p x d g h =
    by_way (λ s. Derives language_rules ms s (map class_of ks)) ss (at (grammar.row language_rules z) k) d.1 (λ right e f.
    let w = part_passes is_guarded_way language_rules language_is_guarded z k right e in
    alone ms (right ++ ss) ks l c o p x f (opened_by (names_operation z) (asks_operation z) right ss w g) h)

-- ---- components

abbrev is_start : List Symbol → Bool
is_start (Terminal c ∷ Action a ∷ Nonterminal x ∷ tail) = (a == number.keep_mark) && ((x == number.component_name_part) && guarded true (tail ++ []))
is_start _ = false

abbrev is_start_way : ℕ → List Symbol → Bool
is_start_way x right = if x == number.component_part then is_start right else true

language_starts : parts_pass is_start_way 0 language_rules ≡ true
unfolding language_rules
language_starts = refl

record Start (right : List Symbol) : Type 0 where
  class : ℕ
  tail : List Symbol
  is : right ≡ Terminal class ∷ Action number.keep_mark ∷ Nonterminal number.component_name_part ∷ tail
  guarded : guarded true (tail ++ []) ≡ true

start : (right : List Symbol) → is_start right ≡ true → Start right
start (Terminal c ∷ Action a ∷ Nonterminal x ∷ tail) h =
    let p = and_parts (a == number.keep_mark) ((x == number.component_name_part) && guarded true (tail ++ [])) h in
    let q = and_parts (x == number.component_name_part) (guarded true (tail ++ [])) p.1 in
    record {
      class = c;
      tail = tail;
      is = ap (λ z. Terminal c ∷ Action z ∷ Nonterminal x ∷ tail) (eqb-true a number.keep_mark p.0) ∙ ap (λ z. Terminal c ∷ Action number.keep_mark ∷ Nonterminal z ∷ tail) (eqb-true x number.component_name_part q.0);
      guarded = q.1;
    }
start _ h = absurd (false≢true h)

name_way : (k : ℕ) (right : List Symbol) → at (grammar.row language_rules number.component_name_part) k ≡ Some right → Terminal number.id ∷ Action number.open_component_mark ∷ [] ≡ right
unfolding language_rules
name_way zero right e = let f : Some (Terminal number.id ∷ Action number.open_component_mark ∷ []) ≡ Some right = e in cc
name_way (suc k) right e = absurd (let f : None ≡ Some right = e in cc)

-- once the component has its name
named : (j k : TokenKind) (l c o : Option (List ℕ)) → number.id ≡ class_of k → (did number.open_component_mark).names ((took k).names ((did number.keep_mark).names ((took j).names (known l c o None)))) ≡ known (Some (word_of k)) (Some (word_of k)) o None
named j k l c o e =
    let m = remembered (class_of j) (word_of j) l in
    ap (λ (z : Names). (did number.open_component_mark).names ((took k).names ((did number.keep_mark).names z))) (took_known j l c o None refl)
    ∙ ap (λ (z : Names). (did number.open_component_mark).names z) (took_known k m c o None refl)
    ∙ ap (λ z. known (remembered z (word_of k) m) (remembered z (word_of k) m) o None) (sym e)

-- what is done by moves that are the same
passing_as : (ms ns : List Move) (ks js : List TokenKind) (n : Names) → ms ≡ ns → ks ≡ js → Passing ((doing ms ks).names n) → Passing ((doing ns js).names n)
passing_as ms ns ks js n e f h = subst (λ z. Passing ((doing ns z).names n)) f (subst (λ z. Passing ((doing z ks).names n)) e h)

-- the moves of a component up to its name, and those behind it
abbrev begin : ℕ → ℕ → List Move → List Move
begin way name r = Expand number.component_part way ∷ Shift ∷ Act number.keep_mark ∷ Expand number.component_name_part name ∷ Shift ∷ Act number.open_component_mark ∷ r

record Begun (ms : List Move) (ks : List TokenKind) : Type 0 where
  way : ℕ
  name_way : ℕ
  later : List Move
  word : TokenKind
  name : TokenKind
  rest : List TokenKind
  stack : List Symbol
  moves : ms ≡ begin way name_way later
  kinds : ks ≡ word ∷ name ∷ rest
  class : number.id ≡ class_of name
  guarded : guarded true stack ≡ true
  derives : Derives language_rules later stack (map class_of rest)

-- these moves one behind the other
joined : (x y : ℕ) (a b c d e f g : List Move) → a ≡ Expand number.component_part x ∷ b → b ≡ Shift ∷ c → c ≡ Act number.keep_mark ∷ d → d ≡ Expand number.component_name_part y ∷ e → e ≡ Shift ∷ f → f ≡ Act number.open_component_mark ∷ g → a ≡ begin x y g
joined x y a b c d e f g p q r s t u =
    p ∙ ap (λ z. Expand number.component_part x ∷ z) (q ∙ ap (λ z. Shift ∷ z) (r ∙ ap (λ z. Act number.keep_mark ∷ z) (s ∙ ap (λ z. Expand number.component_name_part y ∷ z) (t ∙ ap (λ z. Shift ∷ z) u))))

two_kinds : (a b c : List TokenKind) (j k : TokenKind) → a ≡ j ∷ b → b ≡ k ∷ c → a ≡ j ∷ k ∷ c
two_kinds a b c j k e f = e ∙ ap (λ z. j ∷ z) f

-- the name of a component, which stands before these symbols
record NameRead (rest : List Symbol) (ms : List Move) (ks : List TokenKind) : Type 0 where
  way : ℕ
  expanded : List Move
  shifted : List Move
  later : List Move
  name : TokenKind
  kinds_left : List TokenKind
  first : ms ≡ Expand number.component_name_part way ∷ expanded
  second : expanded ≡ Shift ∷ shifted
  third : shifted ≡ Act number.open_component_mark ∷ later
  kinds : ks ≡ name ∷ kinds_left
  class : number.id ≡ class_of name
  derives : Derives language_rules later rest (map class_of kinds_left)

name_read : (rest : List Symbol) (ms : List Move) (ks : List TokenKind) → Derives language_rules ms (Nonterminal number.component_name_part ∷ rest) (map class_of ks) → NameRead rest ms ks
name_read rest ms ks d =
    let f = at_part language_rules number.component_name_part rest ms (map class_of ks) d in
    let g = at_terminal language_rules number.id (Action number.open_component_mark ∷ rest) f.later ks (subst (λ z. Derives language_rules f.later (z ++ rest) (map class_of ks)) (sym (name_way f.way f.right f.spells)) f.derives) in
    let i = at_action language_rules number.open_component_mark rest g.later (map class_of g.rest) g.derives in
    record { way = f.way; expanded = f.later; shifted = g.later; later = i.later; name = g.first; kinds_left = g.rest; first = f.moves; second = g.moves; third = i.moves; kinds = g.kinds; class = g.class; derives = i.derives }

begun : (ms : List Move) (ks : List TokenKind) → Derives language_rules ms (Nonterminal number.component_part ∷ []) (map class_of ks) → Begun ms ks
begun ms ks d =
    let a = at_part language_rules number.component_part [] ms (map class_of ks) d in
    let s = start a.right (part_passes is_start_way language_rules language_starts number.component_part a.way a.right a.spells) in
    let rest = s.tail ++ [] in
    let b = at_terminal language_rules s.class (Action number.keep_mark ∷ Nonterminal number.component_name_part ∷ rest) a.later ks (subst (λ z. Derives language_rules a.later (z ++ []) (map class_of ks)) s.is a.derives) in
    let e = at_action language_rules number.keep_mark (Nonterminal number.component_name_part ∷ rest) b.later (map class_of b.rest) b.derives in
    let n = name_read rest e.later b.rest e.derives in
    record {
      way = a.way;
      name_way = n.way;
      later = n.later;
      word = b.first;
      name = n.name;
      rest = n.kinds_left;
      stack = rest;
      moves = joined a.way n.way ms a.later b.later e.later n.expanded n.shifted n.later a.moves b.moves e.moves n.first n.second n.third;
      kinds = two_kinds ks b.rest n.kinds_left b.first n.name b.kinds n.kinds;
      class = n.class;
      guarded = s.guarded;
      derives = n.derives;
    }

-- What the watches passed of a component behind others they pass from the outset.
pub component_alone : (ms : List Move) (ks : List TokenKind) (l c o : Option (List ℕ)) → Derives language_rules ms (Nonterminal number.component_part ∷ []) (map class_of ks) → Passing ((doing ms ks).names (known l c o None)) → Passing ((doing ms ks).names no_names)
component_alone ms ks l c o d h =
    let b = begun ms ks d in
    let P : Names → Type 0 = λ z. Passing ((doing b.later b.rest).names z) in
    let w = Some (word_of b.name) in
    let passing = passing_as ms (begin b.way b.name_way b.later) ks (b.word ∷ b.name ∷ b.rest) (known l c o None) b.moves b.kinds h in
    let later = alone b.later b.stack b.rest w w o None None b.derives b.guarded (subst P (named b.word b.name l c o b.class) passing) in
    passing_as (begin b.way b.name_way b.later) ms (b.word ∷ b.name ∷ b.rest) ks no_names (sym b.moves) (sym b.kinds) (subst P (sym (named b.word b.name None None None b.class)) later)
