-- After the last token of a text no node opens, so the limit on nesting holds of all that its moves do.
use Rattle.std.proofs.Common.{◌≡◌, ◌∙◌, refl, sym, ap, subst, ℕ, suc, ◌-◌, ◌≤◌, ◌==◌, Bool, true, false, ◌&&◌, ◌||◌, if◌then◌else◌, nat_le, List, [], ◌∷◌, ◌++◌, length, map, Some, arith}
use Rattle.std.proofs.lemmas.Bool.{and_parts, and_from, false≢true, leb-true}
use Rattle.ll_grammar.specs.Grammar.{Rules, Derives, at, shifts}
use Rattle.ll_grammar.specs.Grammar as grammar
use Rattle.ll_grammar.specs.Watch.{watched}
use Rattle.ll_grammar.specs.declared.form.Move.{Move}
use Rattle.ll_grammar.specs.declared.form.Move.TheVariants.{Shift, Expand, Act}
use Rattle.ll_grammar.specs.declared.form.Symbol.{Symbol}
use Rattle.ll_grammar.specs.declared.form.Symbol.TheVariants.{Terminal, Nonterminal, Action}
use Rattle.res_lexer.specs.Spaced.{Row}
use Rattle.res_lexer.specs.declared.token.Token.{Token}
use Rattle.res_lexer.specs.declared.token.TokenKind.{TokenKind}
use Rattle.res_grammar.specs.Classes.{class_of, classes_of}
use Rattle.res_grammar.specs.ClosingName.{ClosingNames}
use Rattle.res_grammar.specs.Faults.{AllPass}
use Rattle.res_grammar.specs.Language.{language_rules, language_table}
use Rattle.res_grammar.specs.Nesting.{begun, entered, finished, nesting, nesting_act, operands_met, operator_met}
use Rattle.res_grammar.specs.Numbers as number
use Rattle.res_grammar.specs.OwnName.{OwnNames}
use Rattle.res_grammar.specs.declared.nesting.Nesting.{Nesting}
use Rattle.round_trip.specs.ReadsBack.{PassWhere, token, tokens}
use Rattle.round_trip.proofs.Derivations.{by_way, counted, part_passes, parts_pass}
use Rattle.round_trip.proofs.Doing.{Names, doing}
use Rattle.round_trip.proofs.Watching.{Fine, FineWhere, all_pass, closing_named, nested, no_names, own_named, shifted}

-- ---- a test on the grammar

-- an action after which a path may be deeper
abbrev opens : ℕ → Bool
opens a = a == number.enter_mark || a == number.operator_mark

-- parts that have a token in each of their ways
abbrev has_token : ℕ → Bool
has_token x = x == number.statement_part || x == number.operand_part || x == number.head_name_part

abbrev takes_one : List Symbol → Bool
takes_one [] = false
takes_one (Terminal c ∷ ss) = true
takes_one (Nonterminal x ∷ ss) = has_token x || takes_one ss
takes_one (Action a ∷ ss) = takes_one ss

-- a token comes after each action that opens a node
abbrev closes : List Symbol → Bool
closes [] = true
closes (Terminal c ∷ ss) = closes ss
closes (Nonterminal x ∷ ss) = closes ss
closes (Action a ∷ ss) = (if opens a then takes_one ss else true) && closes ss

abbrev is_closed_way : ℕ → List Symbol → Bool
is_closed_way x right = closes right && (if has_token x then takes_one right else true)

language_is_closed : parts_pass is_closed_way 0 language_rules ≡ true
unfolding language_rules
language_is_closed = refl

-- ---- stacks

once : (h u a b : Bool) → u ≡ (a || b) → (h || u) ≡ ((h || a) || b)
once true u a b e = refl
once false u a b e = e

takes_append : (a b : List Symbol) → takes_one (a ++ b) ≡ (takes_one a || takes_one b)
takes_append [] b = refl
takes_append (Terminal c ∷ a) b = refl
takes_append (Nonterminal x ∷ a) b = once (has_token x) (takes_one (a ++ b)) (takes_one a) (takes_one b) (takes_append a b)
takes_append (Action x ∷ a) b = takes_append a b

still : (o a b u : Bool) → u ≡ (a || b) → (if o then a else true) ≡ true → (if o then u else true) ≡ true
still true true b u e h = e
still true false b u e h = absurd (false≢true h)
still false a b u e h = refl

closes_append : (a b : List Symbol) → closes a ≡ true → closes b ≡ true → closes (a ++ b) ≡ true
closes_append [] b h k = k
closes_append (Terminal c ∷ a) b h k = closes_append a b h k
closes_append (Nonterminal x ∷ a) b h k = closes_append a b h k
closes_append (Action x ∷ a) b h k =
    let two = and_parts (if opens x then takes_one a else true) (closes a) h in
    and_from (if opens x then takes_one (a ++ b) else true) (closes (a ++ b)) (still (opens x) (takes_one a) (takes_one b) (takes_one (a ++ b)) (takes_append a b) two.0) (closes_append a b two.1 k)

none : (h a b u : Bool) → u ≡ (a || b) → (if h then a else true) ≡ true → u ≡ false → (h || b) ≡ false
none true true b u e w z = absurd (false≢true (sym z ∙ e))
none true false b u e w z = absurd (false≢true w)
none false true b u e w z = absurd (false≢true (sym z ∙ e))
none false false b u e w z = sym e ∙ z

-- ---- actions

-- what an action does, by the tests on its number: of a node that opens, one that closes, an expression that begins, one
-- that is finished, an operator and its right operand
abbrev stepped : Bool → Bool → Bool → Bool → Bool → Bool → Nesting → Nesting
stepped enters leaves begins finishes operates ends s =
    if enters then entered s else
    if leaves then record s { depth = s.depth - 1 } else
    if begins then begun s else
    if finishes then finished s else
    if operates then operator_met s else
    if ends then operands_met s else s

quiet : (a b c d e f : Bool) (s : Nesting) → (a || e) ≡ false → (stepped a b c d e f s).deepest ≡ s.deepest
quiet true b c d e f s h = absurd (false≢true (sym h))
quiet false true c d e f s h = refl
quiet false false true d e f s h = refl
quiet false false false true e f s h = refl
quiet false false false false true f s h = absurd (false≢true (sym h))
quiet false false false false false true s h = refl
quiet false false false false false false s h = refl

acted_low : (a : ℕ) (s : Nesting) (t o : Bool) → opens a ≡ o → (if o then t else true) ≡ true → t ≡ false → s.deepest ≤ 200 → (nesting_act a s).deepest ≤ 200
acted_low a s t true i h z l = absurd (false≢true (sym z ∙ h))
acted_low a s t false i h z l =
    let e = quiet (a == number.enter_mark) (a == number.leave_mark) (a == number.begin_mark) (a == number.finish_mark) (a == number.operator_mark) (a == number.operated_mark) s i in
    subst (λ (d : ℕ). d ≤ 200) (sym e) l

-- ---- moves

before_end : (ms : List Move) (ss : List Symbol) (ks : List TokenKind) (s end : Nesting) → Derives language_rules ms ss (map class_of ks) → closes ss ≡ true → (takes_one ss ≡ false → s.deepest ≤ 200) → watched nesting ms (map token ks) s ≡ Some end → end.deepest ≤ 200
before_end [] [] [] s end d c h e =
    let i : s ≡ end = cc in
    subst (λ (z : Nesting). z.deepest ≤ 200) i (h refl)
before_end [] [] (k ∷ ks) s end d c h e = absurd d
before_end [] (x ∷ ss) ks s end d c h e = absurd d
before_end (Shift ∷ ms) [] ks s end d c h e = absurd d
before_end (Shift ∷ ms) (Nonterminal x ∷ ss) ks s end d c h e = absurd d
before_end (Shift ∷ ms) (Action x ∷ ss) ks s end d c h e = absurd d
before_end (Shift ∷ ms) (Terminal x ∷ ss) [] s end d c h e = absurd d
before_end (Shift ∷ ms) (Terminal x ∷ ss) (k ∷ ks) s end d c h e =
    let p = shifted (nat_le s.deepest 200) s (watched nesting ms (map token ks)) end e in
    before_end ms ss ks s end d.1 c (λ z. leb-true s.deepest 200 p.0) p.1
before_end (Act a ∷ ms) [] ks s end d c h e = absurd d
before_end (Act a ∷ ms) (Terminal x ∷ ss) ks s end d c h e = absurd d
before_end (Act a ∷ ms) (Nonterminal x ∷ ss) ks s end d c h e = absurd d
before_end (Act a ∷ ms) (Action x ∷ ss) ks s end d c h e =
    let two = and_parts (if opens x then takes_one ss else true) (closes ss) c in
    let one : (if opens a then takes_one ss else true) ≡ true = subst (λ z. (if opens z then takes_one ss else true) ≡ true) (sym d.0) two.0 in
    before_end ms ss ks (nesting_act a s) end d.1 two.1 (λ z. acted_low a s (takes_one ss) (opens a) refl one z (h z)) e
before_end (Expand x k ∷ ms) [] ks s end d c h e = absurd d
before_end (Expand x k ∷ ms) (Terminal y ∷ ss) ks s end d c h e = absurd d
before_end (Expand x k ∷ ms) (Action y ∷ ss) ks s end d c h e = absurd d
before_end (Expand x k ∷ ms) (Nonterminal y ∷ ss) ks s end d c h e =
    by_way (λ z. Derives language_rules ms z (map class_of ks)) ss (at (grammar.row language_rules y) k) d.1 (λ right i f.
    let w = and_parts (closes right) (if has_token y then takes_one right else true) (part_passes is_closed_way language_rules language_is_closed y k right i) in
    before_end ms (right ++ ss) ks s end f (closes_append right ss w.0 c) (λ z. h (none (has_token y) (takes_one right) (takes_one ss) (takes_one (right ++ ss)) (takes_append right ss) w.1 z)) e)

-- ---- texts

pub map_length : {A B : Type 0} (f : A → B) (xs : List A) → length (map f xs) ≡ length xs
map_length f [] = refl
map_length f (x ∷ xs) = ap suc (map_length f xs)

pub names_are : (n : Names) (o : OwnNames) (c : ClosingNames) → n.own ≡ Some o → n.closing ≡ Some c → n ≡ record { own = Some o; closing = Some c }
names_are n o c e f = ap (λ z. record { own = z; closing = n.closing }) e ∙ ap (λ z. record { own = Some o; closing = z }) f

-- What the moves of a text do, which all watches pass.
pub fine : (ms : List Move) (ks : List TokenKind) → Derives language_rules ms (Nonterminal language_table.start ∷ []) (map class_of ks) → AllPass ms (map token ks) → Fine (doing ms ks)
fine ms ks d p =
    let e : shifts ms ≡ length ks = counted language_rules ms (Nonterminal language_table.start ∷ []) (map class_of ks) d ∙ map_length class_of ks in
    let low = before_end ms (Nonterminal language_table.start ∷ []) ks nesting.outset p.nesting.last d refl (λ z. omega arith) p.nesting.passes in
    record {
      own = p.own.last;
      closing = p.closing.last;
      named = names_are ((doing ms ks).names no_names) p.own.last p.closing.last (own_named ms ks no_names e ∙ p.own.passes) (closing_named ms ks no_names e ∙ p.closing.passes);
      shallow = subst (λ (z : Nesting). z.deepest ≤ 200) (sym (nested ms ks nesting.outset p.nesting.last p.nesting.passes)) low;
    }

row_kinds : (us : Row) → map token (map (λ (p : TokenKind × List ℕ). p.0) us) ≡ tokens us
row_kinds [] = refl
row_kinds ((k, blanks) ∷ us) = ap (λ z. token k ∷ z) (row_kinds us)

-- All watches pass a row of tokens where its moves lead to names that are known, and keep to the limit.
pub row_passes : (Z : Type 0) (ms : List Move) (ss : List Symbol) (us : Row) → Derives language_rules ms ss (classes_of (tokens us)) → FineWhere Z (doing ms (map (λ (p : TokenKind × List ℕ). p.0) us)) → PassWhere Z ms (tokens us)
row_passes Z ms ss us d f =
    let ks = map (λ (p : TokenKind × List ℕ). p.0) us in
    let e : shifts ms ≡ length ks = counted language_rules ms ss (classes_of (tokens us)) d ∙ map_length (λ (t : Token). class_of t.kind) (tokens us) ∙ ap length (sym (row_kinds us)) ∙ map_length token ks in
    subst (λ z. PassWhere Z ms z) (row_kinds us) (all_pass Z ms ks e f)
