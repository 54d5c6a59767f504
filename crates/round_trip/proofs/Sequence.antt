-- A file's components, one behind the other: where what is read of each is printed, it is so of all of them.
use Rattle.std.proofs.Common.{false, ◌≡◌, ◌∙◌, refl, sym, ap, subst, ℕ, zero, suc, ◌+◌, ◌≤◌, ◌⊎◌, inl, inr, List, [], ◌∷◌, ◌++◌, map, append-nil, append_assoc, length, length-append, Option, Some, None, arith}
use Rattle.std.specs.List.{AllByRecursion}
use Rattle.ll_grammar.specs.Grammar.{Derives, at, built, shifts}
use Rattle.ll_grammar.specs.Grammar as grammar
use Rattle.ll_grammar.specs.declared.form.Move.{Move}
use Rattle.ll_grammar.specs.declared.form.Move.TheVariants.{Shift, Expand, Act}
use Rattle.ll_grammar.specs.declared.form.Symbol.{Symbol}
use Rattle.ll_grammar.specs.declared.form.Symbol.TheVariants.{Nonterminal, Action}
use Rattle.res_ast.specs.declared.component.Component.{Component}
use Rattle.res_lexer.specs.declared.token.TokenKind.{TokenKind}
use Rattle.res_grammar.specs.Classes.{class_of}
use Rattle.res_grammar.specs.Language.{language_rules, language_table}
use Rattle.res_grammar.specs.Nesting.{nesting, nesting_act}
use Rattle.res_grammar.specs.Numbers as number
use Rattle.res_grammar.specs.declared.nesting.Nesting.{Nesting}
use Rattle.expr_parser.specs.Built.{Stage, no_token}
use Rattle.module_parser.specs.Components.{add_component}
use Rattle.module_parser.specs.Spelling.{components_of, files}
use Rattle.module_parser.specs.Stacks.{outset}
use Rattle.module_parser.specs.declared.state.State.{State}
use Rattle.round_trip.specs.MinusZero.{has_minus_minus_zero}
use Rattle.round_trip.specs.ReadsBack.{token}
use Rattle.round_trip.proofs.Alone.{component_alone, known}
use Rattle.round_trip.proofs.Canonical.{Passing}
use Rattle.round_trip.proofs.Chains.{AllWritable}
use Rattle.round_trip.proofs.Depths.{Below, act_below}
use Rattle.round_trip.proofs.Derivations.{at_action, at_part, counted, doing_on, halves}
use Rattle.round_trip.proofs.Doing.{Doing, Names, did, doing, nothing_done, then}
use Rattle.round_trip.proofs.Files.{AllPrinted, Printed}
use Rattle.round_trip.proofs.MinusZero.{no_zero_on}
use Rattle.round_trip.proofs.Shallow.{fine, map_length, names_are}
use Rattle.round_trip.proofs.Steady.{Steady}
use Rattle.round_trip.proofs.Watching.{Fine, doing_steady, no_names}

-- ---- what is known of one component

-- the watches over names are at rest, out of a clause on a result
pub record Rests (n : Names) : Type 0 where
  pub last : Option (List ℕ)
  pub component : Option (List ℕ)
  pub operation : Option (List ℕ)
  pub is : n ≡ known last component operation None

-- What was done read a component, whatever stands before it, and that is printed where its own watches pass.
pub record OneRead (Z : Type 0) (m : Doing) : Type 0 where
  pub component : Component
  pub builds : (w : Stage State) → w.state.model ≡ [] → (m.build w).state ≡ add_component component w.state
  pub rests : (l c o : Option (List ℕ)) → Passing (m.names (known l c o None)) → Rests (m.names (known l c o None))
  pub printed : Fine m → Printed Z component

-- So it is of each that a derivation reads.
abbrev pub Reads : Type 0 → Type 0
Reads Z = (ms : List Move) (ks : List TokenKind) → Derives language_rules ms (Nonterminal number.component_part ∷ []) (map class_of ks) → AllWritable ks → (Z → has_minus_minus_zero ks ≡ false) → OneRead Z (doing ms ks)

-- ---- halves

writable_on : (ks js : List TokenKind) → AllWritable (ks ++ js) → AllWritable ks × AllWritable js
writable_on [] js h = (tt, h)
writable_on (k ∷ ks) js h = let r = writable_on ks js h.1 in ((h.0, r.0), r.1)

-- a watch that passes at the end has passed before
some_before : {A : Type 0} (f : Option A → Option A) (o : Option A) (y : A) → (o ≡ None → f o ≡ None) → f o ≡ Some y → (x : A) × (o ≡ Some x)
some_before f None y h e = absurd (let g : None ≡ Some y = sym (h refl) ∙ e in cc)
some_before f (Some x) y h e = (x, refl)

passing_before : (m : Doing) → Steady m → (n : Names) → Passing (m.names n) → Passing n
passing_before m s n h =
    let a = some_before (λ o. (m.names (record { own = o; closing = n.closing })).own) n.own h.own_names (λ e. s.own n e) h.own in
    let b = some_before (λ c. (m.names (record { own = n.own; closing = c })).closing) n.closing h.closing_names (λ e. s.closing n e) h.closing in
    record { own_names = a.0; closing_names = b.0; own = a.1; closing = b.1 }

passing_marked : (n : Names) → Passing ((did number.component_mark).names n) → Passing n
passing_marked n h =
    let a = some_before (λ o. ((did number.component_mark).names (record { own = o; closing = n.closing })).own) n.own h.own_names (λ e. ap (λ o. ((did number.component_mark).names (record { own = o; closing = n.closing })).own) e) h.own in
    let b = some_before (λ c. ((did number.component_mark).names (record { own = n.own; closing = c })).closing) n.closing h.closing_names (λ e. ap (λ c. ((did number.component_mark).names (record { own = n.own; closing = c })).closing) e) h.closing in
    record { own_names = a.0; closing_names = b.0; own = a.1; closing = b.1 }

-- ---- depths from the outset

pub from_outset : (s : Nesting) → Below nesting.outset s
from_outset s = record { depth = omega arith; deep = omega arith; deepest = omega arith; saved = tt; sound = omega arith; within = omega arith }

below_on : (ms : List Move) (ks : List TokenKind) (a b : Nesting) → Below a b → Below ((doing ms ks).nest a) ((doing ms ks).nest b)
below_on [] ks a b h = h
below_on (Shift ∷ ms) [] a b h = below_on ms [] a b h
below_on (Shift ∷ ms) (k ∷ ks) a b h = below_on ms ks a b h
below_on (Expand x w ∷ ms) ks a b h = below_on ms ks a b h
below_on (Act x ∷ ms) ks a b h = below_on ms ks (nesting_act x a) (nesting_act x b) (act_below x a b h)

-- a component's own watches pass, where they passed behind others
fine_alone : (ms : List Move) (ks : List TokenKind) (l c o : Option (List ℕ)) (s : Nesting) → Derives language_rules ms (Nonterminal number.component_part ∷ []) (map class_of ks) → Passing ((doing ms ks).names (known l c o None)) → ((doing ms ks).nest s).deepest ≤ 200 → Fine (doing ms ks)
fine_alone ms ks l c o s d h deep =
    let p = component_alone ms ks l c o d h in
    let b = below_on ms ks nesting.outset s (from_outset s) in
    let e : ((doing ms ks).nest nesting.outset).deepest ≤ ((doing ms ks).nest s).deepest = b.deepest in
    record { own = p.own_names; closing = p.closing_names; named = names_are ((doing ms ks).names no_names) p.own_names p.closing_names p.own p.closing; shallow = omega (arith, e, deep) }

-- ---- parts that are lists of components

abbrev items : List Symbol
items = Nonterminal number.component_part ∷ Action number.component_mark ∷ Nonterminal number.components_part ∷ []

-- Each way is a component and others behind it, or nothing.
abbrev IsList : ℕ → Type 0
IsList x = (k : ℕ) (right : List Symbol) → at (grammar.row language_rules x) k ≡ Some right → (right ≡ items) ⊎ (right ≡ [])

file_is : IsList language_table.start
unfolding language_rules language_table
file_is zero right e = inl (let f : Some items ≡ Some right = e in cc)
file_is (suc k) right e = absurd (let f : None ≡ Some right = e in cc)

components_are : IsList number.components_part
unfolding language_rules
components_are zero right e = inl (let f : Some items ≡ Some right = e in cc)
components_are (suc zero) right e = inr (let f : Some [] ≡ Some right = e in cc)
components_are (suc (suc k)) right e = absurd (let f : None ≡ Some right = e in cc)

-- ---- what is built and printed

pub record Made (Z : Type 0) (m : Doing) (w : Stage State) : Type 0 where
  pub components : List Component
  pub builds : (m.build w).state ≡ record w.state { components = w.state.components ++ components }
  pub printed : AllByRecursion (Printed Z) components

none_left : (ms : List Move) (ks : List TokenKind) → Derives language_rules ms [] (map class_of ks) → doing ms ks ≡ nothing_done
none_left [] ks d = refl
none_left (Shift ∷ ms) ks d = absurd d
none_left (Expand x w ∷ ms) ks d = absurd d
none_left (Act a ∷ ms) ks d = absurd d

nothing_made : (Z : Type 0) (w : Stage State) → Made Z nothing_done w
nothing_made Z w = record { components = []; builds = ap (λ z. record w.state { components = z }) (sym (append-nil w.state.components)); printed = tt }

one_more : (Z : Type 0) (a b : Doing) (w : Stage State) (c : Component) → (a.build w).state ≡ add_component c w.state → Printed Z c → Made Z b ((did number.component_mark).build (a.build w)) → Made Z ((then) a ((then) (did number.component_mark) b)) w
one_more Z a b w c e p m = record {
  components = c ∷ m.components;
  builds = m.builds
      ∙ ap (λ (z : State). record z { components = z.components ++ m.components }) e
      ∙ ap (λ z. record w.state { components = z }) (append_assoc w.state.components (c ∷ []) m.components);
  printed = (p, m.printed);
}

-- ---- all components

-- What is to be shown of a list that is read, from any stage, names and depths that are passed.
abbrev Sequence : Type 0 → List Move → List TokenKind → Type 0
Sequence Z ms ks = (w : Stage State) → w.state.model ≡ [] → (l c o : Option (List ℕ)) → Passing ((doing ms ks).names (known l c o None)) → (s : Nesting) → ((doing ms ks).nest s).deepest ≤ 200 → Made Z (doing ms ks) w

-- a component, and others behind it
behind : (Z : Type 0) (ms ns : List Move) (js ks : List TokenKind) → Derives language_rules ms (Nonterminal number.component_part ∷ []) (map class_of js) → OneRead Z (doing ms js) → Sequence Z ns ks → (m : Doing) → m ≡ (then) (doing ms js) ((then) (did number.component_mark) (doing ns ks)) → (w : Stage State) → w.state.model ≡ [] → (l c o : Option (List ℕ)) → Passing (m.names (known l c o None)) → (s : Nesting) → (m.nest s).deepest ≤ 200 → Made Z m w
behind Z ms ns js ks d r f m e w clean l c o h s deep =
    let a = doing ms js in
    let b = doing ns ks in
    let both = (then) a ((then) (did number.component_mark) b) in
    let h2 : Passing (b.names ((did number.component_mark).names (a.names (known l c o None)))) = subst (λ (z : Doing). Passing (z.names (known l c o None))) e h in
    let deep2 : (b.nest ((did number.component_mark).nest (a.nest s))).deepest ≤ 200 = subst (λ (z : Doing). (z.nest s).deepest ≤ 200) e deep in
    let first : Passing (a.names (known l c o None)) = passing_marked (a.names (known l c o None)) (passing_before b (doing_steady ns ks) ((did number.component_mark).names (a.names (known l c o None))) h2) in
    let rest = r.rests l c o first in
    let grows : (a.nest s).deepest ≤ (b.nest (a.nest s)).deepest = (doing_steady ns ks).grows (a.nest s) in
    let low : (a.nest s).deepest ≤ 200 = omega (arith, grows, deep2) in
    let v = (did number.component_mark).build (a.build w) in
    let made = r.builds w clean in
    let later = f v (ap (λ (z : State). z.model) made ∙ clean) rest.last rest.component rest.operation (subst (λ z. Passing (b.names ((did number.component_mark).names z))) rest.is h2) (a.nest s) deep2 in
    subst (λ z. Made Z z w) (sym e) (one_more Z a b w r.component made (r.printed (fine_alone ms js l c o s d first low)) later)

-- lists that are shorter
abbrev Shorter : Type 0 → ℕ → Type 0
Shorter Z n = (ms : List Move) (ks : List TokenKind) → length ms ≤ n → Derives language_rules ms (Nonterminal number.components_part ∷ []) (map class_of ks) → AllWritable ks → (Z → has_minus_minus_zero ks ≡ false) → Sequence Z ms ks

by_ways : (Z : Type 0) → Reads Z → (n : ℕ) → Shorter Z n → (ms : List Move) (ks : List TokenKind) → length ms ≤ n → AllWritable ks → (Z → has_minus_minus_zero ks ≡ false) → (right : List Symbol) → (right ≡ items) ⊎ (right ≡ []) → Derives language_rules ms (right ++ []) (map class_of ks) → Sequence Z ms ks
by_ways Z reads n shorter ms ks fewer w z right (inr e) d =
    let none = none_left ms ks (subst (λ y. Derives language_rules ms (y ++ []) (map class_of ks)) e d) in
    λ v clean l c o h s deep. subst (λ y. Made Z y v) (sym none) (nothing_made Z v)
by_ways Z reads n shorter ms ks fewer w z right (inl e) d =
    let h = halves language_rules (Nonterminal number.component_part ∷ []) (Action number.component_mark ∷ Nonterminal number.components_part ∷ []) ms ks (subst (λ y. Derives language_rules ms (y ++ []) (map class_of ks)) e d) in
    let b = at_action language_rules number.component_mark (Nonterminal number.components_part ∷ []) h.second (map class_of h.back) h.rest in
    let taken : shifts h.first ≡ length h.front = counted language_rules h.first (Nonterminal number.component_part ∷ []) (map class_of h.front) h.derives ∙ map_length class_of h.front in
    let written = writable_on h.front h.back (subst (λ y. AllWritable y) h.kinds w) in
    let careful : Z → (has_minus_minus_zero h.front ≡ false) × (has_minus_minus_zero h.back ≡ false) = λ y. no_zero_on h.front h.back (sym (ap has_minus_minus_zero h.kinds) ∙ z y) in
    let done : doing ms ks ≡ (then) (doing h.first h.front) ((then) (did number.component_mark) (doing b.later h.back)) =
    ap (λ y. doing y ks) h.moves
    ∙ ap (λ y. doing (h.first ++ h.second) y) h.kinds
    ∙ doing_on h.first h.second h.front h.back taken
    ∙ ap (λ y. (then) (doing h.first h.front) (doing y h.back)) b.moves in
    let long : length ms ≡ length h.first + length h.second = ap length h.moves ∙ length-append h.first h.second in
    let longer : length h.second ≡ length (Act number.component_mark ∷ b.later) = ap length b.moves in
    let less : length b.later ≤ n = omega (arith, long, longer) in
    behind Z h.first b.later h.front h.back h.derives (reads h.first h.front h.derives written.0 (λ y. (careful y).0))
    (shorter b.later h.back less b.derives written.1 (λ y. (careful y).1)) (doing ms ks) done

list_made : (Z : Type 0) → Reads Z → (n x : ℕ) → IsList x → (ms : List Move) (ks : List TokenKind) → length ms ≤ n → Derives language_rules ms (Nonterminal x ∷ []) (map class_of ks) → AllWritable ks → (Z → has_minus_minus_zero ks ≡ false) → Sequence Z ms ks
list_made Z reads zero x is ms ks fewer d w z =
    let a = at_part language_rules x [] ms (map class_of ks) d in
    let long : length ms ≡ length (Expand x a.way ∷ a.later) = ap length a.moves in
    absurd (omega (arith, long))
list_made Z reads (suc n) x is ms ks fewer d w z =
    let a = at_part language_rules x [] ms (map class_of ks) d in
    let long : length ms ≡ length (Expand x a.way ∷ a.later) = ap length a.moves in
    let less : length a.later ≤ n = omega (arith, long) in
    let later = by_ways Z reads n (list_made Z reads n number.components_part components_are) a.later ks less w z a.right (is a.way a.right a.spells) a.derives in
    subst (λ y. Sequence Z y ks) (sym a.moves) later

-- ---- files

doing_builds : (ms : List Move) (ks : List TokenKind) (s : Stage State) → (doing ms ks).build s ≡ built files ms (map token ks) s
doing_builds [] ks s = refl
doing_builds (Shift ∷ ms) [] s = doing_builds ms [] s
doing_builds (Shift ∷ ms) (k ∷ ks) s = doing_builds ms ks (files.take (token k) s)
doing_builds (Expand x w ∷ ms) ks s = doing_builds ms ks s
doing_builds (Act a ∷ ms) ks s = doing_builds ms ks (files.act a s)

-- All components that a text spells are printed, where each that is read is.
pub all_printed : ((Z : Type 0) → Reads Z) → AllPrinted
all_printed reads Z ms ks d w z p =
    let f = fine ms ks d p in
    let start : Stage State = record { last = no_token; state = outset } in
    let passing : Passing ((doing ms ks).names no_names) = record { own_names = f.own; closing_names = f.closing; own = ap (λ (n : Names). n.own) f.named; closing = ap (λ (n : Names). n.closing) f.named } in
    let m = list_made Z (reads Z) (length ms) language_table.start file_is ms ks (omega arith) d w z start refl None None None passing nesting.outset f.shallow in
    let e : m.components ≡ components_of ms (map token ks) = sym (ap (λ (s : State). s.components) m.builds) ∙ ap (λ (s : Stage State). s.state.components) (doing_builds ms ks start) in
    subst (λ cs. AllByRecursion (Printed Z) cs) e m.printed
