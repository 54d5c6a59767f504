-- A component whose canonical text is derived and built is read back from it as a file.
use Rattle.std.proofs.Common.{false, ◌≡◌, ◌∙◌, refl, sym, ap, subst, ℕ, suc, ℤ, ◌+◌, ◌-◌, ◌≤◌, List, [], ◌∷◌, ◌++◌, map, append-nil, length, take, drop, Option, Some, None, arith}
use Rattle.std.specs.List.{AllByRecursion}
use Rattle.std.specs.Prelude.{IsTrue}
use Rattle.std.proofs.lemmas.Option.{slice_get_within}
use Rattle.ll_grammar.specs.Grammar.{Derives, at, built, spelled}
use Rattle.ll_grammar.specs.Grammar as grammar
use Rattle.ll_grammar.specs.Texts.{Read}
use Rattle.ll_grammar.specs.Watch.{Passes, Watch, watched, and_then}
use Rattle.ll_grammar.specs.declared.form.Move.{Move}
use Rattle.ll_grammar.specs.declared.form.Move.TheVariants.{Shift, Expand, Act}
use Rattle.ll_grammar.specs.declared.form.Symbol.{Symbol}
use Rattle.ll_grammar.specs.declared.form.Symbol.TheVariants.{Nonterminal, Action}
use Rattle.res_ast.specs.declared.component.Component.{Component}
use Rattle.res_lexer.specs.declared.token.Token.{Token}
use Rattle.res_lexer.specs.declared.token.TokenKind.{TokenKind}
use Rattle.res_lexer.specs.declared.token.TokenKind.TheVariants as kind
use Rattle.identifiers.specs.Identifiers.{is_identifier}
use Rattle.res_lexer.specs.Pieces.{most_name_bytes, symbols}
use Rattle.res_lexer.specs.Spaced.{AreApart, IsWritable, Row, placed_from, spaced, text_of}
use Rattle.res_lexer.specs.Tokens.{AreTokens, Lie, Means}
use Rattle.res_grammar.specs.Classes.{class_of, classes_of}
use Rattle.res_grammar.specs.ClosingName.{closing}
use Rattle.res_grammar.specs.Faults.{AllPass}
use Rattle.res_grammar.specs.Language.{language_rules, language_table}
use Rattle.res_grammar.specs.Nesting.{nesting}
use Rattle.res_grammar.specs.Numbers as number
use Rattle.res_grammar.specs.OwnName.{own}
use Rattle.expr_parser.specs.Actions.{first_or, others}
use Rattle.expr_parser.specs.Built.{Stage, no_token}
use Rattle.module_parser.specs.Spelling.{Spells, components_of, files}
use Rattle.module_parser.specs.Stacks.{outset}
use Rattle.module_parser.specs.declared.state.State.{State}
use Rattle.res_printer.specs.Components.{canonical}
use Rattle.round_trip.specs.MinusZero.{has_minus_minus_zero}
use Rattle.round_trip.specs.ReadsBack.{PassWhere, ReadsBackAs, ReadsBackWhere, token, tokens}
use Rattle.round_trip.specs.Unplaced.{unplaced_component}
use Rattle.round_trip.proofs.Chains.{AllWritable}
use Rattle.round_trip.proofs.Derivations.{applies, built_on, counted, derives_on, watched_on}
use Rattle.round_trip.proofs.Places.{bare_token, components_bare}
use Rattle.round_trip.proofs.Printing.{canonical_kept}

-- ---- what is taken from others

-- The canonical text of a component is derived and built, over tokens at place 0.
pub record Printed (Z : Type 0) (c : Component) : Type 0 where
  pub row : Row
  pub moves : List Move
  pub text : canonical c ≡ spaced row
  pub apart : AreApart row
  pub derives : Derives language_rules moves (Nonterminal number.component_part ∷ []) (classes_of (tokens row))
  pub builds : components_of moves (tokens row) ≡ c ∷ []
  pub passes : PassWhere Z moves (tokens row)

-- So it is of all that a text builds.
abbrev pub AllPrinted : Type 1
AllPrinted = (Z : Type 0) (ms : List Move) (ks : List TokenKind) → Derives language_rules ms (Nonterminal language_table.start ∷ []) (map class_of ks) → AllWritable ks → (Z → has_minus_minus_zero ks ≡ false) → AllPass ms (map token ks) → AllByRecursion (Printed Z) (components_of ms (map token ks))

-- laws of other crates
pub record Laws : Type 0 where
  pub lie : (bytes : List ℕ) (ts : List Token) → AreTokens bytes ts → Lie bytes 0 ts
  pub back : (row : Row) → AreApart row → AreTokens (spaced row) (placed_from 0 row)
  pub one : (ms : List Move) (words : List ℕ) → Derives language_rules ms (Nonterminal language_table.start ∷ []) words → Read language_rules language_table.start words ms

-- ---- values that are there

no_item : {A : Type 0} (x : A) (xs : List A) → [] ≡ x ∷ xs → ⊥
no_item x xs e = cc

-- ---- kinds of tokens

abbrev kinds : List Token → List TokenKind
kinds ts = map (λ (t : Token). t.kind) ts

kinds_bare : (ts : List Token) → map token (kinds ts) ≡ map bare_token ts
kinds_bare [] = refl
kinds_bare (t ∷ ts) = ap (λ z. token t.kind ∷ z) (kinds_bare ts)

kinds_classes : (ts : List Token) → map class_of (kinds ts) ≡ classes_of ts
kinds_classes [] = refl
kinds_classes (t ∷ ts) = ap (λ z. class_of t.kind ∷ z) (kinds_classes ts)

bare_classes : (ts : List Token) → classes_of (map bare_token ts) ≡ classes_of ts
bare_classes [] = refl
bare_classes (t ∷ ts) = ap (λ z. class_of t.kind ∷ z) (bare_classes ts)

placed_bare : (place : ℕ) (row : Row) → map bare_token (placed_from place row) ≡ tokens row
placed_bare place [] = refl
placed_bare place ((k, blanks) ∷ row) = ap (λ z. token k ∷ z) (placed_bare (place + length (text_of k) + length blanks) row)

-- ---- watches do not see places

watched_shift : {M : Type 0} (o : Option M) (f g : M → Option M) → ((m : M) → f m ≡ g m) → and_then o f ≡ and_then o g
watched_shift None f g h = refl
watched_shift (Some m) f g h = h m

pub watched_bare : {M : Type 0} (w : Watch M Token) → ((t : Token) (m : M) → w.shift (bare_token t) m ≡ w.shift t m) → (ms : List Move) (ts : List Token) (m : M) → watched w ms (map bare_token ts) m ≡ watched w ms ts m
watched_bare w h [] [] m = refl
watched_bare w h [] (t ∷ ts) m = refl
watched_bare w h (Shift ∷ ms) [] m = refl
watched_bare w h (Shift ∷ ms) (t ∷ ts) m =
    ap (λ o. and_then o (watched w ms (map bare_token ts))) (h t m) ∙ watched_shift (w.shift t m) (watched w ms (map bare_token ts)) (watched w ms ts) (watched_bare w h ms ts)
watched_bare w h (Expand x k ∷ ms) ts m = watched_bare w h ms ts m
watched_bare w h (Act a ∷ ms) ts m = watched_bare w h ms ts (w.act a m)

passes_bare : {M : Type 0} (w : Watch M Token) → ((t : Token) (m : M) → w.shift (bare_token t) m ≡ w.shift t m) → (ms : List Move) (ts : List Token) → Passes M Token w ms ts → Passes M Token w ms (map bare_token ts)
passes_bare w h ms ts p = record { last = p.last; passes = watched_bare w h ms ts w.outset ∙ p.passes }

pub pass_bare : (ms : List Move) (ts : List Token) → AllPass ms ts → AllPass ms (map bare_token ts)
pass_bare ms ts p = record {
  own = passes_bare own (λ t m. refl) ms ts p.own;
  nesting = passes_bare nesting (λ t m. refl) ms ts p.nesting;
  closing = passes_bare closing (λ t m. refl) ms ts p.closing;
}

passes_placed : {M : Type 0} (w : Watch M Token) → ((t : Token) (m : M) → w.shift (bare_token t) m ≡ w.shift t m) → (ms : List Move) (ts : List Token) → Passes M Token w ms (map bare_token ts) → Passes M Token w ms ts
passes_placed w h ms ts p = record { last = p.last; passes = sym (watched_bare w h ms ts w.outset) ∙ p.passes }

pass_placed : (Z : Type 0) (ms : List Move) (ts : List Token) → PassWhere Z ms (map bare_token ts) → PassWhere Z ms ts
pass_placed Z ms ts p = record {
  own = passes_placed own (λ t m. refl) ms ts p.own;
  nesting = λ z. passes_placed nesting (λ t m. refl) ms ts (p.nesting z);
  closing = passes_placed closing (λ t m. refl) ms ts p.closing;
}

-- ---- a file of one component

abbrev behind : List Move
behind = Act number.component_mark ∷ Expand number.components_part 1 ∷ []

abbrev of_file : List Move → List Move
of_file ms = Expand number.file_part 0 ∷ (ms ++ behind)

file_start : number.file_part ≡ language_table.start
unfolding language_table
file_start = refl

file_way : at (grammar.row language_rules language_table.start) 0 ≡ Some (Nonterminal number.component_part ∷ Action number.component_mark ∷ Nonterminal number.components_part ∷ [])
unfolding language_rules language_table
file_way = refl

no_more_way : at (grammar.row language_rules number.components_part) 1 ≡ Some []
unfolding language_rules
no_more_way = refl

file_derives : (ms : List Move) (w : List ℕ) → Derives language_rules ms (Nonterminal number.component_part ∷ []) w → Derives language_rules (of_file ms) (Nonterminal language_table.start ∷ []) w
file_derives ms w d =
    let D : List Symbol → Type 0 = λ s. Derives language_rules (ms ++ behind) s w in
    let P : List ℕ → Type 0 = λ z. Derives language_rules (ms ++ behind) (Nonterminal number.component_part ∷ Action number.component_mark ∷ Nonterminal number.components_part ∷ []) z in
    let e = applies (λ s. Derives language_rules [] s []) [] (at (grammar.row language_rules number.components_part) 1) [] no_more_way tt in (
      file_start,
      applies D [] (at (grammar.row language_rules language_table.start) 0) (Nonterminal number.component_part ∷ Action number.component_mark ∷ Nonterminal number.components_part ∷ []) file_way
          (subst P (append-nil w) (derives_on language_rules ms behind (Nonterminal number.component_part ∷ []) (Action number.component_mark ∷ Nonterminal number.components_part ∷ []) w [] d (refl, (refl, e)))),
    )

classes_length : (ts : List Token) → length (classes_of ts) ≡ length ts
classes_length [] = refl
classes_length (t ∷ ts) = ap suc (classes_length ts)

abbrev start : Stage State
start = record { last = no_token; state = outset }

file_builds : (Z : Type 0) (c : Component) (p : Printed Z c) → components_of (of_file p.moves) (tokens p.row) ≡ c ∷ []
file_builds Z c p =
    ap (λ (z : Stage State). z.state.components) (built_on files p.moves behind (tokens p.row) start (counted language_rules p.moves (Nonterminal number.component_part ∷ []) (classes_of (tokens p.row)) p.derives ∙ classes_length (tokens p.row)))
    ∙ p.builds

passes_on : {M : Type 0} (w : Watch M Token) (ms : List Move) (ts : List Token) → Passes M Token w ms ts → Passes M Token w (of_file ms) ts
passes_on w ms ts p = record { last = w.act number.component_mark p.last; passes = watched_on w ms behind ts w.outset p.last p.passes }

file_passes : (Z : Type 0) (ms : List Move) (ts : List Token) → PassWhere Z ms ts → PassWhere Z (of_file ms) ts
file_passes Z ms ts p = record { own = passes_on own ms ts p.own; nesting = λ z. passes_on nesting ms ts (p.nesting z); closing = passes_on closing ms ts p.closing }

-- ---- what is read again

record One (xs : List Component) (y : Component) : Type 0 where
  item : Component
  is : xs ≡ item ∷ []
  same : unplaced_component item ≡ y

one_item : (xs : List Component) (y : Component) → map unplaced_component xs ≡ y ∷ [] → One xs y
one_item [] y e = absurd (no_item y [] e)
one_item (x ∷ []) y e = record { item = x; is = refl; same = ap (first_or y) e }
one_item (x ∷ z ∷ xs) y e = absurd (no_item (unplaced_component z) (map unplaced_component xs) (sym (ap others e)))

read_back : Laws → (Z : Type 0) (c : Component) → Printed Z (unplaced_component c) → ReadsBackWhere Z c
read_back law Z c p =
    let ms = of_file p.moves in
    let ts = placed_from 0 p.row in
    let same = placed_bare 0 p.row in
    let D : List ℕ → Type 0 = λ w. Derives language_rules ms (Nonterminal language_table.start ∷ []) w in
    let W : List Token → Type 0 = λ us. PassWhere Z ms us in
    let T : List ℕ → Type 0 = λ bytes. AreTokens bytes ts in
    let derives = subst D (ap classes_of (sym same) ∙ bare_classes ts) (file_derives p.moves (classes_of (tokens p.row)) p.derives) in
    let one = one_item (components_of ms ts) (unplaced_component c) (components_bare ms ts ∙ ap (components_of ms) same ∙ file_builds Z (unplaced_component c) p) in
    record {
      again = one.item;
      tokens = ts;
      are = subst T (sym p.text ∙ canonical_kept c) (law.back p.row p.apart);
      moves = ms;
      read = law.one ms (classes_of ts) derives;
      pass = pass_placed Z ms ts (subst W (sym same) (file_passes Z p.moves (tokens p.row) p.passes));
      builds = sym one.is;
      same = one.same;
    }

all_read_back : Laws → (Z : Type 0) (cs : List Component) → AllByRecursion (Printed Z) (map unplaced_component cs) → AllByRecursion (ReadsBackWhere Z) cs
all_read_back law Z [] p = tt
all_read_back law Z (c ∷ cs) p = (read_back law Z c p.0, all_read_back law Z cs p.1)

-- With the limit on nesting it is a file.
as_file : (Z : Type 0) (c : Component) → Z → ReadsBackWhere Z c → ReadsBackAs c
as_file Z c z r = record {
  again = r.again;
  spells = record {
    tokens = r.tokens;
    are = r.are;
    spelled = record {
      moves = r.moves;
      text = record { read = r.read; pass = record { own = r.pass.own; nesting = r.pass.nesting z; closing = r.pass.closing } };
      builds = r.builds;
    };
  };
  same = r.same;
}

pub all_files : (Z : Type 0) (cs : List Component) → Z → AllByRecursion (ReadsBackWhere Z) cs → AllByRecursion ReadsBackAs cs
all_files Z [] z h = tt
all_files Z (c ∷ cs) z h = (as_file Z c z h.0, all_files Z cs z h.1)

-- ---- tokens of a text

writable : (k : TokenKind) (text : List ℕ) → Means k text → IsWritable k
writable (kind.Word name) text m =
    let P : List ℕ → Type 0 = λ z. IsTrue (is_identifier z) × (length z ≤ most_name_bytes) in
    subst P (sym m.1) (m.0, m.2)
writable (kind.Literal n) text m =
    let P : ℤ → Type 0 = λ z. IsWritable (kind.Literal z) in
    subst P (sym m.1) m.2
writable (kind.Symbol k) text m =
    let l = slice_get_within symbols (k - 1) text m.1 in
    (m.0, omega arith)

all_writable : (bytes : List ℕ) (from : ℕ) (ts : List Token) → Lie bytes from ts → AllWritable (kinds ts)
all_writable bytes from [] l = tt
all_writable bytes from (t ∷ ts) l = (writable t.kind (take t.len (drop t.at bytes)) l.3, all_writable bytes (t.at + t.len) ts l.4)

pub printed_back : Laws → AllPrinted → (bytes : List ℕ) (cs : List Component) (s : Spells bytes cs) → AllByRecursion (ReadsBackWhere (has_minus_minus_zero (kinds s.tokens) ≡ false)) cs
printed_back law all bytes cs s =
    let ts = s.tokens in
    let ms = s.spelled.moves in
    let Z = has_minus_minus_zero (kinds ts) ≡ false in
    let D : List ℕ → Type 0 = λ w. Derives language_rules ms (Nonterminal language_table.start ∷ []) w in
    let W : List Token → Type 0 = λ us. AllPass ms us in
    let C : List Component → Type 0 = λ ds. AllByRecursion (Printed Z) ds in
    let p = all Z ms (kinds ts) (subst D (sym (kinds_classes ts)) s.spelled.text.read.derives) (all_writable bytes 0 ts (law.lie bytes ts s.are)) (λ z. z) (subst W (sym (kinds_bare ts)) (pass_bare ms ts s.spelled.text.pass)) in
    let e = ap (components_of ms) (kinds_bare ts) ∙ sym (components_bare ms ts) ∙ ap (map unplaced_component) (sym s.spelled.builds) in
    all_read_back law Z cs (subst C e p)
