-- What moves make is derived; and in a file the moves of an expression build the same operands as by themselves.
use Rattle.std.proofs.Common.{◌≡◌, ◌∙◌, sym, ap, refl, subst, ℕ, zero, suc, ◌+◌, nat_le, ◌==◌, if◌then◌else◌, Bool, true, false, ◌&&◌, ◌||◌, List, [], ◌∷◌, ◌++◌, Option, Some, None, option_map, arith}
use Rattle.std.specs.List.{list_all}
use Rattle.std.specs.Option.{option_or}
use Rattle.std.proofs.lemmas.Bool.{false≢true}
use Rattle.std.proofs.lemmas.List.Folds.{list_all-append}
use Rattle.ll_grammar.specs.Grammar.{Builder, Derives, MadeIsDerived, Rules, Stand, at, built, made, opening, row, spelled}
use Rattle.ll_grammar.specs.declared.form.Move.{Move}
use Rattle.ll_grammar.specs.declared.form.Move.TheVariants.{Shift, Expand, Act}
use Rattle.ll_grammar.specs.declared.form.Symbol.{Symbol}
use Rattle.ll_grammar.specs.declared.form.Symbol.TheVariants.{Terminal, Nonterminal, Action}
use Rattle.res_lexer.specs.declared.token.Token.{Token}
use Rattle.res_grammar.specs.Classes.{class_of, classes_of}
use Rattle.res_grammar.specs.Language.{language_rules}
use Rattle.res_grammar.specs.Numbers as n
use Rattle.expr_parser.specs.Built.{Stage, act_by, expressions}
use Rattle.expr_parser.specs.Marks.{expr_action}
use Rattle.expr_parser.specs.declared.action.ExprAction.{ExprAction}
use Rattle.expr_parser.specs.declared.operands.Operands.{Operands}
use Rattle.expr_parser.specs.Actions.{act}
use Rattle.module_parser.specs.Actions.{file_act}
use Rattle.module_parser.specs.Marks.{action_of}
use Rattle.module_parser.specs.Spelling as spelling
use Rattle.module_parser.specs.Spelling.{files}
use Rattle.module_parser.specs.declared.action.Action as file_action
use Rattle.module_parser.specs.declared.action.Action.TheVariants.{OfExpr}
use Rattle.module_parser.specs.declared.state.State.{State}

-- ---- what is made is derived

-- the same builder, of pairs
abbrev paired : Builder (Token × State) Token
paired = record {
  class = λ t. class_of t.kind;
  take = λ t s. (t, s.1);
  act = λ a s. (s.0, spelling.act_by a s.0 s.1);
}

abbrev pair : Stage State → Token × State
pair s = (s.last, s.state)

abbrev paired_stand : Stand (Stage State) Token → Stand (Token × State) Token
paired_stand z = record { stack = z.stack; left = z.left; state = pair z.state }

tested_alike : {A B : Type 0} (b : Bool) (f : A → B) (x : Option A) (y : Option B) → y ≡ option_map f x → (if b then y else None) ≡ option_map f (if b then x else None)
tested_alike true f x y e = e
tested_alike false f x y e = refl

opened_alike : {A B : Type 0} (f : Stand A Token → Stand B Token) (go : List Symbol → Option (Stand A Token)) (run : List Symbol → Option (Stand B Token)) (ss : List Symbol) (o : Option (List Symbol)) → ((zs : List Symbol) → run zs ≡ option_map f (go zs)) → opening run ss o ≡ option_map f (opening go ss o)
opened_alike f go run ss None h = refl
opened_alike f go run ss (Some right) h = h (right ++ ss)

made_alike : (g : Rules) (ms : List Move) (ss : List Symbol) (ts : List Token) (s : Stage State) → made g paired ms ss ts (pair s) ≡ option_map paired_stand (made g files ms ss ts s)
made_alike g [] ss ts s = refl
made_alike g (Shift ∷ ms) [] ts s = refl
made_alike g (Shift ∷ ms) (Nonterminal x ∷ ss) ts s = refl
made_alike g (Shift ∷ ms) (Action a ∷ ss) ts s = refl
made_alike g (Shift ∷ ms) (Terminal c ∷ ss) [] s = refl
made_alike g (Shift ∷ ms) (Terminal c ∷ ss) (t ∷ ts) s =
    tested_alike (c == class_of t.kind) paired_stand (made g files ms ss ts (files.take t s)) (made g paired ms ss ts (t, s.state)) (made_alike g ms ss ts (files.take t s))
made_alike g (Expand m k ∷ ms) [] ts s = refl
made_alike g (Expand m k ∷ ms) (Terminal c ∷ ss) ts s = refl
made_alike g (Expand m k ∷ ms) (Action a ∷ ss) ts s = refl
made_alike g (Expand m k ∷ ms) (Nonterminal x ∷ ss) ts s =
    tested_alike (m == x) paired_stand (opening (λ z. made g files ms z ts s) ss (at (row g x) k)) (opening (λ z. made g paired ms z ts (pair s)) ss (at (row g x) k)) (opened_alike paired_stand (λ z. made g files ms z ts s) (λ z. made g paired ms z ts (pair s)) ss (at (row g x) k) (λ zs. made_alike g ms zs ts s))
made_alike g (Act a ∷ ms) [] ts s = refl
made_alike g (Act a ∷ ms) (Terminal c ∷ ss) ts s = refl
made_alike g (Act a ∷ ms) (Nonterminal x ∷ ss) ts s = refl
made_alike g (Act a ∷ ms) (Action b ∷ ss) ts s =
    tested_alike (a == b) paired_stand (made g files ms ss ts (files.act a s)) (made g paired ms ss ts (s.last, spelling.act_by a s.last s.state)) (made_alike g ms ss ts (files.act a s))

built_alike : (ms : List Move) (ts : List Token) (s : Stage State) → built paired ms ts (pair s) ≡ pair (built files ms ts s)
built_alike [] ts s = refl
built_alike (Shift ∷ ms) [] s = built_alike ms [] s
built_alike (Shift ∷ ms) (t ∷ ts) s = built_alike ms ts (files.take t s)
built_alike (Expand m k ∷ ms) ts s = built_alike ms ts s
built_alike (Act a ∷ ms) ts s = built_alike ms ts (files.act a s)

-- Moves that were made to the end are a derivation, and built what they made.
pub files_derived : MadeIsDerived (Token × State) Token → (ms : List Move) (ss : List Symbol) (ts : List Token) (s end : Stage State) → made language_rules files ms ss ts s ≡ Some (record { stack = []; left = []; state = end }) → Derives language_rules ms ss (classes_of ts) × (built files ms ts s ≡ end)
files_derived law ms ss ts s end e =
    let d = law language_rules paired ms ss ts (pair s) (pair end) (made_alike language_rules ms ss ts s ∙ ap (λ z. option_map paired_stand z) e) in
    (d.0, ap (λ (z : Token × State). let f : Stage State = record { last = z.0; state = z.1 } in f) (sym (built_alike ms ts s) ∙ d.1))

-- ---- actions of expressions

-- An action builds expressions, or nothing.
abbrev of_expressions : Option ExprAction → Option file_action.Action → Bool
of_expressions (Some x) o = true
of_expressions None None = true
of_expressions None (Some x) = false

abbrev is_quiet : ℕ → Bool
is_quiet a = of_expressions (expr_action a) (action_of a)

quiet_by : (o : Option ExprAction) (rest : Option file_action.Action) (k : Token) (s : State) → of_expressions o (option_or (option_map OfExpr o) rest) ≡ true → (elim (option_or (option_map OfExpr o) rest) as (λ z. State) [ None ↦ s | Some x ↦ file_act x k s ]).operands ≡ elim o as (λ z. Operands) [ None ↦ s.operands | Some x ↦ act x k s.operands ]
quiet_by (Some x) rest k s q = refl
quiet_by None None k s q = refl
quiet_by None (Some x) k s q = absurd (false≢true q)

quiet_act : (a : ℕ) (k : Token) (s : State) → is_quiet a ≡ true → (spelling.act_by a k s).operands ≡ act_by a k s.operands
quiet_act a k s q = quiet_by (expr_action a) _ k s q

-- the parts that expressions are made of
abbrev in_expressions : ℕ → Bool
in_expressions x = (x == n.builtin_part) || (nat_le n.expressions_part x && nat_le x n.dot_rest_part) || (x == n.head_name_part)

abbrev fits : Symbol → Bool
fits (Terminal c) = true
fits (Nonterminal x) = in_expressions x
fits (Action a) = is_quiet a

abbrev way_fits : List Symbol → Bool
way_fits right = list_all fits right

-- the ways of these parts lead to such parts and actions alone
abbrev ways_fit : Bool → List (List Symbol) → Bool
ways_fit true ways = list_all way_fits ways
ways_fit false ways = true

abbrev rules_fit : ℕ → Rules → Bool
rules_fit x [] = true
rules_fit x (ways ∷ g) = ways_fit (in_expressions x) ways && rules_fit (x + 1) g

language_fits : rules_fit 0 language_rules ≡ true
unfolding language_rules
language_fits = refl

both : (a b : Bool) → (a && b) ≡ true → (a ≡ true) × (b ≡ true)
both true b h = (refl, h)
both false b h = absurd (false≢true h)

ways_of_fit : (g : Rules) (k x : ℕ) → rules_fit k g ≡ true → in_expressions (k + x) ≡ true → list_all way_fits (row g x) ≡ true
ways_of_fit [] k x h i = refl
ways_of_fit (ways ∷ g) k zero h i =
    let P : Bool → Type 0 = λ b. ways_fit b ways ≡ true in
    let Q : ℕ → Type 0 = λ z. in_expressions z ≡ true in
    subst P (subst Q (let f : k + 0 ≡ k = omega arith in f) i) (both (ways_fit (in_expressions k) ways) (rules_fit (k + 1) g) h).0
ways_of_fit (ways ∷ g) k (suc x) h i =
    let Q : ℕ → Type 0 = λ z. in_expressions z ≡ true in
    ways_of_fit g (k + 1) x (both (ways_fit (in_expressions k) ways) (rules_fit (k + 1) g) h).1 (subst Q (let f : k + suc x ≡ k + 1 + x = omega arith in f) i)

some_is : {A : Type 0} (x y : A) → Some x ≡ Some y → x ≡ y
some_is x y e = cc

at_fits : (ways : List (List Symbol)) (w : ℕ) (right : List Symbol) → list_all way_fits ways ≡ true → at ways w ≡ Some right → way_fits right ≡ true
at_fits [] w right h e = absurd (let f : None ≡ Some right = e in cc)
at_fits (way ∷ ways) zero right h e =
    let P : List Symbol → Type 0 = λ z. way_fits z ≡ true in
    subst P (some_is way right e) (both (way_fits way) (list_all way_fits ways) h).0
at_fits (way ∷ ways) (suc w) right h e = at_fits ways w right (both (way_fits way) (list_all way_fits ways) h).1 e

append_fits : (xs ys : List Symbol) → way_fits xs ≡ true → way_fits ys ≡ true → way_fits (xs ++ ys) ≡ true
append_fits xs ys h k = list_all-append fits xs ys ∙ ap (λ b. b && way_fits ys) h ∙ k

-- ---- what the moves of expressions build

abbrev Alike : List Move → List Token → Stage State → Type 0
Alike ms ts s = (built files ms ts s).state.operands ≡ (built expressions ms ts (record { last = s.last; state = s.state.operands })).state

spelled_alike : (ms : List Move) (ss : List Symbol) (w : List ℕ) (ts : List Token) (s : Stage State) (o : Option (List Symbol)) → ((right : List Symbol) → o ≡ Some right → way_fits right ≡ true) → ((zs : List Symbol) → Derives language_rules ms zs w → way_fits zs ≡ true → Alike ms ts s) → way_fits ss ≡ true → spelled (λ z. Derives language_rules ms z w) ss o → Alike ms ts s
spelled_alike ms ss w ts s None f h q d = absurd d
spelled_alike ms ss w ts s (Some right) f h q d = h (right ++ ss) d (append_fits right ss (f right refl) q)

pub operands_alike : (ms : List Move) (ss : List Symbol) (w : List ℕ) (ts : List Token) (s : Stage State) → Derives language_rules ms ss w → way_fits ss ≡ true → Alike ms ts s
operands_alike [] ss w ts s d q = refl
operands_alike (Shift ∷ ms) [] w ts s d q = absurd d
operands_alike (Shift ∷ ms) (Nonterminal x ∷ ss) w ts s d q = absurd d
operands_alike (Shift ∷ ms) (Action a ∷ ss) w ts s d q = absurd d
operands_alike (Shift ∷ ms) (Terminal c ∷ ss) [] ts s d q = absurd d
operands_alike (Shift ∷ ms) (Terminal c ∷ ss) (x ∷ w) [] s d q = operands_alike ms ss w [] s d.1 q
operands_alike (Shift ∷ ms) (Terminal c ∷ ss) (x ∷ w) (t ∷ ts) s d q = operands_alike ms ss w ts (files.take t s) d.1 q
operands_alike (Expand m k ∷ ms) [] w ts s d q = absurd d
operands_alike (Expand m k ∷ ms) (Terminal c ∷ ss) w ts s d q = absurd d
operands_alike (Expand m k ∷ ms) (Action a ∷ ss) w ts s d q = absurd d
operands_alike (Expand m k ∷ ms) (Nonterminal x ∷ ss) w ts s d q =
    let b = both (in_expressions x) (way_fits ss) q in
    spelled_alike ms ss w ts s (at (row language_rules x) k) (λ right e. at_fits (row language_rules x) k right (ways_of_fit language_rules 0 x language_fits (let P : ℕ → Type 0 = λ z. in_expressions z ≡ true in subst P (let f : x ≡ 0 + x = omega arith in f) b.0)) e) (λ zs c p. operands_alike ms zs w ts s c p) b.1 d.1
operands_alike (Act a ∷ ms) [] w ts s d q = absurd d
operands_alike (Act a ∷ ms) (Terminal c ∷ ss) w ts s d q = absurd d
operands_alike (Act a ∷ ms) (Nonterminal x ∷ ss) w ts s d q = absurd d
operands_alike (Act a ∷ ms) (Action x ∷ ss) w ts s d q =
    let b = both (is_quiet x) (way_fits ss) q in
    let P : ℕ → Type 0 = λ z. is_quiet z ≡ true in
    operands_alike ms ss w ts (files.act a s) d.1 b.1
    ∙ ap (λ z. (built expressions ms ts (record { last = s.last; state = z })).state) (quiet_act a s.last s.state (subst P (sym d.0) b.0))
