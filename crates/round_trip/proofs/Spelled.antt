-- Each well-formed expression is derived from its canonical text, and built again, places aside.
use Rattle.std.proofs.Common.{◌≡◌, ◌∙◌, sym, ap, refl, subst, ℕ, suc, nat_le, eqb, pos, negsuc, Bool, true, false, ◌&&◌, if◌then◌else◌, List, [], ◌∷◌, Option, Some, None, map, codes, length}
use Rattle.std.proofs.lemmas.Bool.{eqb-true, false≢true, leb-true}
use Rattle.identifiers.specs.Identifiers.{is_identifier}
use Rattle.res_ast.specs.declared.expression.Expr.{Expr}
use Rattle.res_ast.specs.declared.expression.Form.{Form}
use Rattle.res_ast.specs.declared.expression.Form.TheOpen.{Form-F, Expr-F}
use Rattle.res_ast.specs.declared.expression.Form.TheViews.{roll-Expr, roll-Form}
use Rattle.res_ast.specs.declared.expression.Form.TheFolds.{map-Form, ind-Expr, fold-roll-Expr, fold-roll-Form}
use Rattle.res_lexer.specs.Pieces.{greatest_literal, most_name_bytes}
use Rattle.res_grammar.specs.Classes.{class_of_word}
use Rattle.res_grammar.specs.Numbers as n
use Rattle.expr_parser.specs.Actions.{expression}
use Rattle.res_printer.specs.Pieces.{qualified, row}
use Rattle.res_printer.specs.Expressions.{Written, arguments, expr_step, form_step, operand, written, written_form}
use Rattle.round_trip.specs.WellFormed.{all, are_one, are_three, are_two_or_more, call_is_well_formed, callable, is_name, same, unplaced, unplaced_form, unplaced_step, well_formed, well_formed_expr_step, well_formed_form, well_formed_step}
use Rattle.round_trip.proofs.Arguments.{Item, exprs_of, written_of}
use Rattle.round_trip.proofs.Signs.{IsName, Spelled, minus_spelled}
use Rattle.round_trip.proofs.Calls.{IsBuiltIn, at_end_built_in, read_built_in, remaining_built_in, swap_entry_built_in, write_built_in}
use Rattle.round_trip.proofs.Words.{and_left, and_right}
use Rattle.round_trip.proofs.Forms.{bars_spelled, binary_spelled, built_in_spelled, call_spelled, dot_spelled, empty_spelled, facility_built_in_spelled, facility_call_spelled, false_spelled, initial_spelled, int_spelled, max_int_spelled, min_int_spelled, negative_spelled, not_spelled, old_dot_spelled, old_spelled, prt_btwn_spelled, reverse_spelled, single_spelled, true_spelled, tuple_spelled, word_spelled}

-- ---- tests

name_is : (name : List ℕ) → is_name name ≡ true → IsName name
name_is name h =
    let rest = and_right (eqb (class_of_word name) n.id) (is_identifier name && nat_le (length name) most_name_bytes) h in
    record {
      class = eqb-true (class_of_word name) n.id (and_left (eqb (class_of_word name) n.id) (is_identifier name && nat_le (length name) most_name_bytes) h);
      writable = (and_left (is_identifier name) (nat_le (length name) most_name_bytes) rest, leb-true (length name) most_name_bytes (and_right (is_identifier name) (nat_le (length name) most_name_bytes) rest));
    }

same_is : (a b : List ℕ) → same a b ≡ true → a ≡ b
same_is [] [] h = refl
same_is (x ∷ xs) (y ∷ ys) h =
    ap (λ z. z ∷ xs) (eqb-true x y (and_left (eqb x y) (same xs ys) h)) ∙ ap (λ z. y ∷ z) (same_is xs ys (and_right (eqb x y) (same xs ys) h))
same_is [] (y ∷ ys) h = absurd (false≢true h)
same_is (x ∷ xs) [] h = absurd (false≢true h)

-- ---- lists

-- It is spelled, however deep that leads.
pub record SpelledSo (w : Written) (x : Expr) : Type 0 where
  pub depth : ℕ
  pub heads : List (List ℕ)
  pub spelled : Spelled w x depth heads

abbrev so : {w : Written} {x : Expr} {d : ℕ} {heads : List (List ℕ)} → Spelled w x d heads → SpelledSo w x
so {w} {x} {d} {heads} s = record { depth = d; heads = heads; spelled = s }

-- an expression of which it is known
abbrev Known : Expr → Type 0
Known x = well_formed x ≡ true → SpelledSo (written x) (unplaced x)

abbrev Done : Type 0
Done = (x : Expr) × Known x

abbrev inner : List Done → List Expr
inner es = map (λ (e : Done). e.0) es

abbrev item : (e : Done) → well_formed e.0 ≡ true → Item
item e h = let s = e.1 h in record { written = written e.0; expr = unplaced e.0; depth = s.depth; heads = s.heads; spelled = s.spelled }

abbrev items : (es : List Done) → all (map well_formed (inner es)) ≡ true → List Item
items [] h = []
items (e ∷ es) h = item e (and_left (well_formed e.0) (all (map well_formed (inner es))) h) ∷ items es (and_right (well_formed e.0) (all (map well_formed (inner es))) h)

items_written : (es : List Done) (h : all (map well_formed (inner es)) ≡ true) → written_of (items es h) ≡ map written (inner es)
items_written [] h = refl
items_written (e ∷ es) h = ap (λ z. written e.0 ∷ z) (items_written es (and_right (well_formed e.0) (all (map well_formed (inner es))) h))

items_exprs : (es : List Done) (h : all (map well_formed (inner es)) ≡ true) → exprs_of (items es h) ≡ map unplaced (inner es)
items_exprs [] h = refl
items_exprs (e ∷ es) h = ap (λ z. unplaced e.0 ∷ z) (items_exprs es (and_right (well_formed e.0) (all (map well_formed (inner es))) h))

-- ---- calls

abbrev Called : Option (List ℕ) → List ℕ → List Done → Type 0
Called facility name es = SpelledSo (operand (row (qualified facility name ∷ arguments (map written (inner es)) ∷ []))) (expression 0 (roll-Form (Form-F.Call facility name (map unplaced (inner es)))))

abbrev IsCalled : Option (List ℕ) → List ℕ → List Item → Type 0
IsCalled facility name es = SpelledSo (operand (row (qualified facility name ∷ arguments (written_of es) ∷ []))) (expression 0 (roll-Form (Form-F.Call facility name (exprs_of es))))

called : (facility : Option (List ℕ)) (name : List ℕ) (es : List Done) (h : all (map well_formed (inner es)) ≡ true) → IsCalled facility name (items es h) → Called facility name es
called facility name es h o =
    let P : List Written → Type 0 = λ z. SpelledSo (operand (row (qualified facility name ∷ arguments z ∷ []))) (expression 0 (roll-Form (Form-F.Call facility name (exprs_of (items es h))))) in
    let Q : List Expr → Type 0 = λ z. SpelledSo (operand (row (qualified facility name ∷ arguments (map written (inner es)) ∷ []))) (expression 0 (roll-Form (Form-F.Call facility name z))) in
    subst Q (items_exprs es h) (subst P (items_written es h) o)

-- a word of the language or a name
abbrev Callable : List ℕ → Type 1
Callable name = (X : Type 0) → (IsName name → X) → (IsBuiltIn name → X) → X

as_word : (word name : List ℕ) → IsBuiltIn word → same word name ≡ true → IsBuiltIn name
as_word word name b h =
    let P : List ℕ → Type 0 = λ z. IsBuiltIn z in
    subst P (same_is word name h) b

callable_5 : (name : List ℕ) → same (codes "Swap_Entry") name ≡ true → Callable name
callable_5 name h X f g = g (as_word (codes "Swap_Entry") name swap_entry_built_in h)

callable_4 : (name : List ℕ) (b : Bool) → same (codes "Remaining") name ≡ b → (if b then true else same (codes "Swap_Entry") name) ≡ true → Callable name
callable_4 name true e h X f g = g (as_word (codes "Remaining") name remaining_built_in e)
callable_4 name false e h X f g = callable_5 name h X f g

callable_3 : (name : List ℕ) (b : Bool) → same (codes "At_End") name ≡ b → (if b then true else if same (codes "Remaining") name then true else same (codes "Swap_Entry") name) ≡ true → Callable name
callable_3 name true e h X f g = g (as_word (codes "At_End") name at_end_built_in e)
callable_3 name false e h X f g = callable_4 name (same (codes "Remaining") name) refl h X f g

callable_2 : (name : List ℕ) (b : Bool) → same (codes "Write") name ≡ b → (if b then true else if same (codes "At_End") name then true else if same (codes "Remaining") name then true else same (codes "Swap_Entry") name) ≡ true → Callable name
callable_2 name true e h X f g = g (as_word (codes "Write") name write_built_in e)
callable_2 name false e h X f g = callable_3 name (same (codes "At_End") name) refl h X f g

callable_1 : (name : List ℕ) (b : Bool) → same (codes "Read") name ≡ b → (if b then true else if same (codes "Write") name then true else if same (codes "At_End") name then true else if same (codes "Remaining") name then true else same (codes "Swap_Entry") name) ≡ true → Callable name
callable_1 name true e h X f g = g (as_word (codes "Read") name read_built_in e)
callable_1 name false e h X f g = callable_2 name (same (codes "Write") name) refl h X f g

callable_0 : (name : List ℕ) (b : Bool) → is_name name ≡ b → (if b then true else if same (codes "Read") name then true else if same (codes "Write") name then true else if same (codes "At_End") name then true else if same (codes "Remaining") name then true else same (codes "Swap_Entry") name) ≡ true → Callable name
callable_0 name true e h X f g = f (name_is name e)
callable_0 name false e h X f g = callable_1 name (same (codes "Read") name) refl h X f g

callable_is : (name : List ℕ) → callable name ≡ true → Callable name
callable_is name h = callable_0 name (is_name name) refl h

reverse_called : (es : List Done) → are_one (map well_formed (inner es)) ≡ true → all (map well_formed (inner es)) ≡ true → Called None (codes "Reverse") es
reverse_called [] h a = absurd (false≢true h)
reverse_called (e ∷ []) h a = so (reverse_spelled (item e (and_left (well_formed e.0) true a)))
reverse_called (e ∷ f ∷ es) h a = absurd (false≢true h)

prt_btwn_called : (es : List Done) → are_three (map well_formed (inner es)) ≡ true → all (map well_formed (inner es)) ≡ true → Called None (codes "Prt_Btwn") es
prt_btwn_called [] h a = absurd (false≢true h)
prt_btwn_called (e ∷ []) h a = absurd (false≢true h)
prt_btwn_called (e ∷ f ∷ []) h a = absurd (false≢true h)
prt_btwn_called (e ∷ f ∷ g ∷ []) h a =
    let b = and_right (well_formed e.0) (well_formed f.0 && (well_formed g.0 && true)) a in
    so (prt_btwn_spelled (item e (and_left (well_formed e.0) (well_formed f.0 && (well_formed g.0 && true)) a)) (item f (and_left (well_formed f.0) (well_formed g.0 && true) b)) (item g (and_left (well_formed g.0) true (and_right (well_formed f.0) (well_formed g.0 && true) b))))
prt_btwn_called (e ∷ f ∷ g ∷ d ∷ es) h a = absurd (false≢true h)

named_called : (name : List ℕ) (es : List Done) → callable name ≡ true → all (map well_formed (inner es)) ≡ true → Called None name es
named_called name es h a =
    called None name es a (callable_is name h (IsCalled None name (items es a)) (λ e. so (call_spelled name (items es a) e)) (λ e. so (built_in_spelled name (items es a) e)))

prt_btwn_or_named : (name : List ℕ) (es : List Done) (b : Bool) → same (codes "Prt_Btwn") name ≡ b → (if b then are_three (map well_formed (inner es)) else callable name) ≡ true → all (map well_formed (inner es)) ≡ true → Called None name es
prt_btwn_or_named name es true e h a =
    let P : List ℕ → Type 0 = λ z. Called None z es in
    subst P (same_is (codes "Prt_Btwn") name e) (prt_btwn_called es h a)
prt_btwn_or_named name es false e h a = named_called name es h a

locally_called : (name : List ℕ) (es : List Done) (b : Bool) → same (codes "Reverse") name ≡ b → (if b then are_one (map well_formed (inner es)) else if same (codes "Prt_Btwn") name then are_three (map well_formed (inner es)) else callable name) ≡ true → all (map well_formed (inner es)) ≡ true → Called None name es
locally_called name es true e h a =
    let P : List ℕ → Type 0 = λ z. Called None z es in
    subst P (same_is (codes "Reverse") name e) (reverse_called es h a)
locally_called name es false e h a = prt_btwn_or_named name es (same (codes "Prt_Btwn") name) refl h a

any_called : (facility : Option (List ℕ)) (name : List ℕ) (es : List Done) → call_is_well_formed facility name (map well_formed (inner es)) ≡ true → all (map well_formed (inner es)) ≡ true → Called facility name es
any_called None name es h a = locally_called name es (same (codes "Reverse") name) refl h a
any_called (Some facility) name es h a =
    let e = name_is facility (and_left (is_name facility) (callable name) h) in
    called (Some facility) name es a (callable_is name (and_right (is_name facility) (callable name) h) (IsCalled (Some facility) name (items es a)) (λ f. so (facility_call_spelled facility name (items es a) e f)) (λ f. so (facility_built_in_spelled facility name (items es a) e f)))

tuple_written : (es : List Done) → are_two_or_more (map well_formed (inner es)) ≡ true → all (map well_formed (inner es)) ≡ true → SpelledSo (operand (arguments (map written (inner es)))) (expression 0 (roll-Form (Form-F.Tuple (map unplaced (inner es)))))
tuple_written [] h a = absurd (false≢true h)
tuple_written (e ∷ []) h a = absurd (false≢true h)
tuple_written (e ∷ f ∷ es) h a =
    let b = and_right (well_formed e.0) (well_formed f.0 && all (map well_formed (inner es))) a in
    let c = and_right (well_formed f.0) (all (map well_formed (inner es))) b in
    let o = so (tuple_spelled (item e (and_left (well_formed e.0) (well_formed f.0 && all (map well_formed (inner es))) a)) (item f (and_left (well_formed f.0) (all (map well_formed (inner es))) b)) (items es c)) in
    let P : List Written → Type 0 = λ z. SpelledSo (operand (arguments (written e.0 ∷ written f.0 ∷ z))) (expression 0 (roll-Form (Form-F.Tuple (unplaced e.0 ∷ unplaced f.0 ∷ exprs_of (items es c))))) in
    let Q : List Expr → Type 0 = λ z. SpelledSo (operand (arguments (map written (inner (e ∷ f ∷ es))))) (expression 0 (roll-Form (Form-F.Tuple (unplaced e.0 ∷ unplaced f.0 ∷ z)))) in
    subst Q (items_exprs es c) (subst P (items_written es c) o)

-- ---- forms

abbrev KnownForm : Form → Type 0
KnownForm f = well_formed_form f ≡ true → SpelledSo (written_form f) (expression 0 (unplaced_form f))

abbrev DoneForm : Type 0
DoneForm = (f : Form) × KnownForm f

-- what is to be shown of one layer
abbrev Shown : Form-F Form Expr → Type 0
Shown z =
    well_formed_step (map-Form Form Expr Bool Bool well_formed_form well_formed z) ≡ true
    → SpelledSo (form_step (map-Form Form Expr Written Written written_form written z)) (expression 0 (roll-Form (map-Form Form Expr Form Expr unplaced_form unplaced z)))

abbrev layer : Form-F DoneForm Done → Form-F Form Expr
layer y = map-Form DoneForm Done Form Expr (λ f. f.0) (λ e. e.0) y

form_shown : (y : Form-F DoneForm Done) → Shown (layer y)
form_shown (Form-F.Int (pos k)) h = so (int_spelled k (leb-true k greatest_literal h))
form_shown (Form-F.Int (negsuc k)) h = so (negative_spelled k (leb-true (suc k) greatest_literal h))
form_shown (Form-F.Truth true) h = so true_spelled
form_shown (Form-F.Truth false) h = so false_spelled
form_shown Form-F.MinInt h = so min_int_spelled
form_shown Form-F.MaxInt h = so max_int_spelled
form_shown Form-F.Empty h = so empty_spelled
form_shown (Form-F.Word name) h = so (word_spelled name (name_is name h))
form_shown (Form-F.Old name) h = so (old_spelled name (name_is name h))
form_shown (Form-F.Dot name part) h = so (dot_spelled name part (name_is name (and_left (is_name name) (is_name part) h)) (name_is part (and_right (is_name name) (is_name part) h)))
form_shown (Form-F.OldDot name part) h = so (old_dot_spelled name part (name_is name (and_left (is_name name) (is_name part) h)) (name_is part (and_right (is_name name) (is_name part) h)))
form_shown (Form-F.Call facility name es) h =
    let a = call_is_well_formed facility name (map well_formed (inner es)) in
    let b = all (map well_formed (inner es)) in
    any_called facility name es (and_left a b h) (and_right a b h)
form_shown (Form-F.Initial name e) h = so (initial_spelled name (item e (and_right (is_name name) (well_formed e.0) h)) (name_is name (and_left (is_name name) (well_formed e.0) h)))
form_shown (Form-F.Not e) h = so (not_spelled (written e.0) (e.1 h).spelled)
form_shown (Form-F.Minus e) h = so (minus_spelled (written e.0) (e.1 h).spelled)
form_shown (Form-F.Binary o x y) h =
    so (binary_spelled o (written x.0) (written y.0) (x.1 (and_left (well_formed x.0) (well_formed y.0) h)).spelled (y.1 (and_right (well_formed x.0) (well_formed y.0) h)).spelled)
form_shown (Form-F.Single e) h = so (single_spelled (written e.0) (e.1 h).spelled)
form_shown (Form-F.Bars e) h = so (bars_spelled (written e.0) (e.1 h).spelled)
form_shown (Form-F.Tuple es) h =
    let a = are_two_or_more (map well_formed (inner es)) in
    let b = all (map well_formed (inner es)) in
    tuple_written es (and_left a b h) (and_right a b h)

-- ---- every expression

form_known : (x : Form-F Form Expr) → Shown x → KnownForm (roll-Form x)
form_known x q h =
    let P : Written → Type 0 = λ w. SpelledSo w (expression 0 (unplaced_form (roll-Form x))) in
    let Q : Form → Type 0 = λ f. SpelledSo (form_step (map-Form Form Expr Written Written written_form written x)) (expression 0 f) in
    subst P (sym (fold-roll-Form Written Written form_step expr_step x))
    (subst Q (sym (fold-roll-Form Form Expr roll-Form unplaced_step x)) (q (sym (fold-roll-Form Bool Bool well_formed_step well_formed_expr_step x) ∙ h)))

expr_known : (x : Expr-F Form Expr) → KnownForm x.form → Known (roll-Expr x)
expr_known x q h =
    let P : Written → Type 0 = λ w. SpelledSo w (unplaced (roll-Expr x)) in
    let Q : Expr → Type 0 = λ f. SpelledSo (written_form x.form) f in
    subst P (sym (fold-roll-Expr Written Written form_step expr_step x))
    (subst Q (sym (fold-roll-Expr Form Expr roll-Form unplaced_step x)) (q (sym (fold-roll-Expr Bool Bool well_formed_step well_formed_expr_step x) ∙ h)))

pub expr_spelled : (x : Expr) → Known x
expr_spelled = ind-Expr KnownForm Known
    (λ x y is. let P : Form-F Form Expr → Type 0 = λ z. Shown z in form_known x (subst P is (form_shown y)))
    (λ x y is. let P : Expr-F Form Expr → Type 0 = λ z. KnownForm z.form in expr_known x (subst P is y.form.1))
