-- One lemma for each form of expressions: it is spelled as it is written, where those are that it is made of.
use Rattle.std.proofs.Common.{◌≡◌, ◌∙◌, sym, refl, ℕ, ◌+◌, ◌≤◌, max, suc, pos, negsuc, true, false, List, [], ◌∷◌, ◌++◌, Some, None, codes, arith}
use Rattle.std.proofs.lemmas.Bool.{false≢true, ltb-true}
use Rattle.res_ast.specs.declared.expression.BinOp.{BinOp}
use Rattle.res_ast.specs.declared.expression.Expr.{Expr}
use Rattle.res_ast.specs.declared.expression.Form.TheOpen.{Form-F}
use Rattle.res_ast.specs.declared.expression.Form.TheViews.{roll-Form}
use Rattle.res_lexer.specs.Pieces.{greatest_literal}
use Rattle.expr_parser.specs.Actions.{expression}
use Rattle.res_printer.specs.Pieces.{dotted, row, says}
use Rattle.res_printer.specs.Expressions.{Written, arguments, at_level, binary, enclosed, initial, literal, negation, old, old_dot, operand, operator, truth}
use Rattle.round_trip.proofs.Goes.{Opened}
use Rattle.round_trip.proofs.Operands.{closed_at, deep_at}
use Rattle.round_trip.proofs.Binaries.{binary_derived, binary_expr, operator_stands}
use Rattle.round_trip.proofs.Arguments.{Item, deepest_of, exprs_of, heads_of, written_of}
use Rattle.round_trip.proofs.Signs.{IsName, Spelled, literal_opened, negative_signed, signed_opened, word_opened}
use Rattle.round_trip.proofs.Names.{bars_opened, call_opened, dot_opened, not_opened, old_dot_opened, old_opened, single_opened}
use Rattle.round_trip.proofs.Calls.{IsBuiltIn, built_in_opened, empty_opened, facility_built_in_opened, facility_call_opened, false_opened, initial_opened, max_int_opened, min_int_opened, prt_btwn_opened, reverse_opened, true_opened, tuple_opened}

-- what does not begin with a minus sign
plainly : {w : Written} {x : Expr} {d : ℕ} {heads : List (List ℕ)} → w.level ≤ 8 → w.negative ≡ false → Opened w.level w.text x d heads → Spelled w x d heads
plainly l e o = record { low = l; opened = o; signed = λ i. absurd (false≢true (sym e ∙ i)) }

-- ---- literals and words

pub int_spelled : (k : ℕ) → k ≤ greatest_literal → Spelled (literal (pos k)) (expression 0 (roll-Form (Form-F.Int (pos k)))) 0 []
int_spelled k l = record { low = omega arith; opened = literal_opened k l; signed = λ i. absurd (omega (arith, ltb-true k 0 i)) }

pub negative_spelled : (k : ℕ) → suc k ≤ greatest_literal → Spelled (literal (negsuc k)) (expression 0 (roll-Form (Form-F.Int (negsuc k)))) 0 []
negative_spelled k l = record { low = omega arith; opened = signed_opened (negative_signed k l); signed = λ i. negative_signed k l }

pub true_spelled : Spelled (truth true) (expression 0 (roll-Form (Form-F.Truth true))) 0 []
true_spelled = plainly (omega arith) refl true_opened

pub false_spelled : Spelled (truth false) (expression 0 (roll-Form (Form-F.Truth false))) 0 []
false_spelled = plainly (omega arith) refl false_opened

pub min_int_spelled : Spelled (operand (says (codes "min_int"))) (expression 0 (roll-Form Form-F.MinInt)) 0 []
min_int_spelled = plainly (omega arith) refl min_int_opened

pub max_int_spelled : Spelled (operand (says (codes "max_int"))) (expression 0 (roll-Form Form-F.MaxInt)) 0 []
max_int_spelled = plainly (omega arith) refl max_int_opened

pub empty_spelled : Spelled (operand (says (codes "Empty_String"))) (expression 0 (roll-Form Form-F.Empty)) 0 []
empty_spelled = plainly (omega arith) refl empty_opened

-- ---- names

pub word_spelled : (name : List ℕ) → IsName name → Spelled (operand (says name)) (expression 0 (roll-Form (Form-F.Word name))) 0 (name ∷ [])
word_spelled name e = plainly (omega arith) refl (word_opened name e)

pub old_spelled : (name : List ℕ) → IsName name → Spelled (operand (old name)) (expression 0 (roll-Form (Form-F.Old name))) 0 (name ∷ [])
old_spelled name e = plainly (omega arith) refl (old_opened name e)

pub dot_spelled : (name part : List ℕ) → IsName name → IsName part → Spelled (operand (dotted name part)) (expression 0 (roll-Form (Form-F.Dot name part))) 0 (name ∷ [])
dot_spelled name part e f = plainly (omega arith) refl (dot_opened name part e f)

pub old_dot_spelled : (name part : List ℕ) → IsName name → IsName part → Spelled (operand (old_dot name part)) (expression 0 (roll-Form (Form-F.OldDot name part))) 0 (name ∷ [])
old_dot_spelled name part e f = plainly (omega arith) refl (old_dot_opened name part e f)

-- ---- calls

pub call_spelled : (name : List ℕ) (es : List Item) → IsName name → Spelled (operand (row (says name ∷ arguments (written_of es) ∷ []))) (expression 0 (roll-Form (Form-F.Call None name (exprs_of es)))) (deepest_of es + 1) (name ∷ heads_of es)
call_spelled name es e = plainly (omega arith) refl (call_opened name es e)

pub built_in_spelled : (name : List ℕ) (es : List Item) → IsBuiltIn name → Spelled (operand (row (says name ∷ arguments (written_of es) ∷ []))) (expression 0 (roll-Form (Form-F.Call None name (exprs_of es)))) (deepest_of es + 1) (heads_of es)
built_in_spelled name es e = plainly (omega arith) refl (built_in_opened name es e)

pub reverse_spelled : (e : Item) → Spelled (operand (row (says (codes "Reverse") ∷ arguments (e.written ∷ []) ∷ []))) (expression 0 (roll-Form (Form-F.Call None (codes "Reverse") (e.expr ∷ [])))) (e.depth + 1) e.heads
reverse_spelled e = plainly (omega arith) refl (reverse_opened e)

pub prt_btwn_spelled : (a b c : Item) → Spelled (operand (row (says (codes "Prt_Btwn") ∷ arguments (a.written ∷ b.written ∷ c.written ∷ []) ∷ []))) (expression 0 (roll-Form (Form-F.Call None (codes "Prt_Btwn") (a.expr ∷ b.expr ∷ c.expr ∷ [])))) (deepest_of (a ∷ b ∷ c ∷ []) + 1) (heads_of (a ∷ b ∷ c ∷ []))
prt_btwn_spelled a b c = plainly (omega arith) refl (prt_btwn_opened a b c)

pub facility_call_spelled : (facility name : List ℕ) (es : List Item) → IsName facility → IsName name → Spelled (operand (row (dotted facility name ∷ arguments (written_of es) ∷ []))) (expression 0 (roll-Form (Form-F.Call (Some facility) name (exprs_of es)))) (deepest_of es + 1) (facility ∷ heads_of es)
facility_call_spelled facility name es e f = plainly (omega arith) refl (facility_call_opened facility name es e f)

pub facility_built_in_spelled : (facility name : List ℕ) (es : List Item) → IsName facility → IsBuiltIn name → Spelled (operand (row (dotted facility name ∷ arguments (written_of es) ∷ []))) (expression 0 (roll-Form (Form-F.Call (Some facility) name (exprs_of es)))) (deepest_of es + 1) (facility ∷ heads_of es)
facility_built_in_spelled facility name es e f = plainly (omega arith) refl (facility_built_in_opened facility name es e f)

pub initial_spelled : (name : List ℕ) (e : Item) → IsName name → Spelled (operand (initial name e.written)) (expression 0 (roll-Form (Form-F.Initial name e.expr))) (e.depth + 1) (name ∷ e.heads)
initial_spelled name e f = plainly (omega arith) refl (initial_opened name e f)

-- ---- operators, and what stands between two symbols

pub not_spelled : {x : Expr} {d : ℕ} {heads : List (List ℕ)} (w : Written) → Spelled w x d heads → Spelled (negation w) (expression 0 (roll-Form (Form-F.Not x))) (deep_at 3 w d + 1) heads
not_spelled w h = plainly (omega arith) refl (not_opened w h)

pub binary_spelled : {x y : Expr} {d e : ℕ} {xs ys : List (List ℕ)} (o : BinOp) (v w : Written) → Spelled v x d xs → Spelled w y e ys → Spelled (binary (operator o) v w) (binary_expr o x y) (max (deep_at (operator o).left v d) (deep_at (operator o).right w e) + 1) (xs ++ ys)
binary_spelled {x} {y} {d} {e} {xs} {ys} o v w g h =
    let s = operator_stands o in
    plainly s.low refl (binary_derived o s (at_level (operator o).left v) (at_level (operator o).right w) (s.takes v x d xs g.low g.opened) (closed_at (operator o).right w s.low_right h.low h.opened))

pub single_spelled : {x : Expr} {d : ℕ} {heads : List (List ℕ)} (w : Written) → Spelled w x d heads → Spelled (operand (enclosed (codes "<") w (codes ">"))) (expression 0 (roll-Form (Form-F.Single x))) (deep_at 4 w d + 1) heads
single_spelled w h = plainly (omega arith) refl (single_opened w h)

pub bars_spelled : {x : Expr} {d : ℕ} {heads : List (List ℕ)} (w : Written) → Spelled w x d heads → Spelled (operand (enclosed (codes "|") w (codes "|"))) (expression 0 (roll-Form (Form-F.Bars x))) (deep_at 4 w d + 1) heads
bars_spelled w h = plainly (omega arith) refl (bars_opened w h)

pub tuple_spelled : (a b : Item) (es : List Item) → Spelled (operand (arguments (written_of (a ∷ b ∷ es)))) (expression 0 (roll-Form (Form-F.Tuple (exprs_of (a ∷ b ∷ es))))) (deepest_of (a ∷ b ∷ es) + 1) (heads_of (a ∷ b ∷ es))
tuple_spelled a b es = plainly (omega arith) refl (tuple_opened a b es)
