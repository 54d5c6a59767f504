-- Expressions that some text spells, places aside.
use Rattle.std.specs.Prelude.{ℕ, ℤ, suc, pos, negsuc, eqb, nat_le, length, Bool, true, false, ◌&&◌, if◌then◌else◌, List, [], ◌∷◌, Option, Some, None, codes}
use Rattle.res_ast.specs.declared.expression.Expr.{Expr}
use Rattle.res_ast.specs.declared.expression.Form.{Form}
use Rattle.res_ast.specs.declared.expression.Form.TheOpen.{Form-F, Expr-F}
use Rattle.res_ast.specs.declared.expression.Form.TheViews.{roll-Form}
use Rattle.res_ast.specs.declared.expression.Form.TheFolds.{fold-Expr, fold-Form}
use Rattle.identifiers.specs.Identifiers.{is_identifier}
use Rattle.res_lexer.specs.Pieces.{greatest_literal, most_name_bytes}
use Rattle.res_grammar.specs.Classes.{class_of_word}
use Rattle.res_grammar.specs.Numbers as n
use Rattle.expr_parser.specs.Actions.{expression}

-- ---- places

abbrev pub unplaced_step : Expr-F Form Expr → Expr
unplaced_step e = expression 0 e.form

abbrev pub unplaced : Expr → Expr
unplaced = fold-Expr Form Expr roll-Form unplaced_step

abbrev pub unplaced_form : Form → Form
unplaced_form = fold-Form Form Expr roll-Form unplaced_step

-- ---- what a text spells

-- an identifier that is no word of the language, and no longer than one may be
abbrev pub is_name : List ℕ → Bool
is_name name = eqb (class_of_word name) n.id && (is_identifier name && nat_le (length name) most_name_bytes)

-- a literal, behind a minus sign if it is below 0
abbrev pub is_literal : ℤ → Bool
is_literal (pos n) = nat_le n greatest_literal
is_literal (negsuc n) = nat_le (suc n) greatest_literal

abbrev pub same : List ℕ → List ℕ → Bool
same [] [] = true
same (x ∷ xs) (y ∷ ys) = eqb x y && same xs ys
same [] (y ∷ ys) = false
same (x ∷ xs) [] = false

abbrev pub all : List Bool → Bool
all [] = true
all (b ∷ bs) = b && all bs

abbrev pub are_one : List Bool → Bool
are_one (a ∷ []) = true
are_one [] = false
are_one (a ∷ b ∷ more) = false

abbrev pub are_three : List Bool → Bool
are_three (a ∷ b ∷ c ∷ []) = true
are_three [] = false
are_three (a ∷ []) = false
are_three (a ∷ b ∷ []) = false
are_three (a ∷ b ∷ c ∷ d ∷ more) = false

abbrev pub are_two_or_more : List Bool → Bool
are_two_or_more [] = false
are_two_or_more (a ∷ []) = false
are_two_or_more (a ∷ b ∷ more) = true

-- A name may be called, and so may some words of the language.
abbrev pub callable : List ℕ → Bool
callable name =
    if is_name name then true else
    if same (codes "Read") name then true else
    if same (codes "Write") name then true else
    if same (codes "At_End") name then true else
    if same (codes "Remaining") name then true else
    same (codes "Swap_Entry") name

abbrev pub callable_with : List ℕ → List Bool → Bool
callable_with name args =
    if same (codes "Reverse") name then are_one args else
    if same (codes "Prt_Btwn") name then are_three args else
    callable name

abbrev pub call_is_well_formed : Option (List ℕ) → List ℕ → List Bool → Bool
call_is_well_formed None name args = callable_with name args
call_is_well_formed (Some facility) name args = is_name facility && callable name

abbrev pub well_formed_step : Form-F Bool Bool → Bool
well_formed_step (Form-F.Int k) = is_literal k
well_formed_step (Form-F.Truth b) = true
well_formed_step Form-F.MinInt = true
well_formed_step Form-F.MaxInt = true
well_formed_step Form-F.Empty = true
well_formed_step (Form-F.Word name) = is_name name
well_formed_step (Form-F.Old name) = is_name name
well_formed_step (Form-F.Dot name part) = is_name name && is_name part
well_formed_step (Form-F.OldDot name part) = is_name name && is_name part
well_formed_step (Form-F.Call facility name args) = call_is_well_formed facility name args && all args
well_formed_step (Form-F.Initial name x) = is_name name && x
well_formed_step (Form-F.Not x) = x
well_formed_step (Form-F.Minus x) = x
well_formed_step (Form-F.Binary o x y) = x && y
well_formed_step (Form-F.Single x) = x
well_formed_step (Form-F.Bars x) = x
well_formed_step (Form-F.Tuple parts) = are_two_or_more parts && all parts

abbrev pub well_formed_expr_step : Expr-F Bool Bool → Bool
well_formed_expr_step e = e.form

abbrev pub well_formed : Expr → Bool
well_formed = fold-Expr Bool Bool well_formed_step well_formed_expr_step

abbrev pub well_formed_form : Form → Bool
well_formed_form = fold-Form Bool Bool well_formed_step well_formed_expr_step
