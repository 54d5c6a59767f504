-- The first place of a file at which it is not of the form: one facility module that uses nothing and has the one operation Main, over
-- integers. What names mean, and whether types fit, is no matter of the form.
use Rattle.std.specs.Prelude.{ℕ, suc, zero, min, Bool, true, false, not, ◌&&◌, ◌||◌, if◌then◌else◌, List, [], ◌∷◌, ◌++◌, map, Option, Some, None, codes}
use Rattle.res_lexer.specs.Pieces.{same_bytes}
use Rattle.res_ast.specs.declared.expression.BinOp.{BinOp}
use Rattle.res_ast.specs.declared.expression.BinOp.TheVariants as binary
use Rattle.res_ast.specs.declared.expression.Expr.{Expr}
use Rattle.res_ast.specs.declared.expression.Form.{Form}
use Rattle.res_ast.specs.declared.expression.Form.TheOpen.{Form-F, Expr-F}
use Rattle.res_ast.specs.declared.expression.Form.TheFolds.{fold-Expr, fold-Form}
use Rattle.res_ast.specs.declared.expression.Form.TheViews.{out-Expr}
use Rattle.res_ast.specs.declared.statement.Stmt.{Stmt}
use Rattle.res_ast.specs.declared.statement.Stmt.TheOpen.{Stmt-F}
use Rattle.res_ast.specs.declared.statement.Stmt.TheFolds.{fold-Stmt}
use Rattle.res_ast.specs.declared.facility.FacDecl.{FacDecl}
use Rattle.res_ast.specs.declared.heading.Heading.{Heading}
use Rattle.res_ast.specs.declared.heading.Mode.{Mode}
use Rattle.res_ast.specs.declared.heading.Mode.TheVariants as mode
use Rattle.res_ast.specs.declared.heading.Param.{Param}
use Rattle.res_ast.specs.declared.heading.PType.{PType}
use Rattle.res_ast.specs.declared.procedure.LocalOp.{LocalOp}
use Rattle.res_ast.specs.declared.procedure.Procedure.{Procedure}
use Rattle.res_ast.specs.declared.component.Component.{Component}
use Rattle.res_ast.specs.declared.component.Component.TheVariants as component
use Rattle.res_ast.specs.declared.component.FacilityModule.{FacilityModule}
use Rattle.main_form.specs.declared.expressions.Wanted.{Wanted}
use Rattle.main_form.specs.declared.expressions.Wanted.TheVariants as wanted
use Rattle.main_form.specs.declared.room.Room.{Room}
use Rattle.main_form.specs.Names.{input_of, output_of}

-- ---- places

-- the earlier of two places, where there are any
abbrev pub earlier : Option ℕ → Option ℕ → Option ℕ
earlier None o = o
earlier (Some a) None = Some a
earlier (Some a) (Some b) = Some (min a b)

abbrev pub no_name : Option (List ℕ) → Bool
no_name None = true
no_name (Some name) = false

-- the earliest
abbrev pub earliest_from : Option ℕ → List (Option ℕ) → Option ℕ
earliest_from o [] = o
earliest_from o (x ∷ xs) = earliest_from (earlier o x) xs

abbrev pub earliest : List (Option ℕ) → Option ℕ
earliest xs = earliest_from None xs

-- A node at its place: where it is not what is wanted it stands there itself, and in each case there is what its parts have.
abbrev pub stands : Bool → ℕ → Option ℕ → Option ℕ
stands true at parts = parts
stands false at parts = earlier (Some at) parts

-- ---- expressions

-- What is seen of an expression: whether it is a literal, and the first place, by what it is wanted as.
pub record Look : Type 0 where
  pub literal : Bool
  pub first : Wanted → Option ℕ

abbrev pub is_program : Wanted → Bool
is_program wanted.Program = true
is_program w = false

abbrev pub is_operand : Wanted → Bool
is_operand wanted.Operand = true
is_operand wanted.Operands = true
is_operand wanted.Chain = true
is_operand w = false

abbrev pub is_operands : Wanted → Bool
is_operands wanted.Operands = true
is_operands wanted.Chain = true
is_operands w = false

abbrev pub is_chain : Wanted → Bool
is_chain wanted.Chain = true
is_chain w = false

abbrev pub is_claim : Wanted → Bool
is_claim wanted.Claim = true
is_claim w = false

-- Whether the word is what is wanted. In a program any word is, whether or not it is declared; a claim is not about the input.
abbrev pub word_fits : Procedure → List ℕ → Wanted → Bool
word_fits main name wanted.Program = true
word_fits main name wanted.Output = same_bytes name (output_of main) || not (same_bytes name (input_of main))
word_fits main name w = false

-- `Remaining`, whatever its arguments are
abbrev pub is_remaining : Option (List ℕ) → List ℕ → Bool
is_remaining None name = same_bytes name (codes "Remaining")
is_remaining (Some facility) name = false

abbrev pub call_fits : Option (List ℕ) → List ℕ → Wanted → Bool
call_fits facility name w = is_remaining facility name && is_program w

abbrev pub all_first : List Look → Option ℕ
all_first looks = earliest (map (λ a. a.first wanted.Program) looks)

-- whether an operator is what is wanted
abbrev pub operator_fits : BinOp → Wanted → Bool
operator_fits binary.Add w = is_program w
operator_fits binary.Sub w = is_program w
operator_fits binary.Mul w = false
operator_fits binary.Div w = false
operator_fits binary.Mod w = false
operator_fits binary.Cat w = is_operands w
operator_fits binary.Eq w = is_program w || is_claim w
operator_fits binary.NotEq w = is_program w
operator_fits binary.Less w = is_program w
operator_fits binary.LessEq w = is_program w
operator_fits binary.Greater w = is_program w
operator_fits binary.GreaterEq w = is_program w
operator_fits binary.And w = is_program w
operator_fits binary.Or w = is_program w
operator_fits binary.Implies w = false

-- What an operator's two parts are wanted as, where it is wanted as this: a claim is `Out =` and a chain, and a chain has operands
-- before its last one.
abbrev pub claim_parts : Bool → Wanted × Wanted
claim_parts true = (wanted.Output, wanted.Chain)
claim_parts false = (wanted.Program, wanted.Program)

abbrev pub chain_parts : Bool → Wanted × Wanted
chain_parts true = (wanted.Operands, wanted.Operand)
chain_parts false = (wanted.Program, wanted.Program)

abbrev pub parts_wanted : BinOp → Wanted → Wanted × Wanted
parts_wanted binary.Cat w = chain_parts (is_operands w)
parts_wanted binary.Eq w = claim_parts (is_claim w)
parts_wanted op w = (wanted.Program, wanted.Program)

abbrev pub binary_first : BinOp → Look → Look → ℕ → Wanted → Option ℕ
binary_first op a b at w = let parts = parts_wanted op w in stands (operator_fits op w) at (earlier (a.first parts.0) (b.first parts.1))

-- A node at its place. Its parts are looked at as what the node wants them to be.
abbrev pub first_step : Procedure → Form-F (ℕ → Look) Look → ℕ → Wanted → Option ℕ
first_step main (Form-F.Int n) at w = stands (is_program w) at None
first_step main (Form-F.Truth b) at w = stands (b && is_claim w) at None
first_step main Form-F.MinInt at w = Some at
first_step main Form-F.MaxInt at w = Some at
first_step main (Form-F.Word name) at w = stands (word_fits main name w) at None
first_step main (Form-F.Old name) at w = Some at
first_step main (Form-F.Dot name part) at w = Some at
first_step main (Form-F.OldDot name part) at w = Some at
first_step main (Form-F.Call facility name args) at w = stands (call_fits facility name w) at (all_first args)
first_step main (Form-F.Initial name a) at w = earlier (Some at) (a.first wanted.Program)
first_step main (Form-F.Not a) at w = stands (is_program w) at (a.first wanted.Program)
first_step main (Form-F.Minus a) at w = stands (is_program w) at (a.first wanted.Program)
first_step main (Form-F.Binary op a b) at w = binary_first op a b at w
first_step main Form-F.Empty at w = stands (is_chain w) at None
first_step main (Form-F.Single a) at w = stands (is_operand w && a.literal) at (a.first wanted.Program)
first_step main (Form-F.Bars a) at w = earlier (Some at) (a.first wanted.Program)
first_step main (Form-F.Tuple parts) at w = earlier (Some at) (all_first parts)

abbrev pub literal_step : Form-F (ℕ → Look) Look → Bool
literal_step (Form-F.Int n) = true
literal_step f = false

abbrev pub form_step : Procedure → Form-F (ℕ → Look) Look → ℕ → Look
form_step main f at = record { literal = literal_step f; first = λ w. first_step main f at w }

abbrev pub expr_step : Expr-F (ℕ → Look) Look → Look
expr_step e = e.form e.at

abbrev pub form_look : Procedure → Form → ℕ → Look
form_look main f = fold-Form (ℕ → Look) Look (form_step main) expr_step f

abbrev pub look : Procedure → Expr → Look
look main e = fold-Expr (ℕ → Look) Look (form_step main) expr_step e

abbrev pub expr_first : Procedure → Expr → Wanted → Option ℕ
expr_first main e w = (look main e).first w

-- ---- the most statements and the most operands

abbrev pub one_more_in : ℕ → ℕ → Option ℕ → Room
one_more_in at left (Some over) = record { left = left; over = Some over }
one_more_in at zero None = record { left = 0; over = Some at }
one_more_in at (suc n) None = record { left = n; over = None }

-- Of what there may be so many, one more at this place: the first that is too many is kept.
abbrev pub one_more : ℕ → Room → Room
one_more at r = one_more_in at r.left r.over

abbrev pub room_for_64 : Room
room_for_64 = record { left = 64; over = None }

abbrev pub one_by_one : List (Room → Room) → Room → Room
one_by_one [] r = r
one_by_one (x ∷ xs) r = one_by_one xs (x r)

-- The operands of a claim: its place, its operands as they come, and the operand after the 64th of a claim of this output.
pub record Counted : Type 0 where
  pub at : ℕ
  pub operands : Room → Room
  pub over : Option ℕ

abbrev pub counted_alone : ℕ → Counted
counted_alone at = record { at = at; operands = one_more at; over = None }

abbrev pub counted_binary : BinOp → Counted → Counted → ℕ → Counted
counted_binary binary.Cat a b at = record { at = at; operands = λ r. one_more b.at (a.operands r); over = None }
counted_binary binary.Eq a b at = record { at = at; operands = one_more at; over = (b.operands room_for_64).over }
counted_binary op a b at = counted_alone at

abbrev pub counted_step : Form-F (ℕ → Counted) Counted → ℕ → Counted
counted_step (Form-F.Binary op a b) at = counted_binary op a b at
counted_step f at = counted_alone at

abbrev pub counted_expr_step : Expr-F (ℕ → Counted) Counted → Counted
counted_expr_step e = e.form e.at

abbrev pub counted : Expr → Counted
counted e = fold-Expr (ℕ → Counted) Counted counted_step counted_expr_step e

abbrev pub claim_first : Procedure → Expr → Option ℕ
claim_first main e = earlier (expr_first main e wanted.Claim) (counted e).over

-- ---- statements

-- `Read` and `Write` with arguments of a program, whatever they are
abbrev pub is_stream_call : Option (List ℕ) → List ℕ → Bool
is_stream_call None name = same_bytes name (codes "Read") || same_bytes name (codes "Write")
is_stream_call (Some facility) name = false

abbrev pub args_first : Procedure → List Expr → Option ℕ
args_first main args = all_first (map (look main) args)

abbrev pub stmt_first_step : Procedure → Stmt-F (Option ℕ) → Option ℕ
stmt_first_step main (Stmt-F.Swap at a b) = Some at
stmt_first_step main (Stmt-F.Assign at p e) = stands (no_name p.field) at (expr_first main e wanted.Program)
stmt_first_step main (Stmt-F.Call at facility name args) = stands (is_stream_call facility name) at (args_first main args)
stmt_first_step main (Stmt-F.If at g a b) = earlier (expr_first main g wanted.Program) (earlier (earliest a) (earliest b))
stmt_first_step main (Stmt-F.While at g places invariant metric body) = Some at

abbrev pub stmt_first : Procedure → Stmt → Option ℕ
stmt_first main x = fold-Stmt (Option ℕ) (stmt_first_step main) x

-- the statements in the order of the text, an If before those inside it
abbrev pub stmt_room_step : Stmt-F (Room → Room) → Room → Room
stmt_room_step (Stmt-F.Swap at a b) r = one_more at r
stmt_room_step (Stmt-F.Assign at p e) r = one_more at r
stmt_room_step (Stmt-F.Call at facility name args) r = one_more at r
stmt_room_step (Stmt-F.If at g a b) r = one_by_one b (one_by_one a (one_more at r))
stmt_room_step (Stmt-F.While at g places invariant metric body) r = one_by_one body (one_more at r)

abbrev pub stmt_room : Stmt → Room → Room
stmt_room x = fold-Stmt (Room → Room) stmt_room_step x

abbrev pub body_first : Procedure → List Stmt → Option ℕ
body_first main body = earlier (earliest (map (stmt_first main) body)) (one_by_one (map stmt_room body) room_for_64).over

-- ---- Main's heading and variables

abbrev pub has_type : PType → List ℕ → Bool
has_type t name = no_name t.facility && same_bytes t.name name

abbrev pub is_updates : Mode → Bool
is_updates mode.Updates = true
is_updates m = false

-- a stream that Main updates
abbrev pub is_stream : Param → List ℕ → Bool
is_stream p name = is_updates p.mode && has_type p.ptype name

abbrev pub third_first : List Param → Option ℕ
third_first [] = None
third_first (p ∷ ps) = Some p.at

abbrev pub params_first : List Param → ℕ → Option ℕ
params_first [] at = Some at
params_first (p ∷ []) at = Some at
params_first (p ∷ q ∷ ps) at =
    earlier (stands (is_stream p (codes "In_Stream")) p.at None) (earlier (stands (is_stream q (codes "Out_Stream")) q.at None) (third_first ps))

-- A variable that is not an Integer stands at its type.
abbrev pub var_first : List ℕ × PType → Option ℕ
var_first v = stands (has_type v.1 (codes "Integer")) v.1.at None

abbrev pub vars_first : Procedure → Option ℕ
vars_first main = earliest (map var_first main.vars)

abbrev pub ensures_first : Procedure → Option Expr → ℕ → Option ℕ
ensures_first main None at = Some at
ensures_first main (Some e) at = claim_first main e

abbrev pub type_place : Option PType → Option ℕ
type_place None = None
type_place (Some t) = Some t.at

abbrev pub expr_place : Option Expr → Option ℕ
expr_place None = None
expr_place (Some e) = Some (out-Expr e).at

abbrev pub heading_first : Procedure → Heading → Option ℕ
heading_first main h =
    earlier (params_first h.params h.at) (earlier (type_place h.result) (earlier (expr_place h.requires_clause) (ensures_first main h.ensures_clause h.at)))

abbrev pub main_first : Procedure → Option ℕ
main_first main =
    earlier (heading_first main main.heading) (earlier (expr_place main.metric) (earlier (vars_first main) (body_first main main.body)))

-- ---- the module and the file

abbrev pub is_main : LocalOp → Bool
is_main o = same_bytes o.procedure.heading.name (codes "Main")

-- the first operation Main
abbrev pub main_in : List LocalOp → Option Procedure
main_in [] = None
main_in (o ∷ os) = if is_main o then Some o.procedure else main_in os

-- the place of the first operation that is not that one
abbrev pub first_place : List LocalOp → Option ℕ
first_place [] = None
first_place (o ∷ os) = Some o.procedure.at

abbrev pub other_first_in : List LocalOp → Option ℕ
other_first_in [] = None
other_first_in (o ∷ os) = if is_main o then first_place os else Some o.procedure.at

abbrev pub first_facility : List FacDecl → Option ℕ
first_facility [] = None
first_facility (f ∷ fs) = Some f.at

abbrev pub uses_first : List (List ℕ) → ℕ → Option ℕ
uses_first [] at = None
uses_first (n ∷ ns) at = Some at

abbrev pub main_or_first : Option Procedure → ℕ → Option ℕ
main_or_first None at = Some at
main_or_first (Some main) at = main_first main

abbrev pub module_first : FacilityModule → Option ℕ
module_first m =
    earlier (uses_first m.uses m.at) (earlier (first_facility m.facilities) (earlier (other_first_in m.operations) (main_or_first (main_in m.operations) m.at)))

-- a component's place and name
abbrev pub place_in_file : Component → ℕ
place_in_file (component.Concept c) = c.at
place_in_file (component.Enhancement c) = c.at
place_in_file (component.Realization c) = c.at
place_in_file (component.Facility c) = c.at

abbrev pub name_in_file : Component → List ℕ
name_in_file (component.Concept c) = c.name
name_in_file (component.Enhancement c) = c.name
name_in_file (component.Realization c) = c.name
name_in_file (component.Facility c) = c.name

-- a component that should not be there
abbrev pub stray : Component → List ℕ × ℕ
stray c = (name_in_file c, place_in_file c)

abbrev pub second_first : List Component → Option (List ℕ × ℕ)
second_first [] = None
second_first (c ∷ cs) = Some (stray c)

abbrev pub named_or : List ℕ → Option ℕ → Option (List ℕ × ℕ) → Option (List ℕ × ℕ)
named_or name (Some at) later = Some (name, at)
named_or name None later = later

-- The name of the component that is not of the form, and the place: in the first component before all others.
abbrev pub file_first : List Component → Option (List ℕ × ℕ)
file_first [] = Some ([], 0)
file_first (component.Facility m ∷ cs) = named_or m.name (module_first m) (second_first cs)
file_first (c ∷ cs) = Some (stray c)
