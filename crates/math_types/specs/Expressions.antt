-- The sort of an expression, by the rules of the nodes, and the first node in post-order that has none.
use Rattle.std.specs.Prelude.{ℕ, true, false, List, [], ◌∷◌, Option, None, Some, Result, Ok, Err, if◌then◌else◌}
use Rattle.math_terms.specs.declared.descriptor.Sort.{Sort}
use Rattle.math_terms.specs.declared.term.Term.TheOpen.{Term-F}
use Rattle.math_terms.specs.declared.view.Binary.{Binary}
use Rattle.math_terms.specs.declared.view.Binary.TheVariants as node
use Rattle.math_terms.specs.declared.view.Unary.{Unary}
use Rattle.math_terms.specs.declared.view.Unary.TheVariants as head
use Rattle.math_terms.specs.Sorts.{any, b, sort_step, str, tup, z}
use Rattle.math_terms.specs.Views.{binary_node, unary_node}
use Rattle.res_ast.specs.declared.expression.BinOp.{BinOp}
use Rattle.res_ast.specs.declared.expression.BinOp.TheVariants as op
use Rattle.res_ast.specs.declared.expression.Expr.{Expr}
use Rattle.res_ast.specs.declared.expression.Form.{Form}
use Rattle.res_ast.specs.declared.expression.Form.TheOpen.{Form-F, Expr-F}
use Rattle.res_ast.specs.declared.expression.Form.TheFolds.{fold-Expr, fold-Form}
use Rattle.type_inst.specs.Assertions.{is_between, is_reverse, number_in}
use Rattle.math_types.specs.declared.error.SortError.{SortError}
use Rattle.math_types.specs.declared.error.SortError.TheVariants as refused
use Rattle.math_types.specs.declared.known.Known.{Known}
use Rattle.math_types.specs.Names.{dotted, word}

-- what an expression gives: its sort, or the place of the first node that has none
abbrev pub Checked : Type 0
Checked = Result Sort SortError

-- what a form gives: its sort, nothing where the node itself has none, or the place of the first node inside that has none
abbrev pub Formed : Type 0
Formed = Result (Option Sort) SortError

-- A node is looked at where all its children have sorts; else the first child without one is refused.
abbrev pub given : (Sort → Option Sort) → Checked → Formed
given rule (Err e) = Err e
given rule (Ok s) = Ok (rule s)

abbrev pub given_two : (Sort → Sort → Option Sort) → Checked → Checked → Formed
given_two rule (Err e) t = Err e
given_two rule (Ok s) t = given (rule s) t

abbrev pub before : Sort → Result (List Sort) SortError → Result (List Sort) SortError
before s (Err e) = Err e
before s (Ok ss) = Ok (s ∷ ss)

abbrev pub all : List Checked → Result (List Sort) SortError
all [] = Ok []
all (Err e ∷ cs) = Err e
all (Ok s ∷ cs) = before s (all cs)

abbrev pub given_all : (List Sort → Option Sort) → Result (List Sort) SortError → Formed
given_all rule (Err e) = Err e
given_all rule (Ok ss) = Ok (rule ss)

-- ---- the rules of nodes

abbrev pub one : Unary → Sort → Option Sort
one head s = sort_step [] (unary_node head (Some s))

abbrev pub two : Binary → Sort → Sort → Option Sort
two node s t = sort_step [] (binary_node node (Some s) (Some t))

-- `/=` takes what `=` takes, `>` and `>=` what `<` and `<=` take.
abbrev pub binary : BinOp → Binary
binary op.Add = node.Add
binary op.Sub = node.Sub
binary op.Mul = node.Mul
binary op.Div = node.Div
binary op.Mod = node.Mod
binary op.Cat = node.Cat
binary op.Eq = node.Eq
binary op.NotEq = node.Eq
binary op.Less = node.Less
binary op.LessEq = node.LessEq
binary op.Greater = node.Less
binary op.GreaterEq = node.LessEq
binary op.And = node.And
binary op.Or = node.Or
binary op.Implies = node.Implies

-- `-a` takes and gives what `a - a` does
abbrev pub minus : Sort → Option Sort
minus s = two node.Sub s s

abbrev pub between : Sort → Sort → Sort → Option Sort
between i j s = sort_step [] (Term-F.Part (Some i) (Some j) (Some s))

abbrev pub product : List Sort → Option Sort
product ss = Some (tup ss)

-- Two functions are called in assertions, each by its name alone.
unfoldable pub called : List ℕ → List Sort → Option Sort
called name (s ∷ []) = if is_reverse name then one head.Reverse s else None
called name (i ∷ j ∷ s ∷ []) = if is_between name then between i j s else None
called name ss = None

abbrev pub no_sort : List Sort → Option Sort
no_sort ss = None

-- a call by its name alone, or of an operation of a facility
abbrev pub call : Option (List ℕ) → List ℕ → Result (List Sort) SortError → Formed
call None name r = given_all (called name) r
call (Some facility) name r = given_all no_sort r

-- `T.Is_Initial(x)`, where T is the type formal of that number
abbrev pub initial : Option ℕ → Sort → Option Sort
initial None s = None
initial (Some k) s = sort_step [] (Term-F.Initial k (Some s))

-- ---- expressions

abbrev pub form_step : List Known → List (List ℕ × ℕ) → Form-F Formed Checked → Formed
form_step known types (Form-F.Int n) = Ok (Some z)
form_step known types (Form-F.Truth t) = Ok (Some b)
form_step known types Form-F.MinInt = Ok (Some z)
form_step known types Form-F.MaxInt = Ok (Some z)
form_step known types (Form-F.Word x) = Ok (word known false x)
form_step known types (Form-F.Old x) = Ok (word known true x)
form_step known types (Form-F.Dot x p) = Ok (dotted known false x p)
form_step known types (Form-F.OldDot x p) = Ok (dotted known true x p)
form_step known types (Form-F.Call facility name args) = call facility name (all args)
form_step known types (Form-F.Initial x a) = given (initial (number_in types x)) a
form_step known types (Form-F.Not a) = given (one head.Not) a
form_step known types (Form-F.Minus a) = given minus a
form_step known types (Form-F.Binary o x y) = given_two (two (binary o)) x y
form_step known types Form-F.Empty = Ok (Some (str any))
form_step known types (Form-F.Single a) = given (one head.Single) a
form_step known types (Form-F.Bars a) = given (one head.Len) a
form_step known types (Form-F.Tuple parts) = given_all product (all parts)

abbrev pub at_node : ℕ → Formed → Checked
at_node at (Err e) = Err e
at_node at (Ok None) = Err (refused.Sort at)
at_node at (Ok (Some s)) = Ok s

abbrev pub expr_step : Expr-F Formed Checked → Checked
expr_step e = at_node e.at e.form

abbrev pub checked : List Known → List (List ℕ × ℕ) → Expr → Checked
checked known types e = fold-Expr Formed Checked (form_step known types) expr_step e

abbrev pub form_checked : List Known → List (List ℕ × ℕ) → Form → Formed
form_checked known types f = fold-Form Formed Checked (form_step known types) expr_step f
