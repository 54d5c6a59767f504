-- The module that the tree of a file is, value by value, with defaults where the tree is not of the form.
use Rattle.std.specs.Prelude.{ℕ, ℤ, pos, if◌then◌else◌, List, [], ◌∷◌, ◌++◌, map, Option, Some, None, codes}
use Rattle.res_lexer.specs.Pieces.{same_bytes}
use Rattle.res_ast.specs.declared.expression.BinOp.{BinOp}
use Rattle.res_ast.specs.declared.expression.BinOp.TheVariants as binary
use Rattle.res_ast.specs.declared.expression.Expr as tree
use Rattle.res_ast.specs.declared.expression.Form.{Form}
use Rattle.res_ast.specs.declared.expression.Form.TheViews.{out-Expr, out-Form}
use Rattle.res_ast.specs.declared.expression.Form.TheOpen.{Form-F, Expr-F}
use Rattle.res_ast.specs.declared.expression.Form.TheFolds.{fold-Expr}
use Rattle.res_ast.specs.declared.statement.Stmt as tree_stmt
use Rattle.res_ast.specs.declared.statement.Stmt.TheOpen.{Stmt-F}
use Rattle.res_ast.specs.declared.statement.Stmt.TheFolds.{fold-Stmt}
use Rattle.res_ast.specs.declared.procedure.Procedure.{Procedure}
use Rattle.res_ast.specs.declared.component.Component.{Component}
use Rattle.res_ast.specs.declared.component.Component.TheVariants as component
use Rattle.main_form.specs.declared.module.Expr.{Expr}
use Rattle.main_form.specs.declared.module.Expr.TheOpen as number
use Rattle.main_form.specs.declared.module.Expr.TheViews.{roll-Expr}
use Rattle.main_form.specs.declared.module.Comparison.{Comparison}
use Rattle.main_form.specs.declared.module.Comparison.TheVariants as comparison
use Rattle.main_form.specs.declared.module.Guard.{Guard}
use Rattle.main_form.specs.declared.module.Guard.TheOpen.{Guard-F}
use Rattle.main_form.specs.declared.module.Guard.TheViews.{roll-Guard}
use Rattle.main_form.specs.declared.module.Stmt.{Stmt}
use Rattle.main_form.specs.declared.module.Stmt.TheOpen as stmt
use Rattle.main_form.specs.declared.module.Stmt.TheViews.{roll-Stmt}
use Rattle.main_form.specs.declared.module.Claim.{Claim}
use Rattle.main_form.specs.declared.module.Claim.TheVariants as claim
use Rattle.main_form.specs.declared.module.Module.{Module}
use Rattle.main_form.specs.Names.{input_of, output_of, variable_of, variables_of}
use Rattle.main_form.specs.Places.{main_in}

-- What an expression is as a number, as a truth value, as a literal, as the operands of a claim and as a claim.
pub record Built : Type 0 where
  pub number : Expr
  pub truth : Guard
  pub literal : ℤ
  pub operands : List ℤ
  pub claim : Claim

abbrev pub zero_number : Expr
zero_number = roll-Expr (number.Expr-F.Number (pos 0))

abbrev pub compared : Comparison → Expr → Expr → Guard
compared c a b = roll-Guard (Guard-F.Compare c a b)

abbrev pub nothing : Built
nothing = record { number = zero_number; truth = compared comparison.Equal zero_number zero_number; literal = pos 0; operands = []; claim = claim.True }

abbrev pub variable_or_zero : Option ℕ → Expr
variable_or_zero None = zero_number
variable_or_zero (Some k) = roll-Expr (number.Expr-F.Variable k)

abbrev pub remaining_or_zero : List ℕ → Expr
remaining_or_zero name = if same_bytes name (codes "Remaining") then roll-Expr number.Expr-F.Remaining else zero_number

abbrev pub a_number : Expr → Built
a_number e = record nothing { number = e }

abbrev pub a_truth : Guard → Built
a_truth g = record nothing { truth = g }

abbrev pub binary_built : BinOp → Built → Built → ℕ → Built
binary_built binary.Add a b at = a_number (roll-Expr (number.Expr-F.Add at a.number b.number))
binary_built binary.Sub a b at = a_number (roll-Expr (number.Expr-F.Sub at a.number b.number))
binary_built binary.Mul a b at = nothing
binary_built binary.Div a b at = nothing
binary_built binary.Mod a b at = nothing
binary_built binary.Cat a b at = record nothing { operands = a.operands ++ b.operands }
binary_built binary.Eq a b at = record (a_truth (compared comparison.Equal a.number b.number)) { claim = claim.Chain b.operands }
binary_built binary.NotEq a b at = a_truth (compared comparison.NotEqual a.number b.number)
binary_built binary.Less a b at = a_truth (compared comparison.Less a.number b.number)
binary_built binary.LessEq a b at = a_truth (compared comparison.LessEqual a.number b.number)
binary_built binary.Greater a b at = a_truth (compared comparison.Greater a.number b.number)
binary_built binary.GreaterEq a b at = a_truth (compared comparison.GreaterEqual a.number b.number)
binary_built binary.And a b at = a_truth (roll-Guard (Guard-F.And a.truth b.truth))
binary_built binary.Or a b at = a_truth (roll-Guard (Guard-F.Or a.truth b.truth))
binary_built binary.Implies a b at = nothing

abbrev pub form_step : Procedure → Form-F (ℕ → Built) Built → ℕ → Built
form_step main (Form-F.Int n) at = record (a_number (roll-Expr (number.Expr-F.Number n))) { literal = n }
form_step main (Form-F.Word name) at = a_number (variable_or_zero (variable_of main name))
form_step main (Form-F.Call facility name args) at = a_number (remaining_or_zero name)
form_step main (Form-F.Not a) at = a_truth (roll-Guard (Guard-F.Not a.truth))
form_step main (Form-F.Minus a) at = a_number (roll-Expr (number.Expr-F.Minus at a.number))
form_step main (Form-F.Binary op a b) at = binary_built op a b at
form_step main (Form-F.Single a) at = record nothing { operands = a.literal ∷ [] }
form_step main f at = nothing

abbrev pub expr_step : Expr-F (ℕ → Built) Built → Built
expr_step e = e.form e.at

abbrev pub built : Procedure → tree.Expr → Built
built main e = fold-Expr (ℕ → Built) Built (form_step main) expr_step e

-- ---- statements

abbrev pub writing : Expr → Stmt
writing e = roll-Stmt (stmt.Stmt-F.Write e)

abbrev pub assigned : Option ℕ → Expr → Stmt
assigned None e = writing zero_number
assigned (Some k) e = roll-Stmt (stmt.Stmt-F.Assign k e)

abbrev pub reading : ℕ → Option ℕ → Stmt
reading at None = writing zero_number
reading at (Some k) = roll-Stmt (stmt.Stmt-F.Read at k)

abbrev pub word_variable : Procedure → Form-F Form tree.Expr → Option ℕ
word_variable main (Form-F.Word name) = variable_of main name
word_variable main f = None

-- the variable, and the number, that the first argument is
abbrev pub first_variable : Procedure → List tree.Expr → Option ℕ
first_variable main [] = None
first_variable main (e ∷ es) = word_variable main (out-Form (out-Expr e).form)

abbrev pub first_number : Procedure → List tree.Expr → Expr
first_number main [] = zero_number
first_number main (e ∷ es) = (built main e).number

abbrev pub called : Procedure → List ℕ → List tree.Expr → ℕ → Stmt
called main name args at = if same_bytes name (codes "Read") then reading at (first_variable main args) else writing (first_number main args)

abbrev pub stmt_step : Procedure → Stmt-F Stmt → Stmt
stmt_step main (Stmt-F.Swap at a b) = writing zero_number
stmt_step main (Stmt-F.Assign at p e) = assigned (variable_of main p.base) (built main e).number
stmt_step main (Stmt-F.Call at facility name args) = called main name args at
stmt_step main (Stmt-F.If at g a b) = roll-Stmt (stmt.Stmt-F.If (built main g).truth a b)
stmt_step main (Stmt-F.While at g places invariant metric body) = writing zero_number

abbrev pub stmt_of : Procedure → tree_stmt.Stmt → Stmt
stmt_of main x = fold-Stmt Stmt (stmt_step main) x

-- ---- the module

abbrev pub claim_of : Procedure → Option tree.Expr → Claim
claim_of main None = claim.True
claim_of main (Some e) = (built main e).claim

abbrev pub module_by : List ℕ → Option Procedure → Module
module_by name None = record { name = name; input = []; output = []; claim = claim.True; variables = []; body = []; end_at = 0 }
module_by name (Some main) = record {
  name = name;
  input = input_of main;
  output = output_of main;
  claim = claim_of main main.heading.ensures_clause;
  variables = variables_of main;
  body = map (stmt_of main) main.body;
  end_at = main.end_at;
}

abbrev pub module_of : List Component → Module
module_of (component.Facility m ∷ cs) = module_by m.name (main_in m.operations)
module_of cs = module_by [] None
