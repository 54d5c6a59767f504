-- Which actions of the grammar build expressions, and how.
use Rattle.std.specs.Prelude.{ℕ, true, false, ◌==◌, if◌then◌else◌, Option, Some, None}
use Rattle.res_grammar.specs.Numbers.{keep_mark, open_component_mark, open_operation_mark, exprs_mark, add_expr_mark, add_first_mark, implies_mark, or_mark, and_mark, not_mark, equal_mark, not_equal_mark, less_mark, less_equal_mark, greater_mark, greater_equal_mark, cat_mark, add_mark, sub_mark, mul_mark, div_mark, mod_mark, literal_mark, minus_mark, minus_literal_mark, true_mark, false_mark, min_int_mark, max_int_mark, empty_string_mark, word_mark, old_mark, dot_mark, old_dot_mark, call_expr_mark, builtin_expr_mark, call_of_expr_mark, is_initial_mark, bars_mark, single_mark, parentheses_mark, tuple_mark, result_equals_mark, result_clause_mark}
use Rattle.res_ast.specs.declared.expression.BinOp.TheVariants as op
use Rattle.expr_parser.specs.declared.action.ExprAction.{ExprAction}
use Rattle.expr_parser.specs.declared.action.ExprAction.TheVariants.{Keep, OpenList, AddExpr, Binary, Not, Minus, Literal, MinusLiteral, Truth, MinInt, MaxInt, EmptyString, Word, Old, Dot, OldDot, Call, FacilityCall, IsInitial, Bars, Single, Parentheses, Tuple, ResultEquals}

abbrev pub expr_action : ℕ → Option ExprAction
expr_action a =
    if a == keep_mark then Some Keep else
    if a == open_component_mark then Some Keep else
    if a == open_operation_mark then Some Keep else
    if a == exprs_mark then Some OpenList else
    if a == add_expr_mark then Some AddExpr else
    if a == add_first_mark then Some AddExpr else
    if a == implies_mark then Some (Binary op.Implies) else
    if a == or_mark then Some (Binary op.Or) else
    if a == and_mark then Some (Binary op.And) else
    if a == not_mark then Some Not else
    if a == equal_mark then Some (Binary op.Eq) else
    if a == not_equal_mark then Some (Binary op.NotEq) else
    if a == less_mark then Some (Binary op.Less) else
    if a == less_equal_mark then Some (Binary op.LessEq) else
    if a == greater_mark then Some (Binary op.Greater) else
    if a == greater_equal_mark then Some (Binary op.GreaterEq) else
    if a == cat_mark then Some (Binary op.Cat) else
    if a == add_mark then Some (Binary op.Add) else
    if a == sub_mark then Some (Binary op.Sub) else
    if a == mul_mark then Some (Binary op.Mul) else
    if a == div_mark then Some (Binary op.Div) else
    if a == mod_mark then Some (Binary op.Mod) else
    if a == literal_mark then Some Literal else
    if a == minus_mark then Some Minus else
    if a == minus_literal_mark then Some MinusLiteral else
    if a == true_mark then Some (Truth true) else
    if a == false_mark then Some (Truth false) else
    if a == min_int_mark then Some MinInt else
    if a == max_int_mark then Some MaxInt else
    if a == empty_string_mark then Some EmptyString else
    if a == word_mark then Some Word else
    if a == old_mark then Some Old else
    if a == dot_mark then Some Dot else
    if a == old_dot_mark then Some OldDot else
    if a == call_expr_mark then Some Call else
    if a == builtin_expr_mark then Some Call else
    if a == call_of_expr_mark then Some FacilityCall else
    if a == is_initial_mark then Some IsInitial else
    if a == bars_mark then Some Bars else
    if a == single_mark then Some Single else
    if a == parentheses_mark then Some Parentheses else
    if a == tuple_mark then Some Tuple else
    if a == result_equals_mark then Some ResultEquals else
    if a == result_clause_mark then Some (Binary op.Eq) else
    None
