-- The numbers of classes, parts and actions, as grammar/write_tables.py writes them.
use Rattle.std.specs.Prelude.{ℕ, List, [], ◌∷◌, codes}

-- ---- classes

abbrev pub id : ℕ
id = 0

abbrev pub literal : ℕ
literal = 1

abbrev pub first_symbol : ℕ
first_symbol = 2

abbrev pub symbol_count : ℕ
symbol_count = 19

abbrev pub first_word : ℕ
first_word = 21

abbrev pub class_count : ℕ
class_count = 95

abbrev pub no_class : ℕ
no_class = 127

-- the reserved words, in the order of their classes
abbrev pub reserved : List (List ℕ)
reserved =
    codes "Concept" ∷ codes "type" ∷ codes "evaluates" ∷ codes "Integer" ∷ codes "uses" ∷ codes "requires" ∷ codes "end" ∷ codes "Type" ∷ codes "Family" ∷ codes "is" ∷ codes "modeled" ∷ codes "by" ∷ codes "exemplar" ∷ codes "constraint" ∷ codes "initialization" ∷ codes "ensures" ∷ codes "Z" ∷ codes "B" ∷ codes "Str" ∷ codes "Cart_Prod" ∷ codes "Operation" ∷ codes "Boolean" ∷ codes "In_Stream" ∷ codes "Out_Stream" ∷ codes "alters" ∷ codes "clears" ∷ codes "preserves" ∷ codes "replaces" ∷ codes "restores" ∷ codes "updates" ∷ codes "Enhancement" ∷ codes "for" ∷ codes "Realization" ∷ codes "of" ∷ codes "Procedure" ∷ codes "Facility" ∷ codes "Static_Array_Template" ∷ codes "realized" ∷ codes "enhanced" ∷ codes "represented" ∷ codes "Record" ∷ codes "convention" ∷ codes "correspondence" ∷ codes "Conc" ∷ codes "decreasing" ∷ codes "Var" ∷ codes "If" ∷ codes "then" ∷ codes "else" ∷ codes "While" ∷ codes "changing" ∷ codes "maintaining" ∷ codes "do" ∷ codes "implies" ∷ codes "or" ∷ codes "and" ∷ codes "not" ∷ codes "o" ∷ codes "div" ∷ codes "mod" ∷ codes "true" ∷ codes "false" ∷ codes "min_int" ∷ codes "max_int" ∷ codes "Empty_String" ∷ codes "Reverse" ∷ codes "Prt_Btwn" ∷ codes "Is_Initial" ∷ codes "Read" ∷ codes "Write" ∷ codes "At_End" ∷ codes "Remaining" ∷ codes "Swap_Entry" ∷ codes "Static_Array" ∷ []

-- ---- parts

abbrev pub file_part : ℕ
file_part = 0

abbrev pub components_part : ℕ
components_part = 1

abbrev pub component_part : ℕ
component_part = 2

abbrev pub realization_rest_part : ℕ
realization_rest_part = 3

abbrev pub formals_part : ℕ
formals_part = 4

abbrev pub more_formals_part : ℕ
more_formals_part = 5

abbrev pub formal_part : ℕ
formal_part = 6

abbrev pub uses_part : ℕ
uses_part = 7

abbrev pub more_names_part : ℕ
more_names_part = 8

abbrev pub requires_part : ℕ
requires_part = 9

abbrev pub ensures_part : ℕ
ensures_part = 10

abbrev pub family_part : ℕ
family_part = 11

abbrev pub constraint_part : ℕ
constraint_part = 12

abbrev pub model_part : ℕ
model_part = 13

abbrev pub more_factors_part : ℕ
more_factors_part = 14

abbrev pub headings_part : ℕ
headings_part = 15

abbrev pub heading_part : ℕ
heading_part = 16

abbrev pub heading_rest_part : ℕ
heading_rest_part = 17

abbrev pub result_type_part : ℕ
result_type_part = 18

abbrev pub parameters_part : ℕ
parameters_part = 19

abbrev pub more_parameters_part : ℕ
more_parameters_part = 20

abbrev pub parameter_part : ℕ
parameter_part = 21

abbrev pub mode_part : ℕ
mode_part = 22

abbrev pub type_part : ℕ
type_part = 23

abbrev pub type_rest_part : ℕ
type_rest_part = 24

abbrev pub type_of_part : ℕ
type_of_part = 25

abbrev pub facilities_part : ℕ
facilities_part = 26

abbrev pub facility_part : ℕ
facility_part = 27

abbrev pub facility_rest_part : ℕ
facility_rest_part = 28

abbrev pub arguments_part : ℕ
arguments_part = 29

abbrev pub more_arguments_part : ℕ
more_arguments_part = 30

abbrev pub argument_part : ℕ
argument_part = 31

abbrev pub enhanced_part : ℕ
enhanced_part = 32

abbrev pub representation_part : ℕ
representation_part = 33

abbrev pub fields_part : ℕ
fields_part = 34

abbrev pub locals_part : ℕ
locals_part = 35

abbrev pub procedures_part : ℕ
procedures_part = 36

abbrev pub signature_rest_part : ℕ
signature_rest_part = 37

abbrev pub body_part : ℕ
body_part = 38

abbrev pub metric_part : ℕ
metric_part = 39

abbrev pub variables_part : ℕ
variables_part = 40

abbrev pub statements_part : ℕ
statements_part = 41

abbrev pub statement_part : ℕ
statement_part = 42

abbrev pub else_part : ℕ
else_part = 43

abbrev pub statement_rest_part : ℕ
statement_rest_part = 44

abbrev pub statement_dot_part : ℕ
statement_dot_part = 45

abbrev pub statement_dot_rest_part : ℕ
statement_dot_rest_part = 46

abbrev pub builtin_part : ℕ
builtin_part = 47

abbrev pub place_part : ℕ
place_part = 48

abbrev pub place_rest_part : ℕ
place_rest_part = 49

abbrev pub more_places_part : ℕ
more_places_part = 50

abbrev pub expressions_part : ℕ
expressions_part = 51

abbrev pub more_expressions_part : ℕ
more_expressions_part = 52

abbrev pub expression_part : ℕ
expression_part = 53

abbrev pub implies_rest_part : ℕ
implies_rest_part = 54

abbrev pub or_part : ℕ
or_part = 55

abbrev pub or_rest_part : ℕ
or_rest_part = 56

abbrev pub and_part : ℕ
and_part = 57

abbrev pub and_rest_part : ℕ
and_rest_part = 58

abbrev pub not_part : ℕ
not_part = 59

abbrev pub compare_rest_part : ℕ
compare_rest_part = 60

abbrev pub concatenation_part : ℕ
concatenation_part = 61

abbrev pub concatenation_rest_part : ℕ
concatenation_rest_part = 62

abbrev pub sum_part : ℕ
sum_part = 63

abbrev pub sum_rest_part : ℕ
sum_rest_part = 64

abbrev pub product_part : ℕ
product_part = 65

abbrev pub product_rest_part : ℕ
product_rest_part = 66

abbrev pub unary_part : ℕ
unary_part = 67

abbrev pub after_minus_part : ℕ
after_minus_part = 68

abbrev pub operand_part : ℕ
operand_part = 69

abbrev pub parentheses_rest_part : ℕ
parentheses_rest_part = 70

abbrev pub tuple_rest_part : ℕ
tuple_rest_part = 71

abbrev pub old_rest_part : ℕ
old_rest_part = 72

abbrev pub operand_rest_part : ℕ
operand_rest_part = 73

abbrev pub operand_dot_part : ℕ
operand_dot_part = 74

abbrev pub dot_rest_part : ℕ
dot_rest_part = 75

abbrev pub component_name_part : ℕ
component_name_part = 76

abbrev pub close_component_part : ℕ
close_component_part = 77

abbrev pub close_operation_part : ℕ
close_operation_part = 78

abbrev pub operation_name_part : ℕ
operation_name_part = 79

abbrev pub result_name_part : ℕ
result_name_part = 80

abbrev pub head_name_part : ℕ
head_name_part = 81

abbrev pub word_part : ℕ
word_part = 82

-- ---- actions

abbrev pub component_mark : ℕ
component_mark = 0

abbrev pub keep_mark : ℕ
keep_mark = 1

abbrev pub headings_mark : ℕ
headings_mark = 2

abbrev pub concept_mark : ℕ
concept_mark = 3

abbrev pub add_heading_mark : ℕ
add_heading_mark = 4

abbrev pub enhancement_mark : ℕ
enhancement_mark = 5

abbrev pub realization_mark : ℕ
realization_mark = 6

abbrev pub facs_mark : ℕ
facs_mark = 7

abbrev pub locals_mark : ℕ
locals_mark = 8

abbrev pub module_mark : ℕ
module_mark = 9

abbrev pub of_concept_mark : ℕ
of_concept_mark = 10

abbrev pub no_rep_mark : ℕ
no_rep_mark = 11

abbrev pub procedures_mark : ℕ
procedures_mark = 12

abbrev pub for_concept_mark : ℕ
for_concept_mark = 13

abbrev pub formals_mark : ℕ
formals_mark = 14

abbrev pub type_formal_mark : ℕ
type_formal_mark = 15

abbrev pub integer_formal_mark : ℕ
integer_formal_mark = 16

abbrev pub names_mark : ℕ
names_mark = 17

abbrev pub add_name_mark : ℕ
add_name_mark = 18

abbrev pub some_clause_mark : ℕ
some_clause_mark = 19

abbrev pub no_clause_mark : ℕ
no_clause_mark = 20

abbrev pub family_mark : ℕ
family_mark = 21

abbrev pub no_family_mark : ℕ
no_family_mark = 22

abbrev pub model_z_mark : ℕ
model_z_mark = 23

abbrev pub model_b_mark : ℕ
model_b_mark = 24

abbrev pub model_str_mark : ℕ
model_str_mark = 25

abbrev pub factors_mark : ℕ
factors_mark = 26

abbrev pub add_factor_mark : ℕ
add_factor_mark = 27

abbrev pub model_product_mark : ℕ
model_product_mark = 28

abbrev pub model_param_mark : ℕ
model_param_mark = 29

abbrev pub params_mark : ℕ
params_mark = 30

abbrev pub heading_mark : ℕ
heading_mark = 31

abbrev pub begin_mark : ℕ
begin_mark = 32

abbrev pub operator_mark : ℕ
operator_mark = 33

abbrev pub result_equals_mark : ℕ
result_equals_mark = 34

abbrev pub operated_mark : ℕ
operated_mark = 35

abbrev pub finish_mark : ℕ
finish_mark = 36

abbrev pub result_clause_mark : ℕ
result_clause_mark = 37

abbrev pub no_result_mark : ℕ
no_result_mark = 38

abbrev pub result_type_mark : ℕ
result_type_mark = 39

abbrev pub add_params_mark : ℕ
add_params_mark = 40

abbrev pub mode_alters_mark : ℕ
mode_alters_mark = 41

abbrev pub mode_clears_mark : ℕ
mode_clears_mark = 42

abbrev pub mode_evaluates_mark : ℕ
mode_evaluates_mark = 43

abbrev pub mode_preserves_mark : ℕ
mode_preserves_mark = 44

abbrev pub mode_replaces_mark : ℕ
mode_replaces_mark = 45

abbrev pub mode_restores_mark : ℕ
mode_restores_mark = 46

abbrev pub mode_updates_mark : ℕ
mode_updates_mark = 47

abbrev pub type_word_mark : ℕ
type_word_mark = 48

abbrev pub type_alone_mark : ℕ
type_alone_mark = 49

abbrev pub type_of_mark : ℕ
type_of_mark = 50

abbrev pub add_fac_mark : ℕ
add_fac_mark = 51

abbrev pub args_mark : ℕ
args_mark = 52

abbrev pub realized_by_mark : ℕ
realized_by_mark = 53

abbrev pub pairs_mark : ℕ
pairs_mark = 54

abbrev pub not_realized_mark : ℕ
not_realized_mark = 55

abbrev pub type_arg_mark : ℕ
type_arg_mark = 56

abbrev pub number_arg_mark : ℕ
number_arg_mark = 57

abbrev pub minus_arg_mark : ℕ
minus_arg_mark = 58

abbrev pub add_pair_mark : ℕ
add_pair_mark = 59

abbrev pub typed_names_mark : ℕ
typed_names_mark = 60

abbrev pub rep_mark : ℕ
rep_mark = 61

abbrev pub add_typed_names_mark : ℕ
add_typed_names_mark = 62

abbrev pub add_local_mark : ℕ
add_local_mark = 63

abbrev pub add_procedure_mark : ℕ
add_procedure_mark = 64

abbrev pub signature_mark : ℕ
signature_mark = 65

abbrev pub enter_mark : ℕ
enter_mark = 66

abbrev pub block_mark : ℕ
block_mark = 67

abbrev pub leave_mark : ℕ
leave_mark = 68

abbrev pub exprs_mark : ℕ
exprs_mark = 69

abbrev pub call_builtin_mark : ℕ
call_builtin_mark = 70

abbrev pub if_mark : ℕ
if_mark = 71

abbrev pub places_mark : ℕ
places_mark = 72

abbrev pub add_place_mark : ℕ
add_place_mark = 73

abbrev pub while_mark : ℕ
while_mark = 74

abbrev pub place_alone_mark : ℕ
place_alone_mark = 75

abbrev pub swap_mark : ℕ
swap_mark = 76

abbrev pub assign_mark : ℕ
assign_mark = 77

abbrev pub call_local_mark : ℕ
call_local_mark = 78

abbrev pub call_of_mark : ℕ
call_of_mark = 79

abbrev pub place_field_mark : ℕ
place_field_mark = 80

abbrev pub add_expr_mark : ℕ
add_expr_mark = 81

abbrev pub implies_mark : ℕ
implies_mark = 82

abbrev pub or_mark : ℕ
or_mark = 83

abbrev pub and_mark : ℕ
and_mark = 84

abbrev pub not_mark : ℕ
not_mark = 85

abbrev pub equal_mark : ℕ
equal_mark = 86

abbrev pub not_equal_mark : ℕ
not_equal_mark = 87

abbrev pub less_mark : ℕ
less_mark = 88

abbrev pub less_equal_mark : ℕ
less_equal_mark = 89

abbrev pub greater_mark : ℕ
greater_mark = 90

abbrev pub greater_equal_mark : ℕ
greater_equal_mark = 91

abbrev pub cat_mark : ℕ
cat_mark = 92

abbrev pub add_mark : ℕ
add_mark = 93

abbrev pub sub_mark : ℕ
sub_mark = 94

abbrev pub mul_mark : ℕ
mul_mark = 95

abbrev pub div_mark : ℕ
div_mark = 96

abbrev pub mod_mark : ℕ
mod_mark = 97

abbrev pub literal_mark : ℕ
literal_mark = 98

abbrev pub minus_mark : ℕ
minus_mark = 99

abbrev pub minus_literal_mark : ℕ
minus_literal_mark = 100

abbrev pub true_mark : ℕ
true_mark = 101

abbrev pub false_mark : ℕ
false_mark = 102

abbrev pub min_int_mark : ℕ
min_int_mark = 103

abbrev pub max_int_mark : ℕ
max_int_mark = 104

abbrev pub empty_string_mark : ℕ
empty_string_mark = 105

abbrev pub builtin_expr_mark : ℕ
builtin_expr_mark = 106

abbrev pub bars_mark : ℕ
bars_mark = 107

abbrev pub single_mark : ℕ
single_mark = 108

abbrev pub parentheses_mark : ℕ
parentheses_mark = 109

abbrev pub add_first_mark : ℕ
add_first_mark = 110

abbrev pub tuple_mark : ℕ
tuple_mark = 111

abbrev pub old_dot_mark : ℕ
old_dot_mark = 112

abbrev pub old_mark : ℕ
old_mark = 113

abbrev pub call_expr_mark : ℕ
call_expr_mark = 114

abbrev pub word_mark : ℕ
word_mark = 115

abbrev pub call_of_expr_mark : ℕ
call_of_expr_mark = 116

abbrev pub is_initial_mark : ℕ
is_initial_mark = 117

abbrev pub dot_mark : ℕ
dot_mark = 118

abbrev pub open_component_mark : ℕ
open_component_mark = 119

abbrev pub close_component_mark : ℕ
close_component_mark = 120

abbrev pub close_operation_mark : ℕ
close_operation_mark = 121

abbrev pub open_operation_mark : ℕ
open_operation_mark = 122

abbrev pub same_mark : ℕ
same_mark = 123

abbrev pub head_mark : ℕ
head_mark = 124
