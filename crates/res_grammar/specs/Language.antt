-- The grammar of component files and the tables of its LL(1) test, as grammar/write_tables.py writes them.
use Rattle.std.specs.Prelude.{ℕ, List, [], ◌∷◌}
use Rattle.ll_grammar.specs.declared.form.Symbol.TheVariants.{Action, Nonterminal, Terminal}
use Rattle.ll_grammar.specs.Grammar.{Rules}
use Rattle.ll_grammar.specs.Predictive.{Table, Certificate}

unfoldable pub language_rules : Rules
language_rules =
    -- 0 File
    ((Nonterminal 2 ∷ Action 0 ∷ Nonterminal 1 ∷ []) ∷ []) ∷
    -- 1 Components
    ((Nonterminal 2 ∷ Action 0 ∷ Nonterminal 1 ∷ []) ∷ ([]) ∷ []) ∷
    -- 2 Component
    ((Terminal 21 ∷ Action 1 ∷ Nonterminal 76 ∷ Nonterminal 4 ∷ Terminal 16 ∷ Nonterminal 7 ∷ Nonterminal 9 ∷ Nonterminal 11 ∷ Action 2 ∷ Nonterminal 15 ∷ Terminal 27 ∷ Nonterminal 77 ∷ Terminal 16 ∷ Action 3 ∷ []) ∷ (Terminal 51 ∷ Action 1 ∷ Nonterminal 76 ∷ Terminal 52 ∷ Terminal 0 ∷ Action 1 ∷ Terminal 16 ∷ Nonterminal 7 ∷ Action 2 ∷ Nonterminal 16 ∷ Action 4 ∷ Nonterminal 15 ∷ Terminal 27 ∷ Nonterminal 77 ∷ Terminal 16 ∷ Action 5 ∷ []) ∷ (Terminal 53 ∷ Action 1 ∷ Nonterminal 76 ∷ Terminal 52 ∷ Terminal 0 ∷ Action 1 ∷ Nonterminal 3 ∷ Terminal 27 ∷ Action 1 ∷ Nonterminal 77 ∷ Terminal 16 ∷ Action 6 ∷ []) ∷ (Terminal 56 ∷ Action 1 ∷ Nonterminal 76 ∷ Terminal 16 ∷ Nonterminal 7 ∷ Action 7 ∷ Nonterminal 26 ∷ Action 8 ∷ Nonterminal 35 ∷ Terminal 27 ∷ Nonterminal 77 ∷ Terminal 16 ∷ Action 9 ∷ []) ∷ []) ∷
    -- 3 Realization_Rest
    ((Terminal 54 ∷ Terminal 0 ∷ Action 10 ∷ Terminal 16 ∷ Nonterminal 7 ∷ Action 7 ∷ Nonterminal 26 ∷ Action 11 ∷ Action 8 ∷ Nonterminal 35 ∷ Action 12 ∷ Nonterminal 36 ∷ []) ∷ (Action 13 ∷ Terminal 16 ∷ Nonterminal 7 ∷ Action 7 ∷ Nonterminal 26 ∷ Nonterminal 33 ∷ Action 8 ∷ Action 12 ∷ Nonterminal 36 ∷ []) ∷ []) ∷
    -- 4 Formals
    ((Terminal 13 ∷ Action 14 ∷ Nonterminal 6 ∷ Nonterminal 5 ∷ Terminal 14 ∷ []) ∷ (Action 14 ∷ []) ∷ []) ∷
    -- 5 More_Formals
    ((Terminal 16 ∷ Nonterminal 6 ∷ Nonterminal 5 ∷ []) ∷ ([]) ∷ []) ∷
    -- 6 Formal
    ((Terminal 22 ∷ Terminal 0 ∷ Action 15 ∷ []) ∷ (Terminal 23 ∷ Terminal 0 ∷ Action 16 ∷ Terminal 17 ∷ Terminal 24 ∷ []) ∷ []) ∷
    -- 7 Uses
    ((Terminal 25 ∷ Action 17 ∷ Terminal 0 ∷ Action 18 ∷ Nonterminal 8 ∷ Terminal 16 ∷ []) ∷ (Action 17 ∷ []) ∷ []) ∷
    -- 8 More_Names
    ((Terminal 15 ∷ Terminal 0 ∷ Action 18 ∷ Nonterminal 8 ∷ []) ∷ ([]) ∷ []) ∷
    -- 9 Requires
    ((Terminal 26 ∷ Nonterminal 53 ∷ Terminal 16 ∷ Action 19 ∷ []) ∷ (Action 20 ∷ []) ∷ []) ∷
    -- 10 Ensures
    ((Terminal 36 ∷ Nonterminal 53 ∷ Terminal 16 ∷ Action 19 ∷ []) ∷ (Action 20 ∷ []) ∷ []) ∷
    -- 11 Family
    ((Terminal 28 ∷ Action 1 ∷ Terminal 29 ∷ Terminal 0 ∷ Action 1 ∷ Terminal 30 ∷ Terminal 31 ∷ Terminal 32 ∷ Nonterminal 13 ∷ Terminal 16 ∷ Terminal 33 ∷ Terminal 0 ∷ Action 1 ∷ Terminal 16 ∷ Nonterminal 12 ∷ Terminal 35 ∷ Terminal 36 ∷ Nonterminal 53 ∷ Terminal 16 ∷ Action 21 ∷ []) ∷ (Action 22 ∷ []) ∷ []) ∷
    -- 12 Constraint
    ((Terminal 34 ∷ Nonterminal 53 ∷ Terminal 16 ∷ Action 19 ∷ []) ∷ (Action 20 ∷ []) ∷ []) ∷
    -- 13 Model
    ((Terminal 37 ∷ Action 23 ∷ []) ∷ (Terminal 38 ∷ Action 24 ∷ []) ∷ (Terminal 39 ∷ Terminal 13 ∷ Nonterminal 13 ∷ Terminal 14 ∷ Action 25 ∷ []) ∷ (Terminal 40 ∷ Action 26 ∷ Terminal 0 ∷ Action 1 ∷ Terminal 17 ∷ Nonterminal 13 ∷ Action 27 ∷ Nonterminal 14 ∷ Terminal 27 ∷ Action 28 ∷ []) ∷ (Terminal 0 ∷ Action 29 ∷ []) ∷ []) ∷
    -- 14 More_Factors
    ((Terminal 16 ∷ Terminal 0 ∷ Action 1 ∷ Terminal 17 ∷ Nonterminal 13 ∷ Action 27 ∷ Nonterminal 14 ∷ []) ∷ ([]) ∷ []) ∷
    -- 15 Headings
    ((Nonterminal 16 ∷ Action 4 ∷ Nonterminal 15 ∷ []) ∷ ([]) ∷ []) ∷
    -- 16 Heading
    ((Terminal 41 ∷ Action 1 ∷ Nonterminal 79 ∷ Action 30 ∷ Terminal 13 ∷ Nonterminal 19 ∷ Terminal 14 ∷ Nonterminal 17 ∷ Action 31 ∷ []) ∷ []) ∷
    -- 17 Heading_Rest
    ((Terminal 17 ∷ Nonterminal 18 ∷ Terminal 16 ∷ Nonterminal 9 ∷ Terminal 36 ∷ Action 32 ∷ Nonterminal 80 ∷ Action 33 ∷ Terminal 9 ∷ Action 34 ∷ Nonterminal 61 ∷ Action 35 ∷ Action 36 ∷ Action 37 ∷ Terminal 16 ∷ Action 19 ∷ []) ∷ (Action 38 ∷ Terminal 16 ∷ Nonterminal 9 ∷ Nonterminal 10 ∷ []) ∷ []) ∷
    -- 18 Result_Type
    ((Terminal 24 ∷ Action 39 ∷ []) ∷ (Terminal 42 ∷ Action 39 ∷ []) ∷ []) ∷
    -- 19 Parameters
    ((Nonterminal 21 ∷ Nonterminal 20 ∷ []) ∷ ([]) ∷ []) ∷
    -- 20 More_Parameters
    ((Terminal 16 ∷ Nonterminal 21 ∷ Nonterminal 20 ∷ []) ∷ ([]) ∷ []) ∷
    -- 21 Parameter
    ((Nonterminal 22 ∷ Action 17 ∷ Terminal 0 ∷ Action 18 ∷ Nonterminal 8 ∷ Terminal 17 ∷ Nonterminal 23 ∷ Action 40 ∷ []) ∷ []) ∷
    -- 22 Mode
    ((Terminal 45 ∷ Action 41 ∷ []) ∷ (Terminal 46 ∷ Action 42 ∷ []) ∷ (Terminal 23 ∷ Action 43 ∷ []) ∷ (Terminal 47 ∷ Action 44 ∷ []) ∷ (Terminal 48 ∷ Action 45 ∷ []) ∷ (Terminal 49 ∷ Action 46 ∷ []) ∷ (Terminal 50 ∷ Action 47 ∷ []) ∷ []) ∷
    -- 23 Type
    ((Terminal 24 ∷ Action 48 ∷ []) ∷ (Terminal 42 ∷ Action 48 ∷ []) ∷ (Terminal 43 ∷ Action 48 ∷ []) ∷ (Terminal 44 ∷ Action 48 ∷ []) ∷ (Terminal 0 ∷ Action 1 ∷ Nonterminal 24 ∷ []) ∷ []) ∷
    -- 24 Type_Rest
    ((Terminal 18 ∷ Nonterminal 25 ∷ []) ∷ (Action 49 ∷ []) ∷ []) ∷
    -- 25 Type_Of
    ((Terminal 0 ∷ Action 50 ∷ []) ∷ (Terminal 94 ∷ Action 50 ∷ []) ∷ []) ∷
    -- 26 Facilities
    ((Nonterminal 27 ∷ Nonterminal 26 ∷ []) ∷ ([]) ∷ []) ∷
    -- 27 Facility
    ((Terminal 56 ∷ Action 1 ∷ Terminal 0 ∷ Action 1 ∷ Terminal 30 ∷ Nonterminal 28 ∷ Terminal 16 ∷ Action 51 ∷ []) ∷ []) ∷
    -- 28 Facility_Rest
    ((Terminal 0 ∷ Action 1 ∷ Action 52 ∷ Nonterminal 29 ∷ Terminal 58 ∷ Terminal 32 ∷ Terminal 0 ∷ Action 1 ∷ Action 53 ∷ Action 54 ∷ Nonterminal 32 ∷ []) ∷ (Terminal 57 ∷ Action 1 ∷ Action 52 ∷ Nonterminal 29 ∷ Action 55 ∷ Action 54 ∷ []) ∷ []) ∷
    -- 29 Arguments
    ((Terminal 13 ∷ Nonterminal 31 ∷ Nonterminal 30 ∷ Terminal 14 ∷ []) ∷ ([]) ∷ []) ∷
    -- 30 More_Arguments
    ((Terminal 15 ∷ Nonterminal 31 ∷ Nonterminal 30 ∷ []) ∷ ([]) ∷ []) ∷
    -- 31 Argument
    ((Nonterminal 23 ∷ Action 56 ∷ []) ∷ (Terminal 1 ∷ Action 57 ∷ []) ∷ (Terminal 11 ∷ Action 1 ∷ Terminal 1 ∷ Action 58 ∷ []) ∷ []) ∷
    -- 32 Enhanced
    ((Terminal 59 ∷ Terminal 32 ∷ Terminal 0 ∷ Action 1 ∷ Terminal 58 ∷ Terminal 32 ∷ Terminal 0 ∷ Action 59 ∷ Nonterminal 32 ∷ []) ∷ ([]) ∷ []) ∷
    -- 33 Representation
    ((Terminal 28 ∷ Action 1 ∷ Terminal 0 ∷ Action 1 ∷ Terminal 30 ∷ Terminal 60 ∷ Terminal 32 ∷ Terminal 61 ∷ Action 60 ∷ Nonterminal 34 ∷ Terminal 27 ∷ Terminal 16 ∷ Terminal 62 ∷ Nonterminal 53 ∷ Terminal 16 ∷ Terminal 63 ∷ Terminal 64 ∷ Terminal 18 ∷ Terminal 0 ∷ Action 1 ∷ Terminal 9 ∷ Nonterminal 53 ∷ Terminal 16 ∷ Action 61 ∷ []) ∷ (Action 11 ∷ []) ∷ []) ∷
    -- 34 Fields
    ((Action 17 ∷ Terminal 0 ∷ Action 18 ∷ Nonterminal 8 ∷ Terminal 17 ∷ Nonterminal 23 ∷ Action 62 ∷ Terminal 16 ∷ Nonterminal 34 ∷ []) ∷ ([]) ∷ []) ∷
    -- 35 Locals
    ((Nonterminal 16 ∷ Terminal 55 ∷ Nonterminal 38 ∷ Action 63 ∷ Nonterminal 35 ∷ []) ∷ ([]) ∷ []) ∷
    -- 36 Procedures
    ((Terminal 55 ∷ Action 1 ∷ Nonterminal 79 ∷ Action 30 ∷ Terminal 13 ∷ Nonterminal 19 ∷ Terminal 14 ∷ Nonterminal 37 ∷ Nonterminal 38 ∷ Action 64 ∷ Nonterminal 36 ∷ []) ∷ ([]) ∷ []) ∷
    -- 37 Signature_Rest
    ((Terminal 17 ∷ Nonterminal 18 ∷ Terminal 16 ∷ Action 65 ∷ []) ∷ (Action 38 ∷ Terminal 16 ∷ Action 65 ∷ []) ∷ []) ∷
    -- 38 Body
    ((Nonterminal 39 ∷ Action 60 ∷ Nonterminal 40 ∷ Action 66 ∷ Action 67 ∷ Nonterminal 41 ∷ Action 68 ∷ Terminal 27 ∷ Action 1 ∷ Nonterminal 78 ∷ Terminal 16 ∷ []) ∷ []) ∷
    -- 39 Metric
    ((Terminal 65 ∷ Nonterminal 53 ∷ Terminal 16 ∷ Action 19 ∷ []) ∷ (Action 20 ∷ []) ∷ []) ∷
    -- 40 Variables
    ((Terminal 66 ∷ Action 17 ∷ Terminal 0 ∷ Action 18 ∷ Nonterminal 8 ∷ Terminal 17 ∷ Nonterminal 23 ∷ Action 62 ∷ Terminal 16 ∷ Nonterminal 40 ∷ []) ∷ ([]) ∷ []) ∷
    -- 41 Statements
    ((Action 66 ∷ Nonterminal 42 ∷ Action 68 ∷ Nonterminal 41 ∷ []) ∷ ([]) ∷ []) ∷
    -- 42 Statement
    ((Terminal 0 ∷ Action 1 ∷ Nonterminal 44 ∷ Terminal 16 ∷ []) ∷ (Nonterminal 47 ∷ Terminal 13 ∷ Action 69 ∷ Nonterminal 51 ∷ Terminal 14 ∷ Terminal 16 ∷ Action 70 ∷ []) ∷ (Terminal 67 ∷ Action 1 ∷ Nonterminal 53 ∷ Action 66 ∷ Terminal 68 ∷ Action 67 ∷ Nonterminal 41 ∷ Action 68 ∷ Nonterminal 43 ∷ Terminal 27 ∷ Terminal 16 ∷ Action 71 ∷ []) ∷ (Terminal 70 ∷ Action 1 ∷ Nonterminal 53 ∷ Terminal 71 ∷ Action 72 ∷ Nonterminal 48 ∷ Action 73 ∷ Nonterminal 50 ∷ Terminal 16 ∷ Terminal 72 ∷ Nonterminal 53 ∷ Terminal 16 ∷ Terminal 65 ∷ Nonterminal 53 ∷ Terminal 16 ∷ Action 66 ∷ Terminal 73 ∷ Action 67 ∷ Nonterminal 41 ∷ Action 68 ∷ Terminal 27 ∷ Terminal 16 ∷ Action 74 ∷ []) ∷ []) ∷
    -- 43 Else
    ((Action 66 ∷ Terminal 69 ∷ Action 67 ∷ Nonterminal 41 ∷ Action 68 ∷ []) ∷ (Action 67 ∷ []) ∷ []) ∷
    -- 44 Statement_Rest
    ((Action 75 ∷ Terminal 2 ∷ Nonterminal 48 ∷ Action 76 ∷ []) ∷ (Action 75 ∷ Terminal 3 ∷ Nonterminal 53 ∷ Action 77 ∷ []) ∷ (Terminal 13 ∷ Action 69 ∷ Nonterminal 51 ∷ Terminal 14 ∷ Action 78 ∷ []) ∷ (Terminal 18 ∷ Nonterminal 45 ∷ []) ∷ []) ∷
    -- 45 Statement_Dot
    ((Terminal 0 ∷ Action 1 ∷ Nonterminal 46 ∷ []) ∷ (Nonterminal 47 ∷ Terminal 13 ∷ Action 69 ∷ Nonterminal 51 ∷ Terminal 14 ∷ Action 79 ∷ []) ∷ []) ∷
    -- 46 Statement_Dot_Rest
    ((Action 80 ∷ Terminal 2 ∷ Nonterminal 48 ∷ Action 76 ∷ []) ∷ (Action 80 ∷ Terminal 3 ∷ Nonterminal 53 ∷ Action 77 ∷ []) ∷ (Terminal 13 ∷ Action 69 ∷ Nonterminal 51 ∷ Terminal 14 ∷ Action 79 ∷ []) ∷ []) ∷
    -- 47 Builtin
    ((Terminal 89 ∷ Action 1 ∷ []) ∷ (Terminal 90 ∷ Action 1 ∷ []) ∷ (Terminal 91 ∷ Action 1 ∷ []) ∷ (Terminal 92 ∷ Action 1 ∷ []) ∷ (Terminal 93 ∷ Action 1 ∷ []) ∷ []) ∷
    -- 48 Place
    ((Terminal 0 ∷ Action 1 ∷ Nonterminal 49 ∷ []) ∷ []) ∷
    -- 49 Place_Rest
    ((Terminal 18 ∷ Terminal 0 ∷ Action 1 ∷ Action 80 ∷ []) ∷ (Action 75 ∷ []) ∷ []) ∷
    -- 50 More_Places
    ((Terminal 15 ∷ Nonterminal 48 ∷ Action 73 ∷ Nonterminal 50 ∷ []) ∷ ([]) ∷ []) ∷
    -- 51 Expressions
    ((Nonterminal 53 ∷ Action 81 ∷ Nonterminal 52 ∷ []) ∷ ([]) ∷ []) ∷
    -- 52 More_Expressions
    ((Terminal 15 ∷ Nonterminal 53 ∷ Action 81 ∷ Nonterminal 52 ∷ []) ∷ ([]) ∷ []) ∷
    -- 53 Expression
    ((Action 32 ∷ Nonterminal 55 ∷ Nonterminal 54 ∷ Action 36 ∷ []) ∷ []) ∷
    -- 54 Implies_Rest
    ((Action 33 ∷ Terminal 74 ∷ Action 1 ∷ Nonterminal 53 ∷ Action 82 ∷ Action 35 ∷ []) ∷ ([]) ∷ []) ∷
    -- 55 Or
    ((Nonterminal 57 ∷ Nonterminal 56 ∷ []) ∷ []) ∷
    -- 56 Or_Rest
    ((Action 33 ∷ Terminal 75 ∷ Action 1 ∷ Nonterminal 57 ∷ Action 83 ∷ Action 35 ∷ Nonterminal 56 ∷ []) ∷ ([]) ∷ []) ∷
    -- 57 And
    ((Nonterminal 59 ∷ Nonterminal 58 ∷ []) ∷ []) ∷
    -- 58 And_Rest
    ((Action 33 ∷ Terminal 76 ∷ Action 1 ∷ Nonterminal 59 ∷ Action 84 ∷ Action 35 ∷ Nonterminal 58 ∷ []) ∷ ([]) ∷ []) ∷
    -- 59 Not
    ((Action 66 ∷ Terminal 77 ∷ Action 1 ∷ Nonterminal 59 ∷ Action 85 ∷ Action 68 ∷ []) ∷ (Nonterminal 61 ∷ Nonterminal 60 ∷ []) ∷ []) ∷
    -- 60 Compare_Rest
    ((Action 33 ∷ Terminal 9 ∷ Action 1 ∷ Nonterminal 61 ∷ Action 86 ∷ Action 35 ∷ []) ∷ (Action 33 ∷ Terminal 6 ∷ Action 1 ∷ Nonterminal 61 ∷ Action 87 ∷ Action 35 ∷ []) ∷ (Action 33 ∷ Terminal 7 ∷ Action 1 ∷ Nonterminal 61 ∷ Action 88 ∷ Action 35 ∷ []) ∷ (Action 33 ∷ Terminal 4 ∷ Action 1 ∷ Nonterminal 61 ∷ Action 89 ∷ Action 35 ∷ []) ∷ (Action 33 ∷ Terminal 8 ∷ Action 1 ∷ Nonterminal 61 ∷ Action 90 ∷ Action 35 ∷ []) ∷ (Action 33 ∷ Terminal 5 ∷ Action 1 ∷ Nonterminal 61 ∷ Action 91 ∷ Action 35 ∷ []) ∷ ([]) ∷ []) ∷
    -- 61 Concatenation
    ((Nonterminal 63 ∷ Nonterminal 62 ∷ []) ∷ []) ∷
    -- 62 Concatenation_Rest
    ((Action 33 ∷ Terminal 78 ∷ Action 1 ∷ Nonterminal 63 ∷ Action 92 ∷ Action 35 ∷ Nonterminal 62 ∷ []) ∷ ([]) ∷ []) ∷
    -- 63 Sum
    ((Nonterminal 65 ∷ Nonterminal 64 ∷ []) ∷ []) ∷
    -- 64 Sum_Rest
    ((Action 33 ∷ Terminal 10 ∷ Action 1 ∷ Nonterminal 65 ∷ Action 93 ∷ Action 35 ∷ Nonterminal 64 ∷ []) ∷ (Action 33 ∷ Terminal 11 ∷ Action 1 ∷ Nonterminal 65 ∷ Action 94 ∷ Action 35 ∷ Nonterminal 64 ∷ []) ∷ ([]) ∷ []) ∷
    -- 65 Product
    ((Nonterminal 67 ∷ Nonterminal 66 ∷ []) ∷ []) ∷
    -- 66 Product_Rest
    ((Action 33 ∷ Terminal 12 ∷ Action 1 ∷ Nonterminal 67 ∷ Action 95 ∷ Action 35 ∷ Nonterminal 66 ∷ []) ∷ (Action 33 ∷ Terminal 79 ∷ Action 1 ∷ Nonterminal 67 ∷ Action 96 ∷ Action 35 ∷ Nonterminal 66 ∷ []) ∷ (Action 33 ∷ Terminal 80 ∷ Action 1 ∷ Nonterminal 67 ∷ Action 97 ∷ Action 35 ∷ Nonterminal 66 ∷ []) ∷ ([]) ∷ []) ∷
    -- 67 Unary
    ((Terminal 11 ∷ Action 1 ∷ Nonterminal 68 ∷ []) ∷ (Terminal 1 ∷ Action 98 ∷ []) ∷ (Nonterminal 69 ∷ []) ∷ []) ∷
    -- 68 After_Minus
    ((Action 66 ∷ Terminal 11 ∷ Action 1 ∷ Nonterminal 68 ∷ Action 99 ∷ Action 68 ∷ []) ∷ (Terminal 1 ∷ Action 100 ∷ []) ∷ (Action 66 ∷ Nonterminal 69 ∷ Action 99 ∷ Action 68 ∷ []) ∷ []) ∷
    -- 69 Operand
    ((Terminal 81 ∷ Action 101 ∷ []) ∷ (Terminal 82 ∷ Action 102 ∷ []) ∷ (Terminal 83 ∷ Action 103 ∷ []) ∷ (Terminal 84 ∷ Action 104 ∷ []) ∷ (Terminal 85 ∷ Action 105 ∷ []) ∷ (Nonterminal 81 ∷ Nonterminal 73 ∷ []) ∷ (Terminal 20 ∷ Action 1 ∷ Nonterminal 81 ∷ Nonterminal 72 ∷ []) ∷ (Action 66 ∷ Nonterminal 47 ∷ Terminal 13 ∷ Action 69 ∷ Nonterminal 51 ∷ Terminal 14 ∷ Action 106 ∷ Action 68 ∷ []) ∷ (Action 66 ∷ Terminal 86 ∷ Action 1 ∷ Terminal 13 ∷ Action 69 ∷ Nonterminal 53 ∷ Action 81 ∷ Terminal 14 ∷ Action 106 ∷ Action 68 ∷ []) ∷ (Action 66 ∷ Terminal 87 ∷ Action 1 ∷ Terminal 13 ∷ Action 69 ∷ Nonterminal 53 ∷ Action 81 ∷ Terminal 15 ∷ Nonterminal 53 ∷ Action 81 ∷ Terminal 15 ∷ Nonterminal 53 ∷ Action 81 ∷ Terminal 14 ∷ Action 106 ∷ Action 68 ∷ []) ∷ (Action 66 ∷ Terminal 19 ∷ Action 1 ∷ Nonterminal 61 ∷ Terminal 19 ∷ Action 107 ∷ Action 68 ∷ []) ∷ (Action 66 ∷ Terminal 7 ∷ Action 1 ∷ Nonterminal 61 ∷ Terminal 8 ∷ Action 108 ∷ Action 68 ∷ []) ∷ (Action 66 ∷ Terminal 13 ∷ Action 1 ∷ Nonterminal 53 ∷ Nonterminal 70 ∷ Action 68 ∷ []) ∷ []) ∷
    -- 70 Parentheses_Rest
    ((Terminal 14 ∷ Action 109 ∷ []) ∷ (Terminal 15 ∷ Action 69 ∷ Action 110 ∷ Nonterminal 53 ∷ Action 81 ∷ Nonterminal 71 ∷ Action 111 ∷ []) ∷ []) ∷
    -- 71 Tuple_Rest
    ((Terminal 15 ∷ Nonterminal 53 ∷ Action 81 ∷ Nonterminal 71 ∷ []) ∷ (Terminal 14 ∷ []) ∷ []) ∷
    -- 72 Old_Rest
    ((Terminal 18 ∷ Terminal 0 ∷ Action 112 ∷ []) ∷ (Action 113 ∷ []) ∷ []) ∷
    -- 73 Operand_Rest
    ((Action 66 ∷ Terminal 13 ∷ Action 69 ∷ Nonterminal 51 ∷ Terminal 14 ∷ Action 114 ∷ Action 68 ∷ []) ∷ (Terminal 18 ∷ Nonterminal 74 ∷ []) ∷ (Action 115 ∷ []) ∷ []) ∷
    -- 74 Operand_Dot
    ((Terminal 0 ∷ Action 1 ∷ Nonterminal 75 ∷ []) ∷ (Action 66 ∷ Nonterminal 47 ∷ Terminal 13 ∷ Action 69 ∷ Nonterminal 51 ∷ Terminal 14 ∷ Action 116 ∷ Action 68 ∷ []) ∷ (Action 66 ∷ Terminal 88 ∷ Terminal 13 ∷ Nonterminal 53 ∷ Terminal 14 ∷ Action 117 ∷ Action 68 ∷ []) ∷ []) ∷
    -- 75 Dot_Rest
    ((Action 66 ∷ Terminal 13 ∷ Action 69 ∷ Nonterminal 51 ∷ Terminal 14 ∷ Action 116 ∷ Action 68 ∷ []) ∷ (Action 118 ∷ []) ∷ []) ∷
    -- 76 Component_Name
    ((Terminal 0 ∷ Action 119 ∷ []) ∷ []) ∷
    -- 77 Close_Component
    ((Action 120 ∷ Nonterminal 82 ∷ []) ∷ []) ∷
    -- 78 Close_Operation
    ((Action 121 ∷ Nonterminal 82 ∷ []) ∷ []) ∷
    -- 79 Operation_Name
    ((Terminal 0 ∷ Action 122 ∷ []) ∷ []) ∷
    -- 80 Result_Name
    ((Action 123 ∷ Terminal 0 ∷ Action 1 ∷ []) ∷ []) ∷
    -- 81 Head_Name
    ((Action 124 ∷ Terminal 0 ∷ Action 1 ∷ []) ∷ []) ∷
    -- 82 Word
    ((Terminal 0 ∷ []) ∷ (Terminal 21 ∷ []) ∷ (Terminal 22 ∷ []) ∷ (Terminal 23 ∷ []) ∷ (Terminal 24 ∷ []) ∷ (Terminal 25 ∷ []) ∷ (Terminal 26 ∷ []) ∷ (Terminal 27 ∷ []) ∷ (Terminal 28 ∷ []) ∷ (Terminal 29 ∷ []) ∷ (Terminal 30 ∷ []) ∷ (Terminal 31 ∷ []) ∷ (Terminal 32 ∷ []) ∷ (Terminal 33 ∷ []) ∷ (Terminal 34 ∷ []) ∷ (Terminal 35 ∷ []) ∷ (Terminal 36 ∷ []) ∷ (Terminal 37 ∷ []) ∷ (Terminal 38 ∷ []) ∷ (Terminal 39 ∷ []) ∷ (Terminal 40 ∷ []) ∷ (Terminal 41 ∷ []) ∷ (Terminal 42 ∷ []) ∷ (Terminal 43 ∷ []) ∷ (Terminal 44 ∷ []) ∷ (Terminal 45 ∷ []) ∷ (Terminal 46 ∷ []) ∷ (Terminal 47 ∷ []) ∷ (Terminal 48 ∷ []) ∷ (Terminal 49 ∷ []) ∷ (Terminal 50 ∷ []) ∷ (Terminal 51 ∷ []) ∷ (Terminal 52 ∷ []) ∷ (Terminal 53 ∷ []) ∷ (Terminal 54 ∷ []) ∷ (Terminal 55 ∷ []) ∷ (Terminal 56 ∷ []) ∷ (Terminal 57 ∷ []) ∷ (Terminal 58 ∷ []) ∷ (Terminal 59 ∷ []) ∷ (Terminal 60 ∷ []) ∷ (Terminal 61 ∷ []) ∷ (Terminal 62 ∷ []) ∷ (Terminal 63 ∷ []) ∷ (Terminal 64 ∷ []) ∷ (Terminal 65 ∷ []) ∷ (Terminal 66 ∷ []) ∷ (Terminal 67 ∷ []) ∷ (Terminal 68 ∷ []) ∷ (Terminal 69 ∷ []) ∷ (Terminal 70 ∷ []) ∷ (Terminal 71 ∷ []) ∷ (Terminal 72 ∷ []) ∷ (Terminal 73 ∷ []) ∷ (Terminal 74 ∷ []) ∷ (Terminal 75 ∷ []) ∷ (Terminal 76 ∷ []) ∷ (Terminal 77 ∷ []) ∷ (Terminal 78 ∷ []) ∷ (Terminal 79 ∷ []) ∷ (Terminal 80 ∷ []) ∷ (Terminal 81 ∷ []) ∷ (Terminal 82 ∷ []) ∷ (Terminal 83 ∷ []) ∷ (Terminal 84 ∷ []) ∷ (Terminal 85 ∷ []) ∷ (Terminal 86 ∷ []) ∷ (Terminal 87 ∷ []) ∷ (Terminal 88 ∷ []) ∷ (Terminal 89 ∷ []) ∷ (Terminal 90 ∷ []) ∷ (Terminal 91 ∷ []) ∷ (Terminal 92 ∷ []) ∷ (Terminal 93 ∷ []) ∷ (Terminal 94 ∷ []) ∷ []) ∷
    []

-- what shows that one token decides
unfoldable pub language_certificate : Certificate
language_certificate = record {
  nullable = 52044416398854903619506;
  firsts = 83316593108451328 ∷ 83316593108451328 ∷ 83316593108451328 ∷ 18014398509547520 ∷ 8192 ∷ 65536 ∷ 12582912 ∷ 33554432 ∷ 32768 ∷ 67108864 ∷ 68719476736 ∷ 268435456 ∷ 17179869184 ∷ 2061584302081 ∷ 65536 ∷ 2199023255552 ∷ 2199023255552 ∷ 196608 ∷ 4398063288320 ∷ 2216615449985024 ∷ 65536 ∷ 2216615449985024 ∷ 2216615449985024 ∷ 30786342354945 ∷ 262144 ∷ 19807040628566084398385987585 ∷ 72057594037927936 ∷ 72057594037927936 ∷ 144115188075855873 ∷ 8192 ∷ 32768 ∷ 30786342356995 ∷ 576460752303423488 ∷ 268435456 ∷ 1 ∷ 2199023255552 ∷ 36028797018963968 ∷ 196608 ∷ 19188072047769432010415669249 ∷ 36893488147419103232 ∷ 73786976294838206464 ∷ 19188071937088967568024141825 ∷ 19188071937088967568024141825 ∷ 590295810358705651712 ∷ 270348 ∷ 19188070608923394260936425473 ∷ 8204 ∷ 19188070608923394260936425472 ∷ 1 ∷ 262144 ∷ 32768 ∷ 19495288882832961899960215683 ∷ 32768 ∷ 19495288882832961899960215683 ∷ 18889465931478580854784 ∷ 19495288882832961899960215683 ∷ 37778931862957161709568 ∷ 19495288882832961899960215683 ∷ 75557863725914323419136 ∷ 19495288882832961899960215683 ∷ 1008 ∷ 19495137767105510071313377411 ∷ 302231454903657293676544 ∷ 19495137767105510071313377411 ∷ 3072 ∷ 19495137767105510071313377411 ∷ 1813388729421943762063360 ∷ 19495137767105510071313377411 ∷ 19495137767105510071313377411 ∷ 19495137767105510071313375361 ∷ 49152 ∷ 49152 ∷ 262144 ∷ 270336 ∷ 19497555618744739329661206529 ∷ 8192 ∷ 1 ∷ 39614081257132168796769878017 ∷ 39614081257132168796769878017 ∷ 1 ∷ 1 ∷ 1 ∷ 39614081257132168796769878017 ∷ [];
  follows = 39614081257132168796771975168 ∷ 39614081257132168796771975168 ∷ 39614081257215485389880426496 ∷ 134217728 ∷ 65536 ∷ 16384 ∷ 81920 ∷ 108088590549909504 ∷ 196608 ∷ 36031065164349440 ∷ 36030996176437248 ∷ 2199157473280 ∷ 34359738368 ∷ 134299648 ∷ 134217728 ∷ 134217728 ∷ 36030996176437248 ∷ 36030996176437248 ∷ 65536 ∷ 16384 ∷ 16384 ∷ 81920 ∷ 1 ∷ 114688 ∷ 114688 ∷ 114688 ∷ 36030996444872704 ∷ 108088590482800640 ∷ 65536 ∷ 288230376151777280 ∷ 16384 ∷ 49152 ∷ 65536 ∷ 36028797153181696 ∷ 134217728 ∷ 36028797153181696 ∷ 134217728 ∷ 19188072047769432010415669249 ∷ 36030996176437248 ∷ 19188072010875943862996566017 ∷ 19188071937088967568158359553 ∷ 590295810358839869440 ∷ 19188072527384777926864011265 ∷ 134217728 ∷ 65536 ∷ 65536 ∷ 65536 ∷ 8192 ∷ 98304 ∷ 98304 ∷ 65536 ∷ 16384 ∷ 16384 ∷ 39614083913463315410947522560 ∷ 39614083913463315410947522560 ∷ 39614102802929246889528377344 ∷ 39614102802929246889528377344 ∷ 39614140581861109846690086912 ∷ 39614140581861109846690086912 ∷ 39614216139724835761013506048 ∷ 39614216139724835761013506048 ∷ 39614216139724835761014031344 ∷ 39614216139724835761014031344 ∷ 39614518371179739418307707888 ∷ 39614518371179739418307707888 ∷ 39614518371179739418307710960 ∷ 39614518371179739418307710960 ∷ 39616331759909161362069774320 ∷ 39616331759909161362069774320 ∷ 39616331759909161362069774320 ∷ 39616331759909161362069774320 ∷ 39616331759909161362069774320 ∷ 39616331759909161362069774320 ∷ 39616331759909161362069774320 ∷ 39616331759909161362069774320 ∷ 39616331759909161362069774320 ∷ 4503599627444224 ∷ 65536 ∷ 65536 ∷ 8192 ∷ 512 ∷ 39616331759909161362070044656 ∷ 65536 ∷ [];
  costs = 2 ∷ 2 ∷ 1 ∷ 2 ∷ 2 ∷ 1 ∷ 1 ∷ 2 ∷ 1 ∷ 2 ∷ 2 ∷ 2 ∷ 2 ∷ 1 ∷ 1 ∷ 2 ∷ 1 ∷ 2 ∷ 1 ∷ 3 ∷ 1 ∷ 2 ∷ 1 ∷ 1 ∷ 2 ∷ 1 ∷ 2 ∷ 1 ∷ 1 ∷ 1 ∷ 1 ∷ 2 ∷ 1 ∷ 2 ∷ 2 ∷ 2 ∷ 1 ∷ 2 ∷ 12 ∷ 2 ∷ 1 ∷ 4 ∷ 2 ∷ 2 ∷ 2 ∷ 2 ∷ 2 ∷ 1 ∷ 1 ∷ 2 ∷ 1 ∷ 13 ∷ 1 ∷ 12 ∷ 2 ∷ 10 ∷ 2 ∷ 9 ∷ 2 ∷ 8 ∷ 2 ∷ 7 ∷ 2 ∷ 6 ∷ 2 ∷ 5 ∷ 2 ∷ 4 ∷ 5 ∷ 3 ∷ 1 ∷ 1 ∷ 2 ∷ 2 ∷ 3 ∷ 2 ∷ 1 ∷ 3 ∷ 3 ∷ 1 ∷ 2 ∷ 2 ∷ 1 ∷ [];
  heights = 4 ∷ 1 ∷ 3 ∷ 2 ∷ 1 ∷ 1 ∷ 1 ∷ 1 ∷ 1 ∷ 1 ∷ 1 ∷ 1 ∷ 1 ∷ 1 ∷ 1 ∷ 1 ∷ 3 ∷ 2 ∷ 1 ∷ 1 ∷ 1 ∷ 2 ∷ 1 ∷ 1 ∷ 1 ∷ 1 ∷ 1 ∷ 3 ∷ 2 ∷ 1 ∷ 1 ∷ 1 ∷ 1 ∷ 1 ∷ 1 ∷ 1 ∷ 1 ∷ 1 ∷ 3 ∷ 1 ∷ 1 ∷ 1 ∷ 2 ∷ 1 ∷ 2 ∷ 2 ∷ 2 ∷ 1 ∷ 2 ∷ 1 ∷ 1 ∷ 1 ∷ 1 ∷ 8 ∷ 1 ∷ 7 ∷ 1 ∷ 6 ∷ 1 ∷ 5 ∷ 1 ∷ 4 ∷ 1 ∷ 3 ∷ 1 ∷ 2 ∷ 1 ∷ 1 ∷ 1 ∷ 1 ∷ 1 ∷ 1 ∷ 1 ∷ 1 ∷ 2 ∷ 1 ∷ 1 ∷ 2 ∷ 2 ∷ 1 ∷ 1 ∷ 1 ∷ 1 ∷ [];
  easiest = 0 ∷ 1 ∷ 0 ∷ 0 ∷ 1 ∷ 1 ∷ 0 ∷ 1 ∷ 1 ∷ 1 ∷ 1 ∷ 1 ∷ 1 ∷ 0 ∷ 1 ∷ 1 ∷ 0 ∷ 1 ∷ 0 ∷ 1 ∷ 1 ∷ 0 ∷ 0 ∷ 0 ∷ 1 ∷ 0 ∷ 1 ∷ 0 ∷ 0 ∷ 1 ∷ 1 ∷ 1 ∷ 1 ∷ 1 ∷ 1 ∷ 1 ∷ 1 ∷ 1 ∷ 0 ∷ 1 ∷ 1 ∷ 1 ∷ 1 ∷ 1 ∷ 2 ∷ 1 ∷ 2 ∷ 0 ∷ 0 ∷ 0 ∷ 1 ∷ 1 ∷ 1 ∷ 0 ∷ 1 ∷ 0 ∷ 1 ∷ 0 ∷ 1 ∷ 1 ∷ 6 ∷ 0 ∷ 1 ∷ 0 ∷ 2 ∷ 0 ∷ 3 ∷ 1 ∷ 1 ∷ 0 ∷ 0 ∷ 1 ∷ 0 ∷ 2 ∷ 1 ∷ 1 ∷ 0 ∷ 0 ∷ 0 ∷ 0 ∷ 0 ∷ 0 ∷ 0 ∷ [];
}

-- what the reader goes by: for each way the classes at which it is taken, as sets by their bits
unfoldable pub language_table : Table
language_table = record {
  lookaheads =
      (83316593108451328 ∷ []) ∷
      (83316593108451328 ∷ 39614081257132168796771975168 ∷ []) ∷
      (2097152 ∷ 2251799813685248 ∷ 9007199254740992 ∷ 72057594037927936 ∷ []) ∷
      (18014398509481984 ∷ 65536 ∷ []) ∷
      (8192 ∷ 65536 ∷ []) ∷
      (65536 ∷ 16384 ∷ []) ∷
      (4194304 ∷ 8388608 ∷ []) ∷
      (33554432 ∷ 108088590549909504 ∷ []) ∷
      (32768 ∷ 196608 ∷ []) ∷
      (67108864 ∷ 36031065164349440 ∷ []) ∷
      (68719476736 ∷ 36030996176437248 ∷ []) ∷
      (268435456 ∷ 2199157473280 ∷ []) ∷
      (17179869184 ∷ 34359738368 ∷ []) ∷
      (137438953472 ∷ 274877906944 ∷ 549755813888 ∷ 1099511627776 ∷ 1 ∷ []) ∷
      (65536 ∷ 134217728 ∷ []) ∷
      (2199023255552 ∷ 134217728 ∷ []) ∷
      (2199023255552 ∷ []) ∷
      (131072 ∷ 65536 ∷ []) ∷
      (16777216 ∷ 4398046511104 ∷ []) ∷
      (2216615449985024 ∷ 16384 ∷ []) ∷
      (65536 ∷ 16384 ∷ []) ∷
      (2216615449985024 ∷ []) ∷
      (35184372088832 ∷ 70368744177664 ∷ 8388608 ∷ 140737488355328 ∷ 281474976710656 ∷ 562949953421312 ∷ 1125899906842624 ∷ []) ∷
      (16777216 ∷ 4398046511104 ∷ 8796093022208 ∷ 17592186044416 ∷ 1 ∷ []) ∷
      (262144 ∷ 114688 ∷ []) ∷
      (1 ∷ 19807040628566084398385987584 ∷ []) ∷
      (72057594037927936 ∷ 36030996444872704 ∷ []) ∷
      (72057594037927936 ∷ []) ∷
      (1 ∷ 144115188075855872 ∷ []) ∷
      (8192 ∷ 288230376151777280 ∷ []) ∷
      (32768 ∷ 16384 ∷ []) ∷
      (30786342354945 ∷ 2 ∷ 2048 ∷ []) ∷
      (576460752303423488 ∷ 65536 ∷ []) ∷
      (268435456 ∷ 36028797153181696 ∷ []) ∷
      (1 ∷ 134217728 ∷ []) ∷
      (2199023255552 ∷ 36028797153181696 ∷ []) ∷
      (36028797018963968 ∷ 134217728 ∷ []) ∷
      (131072 ∷ 65536 ∷ []) ∷
      (19188072047769432010415669249 ∷ []) ∷
      (36893488147419103232 ∷ 19188072010875943862996566017 ∷ []) ∷
      (73786976294838206464 ∷ 19188071937088967568158359553 ∷ []) ∷
      (19188071937088967568024141825 ∷ 590295810358839869440 ∷ []) ∷
      (1 ∷ 19188070608923394260936425472 ∷ 147573952589676412928 ∷ 1180591620717411303424 ∷ []) ∷
      (590295810358705651712 ∷ 134217728 ∷ []) ∷
      (4 ∷ 8 ∷ 8192 ∷ 262144 ∷ []) ∷
      (1 ∷ 19188070608923394260936425472 ∷ []) ∷
      (4 ∷ 8 ∷ 8192 ∷ []) ∷
      (618970019642690137449562112 ∷ 1237940039285380274899124224 ∷ 2475880078570760549798248448 ∷ 4951760157141521099596496896 ∷ 9903520314283042199192993792 ∷ []) ∷
      (1 ∷ []) ∷
      (262144 ∷ 98304 ∷ []) ∷
      (32768 ∷ 65536 ∷ []) ∷
      (19495288882832961899960215683 ∷ 16384 ∷ []) ∷
      (32768 ∷ 16384 ∷ []) ∷
      (19495288882832961899960215683 ∷ []) ∷
      (18889465931478580854784 ∷ 39614083913463315410947522560 ∷ []) ∷
      (19495288882832961899960215683 ∷ []) ∷
      (37778931862957161709568 ∷ 39614102802929246889528377344 ∷ []) ∷
      (19495288882832961899960215683 ∷ []) ∷
      (75557863725914323419136 ∷ 39614140581861109846690086912 ∷ []) ∷
      (151115727451828646838272 ∷ 19495137767105510071313377411 ∷ []) ∷
      (512 ∷ 64 ∷ 128 ∷ 16 ∷ 256 ∷ 32 ∷ 39614216139724835761013506048 ∷ []) ∷
      (19495137767105510071313377411 ∷ []) ∷
      (302231454903657293676544 ∷ 39614216139724835761014031344 ∷ []) ∷
      (19495137767105510071313377411 ∷ []) ∷
      (1024 ∷ 2048 ∷ 39614518371179739418307707888 ∷ []) ∷
      (19495137767105510071313377411 ∷ []) ∷
      (4096 ∷ 604462909807314587353088 ∷ 1208925819614629174706176 ∷ 39614518371179739418307710960 ∷ []) ∷
      (2048 ∷ 2 ∷ 19495137767105510071313375361 ∷ []) ∷
      (2048 ∷ 2 ∷ 19495137767105510071313375361 ∷ []) ∷
      (2417851639229258349412352 ∷ 4835703278458516698824704 ∷ 9671406556917033397649408 ∷ 19342813113834066795298816 ∷ 38685626227668133590597632 ∷ 1 ∷ 1048576 ∷ 19188070608923394260936425472 ∷ 77371252455336267181195264 ∷ 154742504910672534362390528 ∷ 524288 ∷ 128 ∷ 8192 ∷ []) ∷
      (16384 ∷ 32768 ∷ []) ∷
      (32768 ∷ 16384 ∷ []) ∷
      (262144 ∷ 39616331759909161362069774320 ∷ []) ∷
      (8192 ∷ 262144 ∷ 39616331759909161362069774320 ∷ []) ∷
      (1 ∷ 19188070608923394260936425472 ∷ 309485009821345068724781056 ∷ []) ∷
      (8192 ∷ 39616331759909161362069774320 ∷ []) ∷
      (1 ∷ []) ∷
      (39614081257132168796769878017 ∷ []) ∷
      (39614081257132168796769878017 ∷ []) ∷
      (1 ∷ []) ∷
      (1 ∷ []) ∷
      (1 ∷ []) ∷
      (1 ∷ 2097152 ∷ 4194304 ∷ 8388608 ∷ 16777216 ∷ 33554432 ∷ 67108864 ∷ 134217728 ∷ 268435456 ∷ 536870912 ∷ 1073741824 ∷ 2147483648 ∷ 4294967296 ∷ 8589934592 ∷ 17179869184 ∷ 34359738368 ∷ 68719476736 ∷ 137438953472 ∷ 274877906944 ∷ 549755813888 ∷ 1099511627776 ∷ 2199023255552 ∷ 4398046511104 ∷ 8796093022208 ∷ 17592186044416 ∷ 35184372088832 ∷ 70368744177664 ∷ 140737488355328 ∷ 281474976710656 ∷ 562949953421312 ∷ 1125899906842624 ∷ 2251799813685248 ∷ 4503599627370496 ∷ 9007199254740992 ∷ 18014398509481984 ∷ 36028797018963968 ∷ 72057594037927936 ∷ 144115188075855872 ∷ 288230376151711744 ∷ 576460752303423488 ∷ 1152921504606846976 ∷ 2305843009213693952 ∷ 4611686018427387904 ∷ 9223372036854775808 ∷ 18446744073709551616 ∷ 36893488147419103232 ∷ 73786976294838206464 ∷ 147573952589676412928 ∷ 295147905179352825856 ∷ 590295810358705651712 ∷ 1180591620717411303424 ∷ 2361183241434822606848 ∷ 4722366482869645213696 ∷ 9444732965739290427392 ∷ 18889465931478580854784 ∷ 37778931862957161709568 ∷ 75557863725914323419136 ∷ 151115727451828646838272 ∷ 302231454903657293676544 ∷ 604462909807314587353088 ∷ 1208925819614629174706176 ∷ 2417851639229258349412352 ∷ 4835703278458516698824704 ∷ 9671406556917033397649408 ∷ 19342813113834066795298816 ∷ 38685626227668133590597632 ∷ 77371252455336267181195264 ∷ 154742504910672534362390528 ∷ 309485009821345068724781056 ∷ 618970019642690137449562112 ∷ 1237940039285380274899124224 ∷ 2475880078570760549798248448 ∷ 4951760157141521099596496896 ∷ 9903520314283042199192993792 ∷ 19807040628566084398385987584 ∷ []) ∷
      [];
  start = 0;
  end_mark = 95;
  certificate = language_certificate;
}
