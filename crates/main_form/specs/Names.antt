-- The names of Main: of its streams, by the places of the parameters, and of its variables, by the order of their declarations.
use Rattle.std.specs.Prelude.{ℕ, suc, if◌then◌else◌, List, [], ◌∷◌, map, Option, Some, None, option_map}
use Rattle.res_lexer.specs.Pieces.{same_bytes}
use Rattle.res_ast.specs.declared.heading.Param.{Param}
use Rattle.res_ast.specs.declared.procedure.Procedure.{Procedure}

abbrev pub first_name : List Param → List ℕ
first_name [] = []
first_name (p ∷ ps) = p.name

abbrev pub second_name : List Param → List ℕ
second_name [] = []
second_name (p ∷ ps) = first_name ps

abbrev pub input_of : Procedure → List ℕ
input_of main = first_name main.heading.params

abbrev pub output_of : Procedure → List ℕ
output_of main = second_name main.heading.params

abbrev pub variables_of : Procedure → List (List ℕ)
variables_of main = map (λ v. v.0) main.vars

-- the number of the first of some names that is this one
abbrev pub number_in : List ℕ → List (List ℕ) → Option ℕ
number_in name [] = None
number_in name (n ∷ ns) = if same_bytes name n then Some 0 else option_map suc (number_in name ns)

abbrev pub variable_of : Procedure → List ℕ → Option ℕ
variable_of main name = number_in name (variables_of main)
