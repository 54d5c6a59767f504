-- The clauses of a concept and of its enhancements, with the arguments of a facility put for the formals.
use Rattle.std.specs.Prelude.{ℕ, ◌+◌, Bool, true, false, ◌&&◌, List, [], ◌∷◌, ◌++◌, map, length, Option, None, Some, is_none, if◌then◌else◌}
use Rattle.std.specs.List.{range_with_len}
use Rattle.std.specs.Str.{bytes_eq}
use Rattle.math_terms.specs.declared.descriptor.Desc.{Desc}
use Rattle.math_terms.specs.declared.descriptor.Shape.TheViews.{out-Desc}
use Rattle.math_terms.specs.declared.term.Term.{Term}
use Rattle.math_terms.specs.declared.term.Term.TheOpen.{Term-F}
use Rattle.math_terms.specs.declared.term.Term.TheViews.{roll-Term}
use Rattle.math_terms.specs.Filling.{filled}
use Rattle.res_ast.specs.declared.expression.Expr.{Expr}
use Rattle.res_ast.specs.declared.heading.Heading.{Heading}
use Rattle.res_ast.specs.declared.heading.Param.{Param}
use Rattle.res_ast.specs.declared.heading.PType.{PType}
use Rattle.res_ast.specs.declared.model.Family.{Family}
use Rattle.type_inst.specs.declared.assertion.Meaning.{Meaning}
use Rattle.type_inst.specs.declared.types.FormalArg.{FormalArg}
use Rattle.type_inst.specs.Assertions.{assertion, names_in}
use Rattle.type_inst.specs.Descriptors.{desc, described, given_numbers, given_types, listed, numbers_from, part_names, types_from}
use Rattle.facility_bind.specs.declared.scope.Scope.{Scope}

-- ---- variables

abbrev pub variable : ℕ → Term
variable k = roll-Term (Term-F.Var k)

-- so many variables, from a first one on
abbrev pub variables : ℕ → ℕ → List Term
variables first count = map variable (range_with_len first count)

-- A term over so many Integer formals, the first variables, where these come behind others.
abbrev pub behind : ℕ → ℕ → Term → Term
behind before count t = filled (variables (before + 1) count) [] t

abbrev pub desc_behind : ℕ → ℕ → Desc → Desc
desc_behind before count d = described (out-Desc d).shape (out-Desc d).constraint (behind before count (out-Desc d).initial)

-- ---- what is put

-- In a clause of the concept the first variables are those of the operation, and the Integer formals come behind them. Those of
-- the operation stay, and what is given for the formals is over the Integer formals of the component, which come behind too.
abbrev pub put_for_variables : ℕ → ℕ → List (List ℕ × FormalArg) → List Term
put_for_variables before count formals = variables 1 before ++ map (behind before count) (given_numbers formals)

abbrev pub put_for_types : Scope → ℕ → ℕ → List (List ℕ × FormalArg) → List Desc
put_for_types s before count formals = map (λ t. desc_behind before count (desc s.families t)) (given_types formals)

-- how many Integer formals a component sees
abbrev pub integers : Scope → ℕ
integers s = length (given_numbers s.formals)

-- A clause where `before` variables are those of the operation, and these names mean them.
unfoldable pub clause_of : List Term → List Desc → List (List ℕ × FormalArg) → ℕ → List Meaning → Expr → Term
clause_of vars descs formals before names e = filled vars descs (assertion (names_in (names ++ numbers_from (before + 1) formals) (types_from 0 formals)) e)

abbrev pub clause : Scope → List (List ℕ × FormalArg) → ℕ → List Meaning → Expr → Term
clause s formals before names e = clause_of (put_for_variables before (integers s) formals) (put_for_types s before (integers s) formals) formals before names e

-- ---- the names of an operation

abbrev pub meaning : Bool → List ℕ → Option (List ℕ) → Term → Meaning
meaning old name part t = record { old = old; name = name; part = part; term = t }

-- a name as a variable, with its parts
abbrev pub part : Bool → List ℕ → ℕ → ℕ → List ℕ → Meaning
part old name v k p = meaning old name (Some p) (roll-Term (Term-F.Proj k (variable v)))

abbrev pub name_with_parts : Bool → List ℕ → ℕ → List (List ℕ) → List Meaning
name_with_parts old name v parts = meaning old name None (variable v) ∷ listed (λ k p. part old name v k p ∷ []) (λ p. 1) 0 parts

-- A value of the family has the parts of its model.
abbrev pub is_named : PType → Family → Bool
is_named t f = is_none t.facility && bytes_eq f.name t.name

abbrev pub parts_of : Option Family → PType → List (List ℕ)
parts_of None t = []
parts_of (Some f) t = if is_named t f then part_names f.model.parts else []

-- A parameter of number i: `x` is the variable that stands so far behind it, and `#x` the variable i.
abbrev pub parameter : Option Family → ℕ → ℕ → Param → List Meaning
parameter family shift i p = name_with_parts false p.name (shift + i) (parts_of family p.ptype) ++ name_with_parts true p.name i (parts_of family p.ptype)

abbrev pub parameters : Option Family → ℕ → List Param → List Meaning
parameters family shift params = listed (parameter family shift) (λ p. 1) 1 params

-- the name of a function is its result
abbrev pub result_name : ℕ → Heading → List Meaning
result_name v h = if is_none h.result then [] else meaning false h.name None (variable v) ∷ []

-- Incoming values of n parameters are the variables 1 to n, outgoing ones n + 1 to 2n, and the result is 2n + 1. In a requires
-- clause `x` is the incoming value, in an ensures clause the outgoing one.
abbrev pub count : Heading → ℕ
count h = length h.params

abbrev pub result_number : Heading → ℕ
result_number h = count h + count h + 1

abbrev pub requires_names : Option Family → Heading → List Meaning
requires_names family h = parameters family 0 h.params

abbrev pub ensures_names : Option Family → Heading → List Meaning
ensures_names family h = result_name (result_number h) h ++ parameters family (count h) h.params
