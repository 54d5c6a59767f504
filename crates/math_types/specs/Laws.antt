-- What an accepted clause says as a term.
use Rattle.std.specs.Prelude.{◌≡◌, ℕ, Bool, List, Some, Ok}
use Rattle.math_terms.specs.declared.descriptor.Sort.{Sort}
use Rattle.math_terms.specs.Sorts as terms
use Rattle.res_ast.specs.declared.expression.Expr.{Expr}
use Rattle.type_inst.specs.Assertions.{Names, assertion, number_in}
use Rattle.math_types.specs.declared.known.Known.{Known}
use Rattle.math_types.specs.Names.{dotted, word}
use Rattle.math_types.specs.Expressions.{checked}

-- Names mean terms of the sorts that are known of them, and type formals their numbers.
pub record Fits (known : List Known) (types : List (List ℕ × ℕ)) (vars : List Sort) (names : Names) : Type 0 where
  pub words : (old : Bool) (x : List ℕ) (s : Sort) → word known old x ≡ Some s → terms.sort vars (names.word old x) ≡ Some s
  pub parts : (old : Bool) (x p : List ℕ) (s : Sort) → dotted known old x p ≡ Some s → terms.sort vars (names.part old x p) ≡ Some s
  pub formals : (x : List ℕ) → names.formal x ≡ number_in types x

-- The term of an expression that is accepted has the sort of the expression.
abbrev pub AcceptedHaveSorts : Type 0
AcceptedHaveSorts = (known : List Known) (types : List (List ℕ × ℕ)) (vars : List Sort) (names : Names) (e : Expr) (s : Sort)
    → Fits known types vars names → checked known types e ≡ Ok s → terms.sort vars (assertion names e) ≡ Some s
