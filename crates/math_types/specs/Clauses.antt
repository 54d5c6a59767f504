-- Clauses, what each is to be, and the first that is not so.
use Rattle.std.specs.Prelude.{ℕ, List, [], ◌∷◌, Option, None, Some, is_some, Ok, Err, if◌then◌else◌}
use Rattle.std.specs.Option.{option_or}
use Rattle.math_terms.specs.declared.descriptor.Sort.{Sort}
use Rattle.math_terms.specs.Sorts.{meet}
use Rattle.res_ast.specs.declared.expression.Expr.{Expr}
use Rattle.res_ast.specs.declared.expression.Form.TheViews.{out-Expr}
use Rattle.math_types.specs.declared.error.SortError.{SortError}
use Rattle.math_types.specs.declared.error.SortError.TheVariants as refused
use Rattle.math_types.specs.declared.known.Known.{Known}
use Rattle.math_types.specs.Expressions.{Checked, checked}

-- an expression with the sort that its place asks for
pub record Clause : Type 0 where
  pub wanted : Sort
  pub text : Expr

-- clauses that know the same names
pub record Group : Type 0 where
  pub known : List Known
  pub clauses : List Clause

abbrev pub clause : Sort → Expr → Clause
clause wanted text = record { wanted = wanted; text = text }

abbrev pub group : List Known → List Clause → Group
group known clauses = record { known = known; clauses = clauses }

-- A clause is refused at its first node without a sort, or else at its root, where its sort does not meet the one that is wanted.
abbrev pub unless_wanted : Sort → ℕ → Checked → Option SortError
unless_wanted wanted at (Err e) = Some e
unless_wanted wanted at (Ok s) = if is_some (meet s wanted) then None else Some (refused.Sort at)

abbrev pub refusal : List Known → List (List ℕ × ℕ) → Clause → Option SortError
refusal known types c = unless_wanted c.wanted (out-Expr c.text).at (checked known types c.text)

abbrev pub first_in : List Known → List (List ℕ × ℕ) → List Clause → Option SortError
first_in known types [] = None
first_in known types (c ∷ cs) = option_or (refusal known types c) (first_in known types cs)

abbrev pub first_refusal : List (List ℕ × ℕ) → List Group → Option SortError
first_refusal types [] = None
first_refusal types (g ∷ gs) = option_or (first_in g.known types g.clauses) (first_refusal types gs)
