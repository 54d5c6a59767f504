-- When a linked program of one procedure is formed: each number names something, and each place and expression has the type that its use needs.
use Rattle.std.specs.Prelude.{◌≡◌, ℕ, Bool, true, false, ◌&&◌, List, [], ◌∷◌, Option, Some, None, slice_get, map, IsTrue}
use Rattle.std.specs.List.{list_all}
use Rattle.source_meaning.specs.declared.linked.Scalar.{Scalar}
use Rattle.source_meaning.specs.declared.linked.Spot.{Spot}
use Rattle.source_meaning.specs.declared.linked.Spot.TheVariants.{Local, Field}
use Rattle.source_meaning.specs.declared.linked.TypeForm.{TypeForm}
use Rattle.source_meaning.specs.declared.linked.TypeForm.TheVariants as form
use Rattle.source_meaning.specs.declared.linked.BinOp.{BinOp}
use Rattle.source_meaning.specs.declared.linked.BinOp.TheVariants.{Add, Sub, Eq, NotEq, Less, LessEq, Greater, GreaterEq, And, Or}
use Rattle.source_meaning.specs.declared.linked.LExpr.{LExpr}
use Rattle.source_meaning.specs.declared.linked.LExpr.TheOpen.{LExpr-F}
use Rattle.source_meaning.specs.declared.linked.LExpr.TheFolds.{fold-LExpr}
use Rattle.source_meaning.specs.declared.linked.LStmt.{LStmt}
use Rattle.source_meaning.specs.declared.linked.LStmt.TheOpen.{LStmt-F}
use Rattle.source_meaning.specs.declared.linked.LStmt.TheFolds.{fold-LStmt}
use Rattle.source_meaning.specs.declared.linked.Proc.{Proc}
use Rattle.source_meaning.specs.declared.linked.Linked.{Linked}

-- the type of a scalar
pub data Kind : Type 0 where
  Number : Kind
  Truth : Kind

abbrev pub kind_of_form : Option TypeForm → Option Kind
kind_of_form None = None
kind_of_form (Some form.Int) = Some Number
kind_of_form (Some form.Bool) = Some Truth
kind_of_form (Some (form.Array n t)) = None
kind_of_form (Some (form.Record i ts)) = None

-- the kinds of the variables
abbrev pub kinds_of : List TypeForm → List ℕ → List (Option Kind)
kinds_of types ts = map (λ t. kind_of_form (slice_get types t)) ts

abbrev pub known : Option (Option Kind) → Option Kind
known None = None
known (Some k) = k

abbrev pub kind_at : List (Option Kind) → Spot → Option Kind
kind_at kinds (Local n) = known (slice_get kinds n)
kind_at kinds (Field n f) = None

abbrev pub kind_of_scalar : Scalar → Kind
kind_of_scalar (Scalar.Int n) = Number
kind_of_scalar (Scalar.Bool b) = Truth

-- the kind of an operator's result, from those of its operands
abbrev pub two_numbers : Kind → Option Kind → Option Kind → Option Kind
two_numbers k (Some Number) (Some Number) = Some k
two_numbers k (Some Number) (Some Truth) = None
two_numbers k (Some Number) None = None
two_numbers k (Some Truth) b = None
two_numbers k None b = None

abbrev pub two_truths : Option Kind → Option Kind → Option Kind
two_truths (Some Truth) (Some Truth) = Some Truth
two_truths (Some Truth) (Some Number) = None
two_truths (Some Truth) None = None
two_truths (Some Number) b = None
two_truths None b = None

abbrev pub two_alike : Option Kind → Option Kind → Option Kind
two_alike (Some Number) b = two_numbers Truth (Some Number) b
two_alike (Some Truth) b = two_truths (Some Truth) b
two_alike None b = None

abbrev pub kind_of_op : BinOp → Option Kind → Option Kind → Option Kind
kind_of_op Add a b = two_numbers Number a b
kind_of_op Sub a b = two_numbers Number a b
kind_of_op Eq a b = two_alike a b
kind_of_op NotEq a b = two_alike a b
kind_of_op Less a b = two_numbers Truth a b
kind_of_op LessEq a b = two_numbers Truth a b
kind_of_op Greater a b = two_numbers Truth a b
kind_of_op GreaterEq a b = two_numbers Truth a b
kind_of_op And a b = two_truths a b
kind_of_op Or a b = two_truths a b

abbrev pub kind_step : List (Option Kind) → LExpr-F (Option Kind) → Option Kind
kind_step kinds (LExpr-F.Const c) = Some (kind_of_scalar c)
kind_step kinds (LExpr-F.Get p) = kind_at kinds p
kind_step kinds LExpr-F.Remaining = Some Number
kind_step kinds (LExpr-F.Not a) = two_truths (Some Truth) a
kind_step kinds (LExpr-F.Op op a b) = kind_of_op op a b

-- the kind of an expression, where it has one
abbrev pub kind_of : List (Option Kind) → LExpr → Option Kind
kind_of kinds e = fold-LExpr (Option Kind) (kind_step kinds) e

abbrev pub same_kind : Option Kind → Option Kind → Bool
same_kind (Some Number) (Some Number) = true
same_kind (Some Number) (Some Truth) = false
same_kind (Some Number) None = false
same_kind (Some Truth) (Some Truth) = true
same_kind (Some Truth) (Some Number) = false
same_kind (Some Truth) None = false
same_kind None b = false

abbrev pub fits_step : List (Option Kind) → LStmt-F Bool → Bool
fits_step kinds (LStmt-F.LSet p e) = same_kind (kind_at kinds p) (kind_of kinds e)
fits_step kinds (LStmt-F.LRead p) = same_kind (kind_at kinds p) (Some Number)
fits_step kinds (LStmt-F.LWrite e) = same_kind (kind_of kinds e) (Some Number)
fits_step kinds (LStmt-F.LIf g a b) = same_kind (kind_of kinds g) (Some Truth) && list_all (λ x. x) a && list_all (λ x. x) b

abbrev pub fits : List (Option Kind) → LStmt → Bool
fits kinds x = fold-LStmt Bool (fits_step kinds) x

abbrev pub has_kind : Option Kind → Bool
has_kind None = false
has_kind (Some k) = true

-- a procedure whose types are scalars and whose statements fit
abbrev pub fits_procedure : List TypeForm → Proc → Bool
fits_procedure types p = list_all has_kind (kinds_of types p.locals) && list_all (fits (kinds_of types p.locals)) p.body

-- The program has the one procedure Main, with no parameters but the input and then the output, and no result.
pub record IsFormed (l : Linked) (p : Proc) : Type 0 where
  pub main : l.main ≡ 0
  pub procs : l.procs ≡ p ∷ []
  pub modes : p.modes ≡ []
  pub params : p.params ≡ []
  pub streams : p.streams ≡ (0, true) ∷ (1, false) ∷ []
  pub result : p.result ≡ None
  pub fits : IsTrue (fits_procedure l.types p)
