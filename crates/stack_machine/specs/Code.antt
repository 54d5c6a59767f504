-- The code of a linked program.
use Rattle.std.specs.Prelude.{ℕ, suc, ◌+◌, false, List, [], ◌∷◌, ◌++◌, length, map}
use Rattle.source_meaning.specs.declared.linked.Spot.TheVariants.{Local}
use Rattle.source_meaning.specs.declared.linked.BinOp.{BinOp}
use Rattle.source_meaning.specs.declared.linked.BinOp.TheVariants.{Add, Sub, Eq, NotEq, Less, LessEq, Greater, GreaterEq, And, Or}
use Rattle.source_meaning.specs.declared.linked.LExpr.{LExpr}
use Rattle.source_meaning.specs.declared.linked.LExpr.TheOpen.{LExpr-F}
use Rattle.source_meaning.specs.declared.linked.LExpr.TheFolds.{fold-LExpr}
use Rattle.source_meaning.specs.declared.linked.LStmt.{LStmt}
use Rattle.source_meaning.specs.declared.linked.LStmt.TheOpen.{LStmt-F}
use Rattle.source_meaning.specs.declared.linked.LStmt.TheFolds.{fold-LStmt}
use Rattle.source_meaning.specs.declared.linked.Proc.{Proc}
use Rattle.source_meaning.specs.declared.linked.Linked.{Linked}
use Rattle.stack_machine.specs.declared.image.Instr.{Instr}
use Rattle.stack_machine.specs.declared.image.Instr.TheVariants as instr
use Rattle.stack_machine.specs.declared.image.Image.{Image}

abbrev pub op_code : BinOp → List Instr
op_code Add = instr.Add ∷ []
op_code Sub = instr.Sub ∷ []
op_code Eq = instr.Eq ∷ []
op_code NotEq = instr.Eq ∷ instr.Not ∷ []
op_code Less = instr.Less ∷ []
op_code LessEq = instr.LessEq ∷ []
op_code Greater = instr.LessEq ∷ instr.Not ∷ []
op_code GreaterEq = instr.Less ∷ instr.Not ∷ []
op_code And = instr.And ∷ []
op_code Or = instr.Or ∷ []

-- operands from the left, and the operator
abbrev pub expr_step : LExpr-F (List Instr) → List Instr
expr_step (LExpr-F.Const c) = instr.Push c ∷ []
expr_step (LExpr-F.Get p) = instr.Load p ∷ []
expr_step LExpr-F.Remaining = instr.Remaining ∷ []
expr_step (LExpr-F.Not a) = a ++ instr.Not ∷ []
expr_step (LExpr-F.Op op a b) = a ++ (b ++ op_code op)

abbrev pub expr_code : LExpr → List Instr
expr_code e = fold-LExpr (List Instr) expr_step e

-- pieces of code one after another, each from the address at which it stands
abbrev pub joined : List (ℕ → List Instr) → ℕ → List Instr
joined [] at = []
joined (c ∷ cs) at = c at ++ joined cs (at + length (c at))

-- a choice without an else part: the guard, a jump past the then part, and the then part
abbrev pub when_code : List Instr → (ℕ → List Instr) → ℕ → List Instr
when_code g a at =
    let body : ℕ = at + length g + 1 in
    g ++ (instr.JumpFalse (body + length (a body)) ∷ a body)

-- a choice: the guard, a jump to the else part, the then part, a jump over the else part, and the else part
abbrev pub choice_code : List Instr → (ℕ → List Instr) → (ℕ → List Instr) → ℕ → List Instr
choice_code g a b at =
    let body : ℕ = at + length g + 1 in
    let other : ℕ = body + length (a body) + 1 in
    g ++ (instr.JumpFalse other ∷ (a body ++ (instr.Jump (other + length (b other)) ∷ b other)))

abbrev pub if_code : List Instr → List (ℕ → List Instr) → List (ℕ → List Instr) → ℕ → List Instr
if_code g a [] at = when_code g (joined a) at
if_code g a (b ∷ bs) at = choice_code g (joined a) (joined (b ∷ bs)) at

abbrev pub stmt_step : LStmt-F (ℕ → List Instr) → ℕ → List Instr
stmt_step (LStmt-F.LSet p e) at = expr_code e ++ instr.Store p ∷ []
stmt_step (LStmt-F.LRead p) at = instr.ReadIn p ∷ []
stmt_step (LStmt-F.LWrite e) at = expr_code e ++ instr.WriteOut ∷ []
stmt_step (LStmt-F.LIf g a b) at = if_code (expr_code g) a b at

abbrev pub stmt_code : LStmt → ℕ → List Instr
stmt_code x = fold-LStmt (ℕ → List Instr) stmt_step x

abbrev pub body_code : List LStmt → ℕ → List Instr
body_code xs at = joined (map stmt_code xs) at

-- the variables from number k on, each made with its type
abbrev pub init_code : ℕ → List ℕ → List Instr
init_code k [] = []
init_code k (t ∷ ts) = instr.Init (Local k) t ∷ init_code (suc k) ts

-- the variables, the body, and the return
abbrev pub proc_code : Proc → List Instr
proc_code p = init_code 0 p.locals ++ (body_code p.body (length p.locals) ++ instr.Return ∷ [])

-- the image of a program whose one procedure is Main
abbrev pub code_of : Linked → Proc → Image
code_of l p = record {
  types = l.types;
  procs = record { name = p.operation; start = 0; given = []; result = false; locals = length p.locals } ∷ [];
  code = proc_code p;
  main = 0;
}
