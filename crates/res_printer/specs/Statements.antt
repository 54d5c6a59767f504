-- The canonical text of statements.
use Rattle.std.specs.Prelude.{ℕ, List, [], ◌∷◌, map, Option, Some, None, codes}
use Rattle.res_ast.specs.declared.expression.Expr.{Expr}
use Rattle.res_ast.specs.declared.statement.Place.{Place}
use Rattle.res_ast.specs.declared.statement.Stmt.{Stmt}
use Rattle.res_ast.specs.declared.statement.Stmt.TheOpen.{Stmt-F}
use Rattle.res_ast.specs.declared.statement.Stmt.TheFolds.{fold-Stmt}
use Rattle.res_printer.specs.Expressions.{arguments, expression, written}
use Rattle.res_printer.specs.Pieces.{Piece, comma, dotted, each, ends_line, nothing, qualified, row, says, semicolon, separated}

-- a variable, or a field of one
abbrev pub place_of : List ℕ → Option (List ℕ) → Piece
place_of base None = says base
place_of base (Some field) = dotted base field

abbrev pub place : Place → Piece
place p = place_of p.base p.field

abbrev pub swap : Place → Place → Piece
swap x y = row (place x ∷ says (codes ":=:") ∷ place y ∷ semicolon ∷ [])

abbrev pub assignment : Place → Expr → Piece
assignment x e = row (place x ∷ says (codes ":=") ∷ expression e ∷ semicolon ∷ [])

abbrev pub call : Option (List ℕ) → List ℕ → List Expr → Piece
call facility name es = row (qualified facility name ∷ arguments (map written es) ∷ semicolon ∷ [])

-- a word and what it says
abbrev pub claim : List ℕ → Expr → Piece
claim word e = row (says word ∷ expression e ∷ semicolon ∷ [])

abbrev pub changing : List Place → Piece
changing places = row (says (codes "changing") ∷ separated comma place places ∷ semicolon ∷ [])

unfoldable pub claims : Expr → Expr → Piece
claims invariant metric = row (claim (codes "maintaining") invariant ∷ claim (codes "decreasing") metric ∷ [])

-- what stands before the body of a loop
abbrev pub head : Expr → List Place → Expr → Expr → Piece
head guard changed invariant metric =
    row (says (codes "While") ∷ expression guard ∷ changing changed ∷ claims invariant metric ∷ ends_line (codes "do") ∷ [])

abbrev pub end : Piece
end = row (says (codes "end") ∷ semicolon ∷ [])

abbrev pub block : List Piece → Piece
block statements = each (λ s. s) statements

-- No `else` is written where nothing follows it.
abbrev pub otherwise : List Piece → Piece
otherwise [] = nothing
otherwise (s ∷ ss) = row (ends_line (codes "else") ∷ block (s ∷ ss) ∷ [])

abbrev pub statement_step : Stmt-F Piece → Piece
statement_step (Stmt-F.Swap at x y) = swap x y
statement_step (Stmt-F.Assign at x e) = assignment x e
statement_step (Stmt-F.Call at facility name es) = call facility name es
statement_step (Stmt-F.If at guard first second) =
    row (says (codes "If") ∷ expression guard ∷ ends_line (codes "then") ∷ block first ∷ otherwise second ∷ end ∷ [])
statement_step (Stmt-F.While at guard changed invariant metric body) =
    row (head guard changed invariant metric ∷ block body ∷ end ∷ [])

abbrev pub statement : Stmt → Piece
statement = fold-Stmt Piece statement_step

abbrev pub statements : List Stmt → Piece
statements ss = block (map statement ss)
