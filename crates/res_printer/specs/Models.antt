-- The canonical text of a model, which is the list of its parts: each string and each product stands behind the models that
-- it is made of.
use Rattle.std.specs.Prelude.{ℕ, List, [], ◌∷◌, reverse, codes}
use Rattle.res_ast.specs.declared.model.MPart.{MPart}
use Rattle.res_ast.specs.declared.model.MPart.TheVariants as part
use Rattle.res_printer.specs.Pieces.{Piece, closes, colon, nothing, opens, row, says, semicolon, separated}

-- The models that are finished, the last on top. One that is missing is nothing.
abbrev pub top : List Piece → Piece
top [] = nothing
top (x ∷ xs) = x

abbrev pub below : List Piece → List Piece
below [] = []
below (x ∷ xs) = xs

abbrev pub factor : List ℕ → Piece → Piece
factor name model = row (says name ∷ colon ∷ model ∷ [])

-- The factors of a product, before those that are found: its names from the last to the first take a model each.
abbrev pub factors : List (List ℕ) → List Piece → List Piece → List Piece
factors [] found stack = found
factors (x ∷ xs) found stack = factors xs (factor x (top stack) ∷ found) (below stack)

-- the models that they leave
abbrev pub below_factors : List (List ℕ) → List Piece → List Piece
below_factors [] stack = stack
below_factors (x ∷ xs) stack = below_factors xs (below stack)

abbrev pub product : List Piece → Piece
product fs = row (says (codes "Cart_Prod") ∷ separated semicolon (λ f. f) fs ∷ says (codes "end") ∷ [])

-- A string takes one model, a product as many as it has names.
abbrev pub model_step : MPart → List Piece → List Piece
model_step part.Z stack = says (codes "Z") ∷ stack
model_step part.B stack = says (codes "B") ∷ stack
model_step part.Str stack = row (says (codes "Str") ∷ opens ∷ top stack ∷ closes ∷ []) ∷ below stack
model_step (part.Prod names) stack = product (factors (reverse names) [] stack) ∷ below_factors (reverse names) stack
model_step (part.Param x) stack = says x ∷ stack

abbrev pub finished : List MPart → List Piece → List Piece
finished [] stack = stack
finished (p ∷ ps) stack = finished ps (model_step p stack)

abbrev pub model : List MPart → Piece
model parts = top (finished parts [])
