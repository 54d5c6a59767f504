-- What is still to be written of a model that is written from its end.
use Rattle.std.specs.Prelude.{◌≡◌, ℕ, ◌<◌, Bool, true, false, List, [], ◌∷◌, length, codes}
use Rattle.res_ast.specs.declared.model.MPart.{MPart}
use Rattle.res_printer.specs.declared.model.Pending.{Pending}
use Rattle.res_printer.specs.declared.model.Pending.TheVariants as pending
use Rattle.res_printer.specs.Models.{below, model_step, top}
use Rattle.res_printer.specs.Pieces.{Piece, colon, opens, says, semicolon}

-- The text, where this has been written and these models are finished.
abbrev pub remaining : List Pending → List Piece → Piece
remaining [] stack rest = rest
remaining (pending.Model ∷ ps) stack rest = remaining ps (below stack) (top stack rest)
remaining (pending.Str ∷ ps) stack rest = remaining ps stack (says (codes "Str") (opens rest))
remaining (pending.Product ∷ ps) stack rest = remaining ps stack (says (codes "Cart_Prod") rest)
remaining (pending.Factor name ∷ ps) stack rest = remaining ps stack (says name (colon rest))
remaining (pending.Semicolon ∷ ps) stack rest = remaining ps stack (semicolon rest)

-- The text stays the same, whatever models are finished.
abbrev pub Stays : List Pending → List ℕ → List Pending → List ℕ → Type 0
Stays old out new after = (stack : List Piece) → remaining old stack out ≡ remaining new stack after

-- A model is the next that is written, or nothing is left to write.
abbrev pub IsNext : Bool → List Pending → List ℕ → List Pending → List ℕ → Type 0
IsNext true old out new after = Stays old out (pending.Model ∷ new) after × (length new < length old)
IsNext false old out new after = Stays old out [] after × (new ≡ [])

-- A part of a model has been written where a model is to be: what it is made of is still to be written.
abbrev pub IsOpened : MPart → List Pending → List ℕ → List Pending → List ℕ → Type 0
IsOpened part old out new after = (stack : List Piece) → remaining (pending.Model ∷ old) (model_step part stack) out ≡ remaining new stack after

-- The factors of a product, each with its model, on top of what comes before them.
abbrev pub opened_more : List (List ℕ) → List Pending → List Pending
opened_more [] base = base
opened_more (x ∷ xs) base = opened_more xs (pending.Model ∷ pending.Factor x ∷ pending.Semicolon ∷ base)

abbrev pub opened : List (List ℕ) → List Pending → List Pending
opened [] base = base
opened (x ∷ xs) base = opened_more xs (pending.Model ∷ pending.Factor x ∷ base)
