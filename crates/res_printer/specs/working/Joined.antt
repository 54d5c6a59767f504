-- A list that is written from its end.
use Rattle.std.specs.Prelude.{Bool, true, false, List, [], ◌∷◌}
use Rattle.res_printer.specs.Pieces.{Piece, comma, each, nothing, row, separated}

abbrev pub comma_before : Bool → Piece
comma_before false = nothing
comma_before true = comma

-- the items that are left, before others of the list or before none
abbrev pub joined : {A : Type 0} → Bool → Piece → (A → Piece) → List A → Piece
joined false between piece xs = separated between piece xs
joined true between piece xs = each (λ y. row (piece y ∷ between ∷ [])) xs
