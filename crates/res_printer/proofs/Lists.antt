-- One more item at the end of a list.
use Rattle.std.proofs.Common.{◌≡◌, ◌∙◌, refl, ap, ℕ, List, [], ◌∷◌, ◌++◌, map, true, false}
use Rattle.std.proofs.lemmas.List.{map-append}
use Rattle.res_printer.specs.Pieces.{Piece, each, row, separated}
use Rattle.res_printer.specs.working.Joined.{joined}

pub each_end : {A : Type 0} (piece : A → Piece) (xs : List A) (x : A) (rest : List ℕ) → each piece (xs ++ x ∷ []) rest ≡ each piece xs (piece x rest)
each_end piece [] x rest = refl
each_end piece (y ∷ ys) x rest = ap (piece y) (each_end piece ys x rest)

pub each_map_end : {A B : Type 0} (piece : B → Piece) (f : A → B) (xs : List A) (x : A) (rest : List ℕ) → each piece (map f (xs ++ x ∷ [])) rest ≡ each piece (map f xs) (piece (f x) rest)
each_map_end piece f [] x rest = refl
each_map_end piece f (y ∷ ys) x rest = ap (piece (f y)) (each_map_end piece f ys x rest)

-- what stands between two items goes with the one or with the other
behind : {A : Type 0} (between : Piece) (piece : A → Piece) (xs : List A) (x : A) (rest : List ℕ) → each (λ y. row (between ∷ piece y ∷ [])) (xs ++ x ∷ []) rest ≡ between (each (λ y. row (piece y ∷ between ∷ [])) xs (piece x rest))
behind between piece [] x rest = refl
behind between piece (y ∷ ys) x rest = ap (λ z. between (piece y z)) (behind between piece ys x rest)

separated_end : {A : Type 0} (between : Piece) (piece : A → Piece) (xs : List A) (x : A) (rest : List ℕ) → separated between piece (xs ++ x ∷ []) rest ≡ each (λ y. row (piece y ∷ between ∷ [])) xs (piece x rest)
separated_end between piece [] x rest = refl
separated_end between piece (y ∷ ys) x rest = ap (piece y) (behind between piece ys x rest)

pub joined_first : {A B : Type 0} (between : Piece) (piece : B → Piece) (f : A → B) (xs : List A) (x : A) (rest : List ℕ) → joined false between piece (map f (xs ++ x ∷ [])) rest ≡ joined true between piece (map f xs) (piece (f x) rest)
joined_first between piece f xs x rest =
    ap (λ z. separated between piece z rest) (map-append f xs (x ∷ [])) ∙ separated_end between piece (map f xs) (f x) rest

pub joined_later : {A B : Type 0} (between : Piece) (piece : B → Piece) (f : A → B) (xs : List A) (x : A) (rest : List ℕ) → joined true between piece (map f (xs ++ x ∷ [])) rest ≡ joined true between piece (map f xs) (piece (f x) (between rest))
joined_later between piece f xs x rest = each_map_end (λ y. row (piece y ∷ between ∷ [])) f xs x rest
