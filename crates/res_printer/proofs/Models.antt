-- The parts of a model, from the last to the first.
use Rattle.std.proofs.Common.{◌≡◌, ◌∙◌, sym, refl, ap, ℕ, List, [], ◌∷◌, ◌++◌, reverse, codes, append_assoc}
use Rattle.std.proofs.lemmas.List.{reverse-append}
use Rattle.res_ast.specs.declared.model.MPart.{MPart}
use Rattle.res_ast.specs.declared.model.MPart.TheVariants as part
use Rattle.res_printer.specs.declared.model.Pending.{Pending}
use Rattle.res_printer.specs.declared.model.Pending.TheVariants as pending
use Rattle.res_printer.specs.Models.{below, below_factors, factor, factors, finished, model_step, product, top}
use Rattle.res_printer.specs.Pieces.{Piece, each, row, says, semicolon, separated}
use Rattle.res_printer.specs.working.Remaining.{opened, opened_more, remaining}

pub finished_end : (parts : List MPart) (p : MPart) (stack : List Piece) → finished (parts ++ p ∷ []) stack ≡ model_step p (finished parts stack)
finished_end [] p stack = refl
finished_end (q ∷ qs) p stack = finished_end qs p (model_step q stack)

-- the factors of these names, from the last to the first
abbrev awaited : List (List ℕ) → List Pending → List Pending
awaited [] base = base
awaited (x ∷ []) base = pending.Model ∷ pending.Factor x ∷ base
awaited (x ∷ y ∷ more) base = pending.Model ∷ pending.Factor x ∷ pending.Semicolon ∷ awaited (y ∷ more) base

taken : (x : List ℕ) (names : List (List ℕ)) (found : List Piece) (base : List Pending) (stack : List Piece) (rest : List ℕ) → remaining (awaited (x ∷ names) base) stack (each (λ f. row (semicolon ∷ f ∷ [])) found rest) ≡ remaining base (below_factors (x ∷ names) stack) (separated semicolon (λ f. f) (factors (x ∷ names) found stack) rest)
taken x [] found base stack rest = refl
taken x (y ∷ more) found base stack rest = taken y more (factor x (top stack) ∷ found) base (below stack) rest

taken_end : (names : List (List ℕ)) (x : List ℕ) (base : List Pending) (stack : List Piece) (rest : List ℕ) → remaining (awaited (names ++ x ∷ []) base) stack rest ≡ remaining base (below_factors (names ++ x ∷ []) stack) (separated semicolon (λ f. f) (factors (names ++ x ∷ []) [] stack) rest)
taken_end [] x base stack rest = taken x [] [] base stack rest
taken_end (y ∷ more) x base stack rest = taken y (more ++ x ∷ []) [] base stack rest

opened_is : (xs : List (List ℕ)) (y : List ℕ) (later : List (List ℕ)) (base : List Pending) → opened_more xs (awaited (y ∷ later) base) ≡ awaited (reverse xs ++ (y ∷ later)) base
opened_is [] y later base = refl
opened_is (x ∷ xs) y later base =
    opened_is xs x (y ∷ later) base
    ∙ ap (λ z. awaited z base) (sym (append_assoc (reverse xs) (x ∷ []) (y ∷ later)) ∙ ap (λ z. z ++ (y ∷ later)) (sym (reverse-append (x ∷ []) xs)))

pub product_opened : (names : List (List ℕ)) (base : List Pending) (stack : List Piece) (rest : List ℕ) → remaining (pending.Model ∷ base) (model_step (part.Prod names) stack) rest ≡ remaining (opened names (pending.Product ∷ base)) stack (says (codes "end") rest)
product_opened [] base stack rest = refl
product_opened (x ∷ xs) base stack rest =
    ap (λ z. remaining base (below_factors z stack) (product (factors z [] stack) rest)) (reverse-append (x ∷ []) xs)
    ∙ sym (ap (λ z. remaining z stack (says (codes "end") rest)) (opened_is xs x [] (pending.Product ∷ base)) ∙ taken_end (reverse xs) x (pending.Product ∷ base) stack (says (codes "end") rest))
