-- A prefix of a piece is a prefix of a longer one.
use Rattle.std.proofs.Common.{◌∙◌, sym, ℕ, ◌≤◌, List, ◌++◌, length, Option, Result, Ok, Err, ⊎_elim, subst, arith}
use Rattle.std.specs.Prelude.{OnErr, OnOk}
use Rattle.std.proofs.Common.{inl, inr}
use Rattle.edge_io.specs.Faults.{Rose}
use Rattle.resolve_cli.specs.Resolves.{Noted}
use Rattle.std.proofs.lemmas.Bool.{cases_lt}
use Rattle.std.proofs.lemmas.List.{take-append-le, take_all}
use Rattle.edge_io.specs.Held.{Grew, GrewByPrefix}

pub prefix_longer : (a b : Option (List ℕ)) (p q : List ℕ) → GrewByPrefix a b p → GrewByPrefix a b (p ++ q)
prefix_longer a b p q (n, grew) =
    ⊎_elim
    (λ lt. (n, subst (λ piece. Grew a b piece) (sym (take-append-le n p q (omega (arith, lt)))) grew))
    (λ le. (length p, subst (λ piece. Grew a b piece) (take_all n p le ∙ sym (take_all (length p) p (omega arith)) ∙ sym (take-append-le (length p) p q (omega arith))) grew))
    (cases_lt n (length p))

pub on_err : {A E : Type 0} (r : Result A E) (P : Type 0) → P → OnErr r P
on_err (Ok x) P p = tt
on_err (Err e) P p = p

pub map_err : {A E : Type 0} (r : Result A E) (P Q : Type 0) → (P → Q) → OnErr r P → OnErr r Q
map_err (Ok x) P Q f p = tt
map_err (Err e) P Q f p = f p

-- what a write of a line leaves
pub noted : {A E : Type 0} (r : Result A E) (old new : Option (List ℕ)) (before now : ℕ) (text : List ℕ) → before ≤ now → OnOk r (Grew old new text) → OnErr r (GrewByPrefix old new text) → OnErr r (Rose before now) → Noted old new before now text
noted (Ok x) old new before now text le grew front rose = record { never_falls = le; got = inl grew }
noted (Err e) old new before now text le grew front rose = record { never_falls = le; got = inr (rose, front) }
