-- How the growth of a sink composes.
use Rattle.std.proofs.Common.{◌≡◌, ℕ, ◌+◌, ◌-◌, ◌≤◌, List, [], ◌++◌, length, take, drop, Option, Some, None, sym, arith, append_assoc}
use Rattle.std.proofs.lemmas.List.{append-nil, take-append-drop, take_rest}
use Rattle.std.proofs.Math.Seq.{take-append_seam, take-append-add}
use Rattle.edge_io.specs.Faults.{Rose}
use Rattle.edge_io.specs.Held.{Grew, GrewByPrefix}

pub grew-refl : (held : Option (List ℕ)) → Grew held held []
grew-refl None = tt
grew-refl (Some held) = sym (append-nil held)

pub grew-trans : (a b c : Option (List ℕ)) (p q : List ℕ) → Grew a b p → Grew b c q → Grew a c (p ++ q)
grew-trans a b None p q g h = tt
grew-trans a None (Some now) p q g h = absurd h
grew-trans None (Some then) (Some now) p q g h = absurd g
grew-trans (Some before) (Some then) (Some now) p q g h = rw (h, g) (append_assoc before p q)

pub grew-trans-prefix : (a b c : Option (List ℕ)) (p q : List ℕ) → Grew a b p → GrewByPrefix b c q → GrewByPrefix a c (p ++ q)
grew-trans-prefix a b c p q g (n, h) =
    (length p + n, rw (take-append-add p q n) (grew-trans a b c p (take n q) g h))

pub grew-nothing : (a b c : Option (List ℕ)) (p : List ℕ) → Grew a b p → Grew b c [] → Grew a c p
grew-nothing a b c p g h = rw append-nil at (grew-trans a b c p [] g h)

pub rose-later : (a b c d : ℕ) → a ≤ b → Rose b c → c ≤ d → Rose a d
rose-later a b c d below rose above = omega arith

pub grew-prefix : (a b : Option (List ℕ)) (p q : List ℕ) → Grew a b p → GrewByPrefix a b (p ++ q)
grew-prefix a b p q g = (length p, rw (take-append_seam p q) g)

-- What a loop that writes bytes has done: what stands before the rest was written.
pub record Written (old new : Option (List ℕ)) (rest bytes : List ℕ) : Type 0 where
  pub done : List ℕ
  pub grown : Grew old new done
  pub is : done ++ rest ≡ bytes

pub written-more : (a b c : Option (List ℕ)) (rest bytes : List ℕ) (n : ℕ) → Written a b rest bytes → Grew b c (take n rest) → Written a c (take (length rest - n) (drop n rest)) bytes
written-more a b c rest bytes n w g = record {
  done = w.done ++ take n rest;
  grown = grew-trans a b c w.done (take n rest) w.grown g;
  is = rw (take_rest rest n, append_assoc, take-append-drop) w.is;
}

pub written-failed : (a b c : Option (List ℕ)) (rest bytes : List ℕ) → Written a b rest bytes → Grew b c [] → GrewByPrefix a c bytes
written-failed a b c rest bytes w g =
    rw (← w.is) (grew-prefix a c w.done rest (grew-nothing a b c w.done w.grown g))
