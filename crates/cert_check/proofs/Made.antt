-- The formulas that are made of those that stand.
use Rattle.std.proofs.Common.{◌≡◌, ◌∙◌, ap, refl, ℕ, ℤ, pos, true, List, [], ◌∷◌, Option, Some, None}
use Rattle.math_terms.specs.declared.term.Term.{Term}
use Rattle.math_terms.specs.declared.term.Term.TheOpen.{Term-F}
use Rattle.math_terms.specs.declared.term.Term.TheViews.{roll-Term}
use Rattle.math_terms.specs.declared.form.Form.{Form}
use Rattle.math_terms.specs.Forms.{form_number}
use Rattle.term_cells.specs.declared.cell.Cell.{Cell}
use Rattle.term_cells.specs.Growing.{HasHead, IsFewForm, Pushes, StandsAs, StandsThere, Store}
use Rattle.term_cells.specs.Laws.{StandingLasts}
use Rattle.term_cells.specs.Standing.{stands}
use Rattle.vc_sequents.specs.Splitting.{not as not_of}
use Rattle.cert_check.specs.declared.cases.Part.TheVariants.{Two, OfNegations, AndNot}
use Rattle.cert_check.specs.working.Cases.{PartIs}

pub there : (cells : List Cell) (k : ℕ) (n : ℤ) (ts : List Term) (x : Term-F Term) (t : Term) (r : Option ℕ) → HasHead x k n ts → IsFewForm k → t ≡ roll-Term x → StandsAs cells k n ts r → StandsThere cells t r
there cells k n ts x t None head few e h = tt
there cells k n ts x t (Some at) head few e h = ap (λ u. stands cells u at) e ∙ h x head few

not_stands : (cells : List Cell) (a : Term) (at : ℕ) → StandsAs cells 21 (pos 0) (a ∷ []) (Some at) → stands cells (not_of a) at ≡ true
not_stands cells a at h = h (Term-F.Not a) (record { form_is = refl; own_is = refl; children_are = refl }) (record { no_tuple = refl; no_remainder = refl })

lasting : StandingLasts → (old mid : Store) (c : Cell) (at : ℕ) → Pushes old mid c (Some at) → (t : Term) (p : ℕ) → stands old.0 t p ≡ true → stands mid.0 t p ≡ true
lasting law old mid c at pushed t p h = ap (λ (m : Store). stands m.0 t p) pushed.1 ∙ law old.0 (c ∷ []) t p h

-- the conjunction of one with the negation of another
pub and_not_made : StandingLasts → (old mid : Store) (new : List Cell) (c : Cell) (p q right : ℕ) (r : Option ℕ) → Pushes old mid c (Some right) →
    ((t : Term) → stands old.0 t q ≡ true → StandsAs mid.0 21 (pos 0) (t ∷ []) (Some right)) →
    ((t u : Term) → stands mid.0 t p ≡ true → stands mid.0 u right ≡ true → StandsAs new 22 (pos 0) (t ∷ u ∷ []) r) →
    (t : Term) → PartIs old.0 (AndNot p q) t → StandsThere new t r
and_not_made law old mid new c p q right r pushed one two t part =
    let a = part.0 in
    let b = part.1 in
    let second : stands mid.0 (not_of b) right ≡ true = not_stands mid.0 b right (one b part.3) in
    let first : stands mid.0 a p ≡ true = lasting law old mid c right pushed a p part.2 in
    there new 22 (pos 0) (a ∷ not_of b ∷ []) (Term-F.And a (not_of b)) t r (record { form_is = refl; own_is = refl; children_are = refl }) (record { no_tuple = refl; no_remainder = refl }) part.4
    (two a (not_of b) first second)

-- a form over the negations of two
pub of_negations_made : StandingLasts → (old mid end : Store) (new : List Cell) (c d : Cell) (k : Form) (p q left right : ℕ) (r : Option ℕ) → Pushes old mid c (Some left) → Pushes mid end d (Some right) →
    ((t : Term) → stands old.0 t p ≡ true → StandsAs mid.0 21 (pos 0) (t ∷ []) (Some left)) →
    ((t : Term) → stands mid.0 t q ≡ true → StandsAs end.0 21 (pos 0) (t ∷ []) (Some right)) →
    ((t u : Term) → stands end.0 t left ≡ true → stands end.0 u right ≡ true → StandsAs new (form_number k) (pos 0) (t ∷ u ∷ []) r) →
    (t : Term) → PartIs old.0 (OfNegations k p q) t → StandsThere new t r
of_negations_made law old mid end new c d k p q left right r pushed pushed_next one one_next two t part =
    let a = part.0 in
    let b = part.1 in
    let over = part.4 in
    let first : stands end.0 (not_of a) left ≡ true = lasting law mid end d right pushed_next (not_of a) left (not_stands mid.0 a left (one a part.2)) in
    let second : stands end.0 (not_of b) right ≡ true = not_stands end.0 b right (one_next b (lasting law old mid c left pushed b q part.3)) in
    there new (form_number k) (pos 0) (not_of a ∷ not_of b ∷ []) over.0 t r over.1 over.2 over.3 (two (not_of a) (not_of b) first second)

-- a form over two
pub two_made : (old new : List Cell) (k : Form) (p q : ℕ) (r : Option ℕ) → ((t u : Term) → stands old t p ≡ true → stands old u q ≡ true → StandsAs new (form_number k) (pos 0) (t ∷ u ∷ []) r) → (t : Term) → PartIs old (Two k p q) t → StandsThere new t r
two_made old new k p q r two t part =
    let over = part.4 in
    there new (form_number k) (pos 0) (part.0 ∷ part.1 ∷ []) over.0 t r over.1 over.2 over.3 (two part.0 part.1 part.2 part.3)
