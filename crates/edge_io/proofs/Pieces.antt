-- The pieces of a text, from its front on.
use Rattle.std.proofs.Common.{◌≡◌, ◌≢◌, ℕ, zero, suc, ◌+◌, ◌<◌, ◌≤◌, Bool, true, false, not, cond, eqb, List, [], ◌∷◌, take, drop, refl, ap, ◌∙◌, arith, one-add, add-zero}
use Rattle.std.proofs.lemmas.Bool.{cond-true, cond-false, eq-eqb, ne_eqb}
use Rattle.std.specs.List.{prefix_len}
use Rattle.edge_io.specs.Numbers.{is_blank, is_part, Piece, with_byte, pieces_from}

-- the first of the pieces begins at a place or later
BeginFrom : ℕ → List Piece → Type 0
BeginFrom at [] = Unit {0}
BeginFrom at (p ∷ ps) = at ≤ p.0

begin_earlier : (at : ℕ) (ps : List Piece) → BeginFrom (at + 1) ps → BeginFrom at ps
unfolding BeginFrom
begin_earlier at [] h = tt
begin_earlier at (p ∷ ps) h = omega arith

with_byte_either : (at b : ℕ) (p : Piece) (ps : List Piece) (t : Bool) → BeginFrom at (cond t ((at, b ∷ p.1) ∷ ps) ((at, b ∷ []) ∷ p ∷ ps))
unfolding BeginFrom
with_byte_either at b p ps true = omega arith
with_byte_either at b p ps false = omega arith

with_byte_begins : (at b : ℕ) (ps : List Piece) → BeginFrom at (with_byte at b ps)
unfolding BeginFrom
with_byte_begins at b [] = omega arith
with_byte_begins at b (p ∷ ps) = with_byte_either at b p ps (eqb p.0 (at + 1))

begin_by : (at b : ℕ) (bs : List ℕ) (t : Bool) → BeginFrom (at + 1) (pieces_from (at + 1) bs) → BeginFrom at (cond t (pieces_from (at + 1) bs) (with_byte at b (pieces_from (at + 1) bs)))
begin_by at b bs true h = begin_earlier at (pieces_from (at + 1) bs) h
begin_by at b bs false h = with_byte_begins at b (pieces_from (at + 1) bs)

-- no piece begins before the text
pieces_begin : (at : ℕ) (bs : List ℕ) → BeginFrom at (pieces_from at bs)
unfolding BeginFrom
pieces_begin at [] = tt
pieces_begin at (b ∷ bs) = begin_by at b bs (is_blank b) (pieces_begin (at + 1) bs)

pieces-blank : (at b : ℕ) (bs : List ℕ) → is_blank b ≡ true → pieces_from at (b ∷ bs) ≡ pieces_from (at + 1) bs
pieces-blank at b bs e =
    cond-true (is_blank b) (pieces_from (at + 1) bs) (with_byte at b (pieces_from (at + 1) bs)) e

pieces-part : (at b : ℕ) (bs : List ℕ) → is_blank b ≡ false → pieces_from at (b ∷ bs) ≡ with_byte at b (pieces_from (at + 1) bs)
pieces-part at b bs e =
    cond-false (is_blank b) (pieces_from (at + 1) bs) (with_byte at b (pieces_from (at + 1) bs)) e

skip_by : (at b : ℕ) (bs : List ℕ) (n : ℕ) (t : Bool) → is_blank b ≡ t → pieces_from (at + 1) bs ≡ pieces_from (at + 1 + n) (drop n bs) → pieces_from at (b ∷ bs) ≡ pieces_from (at + cond t (1 + n) 0) (drop (cond t (1 + n) 0) (b ∷ bs))
skip_by at b bs n true e h =
    let s : at + (1 + n) ≡ at + 1 + n = omega arith in
    pieces-blank at b bs e ∙ h ∙ rw (s, one-add n) refl
skip_by at b bs n false e h = rw (add-zero at) refl

-- blanks at the front have no piece
pub pieces-skip : (at : ℕ) (bs : List ℕ) → pieces_from at bs ≡ pieces_from (at + prefix_len is_blank bs) (drop (prefix_len is_blank bs) bs)
pieces-skip at [] = refl
pieces-skip at (b ∷ bs) =
    skip_by at b bs (prefix_len is_blank bs) (is_blank b) refl (pieces-skip (at + 1) bs)

with_byte-apart : (at b : ℕ) (ps : List Piece) → BeginFrom (at + 2) ps → with_byte at b ps ≡ (at, b ∷ []) ∷ ps
unfolding BeginFrom
with_byte-apart at b [] h = refl
with_byte-apart at b (p ∷ ps) h =
    let later : p.0 ≢ at + 1 = omega arith in
    cond-false (eqb p.0 (at + 1)) ((at, b ∷ p.1) ∷ ps) ((at, b ∷ []) ∷ p ∷ ps) (ne_eqb p.0 (at + 1) later)

with_byte-joined : (at b : ℕ) (bs : List ℕ) (ps : List Piece) → with_byte at b ((at + 1, bs) ∷ ps) ≡ (at, b ∷ bs) ∷ ps
with_byte-joined at b bs ps =
    cond-true (eqb (at + 1) (at + 1)) ((at, b ∷ bs) ∷ ps) ((at, b ∷ []) ∷ (at + 1, bs) ∷ ps) (eq-eqb (at + 1) (at + 1) refl)

apart_by : (at c : ℕ) (cs : List ℕ) (n : ℕ) (t : Bool) → is_blank c ≡ t → cond (not t) (1 + n) 0 ≡ 0 → BeginFrom (at + 2) (pieces_from (at + 1) (c ∷ cs))
apart_by at c cs n true e none =
    let s : at + 1 + 1 ≡ at + 2 = omega arith in
    rw (pieces-blank (at + 1) c cs e, s) (pieces_begin (at + 2) cs)
apart_by at c cs n false e none = absurd (omega arith)

-- where a blank or nothing follows, the next piece begins later
apart : (at : ℕ) (bs : List ℕ) → prefix_len is_part bs ≡ 0 → BeginFrom (at + 2) (pieces_from (at + 1) bs)
unfolding BeginFrom
apart at [] e = tt
apart at (c ∷ cs) e = apart_by at c cs (prefix_len is_part cs) (is_blank c) refl e

first_joined : (at b : ℕ) (bs : List ℕ) (m : ℕ) → prefix_len is_part bs ≡ m → (0 < m → pieces_from (at + 1) bs ≡ (at + 1, take m bs) ∷ pieces_from (at + 1 + m) (drop m bs)) → with_byte at b (pieces_from (at + 1) bs) ≡ (at, take (1 + m) (b ∷ bs)) ∷ pieces_from (at + (1 + m)) (drop (1 + m) (b ∷ bs))
first_joined at b bs zero e h = with_byte-apart at b (pieces_from (at + 1) bs) (apart at bs e)
first_joined at b bs (suc m) e h =
    let s : at + (1 + suc m) ≡ at + 1 + suc m = omega arith in
    ap (λ ps. with_byte at b ps) (h (omega arith))
    ∙ with_byte-joined at b (take (suc m) bs) (pieces_from (at + 1 + suc m) (drop (suc m) bs))
    ∙ rw (s, one-add (suc m)) refl

first_by : (at b : ℕ) (bs : List ℕ) (m : ℕ) (t : Bool) → is_blank b ≡ t → prefix_len is_part bs ≡ m → 0 < cond (not t) (1 + m) 0 → (0 < m → pieces_from (at + 1) bs ≡ (at + 1, take m bs) ∷ pieces_from (at + 1 + m) (drop m bs)) → pieces_from at (b ∷ bs) ≡ (at, take (cond (not t) (1 + m) 0) (b ∷ bs)) ∷ pieces_from (at + cond (not t) (1 + m) 0) (drop (cond (not t) (1 + m) 0) (b ∷ bs))
first_by at b bs m true e is some h = absurd (omega arith)
first_by at b bs m false e is some h = pieces-part at b bs e ∙ first_joined at b bs m is h

-- bytes at the front that are not blank are the first piece
pub pieces-first : (at : ℕ) (bs : List ℕ) → 0 < prefix_len is_part bs → pieces_from at bs ≡ (at, take (prefix_len is_part bs) bs) ∷ pieces_from (at + prefix_len is_part bs) (drop (prefix_len is_part bs) bs)
pieces-first at [] some = absurd (omega arith)
pieces-first at (b ∷ bs) some =
    first_by at b bs (prefix_len is_part bs) (is_blank b) refl refl some (pieces-first (at + 1) bs)

over_by : (b : ℕ) (bs : List ℕ) (n : ℕ) (t : Bool) → is_blank b ≡ t → prefix_len is_blank (drop n bs) ≡ 0 → prefix_len is_blank (drop (cond t (1 + n) 0) (b ∷ bs)) ≡ 0
over_by b bs n true e h = rw (one-add n) h
over_by b bs n false e h = cond-false (is_blank b) (1 + prefix_len is_blank bs) 0 e

-- no blank follows the blanks at the front
pub blanks_over : (bs : List ℕ) → prefix_len is_blank (drop (prefix_len is_blank bs) bs) ≡ 0
blanks_over [] = refl
blanks_over (b ∷ bs) = over_by b bs (prefix_len is_blank bs) (is_blank b) refl (blanks_over bs)

some_by : (n m : ℕ) (t : Bool) → cond t (1 + n) 0 ≡ 0 → 0 < cond (not t) (1 + m) 0
some_by n m true none = absurd (omega arith)
some_by n m false none = omega arith

-- where no blank is first, a piece is
pub part_first : (bs : List ℕ) → bs ≢ [] → prefix_len is_blank bs ≡ 0 → 0 < prefix_len is_part bs
part_first [] some none = absurd (some refl)
part_first (b ∷ bs) some none = some_by (prefix_len is_blank bs) (prefix_len is_part bs) (is_blank b) none
