-- The reading of a text, piece by piece.
use Rattle.std.proofs.Common.{◌≡◌, ℕ, zero, suc, ◌+◌, ◌-◌, ◌<◌, ◌≤◌, List, [], ◌∷◌, ◌++◌, length, drop, Result, Ok, Err, refl, sym, ap, ◌∙◌, ◌⊎◌, inl, inr, Vec, Global, IfOk, IfErr, MatchResult, ⊎_elim, subst, append_assoc, append-nil, length-drop, drop-drop, arith}
use Rattle.std.proofs.lemmas.List.{at_drop_all}
use Rattle.res_lexer.specs.declared.token.Token.{Token}
use Rattle.res_lexer.specs.declared.token.LexError.{LexError}
use Rattle.res_lexer.specs.declared.token.LexError.TheVariants.{BadByte, OpenComment, LongName, BigLiteral, NoMemory}
use Rattle.identifiers.specs.Laws.{Stands}
use Rattle.res_lexer.specs.Pieces as piece
use Rattle.res_lexer.specs.Pieces.{Piece, Gap, Breach, piece_at, piece_len}
use Rattle.res_lexer.specs.working.Found.{IsBreach}
use Rattle.res_lexer.proofs.Lying.{PieceLies, piece_lies}
use Rattle.res_lexer.specs.Tokens.{before, reading, reading_from, with_token, AreTokens, Lie, Refuses, RefusesOrNoMemory}

-- what is left of a piece is passed over
pub passed : (place n : ℕ) (bytes : List ℕ) → n ≤ length bytes → reading_from place n bytes ≡ reading_from (place + n) 0 (drop n bytes)
passed place zero bytes fits = let e : place ≡ place + 0 = omega arith in ap (λ p. reading_from p 0 bytes) e
passed place (suc n) [] fits = absurd (omega (arith, fits))
passed place (suc n) (b ∷ bs) fits =
    let e : (place + 1) + n ≡ place + suc n = omega arith in
    passed (place + 1) n bs (omega (arith, fits)) ∙ ap (λ p. reading_from p 0 (drop n bs)) e

-- one piece, and then the text after it
pub one_piece : (place : ℕ) (rest : List ℕ) (piece : Piece) → piece_at place rest ≡ piece → 0 < length rest → piece_len piece ≤ length rest → 0 < piece_len piece → reading_from place 0 rest ≡ before place piece (reading_from (place + piece_len piece) 0 (drop (piece_len piece) rest))
one_piece place [] piece is some fits bytes = absurd (omega (arith, some))
one_piece place (b ∷ bs) piece is some fits bytes =
    ap (λ p. before place p (reading_from (place + 1) (piece_len p - 1) bs)) is ∙ ap (before place piece) (by_len (piece_len piece) fits bytes)
  where
    by_len : (n : ℕ) → n ≤ length (b ∷ bs) → 0 < n → reading_from (place + 1) (n - 1) bs ≡ reading_from (place + n) 0 (drop n (b ∷ bs))
    by_len zero fits bytes = absurd (omega (arith, bytes))
    by_len (suc n) fits bytes =
        let less : suc n - 1 ≡ n = omega arith in
        let e : (place + 1) + n ≡ place + suc n = omega arith in
        ap (λ m. reading_from (place + 1) m bs) less ∙ passed (place + 1) n bs (omega (arith, fits)) ∙ ap (λ p. reading_from p 0 (drop n bs)) e

pub one_breach : (place : ℕ) (rest : List ℕ) (e : LexError) → piece_at place rest ≡ Breach e → 0 < length rest → reading_from place 0 rest ≡ Err e
one_breach place [] e is some = absurd (omega (arith, some))
one_breach place (b ∷ bs) e is some = ap (λ p. before place p (reading_from (place + 1) (piece_len p - 1) bs)) is

-- tokens before a reading
abbrev pub with_tokens : List Token → Result (List Token) LexError → Result (List Token) LexError
with_tokens ts (Ok us) = Ok (ts ++ us)
with_tokens ts (Err e) = Err e

none_before : (r : Result (List Token) LexError) → with_tokens [] r ≡ r
none_before (Ok ts) = refl
none_before (Err e) = refl

one_more_before : (ts : List Token) (t : Token) (r : Result (List Token) LexError) → with_tokens ts (with_token t r) ≡ with_tokens (ts ++ t ∷ []) r
one_more_before ts t (Ok us) = ap Ok (sym (append_assoc ts (t ∷ []) us))
one_more_before ts t (Err e) = refl

-- The text up to this place is these tokens, and blanks and comments.
pub record HasRead (bytes : List ℕ) (ts : List Token) (at : ℕ) : Type 0 where
  pub within : at ≤ length bytes
  pub read : reading bytes ≡ with_tokens ts (reading_from at 0 (drop at bytes))

pub has_read_none : (bytes : List ℕ) → HasRead bytes [] 0
unfolding reading
has_read_none bytes = record { within = omega arith; read = sym (none_before (reading_from 0 0 bytes)) }

left : (bytes : List ℕ) (at : ℕ) → at < length bytes → 0 < length (drop at bytes)
left bytes at below = omega (arith, length-drop at bytes, below)

-- one more piece
stepped : (bytes : List ℕ) (ts : List Token) (at : ℕ) (piece : Piece) → HasRead bytes ts at → at < length bytes → piece_at at (drop at bytes) ≡ piece → 0 < piece_len piece → piece_len piece ≤ length (drop at bytes) → reading bytes ≡ with_tokens ts (before at piece (reading_from (at + piece_len piece) 0 (drop (at + piece_len piece) bytes)))
stepped bytes ts at piece had below is some fits =
    had.read ∙ ap (with_tokens ts) (one_piece at (drop at bytes) piece is (left bytes at below) fits some
    ∙ ap (λ rest. before at piece (reading_from (at + piece_len piece) 0 rest)) (drop-drop (piece_len piece) at bytes))

pub has_read_gap : Stands → (bytes : List ℕ) (ts : List Token) (at n : ℕ) → HasRead bytes ts at → at < length bytes → piece_at at (drop at bytes) ≡ Gap n → (at < at + n) × HasRead bytes ts (at + n)
has_read_gap law bytes ts at n had below is =
    let lies = subst (PieceLies (drop at bytes)) is (piece_lies law at (drop at bytes)) in
    (omega (arith, lies.0), record { within = omega (arith, lies.1, length-drop at bytes, below); read = stepped bytes ts at (Gap n) had below is lies.0 lies.1 })

pub has_read_token : Stands → (bytes : List ℕ) (ts : List Token) (at : ℕ) (t : Token) → HasRead bytes ts at → at < length bytes → t.at ≡ at → piece_at at (drop at bytes) ≡ piece.Stands t.len t.kind → (at < at + t.len) × HasRead bytes (ts ++ t ∷ []) (at + t.len)
has_read_token law bytes ts at t had below place is =
    let lies = subst (PieceLies (drop at bytes)) is (piece_lies law at (drop at bytes)) in
    let same : record { at = at; len = t.len; kind = t.kind } ≡ t = ap (λ p. record { at = p; len = t.len; kind = t.kind }) (sym place) in
    let later = reading_from (at + t.len) 0 (drop (at + t.len) bytes) in (
      omega (arith, lies.0),
      record {
        within = omega (arith, lies.1, length-drop at bytes, below);
        read = stepped bytes ts at (piece.Stands t.len t.kind) had below is lies.0 lies.1 ∙ ap (λ u. with_tokens ts (with_token u later)) same ∙ one_more_before ts t later;
      },
    )

pub has_read_all : (bytes : List ℕ) (ts : List Token) (at : ℕ) → HasRead bytes ts at → length bytes ≤ at → AreTokens bytes ts
has_read_all bytes ts at had end =
    had.read ∙ at_drop_all (λ rest. with_tokens ts (reading_from at 0 rest)) bytes at end ∙ ap Ok (append-nil ts)

pub has_breach : (bytes : List ℕ) (ts : List Token) (at : ℕ) (e : LexError) → HasRead bytes ts at → at < length bytes → piece_at at (drop at bytes) ≡ Breach e → Refuses bytes e
has_breach bytes ts at e had below is =
    had.read ∙ ap (with_tokens ts) (one_breach at (drop at bytes) e is (left bytes at below))

-- a breach that a call answers
pub refused : (bytes : List ℕ) (ts : List Token) (at : ℕ) (e : LexError) → HasRead bytes ts at → at < length bytes → IsBreach e (piece_at at (drop at bytes)) → RefusesOrNoMemory bytes e
refused bytes ts at (BadByte p) had below is = has_breach bytes ts at (BadByte p) had below is
refused bytes ts at (OpenComment p) had below is = has_breach bytes ts at (OpenComment p) had below is
refused bytes ts at (LongName p) had below is = has_breach bytes ts at (LongName p) had below is
refused bytes ts at (BigLiteral p) had below is = has_breach bytes ts at (BigLiteral p) had below is
refused bytes ts at NoMemory had below is = tt

-- ---- one text has one reading

pub same_ok : (ts us : List Token) (r : Result (List Token) LexError) → r ≡ Ok ts → r ≡ Ok us → ts ≡ us
same_ok ts us r e f = cc

pub one_reading : (bytes : List ℕ) (ts us : List Token) → AreTokens bytes ts → AreTokens bytes us → ts ≡ us
one_reading bytes ts us are are' = same_ok ts us (reading bytes) are are'

pub no_both : (ts : List Token) (e : LexError) (r : Result (List Token) LexError) → r ≡ Ok ts → r ≡ Err e → ⊥
no_both ts e r f g = cc

pub read_or_refused : (bytes : List ℕ) (ts : List Token) (e : LexError) → AreTokens bytes ts → Refuses bytes e → ⊥
read_or_refused bytes ts e are refuses = no_both ts e (reading bytes) are refuses

pub one_refusal : (bytes : List ℕ) (e f : LexError) → Refuses bytes e → Refuses bytes f → e ≡ f
one_refusal bytes e f refuses refuses' = same_err e f (reading bytes) refuses refuses'
  where
    same_err : (e f : LexError) (r : Result (List Token) LexError) → r ≡ Err e → r ≡ Err f → e ≡ f
    same_err e f r g h = cc

refusal_cases : (bytes : List ℕ) (e : LexError) → RefusesOrNoMemory bytes e → Refuses bytes e ⊎ (e ≡ NoMemory)
refusal_cases bytes (BadByte at) h = inl h
refusal_cases bytes (OpenComment at) h = inl h
refusal_cases bytes (LongName at) h = inl h
refusal_cases bytes (BigLiteral at) h = inl h
refusal_cases bytes NoMemory h = inr refl

-- a text that has tokens is read, but for want of memory
pub only_reading : (bytes : List ℕ) (r : Result (Vec Token Global) LexError) → IfOk r (λ v. AreTokens bytes v.items) → IfErr r (λ e. RefusesOrNoMemory bytes e) → (ts : List Token) → AreTokens bytes ts → MatchResult r (λ v. v.items ≡ ts) (λ e. e ≡ NoMemory)
only_reading bytes (Ok v) found refused ts h = one_reading bytes v.items ts found h
only_reading bytes (Err e) found refused ts h =
    ⊎_elim (λ refuses. absurd (read_or_refused bytes ts e h refuses)) (λ want. want) (refusal_cases bytes e refused)

-- a text that is refused answers its cause, but for want of memory
pub only_refusal : (bytes : List ℕ) (r : Result (Vec Token Global) LexError) → IfOk r (λ v. AreTokens bytes v.items) → IfErr r (λ e. RefusesOrNoMemory bytes e) → (e : LexError) → Refuses bytes e → MatchResult r (λ _. ⊥) (λ f. (f ≡ e) ⊎ (f ≡ NoMemory))
only_refusal bytes (Ok v) found refused e h = read_or_refused bytes v.items e found h
only_refusal bytes (Err f) found refused e h =
    ⊎_elim (λ refuses. inl (one_refusal bytes f e refuses h)) (λ want. inr want) (refusal_cases bytes f refused)

-- ---- where tokens lie

lies_from : Stands → (n : ℕ) (bytes : List ℕ) (from at : ℕ) (ts : List Token) → length bytes ≤ at + n → from ≤ at → at ≤ length bytes → reading_from at 0 (drop at bytes) ≡ Ok ts → Lie bytes from ts
lies_from law zero bytes from at ts fuel begins within reads =
    subst (Lie bytes from) (same_ok [] ts (reading_from at 0 (drop at bytes)) (at_drop_all (λ rest. reading_from at 0 rest) bytes at (omega (arith, fuel))) reads) tt
lies_from law (suc n) bytes from at ts fuel begins within reads =
    ⊎_elim
    (λ below. by_piece below (piece_at at (drop at bytes)) refl (piece_lies law at (drop at bytes))
    (λ k us some fits later. lies_from law n bytes from (at + k) us (omega (arith, fuel, some)) (omega (arith, begins)) (omega (arith, fits, length-drop at bytes, below)) later)
    (λ k us some fits later. lies_from law n bytes (at + k) (at + k) us (omega (arith, fuel, some)) (omega arith) (omega (arith, fits, length-drop at bytes, below)) later))
    (λ end. subst (Lie bytes from) (same_ok [] ts (reading_from at 0 (drop at bytes)) (at_drop_all (λ rest. reading_from at 0 rest) bytes at end) reads) tt)
    (below_or_end at (length bytes))
  where
    below_or_end : (m k : ℕ) → (m < k) ⊎ (k ≤ m)
    below_or_end m k = grind arith

    split : (t : Token) (r : Result (List Token) LexError) → with_token t r ≡ Ok ts → (us : List Token) × (r ≡ Ok us) × (t ∷ us ≡ ts)
    split t (Ok us) e = (us, refl, same_ok (t ∷ us) ts (with_token t (Ok us)) refl e)
    split t (Err e') e = absurd (no_both ts e' (with_token t (Err e')) e refl)

    by_piece : at < length bytes → (p : Piece) → piece_at at (drop at bytes) ≡ p → PieceLies (drop at bytes) p
        → ((k : ℕ) (us : List Token) → 0 < k → k ≤ length (drop at bytes) → reading_from (at + k) 0 (drop (at + k) bytes) ≡ Ok us → Lie bytes from us)
        → ((k : ℕ) (us : List Token) → 0 < k → k ≤ length (drop at bytes) → reading_from (at + k) 0 (drop (at + k) bytes) ≡ Ok us → Lie bytes (at + k) us)
        → Lie bytes from ts
    by_piece below (Gap k) is lies gap token =
        gap k ts lies.0 lies.1
        (sym (one_piece at (drop at bytes) (Gap k) is (left bytes at below) lies.1 lies.0 ∙ ap (λ rest. reading_from (at + k) 0 rest) (drop-drop k at bytes)) ∙ reads)
    by_piece below (piece.Stands k kind) is lies gap token =
        let t : Token = record { at = at; len = k; kind = kind } in
        let parts = split t (reading_from (at + k) 0 (drop (at + k) bytes))
        (sym (one_piece at (drop at bytes) (piece.Stands k kind) is (left bytes at below) lies.1 lies.0 ∙ ap (λ rest. with_token t (reading_from (at + k) 0 rest)) (drop-drop k at bytes)) ∙ reads) in
        subst (Lie bytes from) parts.2
        (begins, lies.0, omega (arith, lies.1, length-drop at bytes, below), lies.2, token k parts.0 lies.0 lies.1 parts.1)
    by_piece below (Breach e) is lies gap token =
        absurd (no_both ts e (reading_from at 0 (drop at bytes)) reads (one_breach at (drop at bytes) e is (left bytes at below)))

pub tokens_lie : Stands → (bytes : List ℕ) (ts : List Token) → AreTokens bytes ts → Lie bytes 0 ts
unfolding reading
tokens_lie law bytes ts are = lies_from law (length bytes) bytes 0 0 ts (omega arith) (omega arith) (omega arith) are
